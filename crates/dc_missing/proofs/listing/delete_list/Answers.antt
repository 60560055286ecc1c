use Rattle.std.proofs.Common.{◌≡◌, true, false, List, ◌++◌}
use Rattle.std.specs.Prelude.{◌↔◌}
use Rattle.std.specs.List.{list_all}
use Rattle.dc_path.specs.Found.{has_path}
use Rattle.dc_path.specs.Order.{is_ascending}
use Rattle.dc_path.specs.Paths.{Names}
use Rattle.dc_attrs.specs.Trees.{IsThere}
use Rattle.dc_listing.specs.Walking.{is_below}
use Rattle.dc_missing.specs.Finding.{IfTree}
use Rattle.dc_missing.specs.Missing.{Goes, covers, are_apart, is_place, leads_below}
use Rattle.dc_missing.proofs.TopLemmas.{where_found, list_apart, list_ascends, list_leads, list_unlisted, list_stands, list_goes}
use Rattle.dc_missing.proofs.listing.delete_list.Goals as goal

pub returns-clause-ascending : goal.returns-clause-ascending
returns-clause-ascending g c =
    let told = g.T.Store.tree c.args.target.now in
    let plan = c.args.plan.now in
    where_found c.list_found.result told plan (λ (paths : List Names). is_ascending paths ≡ true) (λ paths f. list_ascends told plan paths f) c.list_found.ensures.finds

pub returns-clause-apart : goal.returns-clause-apart
returns-clause-apart g c =
    let told = g.T.Store.tree c.args.target.now in
    let plan = c.args.plan.now in
    where_found c.list_found.result told plan (λ (paths : List Names). are_apart paths ≡ true) (λ paths f. list_apart told plan paths f) c.list_found.ensures.finds

pub returns-clause-below : goal.returns-clause-below
returns-clause-below g c =
    let told = g.T.Store.tree c.args.target.now in
    let plan = c.args.plan.now in
    where_found c.list_found.result told plan (λ (paths : List Names). list_all (leads_below plan.base) paths ≡ true) (λ paths f. list_leads told plan paths f) c.list_found.ensures.finds

pub returns-clause-unlisted : goal.returns-clause-unlisted
returns-clause-unlisted g c =
    let told = g.T.Store.tree c.args.target.now in
    let plan = c.args.plan.now in
    where_found c.list_found.result told plan (λ (paths : List Names). (p : Names) → covers paths p ≡ true → is_place plan p ≡ false) (λ paths f. list_unlisted told plan paths f) c.list_found.ensures.finds

pub returns-clause-stand : goal.returns-clause-stand
returns-clause-stand g c =
    let told = g.T.Store.tree c.args.target.now in
    let plan = c.args.plan.now in
    where_found c.list_found.result told plan (λ (paths : List Names). IfTree told (λ t. (p : Names) → has_path paths p ≡ true → IsThere t p)) (λ paths f. list_stands told plan paths f) c.list_found.ensures.finds

pub returns-clause-goes : goal.returns-clause-goes
returns-clause-goes g c =
    let told = g.T.Store.tree c.args.target.now in
    let plan = c.args.plan.now in
    where_found c.list_found.result told plan (λ (paths : List Names). IfTree told (λ t. (q : Names) → is_below q ≡ true → IsThere t (plan.base ++ q) → (covers paths (plan.base ++ q) ≡ true) ↔ Goes t (is_place plan) plan.base q)) (λ paths f. list_goes told plan paths f) c.list_found.ensures.finds
