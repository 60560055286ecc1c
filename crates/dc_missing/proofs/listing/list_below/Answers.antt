use Rattle.std.proofs.Common.{sym, ◌∙◌, ap, subst, List, [], append-nil}
use Rattle.std.proofs.lemmas.Result.{err_from_is_err_and}
use Rattle.std.specs.Option.{is_some}
use Rattle.dc_path.specs.Paths.{Names, is_under}
use Rattle.dc_path.proofs.PathLemmas.{cut-append}
use Rattle.dc_missing.specs.Finding.{is_open, FindsList, FindsPart, IfTree}
use Rattle.dc_missing.specs.Missing.{is_place}
use Rattle.dc_missing.specs.Walks.{Stops}
use Rattle.dc_missing.proofs.TopLemmas.{list_is, list_stopped, list_walked}
use Rattle.dc_missing.proofs.listing.list_below.Goals as goal

pub walk_dir-requires-clause-below : goal.walk_dir-requires-clause-below
walk_dir-requires-clause-below g c κs within =
    let base = c.args.plan.now.base in
    ap (is_under base) (c.base.ensures ∙ sym (append-nil base)) ∙ ap is_some (cut-append base [])

pub returns-in_err-walk_dir-clause-walks : goal.returns-in_err-walk_dir-clause-walks
returns-in_err-walk_dir-clause-walks g c =
    let p = err_from_is_err_and c.from_residual.result c.from_residual.ensures.1 in
    let told = g.T.Store.tree c.args.target.now in
    let e = c.in_err-walk_dir.field-0.0 in
    let stops = subst (λ (b : Names). IfTree told (λ t. Stops e t b is_open c.new-found.result.met)) c.base.ensures c.in_err-walk_dir.ensures.walks in
    rw (p.1, p.2) (list_stopped e told c.args.plan.now.base c.new-found.result.met c.new-found.ensures.met stops)

pub returns-clause-finds : goal.returns-clause-finds
returns-clause-finds g c =
    let told = g.T.Store.tree c.args.target.now in
    let plan = c.args.plan.now in
    let kept = c.in_ok-walk_dir.field-0 in
    let part = subst (λ (b : Names). FindsPart told (is_place plan) b is_open kept c.new-found.result c.walk_dir.new.found) c.base.ensures c.in_ok-walk_dir.ensures.walks in
    subst (λ (ps : List Names). FindsList told plan ps) (sym c.into_list.ensures) (list_is told plan kept c.new-found.result c.walk_dir.new.found c.new-found.ensures.gone part)

pub returns-clause-walks : goal.returns-clause-walks
returns-clause-walks g c =
    let told = g.T.Store.tree c.args.target.now in
    let plan = c.args.plan.now in
    let kept = c.in_ok-walk_dir.field-0 in
    let part = subst (λ (b : Names). FindsPart told (is_place plan) b is_open kept c.new-found.result c.walk_dir.new.found) c.base.ensures c.in_ok-walk_dir.ensures.walks in
    list_walked told plan kept c.new-found.result c.walk_dir.new.found (g.T.Store.looks c.args.target.now) (g.T.Store.looks c.walk_dir.new.target) c.new-found.ensures.met c.walk_dir.new.found.few c.walk_dir.ensures.looks part
