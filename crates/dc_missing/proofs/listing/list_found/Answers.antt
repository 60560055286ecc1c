use Rattle.std.proofs.Common.{◌≡◌, ◌+◌, sym, subst, List, Option, IfSome}
use Rattle.dc_path.specs.Paths.{Names}
use Rattle.dc_attrs.specs.Trees.{Tree, IsDirAt, seen}
use Rattle.dc_missing.specs.Errors.{shows_dir}
use Rattle.dc_missing.specs.Finding.{FindsList, IfTree}
use Rattle.dc_missing.specs.Walks.{Walks}
use Rattle.dc_missing.proofs.TopLemmas.{empty_list, empty_walk, walks_later}
use Rattle.dc_missing.proofs.WalkLemmas.{dir_told, file_told}
use Rattle.dc_missing.proofs.listing.list_found.Goals as goal

pub list_below-requires-clause-dir : goal.list_below-requires-clause-dir
list_below-requires-clause-dir g c κs within =
    let told = g.T.Store.tree c.args.target.now in
    let base = c.args.plan.now.base in
    let shown = subst (λ (b : Names). IfSome told (λ t. c.in_ok-dir.dir ≡ shows_dir (seen t b))) c.base.ensures c.in_ok-dir.ensures.value in
    subst (λ (o : Option Tree). IfSome o (λ t. IsDirAt t base)) (sym c.has_dir.ensures.target.tree) (dir_told told base c.in_ok-dir.dir c.if-dir.true shown)

pub returns-then-dir-clause-walks : goal.returns-then-dir-clause-walks
returns-then-dir-clause-walks g c =
    let told = g.T.Store.tree c.args.target.now in
    let base = c.args.plan.now.base in
    let walks = subst (λ (o : Option Tree). IfTree o (λ t. Walks t base c.list_below.result (g.T.Store.looks c.has_dir.new.target) (g.T.Store.looks c.list_below.new.target + 1))) c.has_dir.ensures.target.tree c.list_below.ensures.walks in
    walks_later c.list_below.result told base (g.T.Store.looks c.args.target.now) (g.T.Store.looks c.has_dir.new.target) (g.T.Store.looks c.list_below.new.target) c.has_dir.ensures.looks walks

pub returns-else-dir-clause-finds : goal.returns-else-dir-clause-finds
returns-else-dir-clause-finds g c =
    let told = g.T.Store.tree c.args.target.now in
    let plan = c.args.plan.now in
    let shown = subst (λ (b : Names). IfSome told (λ t. c.in_ok-dir.dir ≡ shows_dir (seen t b))) c.base.ensures c.in_ok-dir.ensures.value in
    subst (λ (ps : List Names). FindsList told plan ps) (sym c.new.ensures) (empty_list told plan (file_told told plan.base c.in_ok-dir.dir c.if-dir.false shown))

pub returns-else-dir-clause-walks : goal.returns-else-dir-clause-walks
returns-else-dir-clause-walks g c =
    let told = g.T.Store.tree c.args.target.now in
    let plan = c.args.plan.now in
    let shown = subst (λ (b : Names). IfSome told (λ t. c.in_ok-dir.dir ≡ shows_dir (seen t b))) c.base.ensures c.in_ok-dir.ensures.value in
    empty_walk told plan.base (g.T.Store.looks c.args.target.now) (g.T.Store.looks c.has_dir.new.target) c.has_dir.ensures.looks (file_told told plan.base c.in_ok-dir.dir c.if-dir.false shown)
