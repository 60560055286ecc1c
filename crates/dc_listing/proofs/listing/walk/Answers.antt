use Rattle.std.proofs.Common.{sym, ◌∙◌, subst, Option, None, IfSome, IfErr}
use Rattle.std.proofs.lemmas.Result.{err_from_is_err_and}
use Rattle.std.specs.Cmp.{second_so}
use Rattle.dc_path.proofs.LimitLemmas.{path_within}
use Rattle.dc_fs.specs.Looks.{IsStatusOf}
use Rattle.dc_attrs.specs.Trees.{Tree, IsTree, IsDirAt}
use Rattle.dc_listing.specs.Errors.{IsChanged}
use Rattle.dc_listing.specs.Listed.{rules_of}
use Rattle.dc_listing.specs.Walks.{Walks}
use Rattle.dc_listing.specs.Walking.{place_in, is_below, WalksPart}
use Rattle.dc_listing.proofs.WalkLemmas.{look_kept}
use Rattle.dc_listing.proofs.RootWalks.{without_told, unseen_stops, bare_told, never_there, bare_within, within_fits, no_gains, part_gains, dir_kept}
use Rattle.dc_listing.proofs.listing.walk.Goals as goal

pub returns-then-left_out-clause-walks : goal.returns-then-left_out-clause-walks
returns-then-left_out-clause-walks g c =
    let told = g.S.Store.tree c.args.source.now in
    let rs = rules_of c.args.searches.now c.args.without.now in
    let root = c.args.root.now in
    let base = c.args.base.now in
    let within = within_fits root.source (path_within root.source c.len-names.ensures.path) in
    without_told told rs root base c.args.items.now (sym c.has_path-left_out.ensures ∙ c.if-left_out.true) within

pub returns-in_err-status-clause-walks : goal.returns-in_err-status-clause-walks
returns-in_err-status-clause-walks g c =
    let p = err_from_is_err_and c.from_residual.result c.from_residual.ensures.1 in
    let told = g.S.Store.tree c.args.source.now in
    let rs = rules_of c.args.searches.now c.args.without.now in
    let root = c.args.root.now in
    let base = c.args.base.now in
    rw (p.1, p.2) (unseen_stops c.in_err-status.field-0.0 told rs root base c.args.items.now c.in_err-status.ensures.kind)

pub returns-in_err-status-clause-changed : goal.returns-in_err-status-clause-changed
returns-in_err-status-clause-changed g c =
    let p = err_from_is_err_and c.from_residual.result c.from_residual.ensures.1 in
    let told = g.S.Store.tree c.args.source.now in
    let rs = rules_of c.args.searches.now c.args.without.now in
    let root = c.args.root.now in
    let base = c.args.base.now in
    rw (p.1, p.2) (λ h. look_kept told root.source (c.in_err-status.ensures.changed h))

pub returns-then-bare-clause-walks : goal.returns-then-bare-clause-walks
returns-then-bare-clause-walks g c =
    let told = g.S.Store.tree c.args.source.now in
    let rs = rules_of c.args.searches.now c.args.without.now in
    let root = c.args.root.now in
    let base = c.args.base.now in
    let within = within_fits root.source (path_within root.source c.len-names.ensures.path) in
    let kept = sym c.has_path-left_out.ensures ∙ c.if-left_out.false in
    let tree = c.root_status.ensures.source.tree in
    let status = c.in_ok-status.status in
    let bare = sym c.is_bare-bare.ensures ∙ c.if-bare.true in
    let walks = subst (λ (o : Option Tree). WalksPart o rs (place_in root None) base is_below c.walk_dir.result c.args.items.now c.walk_dir.new.items) tree c.walk_dir.ensures.walks in
    bare_told c.walk_dir.result told rs root base status c.args.items.now c.walk_dir.new.items c.in_ok-status.ensures.shows kept bare within walks

pub returns-then-bare-clause-gains : goal.returns-then-bare-clause-gains
returns-then-bare-clause-gains g c =
    let told = g.S.Store.tree c.args.source.now in
    let rs = rules_of c.args.searches.now c.args.without.now in
    let root = c.args.root.now in
    let base = c.args.base.now in
    let tree = c.root_status.ensures.source.tree in
    let walks = subst (λ (o : Option Tree). WalksPart o rs (place_in root None) base is_below c.walk_dir.result c.args.items.now c.walk_dir.new.items) tree c.walk_dir.ensures.walks in
    part_gains c.walk_dir.result told rs root base is_below c.args.items.now c.walk_dir.new.items walks

pub returns-then-bare-clause-changed : goal.returns-then-bare-clause-changed
returns-then-bare-clause-changed g c =
    let told = g.S.Store.tree c.args.source.now in
    let rs = rules_of c.args.searches.now c.args.without.now in
    let root = c.args.root.now in
    let base = c.args.base.now in
    let tree = c.root_status.ensures.source.tree in
    let status = c.in_ok-status.status in
    let bare = sym c.is_bare-bare.ensures ∙ c.if-bare.true in
    never_there c.walk_dir.result told root.source (dir_kept c.walk_dir.result told root status c.in_ok-status.ensures.shows (second_so _ _ bare)
    (subst (λ (o : Option Tree). IfErr c.walk_dir.result (λ e. IsChanged e → IfSome o (λ s. IsTree s → IsDirAt s root.source → ⊥))) tree c.walk_dir.ensures.changed))

pub returns-else-bare-clause-walks : goal.returns-else-bare-clause-walks
returns-else-bare-clause-walks g c =
    let told = g.S.Store.tree c.args.source.now in
    let rs = rules_of c.args.searches.now c.args.without.now in
    let root = c.args.root.now in
    let base = c.args.base.now in
    let tree = c.root_status.ensures.source.tree in
    subst (λ (o : Option Tree). IfSome o (λ s. IsTree s → Walks rs s root base c.walk_item.result c.args.items.now c.walk_item.new.items)) tree c.walk_item.ensures.walks

pub returns-else-bare-clause-changed : goal.returns-else-bare-clause-changed
returns-else-bare-clause-changed g c =
    let told = g.S.Store.tree c.args.source.now in
    let rs = rules_of c.args.searches.now c.args.without.now in
    let root = c.args.root.now in
    let base = c.args.base.now in
    let tree = c.root_status.ensures.source.tree in
    never_there c.walk_item.result told root.source (subst (λ (o : Option Tree). IfErr c.walk_item.result (λ e. IsChanged e → IfSome o (λ s. IsTree s → ⊥))) tree c.walk_item.ensures.changed)

pub returns-then-left_out-clause-gains : goal.returns-then-left_out-clause-gains
returns-then-left_out-clause-gains g c =
    no_gains c.args.root.now c.args.base.now c.args.items.now

pub returns-in_err-status-clause-gains : goal.returns-in_err-status-clause-gains
returns-in_err-status-clause-gains g c =
    no_gains c.args.root.now c.args.base.now c.args.items.now

pub walk_dir-requires-clause-within : goal.walk_dir-requires-clause-within
walk_dir-requires-clause-within g c =
    let root = c.args.root.now in
    let base = c.args.base.now in
    let bare = sym c.is_bare-bare.ensures ∙ c.if-bare.true in
    bare_within base root.prefix c.in_ok-status.status.dir bare (within_fits base (path_within base c.len-under.ensures.path))

pub walk_item-requires-clause-source : goal.walk_item-requires-clause-source
walk_item-requires-clause-source g c =
    let root = c.args.root.now in
    within_fits root.source (path_within root.source c.len-names.ensures.path)

pub walk_item-requires-clause-shows : goal.walk_item-requires-clause-shows
walk_item-requires-clause-shows g c =
    let told = g.S.Store.tree c.args.source.now in
    let root = c.args.root.now in
    let tree = c.root_status.ensures.source.tree in
    let status = c.in_ok-status.status in
    subst (λ (o : Option Tree). IfSome o (λ s. IsStatusOf (s root.source) status)) (sym tree) c.in_ok-status.ensures.shows

pub walk_item-requires-clause-kept : goal.walk_item-requires-clause-kept
walk_item-requires-clause-kept g c =
    sym c.has_path-left_out.ensures ∙ c.if-left_out.false

pub walk_item-requires-clause-item : goal.walk_item-requires-clause-item
walk_item-requires-clause-item g c =
    sym c.is_bare-bare.ensures ∙ c.if-bare.false
