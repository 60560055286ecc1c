use Rattle.std.proofs.Common.{◌≡◌, sym, ◌∙◌, ap, subst, ◌++◌, Bool, true, false, Some, None, IfSome, Ok, Err, IfErr, List, ℕ}
use Rattle.std.proofs.lemmas.Result.{err_from_is_err_and}
use Rattle.dc_path.specs.Paths.{fits}
use Rattle.dc_attrs.specs.Trees.{IsTree, IsDirAt}
use Rattle.dc_listing.specs.Entries.{Entry}
use Rattle.dc_listing.specs.Errors.{IsChanged}
use Rattle.dc_listing.specs.Listed.{rules_of}
use Rattle.dc_listing.specs.Walks.{Gains}
use Rattle.dc_listing.specs.Walking.{dir_at, place_in, is_below, WalksPart, GainsEntry}
use Rattle.dc_listing.specs.declared.walking.Place.{Place}
use Rattle.dc_listing.proofs.GainLemmas.{file_walked}
use Rattle.dc_listing.proofs.WalkLemmas.{last_dir}
use Rattle.dc_listing.proofs.RootWalks.{memory_stops, told_root, long_stops, full_stops, item_told, excluded_told, item_gains, no_gains, status_gains, added_at, dir_kept}
use Rattle.dc_listing.proofs.listing.walk_item.Goals as goal

pub returns-in_err-excluded-clause-walks : goal.returns-in_err-excluded-clause-walks
returns-in_err-excluded-clause-walks g c =
    let p = err_from_is_err_and c.from_residual.result c.from_residual.ensures.1 in
    let told = g.S.Store.tree c.args.source.now in
    let rs = rules_of c.args.searches.now c.args.walk.now.without.now in
    let root = c.args.walk.now.root.now in
    let base = c.args.walk.now.base.now in
    let status = c.args.status in
    rw (p.1, p.2) (memory_stops told rs root base c.args.items.now)

pub returns-then-excluded-clause-walks : goal.returns-then-excluded-clause-walks
returns-then-excluded-clause-walks g c =
    let told = g.S.Store.tree c.args.source.now in
    let rs = rules_of c.args.searches.now c.args.walk.now.without.now in
    let root = c.args.walk.now.root.now in
    let base = c.args.walk.now.base.now in
    let status = c.args.status in
    excluded_told told rs root base status c.args.items.now c.requires.shows c.requires.item (sym c.in_ok-excluded.ensures.out ∙ c.if-excluded.true) c.requires.source

pub returns-in_err-place-clause-walks : goal.returns-in_err-place-clause-walks
returns-in_err-place-clause-walks g c =
    let p = err_from_is_err_and c.from_residual-in_err-place.result c.from_residual-in_err-place.ensures.1 in
    let told = g.S.Store.tree c.args.source.now in
    let rs = rules_of c.args.searches.now c.args.walk.now.without.now in
    let root = c.args.walk.now.root.now in
    let base = c.args.walk.now.base.now in
    let status = c.args.status in
    let asked = sym c.in_ok-excluded.ensures.out ∙ c.if-excluded.false in
    let known = told_root told rs root status c.requires.shows c.requires.kept asked c.requires.item c.requires.source in
    rw (p.1, p.2) (long_stops c.in_err-place.field-0.0 told rs root base c.args.items.now known c.in_err-place.ensures.past)

pub returns-in_err-dir-clause-walks : goal.returns-in_err-dir-clause-walks
returns-in_err-dir-clause-walks g c =
    let p = err_from_is_err_and c.from_residual-in_err-dir.result c.from_residual-in_err-dir.ensures.1 in
    let told = g.S.Store.tree c.args.source.now in
    let rs = rules_of c.args.searches.now c.args.walk.now.without.now in
    let root = c.args.walk.now.root.now in
    let base = c.args.walk.now.base.now in
    let status = c.args.status in
    let asked = sym c.in_ok-excluded.ensures.out ∙ c.if-excluded.false in
    let known = told_root told rs root status c.requires.shows c.requires.kept asked c.requires.item c.requires.source in
    rw (p.1, p.2) (full_stops c.in_err-dir.field-0.0 told rs root base c.args.items.now c.add.new.items c.in_err-dir.ensures.stays known c.in_ok-place.ensures.within c.in_err-dir.ensures.kind (λ h. c.in_err-dir.ensures.full (ap Err h)))

pub returns-then-dir-clause-walks : goal.returns-then-dir-clause-walks
returns-then-dir-clause-walks g c =
    let told = g.S.Store.tree c.args.source.now in
    let rs = rules_of c.args.searches.now c.args.walk.now.without.now in
    let root = c.args.walk.now.root.now in
    let base = c.args.walk.now.base.now in
    let status = c.args.status in
    let asked = sym c.in_ok-excluded.ensures.out ∙ c.if-excluded.false in
    let known = told_root told rs root status c.requires.shows c.requires.kept asked c.requires.item c.requires.source in
    let mid = c.add.new.items in
    let dir : status.dir ≡ true = sym c.in_ok-dir.ensures.dir ∙ c.if-dir.true in
    let place = c.in_ok-place.place in
    let gains = subst (λ (b : Bool). GainsEntry told (place_in root None) b c.args.items.now mid) dir (status_gains told root status c.args.items.now mid (added_at root status place.rel place.from c.args.items.now mid c.in_ok-place.ensures.rel c.in_ok-place.ensures.from c.in_ok-dir.ensures.ok) c.requires.shows) in
    let here = ap (λ n. dir_at root mid (Some n)) c.len-at.ensures ∙ last_dir root told (place_in root None) true c.args.items.now mid gains in
    let walks = subst (λ (q : Place). WalksPart told rs q base is_below c.walk_dir.result mid c.walk_dir.new.items) here
    (subst (λ (ls : List (List ℕ)). WalksPart told (rules_of ls c.args.walk.now.without.now) (dir_at root mid (Some c.len-at.result)) base is_below c.walk_dir.result mid c.walk_dir.new.items) c.excludes.ensures.same c.walk_dir.ensures.walks) in
    item_told c.walk_dir.result told rs root base true c.args.items.now mid c.walk_dir.new.items known c.in_ok-place.ensures.within gains walks

pub returns-then-dir-clause-gains : goal.returns-then-dir-clause-gains
returns-then-dir-clause-gains g c =
    let told = g.S.Store.tree c.args.source.now in
    let rs = rules_of c.args.searches.now c.args.walk.now.without.now in
    let root = c.args.walk.now.root.now in
    let base = c.args.walk.now.base.now in
    let status = c.args.status in
    let mid = c.add.new.items in
    let dir : status.dir ≡ true = sym c.in_ok-dir.ensures.dir ∙ c.if-dir.true in
    let place = c.in_ok-place.place in
    let gains = subst (λ (b : Bool). GainsEntry told (place_in root None) b c.args.items.now mid) dir (status_gains told root status c.args.items.now mid (added_at root status place.rel place.from c.args.items.now mid c.in_ok-place.ensures.rel c.in_ok-place.ensures.from c.in_ok-dir.ensures.ok) c.requires.shows) in
    let here = ap (λ n. dir_at root mid (Some n)) c.len-at.ensures ∙ last_dir root told (place_in root None) true c.args.items.now mid gains in
    let walks = subst (λ (q : Place). WalksPart told rs q base is_below c.walk_dir.result mid c.walk_dir.new.items) here
    (subst (λ (ls : List (List ℕ)). WalksPart told (rules_of ls c.args.walk.now.without.now) (dir_at root mid (Some c.len-at.result)) base is_below c.walk_dir.result mid c.walk_dir.new.items) c.excludes.ensures.same c.walk_dir.ensures.walks) in
    item_gains c.walk_dir.result told rs root base true c.args.items.now mid c.walk_dir.new.items c.in_ok-place.ensures.within gains walks

pub returns-then-dir-clause-changed : goal.returns-then-dir-clause-changed
returns-then-dir-clause-changed g c =
    let told = g.S.Store.tree c.args.source.now in
    let rs = rules_of c.args.searches.now c.args.walk.now.without.now in
    let root = c.args.walk.now.root.now in
    let base = c.args.walk.now.base.now in
    let status = c.args.status in
    let mid = c.add.new.items in
    let dir : status.dir ≡ true = sym c.in_ok-dir.ensures.dir ∙ c.if-dir.true in
    let place = c.in_ok-place.place in
    let gains = subst (λ (b : Bool). GainsEntry told (place_in root None) b c.args.items.now mid) dir (status_gains told root status c.args.items.now mid (added_at root status place.rel place.from c.args.items.now mid c.in_ok-place.ensures.rel c.in_ok-place.ensures.from c.in_ok-dir.ensures.ok) c.requires.shows) in
    let here = ap (λ n. dir_at root mid (Some n)) c.len-at.ensures ∙ last_dir root told (place_in root None) true c.args.items.now mid gains in
    dir_kept c.walk_dir.result told root status c.requires.shows dir
    (subst (λ (q : Place). IfErr c.walk_dir.result (λ e. IsChanged e → IfSome told (λ s. IsTree s → IsDirAt s q.from → ⊥))) here c.walk_dir.ensures.changed)

pub returns-else-dir-clause-walks : goal.returns-else-dir-clause-walks
returns-else-dir-clause-walks g c =
    let told = g.S.Store.tree c.args.source.now in
    let rs = rules_of c.args.searches.now c.args.walk.now.without.now in
    let root = c.args.walk.now.root.now in
    let base = c.args.walk.now.base.now in
    let status = c.args.status in
    let asked = sym c.in_ok-excluded.ensures.out ∙ c.if-excluded.false in
    let known = told_root told rs root status c.requires.shows c.requires.kept asked c.requires.item c.requires.source in
    let mid = c.add.new.items in
    let dir : status.dir ≡ false = sym c.in_ok-dir.ensures.dir ∙ c.if-dir.false in
    let place = c.in_ok-place.place in
    let gains = subst (λ (b : Bool). GainsEntry told (place_in root None) b c.args.items.now mid) dir (status_gains told root status c.args.items.now mid (added_at root status place.rel place.from c.args.items.now mid c.in_ok-place.ensures.rel c.in_ok-place.ensures.from c.in_ok-dir.ensures.ok) c.requires.shows) in
    item_told (Ok base) told rs root base false c.args.items.now mid mid known c.in_ok-place.ensures.within gains (file_walked told rs base (place_in root None) c.args.items.now mid gains)

pub returns-else-dir-clause-gains : goal.returns-else-dir-clause-gains
returns-else-dir-clause-gains g c =
    let told = g.S.Store.tree c.args.source.now in
    let rs = rules_of c.args.searches.now c.args.walk.now.without.now in
    let root = c.args.walk.now.root.now in
    let base = c.args.walk.now.base.now in
    let status = c.args.status in
    let mid = c.add.new.items in
    let dir : status.dir ≡ false = sym c.in_ok-dir.ensures.dir ∙ c.if-dir.false in
    let place = c.in_ok-place.place in
    let gains = subst (λ (b : Bool). GainsEntry told (place_in root None) b c.args.items.now mid) dir (status_gains told root status c.args.items.now mid (added_at root status place.rel place.from c.args.items.now mid c.in_ok-place.ensures.rel c.in_ok-place.ensures.from c.in_ok-dir.ensures.ok) c.requires.shows) in
    item_gains (Ok base) told rs root base false c.args.items.now mid mid c.in_ok-place.ensures.within gains (file_walked told rs base (place_in root None) c.args.items.now mid gains)

pub returns-in_err-excluded-clause-gains : goal.returns-in_err-excluded-clause-gains
returns-in_err-excluded-clause-gains g c =
    no_gains c.args.walk.now.root.now c.args.walk.now.base.now c.args.items.now

pub returns-then-excluded-clause-gains : goal.returns-then-excluded-clause-gains
returns-then-excluded-clause-gains g c =
    no_gains c.args.walk.now.root.now c.args.walk.now.base.now c.args.items.now

pub returns-in_err-place-clause-gains : goal.returns-in_err-place-clause-gains
returns-in_err-place-clause-gains g c =
    no_gains c.args.walk.now.root.now c.args.walk.now.base.now c.args.items.now

pub returns-in_err-dir-clause-gains : goal.returns-in_err-dir-clause-gains
returns-in_err-dir-clause-gains g c =
    subst (λ (es : List Entry). Gains c.args.walk.now.root.now c.args.walk.now.base.now c.args.items.now es) (sym c.in_err-dir.ensures.stays) (no_gains c.args.walk.now.root.now c.args.walk.now.base.now c.args.items.now)

pub walk_dir-requires-clause-within : goal.walk_dir-requires-clause-within
walk_dir-requires-clause-within g c =
    let told = g.S.Store.tree c.args.source.now in
    let rs = rules_of c.args.searches.now c.args.walk.now.without.now in
    let root = c.args.walk.now.root.now in
    let base = c.args.walk.now.base.now in
    let status = c.args.status in
    let mid = c.add.new.items in
    let dir : status.dir ≡ true = sym c.in_ok-dir.ensures.dir ∙ c.if-dir.true in
    let place = c.in_ok-place.place in
    let gains = subst (λ (b : Bool). GainsEntry told (place_in root None) b c.args.items.now mid) dir (status_gains told root status c.args.items.now mid (added_at root status place.rel place.from c.args.items.now mid c.in_ok-place.ensures.rel c.in_ok-place.ensures.from c.in_ok-dir.ensures.ok) c.requires.shows) in
    let here = ap (λ n. dir_at root mid (Some n)) c.len-at.ensures ∙ last_dir root told (place_in root None) true c.args.items.now mid gains in
    ap (λ (q : Place). fits (base ++ q.rel)) here ∙ c.in_ok-place.ensures.within
