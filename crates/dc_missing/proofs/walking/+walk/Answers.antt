use Rattle.std.proofs.Common.{◌≡◌, sym, ◌∙◌, ap, subst, arith, [], ◌∷◌, ◌++◌, Bool, true, not, ◌||◌, Option, IfSome, List, ℕ, length, take, ◌+◌}
use Rattle.std.proofs.lemmas.List.{get_or_default}
use Rattle.std.proofs.lemmas.Result.{err_from_is_err_and}
use Rattle.std.specs.Cmp.Lexicographic.{slice_cmp}
use Rattle.std.specs.List.{list_all}
use Rattle.std.specs.List.Sorted.{IsStrictlySortedBy}
use Rattle.std.specs.Option.{is_some}
use Rattle.std.specs.Ordering.{nat_cmp}
use Rattle.dc_path.specs.Paths.{Names, fits}
use Rattle.dc_attrs.specs.Trees.{Tree, IsDirAt, snapshot, seen}
use Rattle.dc_attrs.specs.declared.shown.Seen.TheVariants as seen_as
use Rattle.dc_fs.specs.Looks.{is_shown, AreNames}
use Rattle.dc_listing.specs.Roots.{is_absent}
use Rattle.dc_listing.specs.Walking.{is_in}
use Rattle.dc_listing.proofs.WalkLemmas.{name_stands}
use Rattle.dc_missing.specs.Errors.{IfChanged, IsOfChild}
use Rattle.dc_missing.specs.Finding.{is_any, is_open, FindsPart, FindsInside, IfTree}
use Rattle.dc_missing.specs.Missing.{is_place, has_under}
use Rattle.dc_missing.specs.Walks.{Stops}
use Rattle.dc_missing.specs.declared.error.DeleteError.{DeleteError}
use Rattle.dc_missing.proofs.DirLemmas.{IsAt, dir_unread, dir_started, dir_more, dir_stopped, dir_walked, all_shown}
use Rattle.dc_missing.proofs.PlaceLemmas.{under_more}
use Rattle.dc_missing.proofs.WalkLemmas.{child_refused, child_walked, place_full, place_stopped, place_closed, inside_unseen, inside_file, inside_unlooked, inside_stopped, inside_walked, dir_told, file_told, or_first, or_second}
use Rattle.dc_missing.proofs.walking.+walk.Goals as goal
use Rattle.dc_missing.proofs.walking.+walk.Goals.{walk_dir-then-kept, walk_dir-else-kept, walk_inside-then-hides, walk_inside-else-hides, walk_place-then-inside, walk_place-else-inside}

-- ---- a name
pub walk_child-returns-in_err-place-clause-walks : goal.walk_child-returns-in_err-place-clause-walks
walk_child-returns-in_err-place-clause-walks g t c =
    let p = err_from_is_err_and c.from_residual.result c.from_residual.ensures.1 in
    rw (p.1, p.2) (child_refused c.in_err-place.field-0.0 (g.T.Store.tree c.args.target.now) c.args.dir.now c.args.name.now c.args.found.now.met c.args.found.now.few c.requires.shown c.requires.there c.in_err-place.ensures.value)

pub walk_child-walk_place-requires-clause-below : goal.walk_child-walk_place-requires-clause-below
walk_child-walk_place-requires-clause-below g t c κs within = under_more c.args.walk.now.plan.now.base c.args.dir.now c.in_ok-place.place c.args.name.now c.in_ok-place.ensures.longer c.requires.below

pub walk_child-returns-clause-walks : goal.walk_child-returns-clause-walks
walk_child-returns-clause-walks g t c =
    child_walked c.walk_place.result (g.T.Store.tree c.args.target.now) (is_place c.args.walk.now.plan.now) c.args.dir.now c.args.name.now c.in_ok-place.place c.args.found.now c.walk_place.new.found c.requires.shown c.in_ok-place.ensures.longer c.walk_place.ensures.walks

-- ---- a directory
pub walk_dir-returns-in_err-names-clause-walks : goal.walk_dir-returns-in_err-names-clause-walks
walk_dir-returns-in_err-names-clause-walks g t c =
    let p = err_from_is_err_and c.from_residual.result c.from_residual.ensures.1 in
    rw (p.1, p.2) (dir_unread c.in_err-names.field-0.0 (g.T.Store.tree c.args.target.now) c.args.dir.now c.args.found.now.met c.in_err-names.ensures.kind c.requires.dir c.in_err-names.ensures.changed)

pub walk_dir-loop-name-init : goal.walk_dir-loop-name-init
walk_dir-loop-name-init g t c = record {
  tree = c.in_ok-names.ensures.target.tree;
  rest = c.in_ok-names.ensures.target.rest;
  later = c.in_ok-names.ensures.target.cause.later;
  calm = c.in_ok-names.ensures.target.calm;
  still = c.in_ok-names.ensures.target.cause.still;
  looks = omega (arith, c.in_ok-names.ensures.looks);
  finds = dir_started (g.T.Store.tree c.args.target.now) (is_place c.args.walk.now.plan.now) c.args.dir.now c.as_slice-name-items.result.now c.args.found.now;
}

pub walk_dir-walk_child-requires-clause-there : goal.walk_dir-walk_child-requires-clause-there
walk_dir-walk_child-requires-clause-there g t c κs within =
    let told = g.T.Store.tree c.args.target.now in
    let dir = c.args.dir.now in
    let names = c.as_slice-name-items.result.now in
    let x = c.name-item.result in
    let here = c.name-item.is ∙ get_or_default names c.loop-name.name-index x [] c.loop-name-test.true in
    let among = subst (λ (ns : Names). IfSome told (λ s. AreNames s dir ns)) (sym c.as_slice-name-items.ensures) c.in_ok-names.ensures.names in
    subst (λ (o : Option Tree). IfSome o (λ s. is_some (s (dir ++ x ∷ [])) ≡ true)) (sym c.loop-name.invariant.tree) (name_stands told dir names c.loop-name.name-index x c.loop-name-test.true here among)

pub walk_dir-returns-in_err-keeps-clause-walks : goal.walk_dir-returns-in_err-keeps-clause-walks
walk_dir-returns-in_err-keeps-clause-walks g t c =
    let p = err_from_is_err_and c.from_residual-in_err-keeps.result c.from_residual-in_err-keeps.ensures.1 in
    let told = g.T.Store.tree c.args.target.now in
    let dir = c.args.dir.now in
    let names = c.as_slice-name-items.result.now in
    let x = c.name-item.result in
    let e = c.in_err-keeps.field-0.0 in
    let here = c.name-item.is ∙ get_or_default names c.loop-name.name-index x [] c.loop-name-test.true in
    let among = subst (λ (ns : Names). IfSome told (λ s. AreNames s dir ns)) (sym c.as_slice-name-items.ensures) c.in_ok-names.ensures.names in
    let sorted = subst (IsStrictlySortedBy (slice_cmp nat_cmp)) (sym c.as_slice-name-items.ensures) c.in_ok-names.ensures.ascending in
    let at : IsAt names c.loop-name.name-index x = record { sorted = sorted; inside = c.loop-name-test.true; is = here } in
    rw (p.1, p.2) (dir_stopped e told (is_place c.args.walk.now.plan.now) dir names c.loop-name.name-index x c.loop-name.kept c.args.found.now c.loop-name.found among at c.loop-name.invariant.finds
    (subst (λ (o : Option Tree). IfTree o (λ s. Stops e s dir (is_in (x ∷ [])) c.loop-name.found.met)) c.loop-name.invariant.tree c.in_err-keeps.ensures.walks))

pub walk_dir-loop-name-preserved : goal.walk_dir-loop-name-preserved
walk_dir-loop-name-preserved g t c =
    let told = g.T.Store.tree c.args.target.now in
    let listed = is_place c.args.walk.now.plan.now in
    let dir = c.args.dir.now in
    let names = c.as_slice-name-items.result.now in
    let inv = c.loop-name.invariant in
    let x = c.name-item.result in
    let here = c.name-item.is ∙ get_or_default names c.loop-name.name-index x [] c.loop-name-test.true in
    let sorted = subst (IsStrictlySortedBy (slice_cmp nat_cmp)) (sym c.as_slice-name-items.ensures) c.in_ok-names.ensures.ascending in
    let at : IsAt names c.loop-name.name-index x = record { sorted = sorted; inside = c.loop-name-test.true; is = here } in
    let keeps = c.in_ok-keeps.keeps in
    let kept : c.if-kept.kept ≡ (c.loop-name.kept || keeps) = elim c.if-kept.branch [ walk_dir-then-kept w ↦ or_first c.loop-name.kept keeps c.if-kept.kept w.if-kept.true w.kept-is | walk_dir-else-kept w ↦ or_second c.loop-name.kept keeps c.if-kept.kept w.if-kept.false w.kept-is ] in
    let more = subst (λ (o : Option Tree). FindsPart o listed dir (is_in (x ∷ [])) keeps c.loop-name.found c.walk_child.new.found) inv.tree c.in_ok-keeps.ensures.walks in
    record {
      tree = c.walk_child.ensures.target.tree ∙ inv.tree;
      rest = c.walk_child.ensures.target.rest ∙ inv.rest;
      later = omega (arith, inv.later, c.walk_child.ensures.target.cause.later);
      calm = c.walk_child.ensures.target.calm ∙ inv.calm;
      still = c.in_ok-keeps.ensures.target.cause.still ∙ inv.still;
      looks = omega (arith, inv.looks, c.walk_child.ensures.looks);
      finds = subst (λ (b : Bool). FindsPart told listed dir (is_in (take (c.loop-name.name-index + 1) names)) b c.args.found.now c.walk_child.new.found) (sym kept) (dir_more told listed dir names c.loop-name.name-index x c.loop-name.kept keeps c.args.found.now c.loop-name.found c.walk_child.new.found at inv.finds more);
    }

pub walk_dir-returns-clause-walks : goal.walk_dir-returns-clause-walks
walk_dir-returns-clause-walks g t c =
    let told = g.T.Store.tree c.args.target.now in
    let names = c.as_slice-name-items.result.now in
    let among = subst (λ (ns : Names). IfSome told (λ s. AreNames s c.args.dir.now ns)) (sym c.as_slice-name-items.ensures) c.in_ok-names.ensures.names in
    let shown = subst (λ (ns : Names). list_all is_shown ns ≡ true) (sym c.as_slice-name-items.ensures) c.in_ok-names.ensures.shown in
    let end : c.loop-name.name-index ≡ length names = omega arith in
    dir_walked told (is_place c.args.walk.now.plan.now) c.args.dir.now names c.loop-name.name-index c.loop-name.kept c.args.found.now c.loop-name.found (λ x k. all_shown names x shown k) among end c.loop-name.invariant.finds

-- ---- what is under a path
pub walk_inside-returns-in_err-dir-clause-walks : goal.walk_inside-returns-in_err-dir-clause-walks
walk_inside-returns-in_err-dir-clause-walks g t c =
    let p = err_from_is_err_and c.from_residual.result c.from_residual.ensures.1 in
    rw (p.1, p.2) (inside_unseen c.in_err-dir.field-0.0 (g.T.Store.tree c.args.target.now) c.args.place.now c.args.found.now.met c.in_err-dir.ensures.kind c.requires.there c.in_err-dir.ensures.changed)

pub walk_inside-returns-then-not-dir-clause-walks : goal.walk_inside-returns-then-not-dir-clause-walks
walk_inside-returns-then-not-dir-clause-walks g t c =
    let told = g.T.Store.tree c.args.target.now in
    inside_file told (is_place c.args.walk.now.plan.now) c.args.place.now c.args.found.now c.requires.within (file_told told c.args.place.now c.in_ok-dir.dir c.if-not-dir.true c.in_ok-dir.ensures.value)

pub walk_inside-returns-in_err-hides-clause-walks : goal.walk_inside-returns-in_err-hides-clause-walks
walk_inside-returns-in_err-hides-clause-walks g t c =
    let p = err_from_is_err_and c.from_residual-in_err-hides.result c.from_residual-in_err-hides.ensures.1 in
    let told = g.T.Store.tree c.args.target.now in
    let place = c.args.place.now in
    let e = c.in_err-hides.field-0.0 in
    let dir = dir_told told place c.in_ok-dir.dir c.if-not-dir.false c.in_ok-dir.ensures.value in
    let child = subst (λ (x : List ℕ). IsOfChild e place x) c.requires.named c.in_err-hides.ensures.child in
    let named = subst (λ (x : List ℕ). IfChanged e (IfSome (g.T.Store.tree c.is_dir.new.target) (λ s. seen s (place ++ x ∷ []) ≡ seen_as.NotDir))) c.requires.named c.in_err-hides.ensures.changed in
    let changed = subst (λ (o : Option Tree). IfChanged e (IfSome o (λ s. seen s (place ++ snapshot ∷ []) ≡ seen_as.NotDir))) c.is_dir.ensures.target.tree named in
    rw (p.1, p.2) (inside_unlooked e told place c.args.found.now.met dir child changed)

pub walk_inside-walk_dir-requires-clause-dir : goal.walk_inside-walk_dir-requires-clause-dir
walk_inside-walk_dir-requires-clause-dir g t c κs within =
    let told = g.T.Store.tree c.args.target.now in
    let place = c.args.place.now in
    let dir = dir_told told place c.in_ok-dir.dir c.if-not-dir.false c.in_ok-dir.ensures.value in
    subst (λ (o : Option Tree). IfSome o (λ s. IsDirAt s place)) (sym (c.has_name.ensures.target.tree ∙ c.is_dir.ensures.target.tree)) dir

pub walk_inside-returns-in_err-kept-clause-walks : goal.walk_inside-returns-in_err-kept-clause-walks
walk_inside-returns-in_err-kept-clause-walks g t c =
    let p = err_from_is_err_and c.from_residual-in_err-kept.result c.from_residual-in_err-kept.ensures.1 in
    let told = g.T.Store.tree c.args.target.now in
    let place = c.args.place.now in
    let e = c.in_err-kept.field-0.0 in
    let room = subst (λ (x : List ℕ). fits (place ++ x ∷ []) ≡ true) c.requires.named c.in_ok-hides.ensures.within in
    let stops = subst (λ (o : Option Tree). IfTree o (λ s. Stops e s place is_open c.args.found.now.met)) (c.has_name.ensures.target.tree ∙ c.is_dir.ensures.target.tree) c.in_err-kept.ensures.walks in
    rw (p.1, p.2) (inside_stopped e told place c.args.found.now.met c.requires.within room stops)

pub walk_inside-returns-clause-walks : goal.walk_inside-returns-clause-walks
walk_inside-returns-clause-walks g t c =
    let told = g.T.Store.tree c.args.target.now in
    let listed = is_place c.args.walk.now.plan.now in
    let place = c.args.place.now in
    let hides = c.in_ok-hides.hides in
    let below = c.in_ok-kept.kept in
    let kept : c.if-hides.result ≡ (hides || below) = elim c.if-hides.branch [ walk_inside-then-hides w ↦ or_first hides below c.if-hides.result w.if-hides.true w.result-is | walk_inside-else-hides w ↦ or_second hides below c.if-hides.result w.if-hides.false w.result-is ] in
    let dir = dir_told told place c.in_ok-dir.dir c.if-not-dir.false c.in_ok-dir.ensures.value in
    let room = subst (λ (x : List ℕ). fits (place ++ x ∷ []) ≡ true) c.requires.named c.in_ok-hides.ensures.within in
    let named = subst (λ (x : List ℕ). IfSome (g.T.Store.tree c.is_dir.new.target) (λ s. hides ≡ not (is_absent (seen s (place ++ x ∷ []))))) c.requires.named c.in_ok-hides.ensures.value in
    let hidden = subst (λ (o : Option Tree). IfSome o (λ s. hides ≡ not (is_absent (seen s (place ++ snapshot ∷ []))))) c.is_dir.ensures.target.tree named in
    let part = subst (λ (o : Option Tree). FindsPart o listed place is_open below c.args.found.now c.walk_dir.new.found) (c.has_name.ensures.target.tree ∙ c.is_dir.ensures.target.tree) c.in_ok-kept.ensures.walks in
    subst (λ (b : Bool). FindsInside told listed place b c.args.found.now c.walk_dir.new.found) (sym kept) (inside_walked told listed place hides below c.args.found.now c.walk_dir.new.found c.requires.within room dir hidden part)

-- ---- a path
pub walk_place-returns-in_err-count-clause-walks : goal.walk_place-returns-in_err-count-clause-walks
walk_place-returns-in_err-count-clause-walks g t c =
    let p = err_from_is_err_and c.from_residual.result c.from_residual.ensures.1 in
    let told = g.T.Store.tree c.args.target.now in
    let why = c.in_err-count.ensures.err in
    rw (p.1, p.2) (subst (λ (e : DeleteError). IfTree told (λ s. Stops e s c.args.place is_any c.args.found.now.met)) (sym why.0) (place_full told c.args.place c.args.found.now.met c.requires.within why.2 c.requires.there))

pub walk_place-returns-in_err-inside-clause-walks : goal.walk_place-returns-in_err-inside-clause-walks
walk_place-returns-in_err-inside-clause-walks g t c =
    let p = err_from_is_err_and c.from_residual-in_err-inside.result c.from_residual-in_err-inside.ensures.1 in
    let counted = c.in_ok-count.ensures.ok in
    rw (p.1, p.2) (place_stopped c.in_err-inside.field-0.0 (g.T.Store.tree c.args.target.now) c.args.place c.args.found.now.met c.count.new.self.met c.requires.within counted.met c.count.new.self.few c.requires.there c.in_err-inside.ensures.walks)

pub walk_place-returns-clause-walks : goal.walk_place-returns-clause-walks
walk_place-returns-clause-walks g t c =
    let plan = c.args.walk.now.plan.now in
    let inside = c.in_ok-inside.inside in
    let counted = c.in_ok-count.ensures.ok in
    let kept : c.if-inside.kept ≡ (inside || has_under plan c.args.place) = elim c.if-inside.branch [ walk_place-then-inside w ↦ or_first inside (has_under plan c.args.place) c.if-inside.kept w.if-inside.true w.kept-is | walk_place-else-inside w ↦ or_second inside (has_under plan c.args.place) c.if-inside.kept w.if-inside.false (w.kept-is ∙ w.has_under-kept.ensures) ] in
    place_closed (g.T.Store.tree c.args.target.now) plan c.args.place c.mark-mark.result inside c.if-inside.kept c.args.found.now c.count.new.self c.walk_inside.new.found c.close.new.self (record {
      there = c.requires.there;
      counts = counted;
      mark_is = c.mark-mark.ensures ∙ ap (λ (ps : List Names). length ps) counted.gone;
      finds = c.in_ok-inside.ensures.walks;
      kept_is = kept;
      closes = c.in_ok-close.ensures.ok;
      met = c.close.ensures.met;
    })
