use Rattle.std.proofs.Common.{◌≡◌, ◌≢◌, inl, inr, refl, sym, ◌∙◌, ap, subst, rules, arith, [], ◌∷◌, ◌++◌, Bool, true, false, Option, Some, None, IfSome, Ok, Err, IfErr, length, List, ℕ, ◌+◌}
use Rattle.std.proofs.lemmas.List.{get_or_default}
use Rattle.std.proofs.lemmas.Result.{err_from_is_err_and}
use Rattle.std.specs.Cmp.Lexicographic.{slice_cmp}
use Rattle.std.specs.List.{list_all}
use Rattle.std.specs.List.Sorted.{IsStrictlySortedBy}
use Rattle.std.specs.Option.{is_some}
use Rattle.std.specs.Ordering.{nat_cmp}
use Rattle.dc_path.specs.Paths.{Names, fits}
use Rattle.dc_attrs.specs.Trees.{Tree, IsTree, IsDirAt}
use Rattle.dc_fs.specs.Looks.{is_shown, AreNames}
use Rattle.dc_listing.specs.Errors.{IsChanged}
use Rattle.dc_listing.specs.Listed.{rules_of}
use Rattle.dc_listing.specs.Walking.{dir_at, entered, IsAmong, is_in, is_below, GainsPart, StopsPart, WalksPart, WalksPlace, GainsEntry}
use Rattle.dc_listing.specs.declared.item.ListError.TheVariants as list_error
use Rattle.dc_listing.specs.declared.walking.Place.{Place}
use Rattle.dc_listing.proofs.NamesInOrder.{passes_at}
use Rattle.dc_listing.proofs.GainLemmas.{file_walked}
use Rattle.dc_listing.proofs.WalkLemmas.{here_is, entered_is, child_refused, child_nothing, placed, child_kept, look_kept, names_kept, place_kept, name_stands, last_dir, last_among, among_stays, dir_stays, longer_fits, length-push, never_dir, dir_unread, dir_started, dir_more, dir_stopped, dir_walked}
use Rattle.dc_listing.proofs.walking.+walk.Goals as goal

pub walk_child-returns-in_err-entered-clause-walks : goal.walk_child-returns-in_err-entered-clause-walks
walk_child-returns-in_err-entered-clause-walks g t c =
    let p = err_from_is_err_and c.from_residual.result c.from_residual.ensures.1 in
    let told = g.S.Store.tree c.args.source.now in
    let d = dir_at c.args.walk.now.root.now c.args.items.now c.args.at in
    let here = here_is d c.dir_here-dir.result.from.now c.dir_here-dir.result.rel.now c.dir_here-dir.ensures.from c.dir_here-dir.ensures.rel in
    let rs = rules_of c.args.searches.now c.args.walk.now.without.now in
    rw (p.1, p.2) (child_refused c.in_err-entered.field-0.0 told rs c.args.walk.now.base.now d c.args.name.now c.args.items.now c.requires.shown c.requires.there c.in_err-entered.ensures.too_long
    (subst (λ (q : Place). c.in_err-entered.field-0.0 ≢ list_error.Memory → entered rs c.args.walk.now.base.now q c.args.name.now ≡ Err c.in_err-entered.field-0.0) here c.in_err-entered.ensures.entered))

pub walk_child-returns-in-Some-clause-walks : goal.walk_child-returns-in-Some-clause-walks
walk_child-returns-in-Some-clause-walks g t c =
    let told = g.S.Store.tree c.args.source.now in
    let d = dir_at c.args.walk.now.root.now c.args.items.now c.args.at in
    let here = here_is d c.dir_here-dir.result.from.now c.dir_here-dir.result.rel.now c.dir_here-dir.ensures.from c.dir_here-dir.ensures.rel in
    let rs = rules_of c.args.searches.now c.args.walk.now.without.now in
    let ok : entered rs c.args.walk.now.base.now (record { from = c.dir_here-dir.result.from.now; rel = c.dir_here-dir.result.rel.now }) c.args.name.now ≡ Ok (Some c.in-Some.place) = c.in_ok-entered.ensures.entered ∙ ap Ok c.in-Some.is in
    let i = entered_is rs c.args.walk.now.base.now d c.args.name.now c.in-Some.place c.requires.shown (subst (λ (q : Place). entered rs c.args.walk.now.base.now q c.args.name.now ≡ Ok (Some c.in-Some.place)) here ok) in
    placed c.walk_place.result told rs c.args.walk.now.base.now d c.args.name.now c.in-Some.place c.args.items.now c.walk_place.new.items i c.requires.there
    (subst (λ (ls : List (List ℕ)). WalksPlace told (rules_of ls c.args.walk.now.without.now) c.in-Some.place c.args.walk.now.base.now c.walk_place.result c.args.items.now c.walk_place.new.items) c.enter.ensures.searches c.walk_place.ensures.walks)

pub walk_child-returns-in-Some-clause-changed : goal.walk_child-returns-in-Some-clause-changed
walk_child-returns-in-Some-clause-changed g t c =
    let told = g.S.Store.tree c.args.source.now in
    let d = dir_at c.args.walk.now.root.now c.args.items.now c.args.at in
    let here = here_is d c.dir_here-dir.result.from.now c.dir_here-dir.result.rel.now c.dir_here-dir.ensures.from c.dir_here-dir.ensures.rel in
    let rs = rules_of c.args.searches.now c.args.walk.now.without.now in
    let ok : entered rs c.args.walk.now.base.now (record { from = c.dir_here-dir.result.from.now; rel = c.dir_here-dir.result.rel.now }) c.args.name.now ≡ Ok (Some c.in-Some.place) = c.in_ok-entered.ensures.entered ∙ ap Ok c.in-Some.is in
    let i = entered_is rs c.args.walk.now.base.now d c.args.name.now c.in-Some.place c.requires.shown (subst (λ (q : Place). entered rs c.args.walk.now.base.now q c.args.name.now ≡ Ok (Some c.in-Some.place)) here ok) in
    child_kept c.walk_place.result told d c.args.name.now c.in-Some.place.from (sym (ap (λ (q : Place). q.from) i.child)) c.requires.there c.walk_place.ensures.changed

pub walk_child-returns-in-None-clause-walks : goal.walk_child-returns-in-None-clause-walks
walk_child-returns-in-None-clause-walks g t c =
    let told = g.S.Store.tree c.args.source.now in
    let d = dir_at c.args.walk.now.root.now c.args.items.now c.args.at in
    let here = here_is d c.dir_here-dir.result.from.now c.dir_here-dir.result.rel.now c.dir_here-dir.ensures.from c.dir_here-dir.ensures.rel in
    let rs = rules_of c.args.searches.now c.args.walk.now.without.now in
    child_nothing told rs c.args.walk.now.base.now d c.args.name.now c.args.items.now
    (subst (λ (q : Place). entered rs c.args.walk.now.base.now q c.args.name.now ≡ Ok None) here (c.in_ok-entered.ensures.entered ∙ ap Ok c.in-None.is))

pub walk_place-returns-in_err-dir-clause-walks : goal.walk_place-returns-in_err-dir-clause-walks
walk_place-returns-in_err-dir-clause-walks g t c =
    let p = err_from_is_err_and c.from_residual.result c.from_residual.ensures.1 in
    rw (p.1, p.2) (inl (c.in_err-dir.ensures.stays, c.in_err-dir.ensures.kind, λ h. c.in_err-dir.ensures.full (ap Err h)))

pub walk_place-returns-in_err-dir-clause-changed : goal.walk_place-returns-in_err-dir-clause-changed
walk_place-returns-in_err-dir-clause-changed g t c =
    let p = err_from_is_err_and c.from_residual.result c.from_residual.ensures.1 in
    rw (p.1, p.2) (λ h. look_kept (g.S.Store.tree c.args.source.now) c.args.place.from (c.in_err-dir.ensures.changed h))

pub walk_place-returns-else-dir-clause-walks : goal.walk_place-returns-else-dir-clause-walks
walk_place-returns-else-dir-clause-walks g t c =
    let told = g.S.Store.tree c.args.source.now in
    let gains = subst (λ (b : Bool). GainsEntry told c.args.place b c.args.items.now c.visit.new.items) c.if-dir.false c.in_ok-dir.ensures.gains in
    inr (false, c.visit.new.items, gains, file_walked told (rules_of c.args.searches.now c.args.walk.now.without.now) c.args.walk.now.base.now c.args.place c.args.items.now c.visit.new.items gains)

pub walk_dir-returns-in_err-names-clause-walks : goal.walk_dir-returns-in_err-names-clause-walks
walk_dir-returns-in_err-names-clause-walks g t c =
    let p = err_from_is_err_and c.from_residual.result c.from_residual.ensures.1 in
    rw (p.1, p.2) (dir_unread c.in_err-names.field-0.0 (g.S.Store.tree c.args.source.now) (rules_of c.args.searches.now c.args.walk.now.without.now) c.args.walk.now.base.now (dir_at c.args.walk.now.root.now c.args.items.now c.args.at) c.args.items.now c.in_err-names.ensures.kind)

pub walk_dir-returns-in_err-names-clause-changed : goal.walk_dir-returns-in_err-names-clause-changed
walk_dir-returns-in_err-names-clause-changed g t c =
    let p = err_from_is_err_and c.from_residual.result c.from_residual.ensures.1 in
    rw (p.1, p.2) (λ h. names_kept (g.S.Store.tree c.args.source.now) c.dir_here-dir.result.from.now (dir_at c.args.walk.now.root.now c.args.items.now c.args.at).from c.dir_here-dir.ensures.from (c.in_err-names.ensures.changed h))

pub walk_child-walk_place-requires : goal.walk_child-walk_place-requires
walk_child-walk_place-requires g t c κs within =
    let d = dir_at c.args.walk.now.root.now c.args.items.now c.args.at in
    let here = here_is d c.dir_here-dir.result.from.now c.dir_here-dir.result.rel.now c.dir_here-dir.ensures.from c.dir_here-dir.ensures.rel in
    let rs = rules_of c.args.searches.now c.args.walk.now.without.now in
    let ok : entered rs c.args.walk.now.base.now (record { from = c.dir_here-dir.result.from.now; rel = c.dir_here-dir.result.rel.now }) c.args.name.now ≡ Ok (Some c.in-Some.place) = c.in_ok-entered.ensures.entered ∙ ap Ok c.in-Some.is in
    let i = entered_is rs c.args.walk.now.base.now d c.args.name.now c.in-Some.place c.requires.shown (subst (λ (q : Place). entered rs c.args.walk.now.base.now q c.args.name.now ≡ Ok (Some c.in-Some.place)) here ok) in
    let longer = longer_fits d.from c.args.name.now i.from_fits in
    let from : length c.in-Some.place.from ≡ length d.from + 1 = ap (λ (q : Place). length q.from) (sym i.child) ∙ length-push d.from c.args.name.now in
    (omega (arith, longer, from), (search rules, ap (λ (q : Place). fits (c.args.walk.now.base.now ++ q.rel)) (sym i.child) ∙ i.place_fits))

pub walk_place-returns-then-dir-clause-walks : goal.walk_place-returns-then-dir-clause-walks
walk_place-returns-then-dir-clause-walks g t c =
    let told = g.S.Store.tree c.args.source.now in
    let rs = rules_of c.args.searches.now c.args.walk.now.without.now in
    let root = c.args.walk.now.root.now in
    let mid = c.visit.new.items in
    let gains = subst (λ (b : Bool). GainsEntry told c.args.place b c.args.items.now mid) c.if-dir.true c.in_ok-dir.ensures.gains in
    let here = ap (λ n. dir_at root mid (Some n)) c.len-at.ensures ∙ last_dir root told c.args.place true c.args.items.now mid gains in
    inr (
      true,
      mid,
      gains,
      subst (λ (q : Place). WalksPart told rs q c.args.walk.now.base.now is_below c.walk_dir.result mid c.walk_dir.new.items) here
          (subst (λ (o : Option Tree). WalksPart o rs (dir_at root mid (Some c.len-at.result)) c.args.walk.now.base.now is_below c.walk_dir.result mid c.walk_dir.new.items) c.visit.ensures.source.tree c.walk_dir.ensures.walks),
    )

pub walk_place-walk_dir-requires : goal.walk_place-walk_dir-requires
walk_place-walk_dir-requires g t c κs within =
    let told = g.S.Store.tree c.args.source.now in
    let root = c.args.walk.now.root.now in
    let mid = c.visit.new.items in
    let gains = subst (λ (b : Bool). GainsEntry told c.args.place b c.args.items.now mid) c.if-dir.true c.in_ok-dir.ensures.gains in
    let here = ap (λ n. dir_at root mid (Some n)) c.len-at.ensures ∙ last_dir root told c.args.place true c.args.items.now mid gains in
    let same : length (dir_at root mid (Some c.len-at.result)).from ≡ length c.args.place.from = ap (λ (q : Place). length q.from) here in
    (omega (arith, same), (search rules, (subst (λ n. IsAmong mid (Some n)) (sym c.len-at.ensures) (last_among c.args.items.now mid gains.entry gains.is), ap (λ (q : Place). fits (c.args.walk.now.base.now ++ q.rel)) here ∙ c.requires.within)))

pub walk_place-returns-then-dir-clause-changed : goal.walk_place-returns-then-dir-clause-changed
walk_place-returns-then-dir-clause-changed g t c =
    let told = g.S.Store.tree c.args.source.now in
    let root = c.args.walk.now.root.now in
    let mid = c.visit.new.items in
    let gains = subst (λ (b : Bool). GainsEntry told c.args.place b c.args.items.now mid) c.if-dir.true c.in_ok-dir.ensures.gains in
    let here = ap (λ n. dir_at root mid (Some n)) c.len-at.ensures ∙ last_dir root told c.args.place true c.args.items.now mid gains in
    place_kept c.walk_dir.result told c.args.place c.args.items.now mid (dir_at root mid (Some c.len-at.result)).from (ap (λ (q : Place). q.from) here) gains
    (subst (λ (o : Option Tree). IfErr c.walk_dir.result (λ e. IsChanged e → IfSome o (λ s. IsTree s → IsDirAt s (dir_at root mid (Some c.len-at.result)).from → ⊥))) c.visit.ensures.source.tree c.walk_dir.ensures.changed)

pub walk_dir-loop-name-init : goal.walk_dir-loop-name-init
walk_dir-loop-name-init g t c = record {
  tree = c.in_ok-names.ensures.source.tree;
  rest = c.in_ok-names.ensures.source.rest;
  later = c.in_ok-names.ensures.source.cause.later;
  calm = c.in_ok-names.ensures.source.calm;
  still = c.in_ok-names.ensures.source.cause.still;
  looks = omega (arith, c.in_ok-names.ensures.looks);
  searches = refl;
  few = λ h. h;
  among = c.requires.among;
  dir = refl;
  gains = dir_started (g.S.Store.tree c.args.source.now) (rules_of c.args.searches.now c.args.walk.now.without.now) c.args.walk.now.base.now (dir_at c.args.walk.now.root.now c.args.items.now c.args.at) c.as_slice-name-items.result.now c.args.items.now;
}

-- the names that the directory shows, as they are gone through
pub walk_dir-walk_child-requires : goal.walk_dir-walk_child-requires
walk_dir-walk_child-requires g t c κs within =
    let told = g.S.Store.tree c.args.source.now in
    let d = dir_at c.args.walk.now.root.now c.args.items.now c.args.at in
    let names = c.as_slice-name-items.result.now in
    let inv = c.loop-name.invariant in
    let x = c.name-item.result in
    let here = c.name-item.is ∙ get_or_default names c.loop-name.name-index x [] c.loop-name-test.true in
    let among = subst (λ (ns : Names). IfSome told (λ s. AreNames s d.from ns)) (sym c.as_slice-name-items.ensures) (subst (λ (p : Names). IfSome told (λ s. AreNames s p c.in_ok-names.names)) c.dir_here-dir.ensures.from c.in_ok-names.ensures.names) in
    let shown = passes_at is_shown names c.loop-name.name-index x [] (subst (λ (ns : Names). list_all is_shown ns ≡ true) (sym c.as_slice-name-items.ensures) c.in_ok-names.ensures.shown) c.loop-name-test.true here in
    let there = name_stands told d.from names c.loop-name.name-index x c.loop-name-test.true here among in
    let same : length (dir_at c.args.walk.now.root.now c.loop-name.items c.args.at).from ≡ length d.from = ap (λ (q : Place). length q.from) inv.dir in (
      omega (arith, same),
      (
        search rules,
        (
          inv.among,
          (
            ap (λ (q : Place). fits (c.args.walk.now.base.now ++ q.rel)) inv.dir ∙ c.requires.within,
            (
              shown,
              subst (λ (o : Option Tree). IfSome o (λ s. is_some (s ((dir_at c.args.walk.now.root.now c.loop-name.items c.args.at).from ++ x ∷ [])) ≡ true)) (sym inv.tree)
                  (subst (λ (q : Place). IfSome told (λ s. is_some (s (q.from ++ x ∷ [])) ≡ true)) (sym inv.dir) there),
            ),
          ),
        ),
      ),
    )

pub walk_dir-returns-in_err-walk_child-clause-walks : goal.walk_dir-returns-in_err-walk_child-clause-walks
walk_dir-returns-in_err-walk_child-clause-walks g t c =
    let p = err_from_is_err_and c.from_residual-in_err-walk_child.result c.from_residual-in_err-walk_child.ensures.1 in
    let told = g.S.Store.tree c.args.source.now in
    let rs = rules_of c.args.searches.now c.args.walk.now.without.now in
    let d = dir_at c.args.walk.now.root.now c.args.items.now c.args.at in
    let names = c.as_slice-name-items.result.now in
    let inv = c.loop-name.invariant in
    let x = c.name-item.result in
    let e = c.in_err-walk_child.field-0.0 in
    let here = c.name-item.is ∙ get_or_default names c.loop-name.name-index x [] c.loop-name-test.true in
    let among = subst (λ (ns : Names). IfSome told (λ s. AreNames s d.from ns)) (sym c.as_slice-name-items.ensures) (subst (λ (p : Names). IfSome told (λ s. AreNames s p c.in_ok-names.names)) c.dir_here-dir.ensures.from c.in_ok-names.ensures.names) in
    rw (p.1, p.2) (dir_stopped e told rs c.args.walk.now.base.now d names c.loop-name.name-index x c.args.items.now c.loop-name.items c.walk_child.new.items
    (subst (IsStrictlySortedBy (slice_cmp nat_cmp)) (sym c.as_slice-name-items.ensures) c.in_ok-names.ensures.ascending) among c.loop-name-test.true here inv.gains
    (subst (λ (o : Option Tree). StopsPart e o rs d c.args.walk.now.base.now (is_in (x ∷ [])) c.loop-name.items c.walk_child.new.items) inv.tree
    (subst (λ (ls : List (List ℕ)). StopsPart e (g.S.Store.tree c.loop-name.source) (rules_of ls c.args.walk.now.without.now) d c.args.walk.now.base.now (is_in (x ∷ [])) c.loop-name.items c.walk_child.new.items) inv.searches
    (subst (λ (q : Place). StopsPart e (g.S.Store.tree c.loop-name.source) (rules_of c.loop-name.searches c.args.walk.now.without.now) q c.args.walk.now.base.now (is_in (x ∷ [])) c.loop-name.items c.walk_child.new.items) inv.dir c.in_err-walk_child.ensures.walks))))

pub walk_dir-returns-in_err-walk_child-clause-changed : goal.walk_dir-returns-in_err-walk_child-clause-changed
walk_dir-returns-in_err-walk_child-clause-changed g t c =
    let p = err_from_is_err_and c.from_residual-in_err-walk_child.result c.from_residual-in_err-walk_child.ensures.1 in
    rw (p.1, p.2) (λ h. never_dir (g.S.Store.tree c.args.source.now) (dir_at c.args.walk.now.root.now c.args.items.now c.args.at).from
    (subst (λ (o : Option Tree). IfSome o (λ s. IsTree s → ⊥)) c.loop-name.invariant.tree (c.in_err-walk_child.ensures.changed h)))

pub walk_dir-loop-name-preserved : goal.walk_dir-loop-name-preserved
walk_dir-loop-name-preserved g t c =
    let told = g.S.Store.tree c.args.source.now in
    let rs = rules_of c.args.searches.now c.args.walk.now.without.now in
    let d = dir_at c.args.walk.now.root.now c.args.items.now c.args.at in
    let names = c.as_slice-name-items.result.now in
    let inv = c.loop-name.invariant in
    let x = c.name-item.result in
    let here = c.name-item.is ∙ get_or_default names c.loop-name.name-index x [] c.loop-name-test.true in
    let w = subst (λ (o : Option Tree). GainsPart o rs d c.args.walk.now.base.now (is_in (x ∷ [])) None c.loop-name.items c.walk_child.new.items) inv.tree
    (subst (λ (ls : List (List ℕ)). GainsPart (g.S.Store.tree c.loop-name.source) (rules_of ls c.args.walk.now.without.now) d c.args.walk.now.base.now (is_in (x ∷ [])) None c.loop-name.items c.walk_child.new.items) inv.searches
    (subst (λ (q : Place). GainsPart (g.S.Store.tree c.loop-name.source) (rules_of c.loop-name.searches c.args.walk.now.without.now) q c.args.walk.now.base.now (is_in (x ∷ [])) None c.loop-name.items c.walk_child.new.items) inv.dir c.in_ok-walk_child.ensures.walks)) in
    record {
      tree = c.walk_child.ensures.source.tree ∙ inv.tree;
      rest = c.walk_child.ensures.source.rest ∙ inv.rest;
      later = omega (arith, inv.later, c.walk_child.ensures.source.cause.later);
      calm = c.walk_child.ensures.source.calm ∙ inv.calm;
      still = c.in_ok-walk_child.ensures.source.cause.still ∙ inv.still;
      looks = omega (arith, inv.looks, c.in_ok-walk_child.ensures.looks);
      searches = c.walk_child.ensures.searches ∙ inv.searches;
      few = λ h. c.walk_child.ensures.few (inv.few h);
      among = among_stays c.loop-name.items c.walk_child.new.items w.added c.args.at inv.among w.adds.is;
      dir = dir_stays c.args.walk.now.root.now c.loop-name.items c.walk_child.new.items w.added c.args.at inv.among w.adds.is ∙ inv.dir;
      gains = dir_more told rs c.args.walk.now.base.now d names c.loop-name.name-index x c.args.items.now c.loop-name.items c.walk_child.new.items
          (subst (IsStrictlySortedBy (slice_cmp nat_cmp)) (sym c.as_slice-name-items.ensures) c.in_ok-names.ensures.ascending) c.loop-name-test.true here inv.gains w;
    }

pub walk_dir-returns-clause-walks : goal.walk_dir-returns-clause-walks
walk_dir-returns-clause-walks g t c =
    let told = g.S.Store.tree c.args.source.now in
    let d = dir_at c.args.walk.now.root.now c.args.items.now c.args.at in
    let names = c.as_slice-name-items.result.now in
    let among = subst (λ (ns : Names). IfSome told (λ s. AreNames s d.from ns)) (sym c.as_slice-name-items.ensures) (subst (λ (p : Names). IfSome told (λ s. AreNames s p c.in_ok-names.names)) c.dir_here-dir.ensures.from c.in_ok-names.ensures.names) in
    let end : c.loop-name.name-index ≡ length names = omega arith in
    dir_walked told (rules_of c.args.searches.now c.args.walk.now.without.now) c.args.walk.now.base.now d names c.loop-name.name-index c.args.items.now c.loop-name.items among end c.loop-name.invariant.gains
