-- The definitions say what their words mean.
use Rattle.std.proofs.Common.{◌≡◌, ◌⊎◌, inl, inr, ⊎_elim, ℕ, ◌+◌, List, [], ◌∷◌, ◌++◌, Bool, true, false, not, ◌&&◌, ◌||◌, Option, Some, None, length, refl, sym, ◌∙◌, ap, subst, arith, append_assoc, length-append}
use Rattle.std.specs.List.{filter_map, list_any}
use Rattle.std.proofs.lemmas.List.{append-nil, append_cancel_left}
use Rattle.std.proofs.lemmas.Bool.{and_parts, false_from_ne_true, and_from, or_cases, or_left, or_right}
use Rattle.dc_path.specs.Order.{path_lt}
use Rattle.dc_path.specs.Paths.{Names, cut, is_above, same_path}
use Rattle.dc_path.proofs.PathLemmas.{Last, append-cut, by_last_name, cut-append, empty, ended, last_case, same_ends, same_path-refl, same_path-true, not_under}
use Rattle.dc_report.specs.Apart.{IsReport}
use Rattle.dc_report.specs.Carrying.{Carried, Carry, Has, Place, Stays, With, carried_by, carrier, carries_of, carry_of, is_fresh, old_lt, place, place_of, plan}
use Rattle.dc_report.specs.declared.entries.Entry.{Entry}
use Rattle.dc_report.specs.declared.entries.Entry.TheVariants.{Created, Deleted, Modified, Renamed}
use Rattle.dc_report.proofs.Carriers.{place_last, carrier_stays, carrier_rest}
use Rattle.dc_path.proofs.PathOrder.{cut-longer, is_above-by_cut, is_rest}
use Rattle.dc_report.proofs.Sorting.{has_sort}
use Rattle.dc_replay.specs.Words.{IsBelowPlace, IsLongestOld, IsParentToMake, LeadsByLongest, TakesModified, WordsMean}
use Rattle.dc_replay.specs.Truth.{is_listed, takes_modified}
use Rattle.dc_report.specs.Landings.{is_at}
use Rattle.dc_replay.proofs.Final.{leads_true}
use Rattle.dc_replay.specs.Checking.{is_to_be_made, where_to}
use Rattle.dc_report.proofs.HasLemmas.{any_has, has_any, has_filter_map}
use Rattle.dc_replay.proofs.Staging.{IsAscending}
use Rattle.dc_replay.proofs.Where.{by_some, by_none, or_with, or_none}
use Rattle.dc_report.proofs.WalkLemmas.{fresh_snoc}
use Rattle.dc_replay.proofs.Allowed.{above_rest, none_or, verdict_true}
use Rattle.dc_replay.proofs.Testing.{has_any_path}
use Rattle.dc_replay.proofs.TrueReport.{any_new, root_fresh}
use Rattle.dc_replay.proofs.TrueEntries.{carrier_has, renamed_item}
use Rattle.dc_replay.proofs.PlanLemmas.{carry_old, carries_sorted, news_complete, news_sound, no_root, place_parts, place_renamed, placed_from}

-- ---- the longest old path decides
stays_none : (cs : List Carry) (p : Names) (d : Carry) → carrier cs p ≡ Stays → Has cs d → cut d.old p ≡ None
stays_none [] p d e h = absurd h
stays_none (c ∷ cs) p d e (inl i) = let k = or_none (carrier cs p) (carried_by c (cut c.old p)) e in rw i (by_none c (cut c.old p) k.1)
stays_none (c ∷ cs) p d e (inr h) = stays_none cs p d (or_none (carrier cs p) (carried_by c (cut c.old p)) e).0 h

carrier_top : (cs : List Carry) (p : Names) (c : Carry) (r : Names) (d : Carry) (s : Names) → IsAscending cs → carrier cs p ≡ With c r → Has cs d → cut d.old p ≡ Some s → (d ≡ c) ⊎ (path_lt d.old c.old ≡ true)
carrier_top [] p c r d s a e h f = absurd h
carrier_top (x ∷ cs) p c r d s a e (inl i) f =
    ⊎_elim (λ k. inr (rw i (a.0 c (carrier_has cs p c r k)))) (λ k. inl (i ∙ sym (by_some c x (cut x.old p) r k.1).0)) (or_with (carrier cs p) (carried_by x (cut x.old p)) c r e)
carrier_top (x ∷ cs) p c r d s a e (inr h) f =
    ⊎_elim (λ k. carrier_top cs p c r d s a.1 k h f) (λ k. let no : Some s ≡ None = sym f ∙ stays_none cs p d k.0 h in absurd (cc)) (or_with (carrier cs p) (carried_by x (cut x.old p)) c r e)

-- an entry carries a path where its old path is the longest front of it
carried_as : (R : List Entry) (c : Carry) (r : Names) → IsReport R → Has (carries_of R) c → IsLongestOld R c.old (c.old ++ r) → carrier (carries_of R) (c.old ++ r) ≡ With c r
carried_as R c r is h longest = by_carrier (carrier (carries_of R) (c.old ++ r)) refl
  where
    cs : List Carry
    cs = carries_of R

    own : cut c.old (c.old ++ r) ≡ Some r
    own = cut-append c.old r

    same : (d : Carry) (s : Names) → c ≡ d → c.old ++ r ≡ d.old ++ s → With d s ≡ With c r
    same d s i e =
        let k : r ≡ s = append_cancel_left c.old r s (e ∙ ap (λ (u : Carry). u.old ++ s) (sym i)) in
        ap (λ (u : Carry). With u s) (sym i) ∙ ap (With c) (sym k)

    longer : (d : Carry) (s : Names) → carrier cs (c.old ++ r) ≡ With d s → path_lt c.old d.old ≡ true → ⊥
    longer d s e l =
        let p = carrier_rest cs (c.old ++ r) d s e in
        let k = cut-longer c.old d.old (c.old ++ r) r s l own (ap (cut d.old) p ∙ cut-append d.old s) in
        let n = longest d.old s (carry_old R d (carrier_has cs (c.old ++ r) d s e)) p in
        let m : length d.old ≡ length c.old + length (k.0 ∷ k.1) = ap length k.2 ∙ length-append c.old (k.0 ∷ k.1) in
        omega arith

    by_carrier : (k : Carried) → carrier cs (c.old ++ r) ≡ k → carrier cs (c.old ++ r) ≡ With c r
    by_carrier Stays e = let no : Some r ≡ None = sym own ∙ stays_none cs (c.old ++ r) c e h in absurd (cc)
    by_carrier (With d s) e = ⊎_elim (λ i. e ∙ same d s i (carrier_rest cs (c.old ++ r) d s e)) (λ l. absurd (longer d s e l))
        (carrier_top cs (c.old ++ r) d s c r (carries_sorted R is.olds) e h own)

carry_has : (R : List Entry) (e : Entry) (c : Carry) → Has R e → carry_of e ≡ Some c → Has (carries_of R) c
carry_has R e c h k = has_sort old_lt (filter_map carry_of R) c (has_filter_map carry_of R e c h k)

leads_by_longest : (R : List Entry) → IsReport R → LeadsByLongest R
leads_by_longest R is = record {
  stays = λ p off. rw (carrier_stays (carries_of R) p (λ d h. none_or (cut d.old p) (λ s e. off d.old s (carry_old R d h) (append-cut d.old p s e)))) refl;
  deleted = λ a r h l. rw (carried_as R (record { old = a; new = None }) r is (carry_has R (Deleted a) (record { old = a; new = None }) h refl) l) refl;
  renamed = λ a b r h l. rw (carried_as R (record { old = a; new = Some b }) r is (carry_has R (Renamed a b) (record { old = a; new = Some b }) h refl) l) refl;
  placed = place_last (carries_of R);
}

-- ---- what is fresh stands below a place
new_none : (ns : List Place) (q : Names) → ((n : Place) → Has ns n → n.new ≡ q → ⊥) → list_any (λ n. same_path n.new q) ns ≡ false
new_none ns q h = false_from_ne_true (list_any (λ n. same_path n.new q) ns) (λ e. let k = any_has (λ n. same_path n.new q) ns e in h k.0 k.1 (same_path-true k.0.new q k.2))

verdict_more : (a b c : Bool) → b ≡ false → c ≡ true → (a || (not b && c)) ≡ true
verdict_more a b c e f = or_right a (not b && c) (and_from (not b) c (ap not e) f)

module _ (R : List Entry) where
  -- a place stands below itself
  place_itself : (c q : Names) → Has R (Created c) → place (carries_of R) c ≡ Some q → IsBelowPlace R q
  place_itself c q h e = record { created = c; top = q; rest = []; has = h; goes = e; path = sym (append-nil q); alone = λ a s t x i f. not_under q x s t f }

  -- and so does each child that is no new path
  below_more : (d : Names) (x : List ℕ) → IsBelowPlace R d → list_any (λ n. same_path n.new (d ++ x ∷ [])) (plan R).news ≡ false → IsBelowPlace R (d ++ x ∷ [])
  below_more d x b no_new = record {
    created = b.created;
    top = b.top;
    rest = b.rest ++ x ∷ [];
    has = b.has;
    goes = b.goes;
    path = ap (λ (u : Names). u ++ x ∷ []) b.path ∙ append_assoc b.top b.rest (x ∷ []);
    alone = λ a s t y i e. by_last a s t y i e (last_case t);
  }
    where
      by_last : (a s t : Names) (y : List ℕ) → Has R (Renamed a (b.top ++ y ∷ s)) → d ++ x ∷ [] ≡ (b.top ++ y ∷ s) ++ t → Last t → ⊥
      by_last a s t y i e (empty f) =
          let n = renamed_item R a (b.top ++ y ∷ s) i in
          let k : n.0.new ≡ d ++ x ∷ [] = n.3 ∙ sym (append-nil (b.top ++ y ∷ s)) ∙ ap (λ (u : Names). (b.top ++ y ∷ s) ++ u) (sym f) ∙ sym e in
          let no : true ≡ false = sym (any_new (plan R).news n.0 (d ++ x ∷ []) (news_complete R n.0 n.1) k) ∙ no_new in cc
      by_last a s t y i e (ended u z f) =
          b.alone a s u y i (same_ends d ((b.top ++ y ∷ s) ++ u) x z (e ∙ ap (λ (v : Names). (b.top ++ y ∷ s) ++ v) f ∙ sym (append_assoc (b.top ++ y ∷ s) u (z ∷ [])))).0

  fresh_below : (q : Names) → is_fresh (plan R) q ≡ true → IsBelowPlace R q
  fresh_below = by_last_name (λ q. is_fresh (plan R) q ≡ true → IsBelowPlace R q)
      (λ f. let e : true ≡ false = sym f ∙ root_fresh (plan R) (no_root R) in absurd (cc))
      (λ d x ih f. ⊎_elim (λ i. let k = placed_from (carries_of R) R (d ++ x ∷ []) i in place_itself k.0 (d ++ x ∷ []) k.1 k.2)
      (λ i. below_more d x (ih i.1) i.0)
      (verdict_true (list_any (λ c. same_path c (d ++ x ∷ [])) (plan R).places) (list_any (λ n. same_path n.new (d ++ x ∷ [])) (plan R).news) (is_fresh (plan R) d) (sym (fresh_snoc (plan R) d x) ∙ f)))

  place_fresh : (c q : Names) → Has R (Created c) → place (carries_of R) c ≡ Some q → is_fresh (plan R) q ≡ true
  place_fresh c q h e =
      let g = place_parts (carries_of R) c q e in
      let k : list_any (λ p. same_path p q) (plan R).places ≡ true = has_any_path (plan R).places q (has_filter_map (place_of (carries_of R)) R (Created c) q h e) in
      ap (is_fresh (plan R)) g.place ∙ fresh_snoc (plan R) g.to g.name
      ∙ or_left (list_any (λ p. same_path p (g.to ++ g.name ∷ [])) (plan R).places) (not (list_any (λ n. same_path n.new (g.to ++ g.name ∷ [])) (plan R).news) && is_fresh (plan R) g.to)
      (sym (ap (λ (u : Names). list_any (λ p. same_path p u) (plan R).places) g.place) ∙ k)

  -- a rest with a last name has a first one
  starts : (u r : Names) (x : List ℕ) → (y : List ℕ) × (s : Names) × (u ++ (r ++ x ∷ []) ≡ u ++ y ∷ s)
  starts u [] x = (x, [], refl)
  starts u (z ∷ r) x = (z, r ++ x ∷ [], refl)

  below_fresh_at : (c u : Names) → Has R (Created c) → place (carries_of R) c ≡ Some u → (r : Names) → ((a s t : Names) (x : List ℕ) → Has R (Renamed a (u ++ x ∷ s)) → u ++ r ≡ (u ++ x ∷ s) ++ t → ⊥) → is_fresh (plan R) (u ++ r) ≡ true
  below_fresh_at c u h g = by_last_name (λ r. ((a s t : Names) (x : List ℕ) → Has R (Renamed a (u ++ x ∷ s)) → u ++ r ≡ (u ++ x ∷ s) ++ t → ⊥) → is_fresh (plan R) (u ++ r) ≡ true)
      (λ alone. ap (is_fresh (plan R)) (append-nil u) ∙ place_fresh c u h g)
      (λ r x ih alone.
      let path : u ++ (r ++ x ∷ []) ≡ (u ++ r) ++ x ∷ [] = sym (append_assoc u r (x ∷ [])) in
      let f = ih (λ a s t y i e. alone a s (t ++ x ∷ []) y i (path ∙ ap (λ (v : Names). v ++ x ∷ []) e ∙ append_assoc (u ++ y ∷ s) t (x ∷ []))) in
      ap (is_fresh (plan R)) path ∙ fresh_snoc (plan R) (u ++ r) x
      ∙ verdict_more (list_any (λ p. same_path p ((u ++ r) ++ x ∷ [])) (plan R).places) (list_any (λ n. same_path n.new ((u ++ r) ++ x ∷ [])) (plan R).news) (is_fresh (plan R) (u ++ r)) (no_new r x path alone) f)
    where
      no_new : (r : Names) (x : List ℕ) → u ++ (r ++ x ∷ []) ≡ (u ++ r) ++ x ∷ [] → ((a s t : Names) (y : List ℕ) → Has R (Renamed a (u ++ y ∷ s)) → u ++ (r ++ x ∷ []) ≡ (u ++ y ∷ s) ++ t → ⊥) → list_any (λ n. same_path n.new ((u ++ r) ++ x ∷ [])) (plan R).news ≡ false
      no_new r x path alone = new_none (plan R).news ((u ++ r) ++ x ∷ []) (λ n i e.
          let k = starts u r x in
          let new : n.new ≡ u ++ k.0 ∷ k.1 = e ∙ sym path ∙ k.2 in
          alone n.old k.1 [] k.0 (subst (λ (v : Names). Has R (Renamed n.old v)) new (place_renamed R n (news_sound R n i))) (k.2 ∙ sym (append-nil (u ++ k.0 ∷ k.1))))

  below_fresh : (q : Names) → IsBelowPlace R q → is_fresh (plan R) q ≡ true
  below_fresh q b = ap (is_fresh (plan R)) b.path ∙ below_fresh_at b.created b.top b.has b.goes b.rest (λ a s t x i e. b.alone a s t x i (b.path ∙ e))

-- ---- which parents are to be made
parent_from : (R : List Entry) (q : Names) → is_to_be_made R q ≡ true → IsParentToMake R q
parent_from R q h =
    let k = and_parts (is_fresh (plan R) q) (list_any (λ n. is_above q n.new) (plan R).news) h in
    let n = any_has (λ n. is_above q n.new) (plan R).news k.1 in
    let r = above_rest q n.0.new n.2 in
    record {
      below = fresh_below R q k.0;
      old = n.0.old;
      name = r.name;
      rest = r.rest;
      has = subst (λ (u : Names). Has R (Renamed n.0.old u)) r.path (place_renamed R n.0 (news_sound R n.0 n.1));
    }

parent_to : (R : List Entry) (q : Names) → IsParentToMake R q → is_to_be_made R q ≡ true
parent_to R q k =
    let n = renamed_item R k.old (q ++ k.name ∷ k.rest) k.has in
    and_from (is_fresh (plan R) q) (list_any (λ n. is_above q n.new) (plan R).news) (below_fresh R q k.below)
    (has_any (λ n. is_above q n.new) (plan R).news n.0 (news_complete R n.0 n.1) (ap (is_above q) n.3 ∙ above_itself))
  where
    above_itself : is_above q (q ++ k.name ∷ k.rest) ≡ true
    above_itself = is_above-by_cut q (q ++ k.name ∷ k.rest) ∙ ap is_rest (cut-append q (k.name ∷ k.rest))

-- ---- what is listed
taken_by : (R : List Entry) (q : Names) (e : Entry) → Has R e → takes_modified R q e ≡ true → TakesModified R q
taken_by R q (Deleted p) h k = absurd (cc)
taken_by R q (Renamed a b) h k = absurd (cc)
taken_by R q (Created c) h k = absurd (cc)
taken_by R q (Modified []) h k = absurd (cc)
taken_by R q (Modified (x ∷ p)) h k = record { name = x; rest = p; has = h; goes = leads_true (where_to R (x ∷ p)) q k }

listed_from : (R : List Entry) (q : Names) → is_listed R q ≡ true → IsBelowPlace R q ⊎ TakesModified R q
listed_from R q h = ⊎_elim (λ f. inl (fresh_below R q f)) (λ t. let k = any_has (takes_modified R q) R t in inr (taken_by R q k.0 k.1 k.2))
    (or_cases (is_fresh (plan R) q) (list_any (takes_modified R q) R) h)

listed_to : (R : List Entry) (q : Names) → IsBelowPlace R q ⊎ TakesModified R q → is_listed R q ≡ true
listed_to R q (inl b) = or_left (is_fresh (plan R) q) (list_any (takes_modified R q) R) (below_fresh R q b)
listed_to R q (inr t) = or_right (is_fresh (plan R) q) (list_any (takes_modified R q) R)
    (has_any (takes_modified R q) R (Modified (t.name ∷ t.rest)) t.has (ap (λ (u : Option Names). is_at u q) t.goes ∙ same_path-refl q))

pub words_mean : WordsMean
words_mean R is = record {
  leads = leads_by_longest R is;
  fresh = λ q. (fresh_below R q, below_fresh R q);
  made = λ q. (parent_from R q, parent_to R q);
  listed = λ q. (listed_from R q, listed_to R q);
}
