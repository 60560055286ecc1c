-- True reports pass the tests.
use Rattle.std.proofs.Common.{◌≡◌, ◌⊎◌, inl, inr, ⊎_elim, ℕ, List, [], ◌∷◌, ◌++◌, Bool, true, false, cond, ◌||◌, Option, Some, None, length, refl, sym, ◌∙◌, ap, subst}
use Rattle.std.specs.List.{filter_map, list_any}
use Rattle.std.proofs.lemmas.Bool.{and_parts, or_parts}
use Rattle.dc_attrs.specs.Attributes.{Attributes}
use Rattle.dc_attrs.specs.Trees.{Dir, File, IsDirAt, IsTree, Node, Tree, is_dir, IsThere}
use Rattle.dc_path.specs.Names.{same_name}
use Rattle.dc_path.specs.Paths.{Names, cut, is_above, has_name}
use Rattle.dc_report.specs.Carrying.{Carried, Carry, Has, Place, Stays, With, carried_by, carrier, carries_of, carry_of, is_fresh, moved_as, old_lt, place, plan, then_rest}
use Rattle.dc_replay.specs.Checking.{IsStageFree, IsMovedDir, Passes, is_to_be_made, where_to}
use Rattle.dc_report.specs.Apart.{IsReport}
use Rattle.dc_replay.specs.Truth.{HasNoHidden, HasSameKinds, IsTrueOf, kind, plain}
use Rattle.dc_report.specs.declared.entries.Entry.{Entry}
use Rattle.dc_report.specs.declared.entries.Entry.TheVariants.{Created, Renamed}
use Rattle.dc_report.proofs.Sorting.{has_sort}
use Rattle.dc_replay.proofs.Where.{IsPlaceOf, by_some, or_with}
use Rattle.dc_replay.proofs.Allowed.{Checked, above_rest}
use Rattle.dc_replay.proofs.TrueReport.{IsForm, IsTrueReport, true_passes}
use Rattle.dc_replay.proofs.PlanLemmas.{carry_from, form_of, placed_from, place_parts, place_renamed, renamed_from}
use Rattle.dc_path.proofs.PathLemmas.{same_ends}
use Rattle.std.proofs.lemmas.Option.{same_Some}
use Rattle.dc_report.proofs.HasLemmas.{any_has, has_filter_map}
use Rattle.std.proofs.lemmas.List.Folds.{list_any-append}
use Rattle.dc_replay.proofs.Final.{none_cond}
use Rattle.dc_report.proofs.Carriers.{carrier_rest}

-- ---- from a report that is true of O to one that is true of what has the same kinds
same_there : (a o : Option Node) (x : Node) → kind a ≡ kind o → o ≡ Some x → (y : Node) × (a ≡ Some y) × (is_dir y ≡ is_dir x)
same_there None o x k e = let f : None ≡ Some (is_dir x) = k ∙ ap kind e in absurd (cc)
same_there (Some y) o x k e = let f : Some (is_dir y) ≡ Some (is_dir x) = k ∙ ap kind e in (y, refl, cc)

dir_node : (y : Node) (a : Attributes) → is_dir y ≡ is_dir (Dir a) → (b : Attributes) × (y ≡ Dir b)
dir_node (Dir b) a e = (b, refl)
dir_node (File c b) a e = absurd (cc)

there_same : (A O : Tree) → ((p : Names) → kind (A p) ≡ kind (O p)) → (p : Names) → IsThere O p → IsThere A p
there_same A O k p t = let s = same_there (A p) (O p) t.0 (k p) t.1 in (s.0, s.1)

dir_same : (A O : Tree) → ((p : Names) → kind (A p) ≡ kind (O p)) → (p : Names) → IsDirAt O p → IsDirAt A p
dir_same A O k p d = let s = same_there (A p) (O p) (Dir d.0) (k p) d.1 in let y = dir_node s.0 d.0 s.2 in (y.0, s.1 ∙ ap (λ (u : Node). Some u) y.1)

pub true_same : (R : List Entry) (A O N : Tree) → ((p : Names) → kind (A p) ≡ kind (O p)) → IsTrueOf R O N → IsTrueOf R A N
true_same R A O N k t = record {
  deleted = λ p h. there_same A O k p (t.deleted p h);
  modified = λ x p h. there_same A O k (x ∷ p) (t.modified x p h);
  renamed = λ a b h. there_same A O k a (t.renamed a b h);
  apart = λ p q r a b. t.apart p q r (back p a) (back q b);
  leads = λ p q x e m. let s = same_there (O p) (A p) x (sym (k p)) e in let l = t.leads p q s.0 s.1 m in (l.0, l.1, sym s.2 ∙ l.2);
  created = λ d x h. let c = t.created d x h in (dir_same A O k d c.0, c.1);
  places = λ c q h e. let p = t.places c q h e in (p.0, λ u v m. p.1 u (back u v) m);
  fresh = λ q i h. t.fresh q i (λ u v m. h u (there_same A O k u v) m);
}
  where
    back : (p : Names) → IsThere A p → IsThere O p
    back p = there_same O A (λ q. sym (k q)) p

-- ---- to the form over the plan
pub plan_true : (st : List ℕ) (R : List Entry) (O N : Tree) → IsTrueOf R O N → IsTrueReport (plan R) O N
plan_true st R O N t = record {
  olds = λ c h. ⊎_elim (λ g. t.deleted c.old g.0) (λ g. t.renamed c.old g.0 g.1) (carry_from R c h);
  apart = t.apart;
  leads = t.leads;
  created = λ d y h.
      let k = placed_from (carries_of R) R (d ++ y ∷ []) h in
      let g = place_parts (carries_of R) k.0 (d ++ y ∷ []) k.2 in
      let same : g.to ≡ d = (same_ends g.to d g.name y (sym g.place)).0 in
      let c = t.created g.front g.name (subst (λ (u : Names). Has R (Created u)) g.path k.1) in
      (g.front, c.0, g.goes ∙ ap (λ (u : Names). Some u) same);
  places = λ q p h. let k = placed_from (carries_of R) R q h in (t.places k.0 q k.1 k.2).1 p;
  fresh = t.fresh;
}

-- ---- each renamed entry is one of the new paths
carry_item : (cs : List Carry) (c : Carry) (b : Names) → Has cs c → c.new ≡ Some b → (n : Place) × IsPlaceOf cs n × (n.old ≡ c.old) × (n.new ≡ b)
carry_item [] c b h e = absurd h
carry_item (d ∷ cs) c b (inl i) e = (record { new = b; old = d.old; label = length cs }, inl (sym (ap (λ (u : Carry). u.new) i) ∙ e, refl, refl), sym (ap (λ (u : Carry). u.old) i), refl)
carry_item (d ∷ cs) c b (inr h) e = let k = carry_item cs c b h e in (k.0, inr k.1, k.2, k.3)

pub renamed_item : (R : List Entry) (a b : Names) → Has R (Renamed a b) → (n : Place) × IsPlaceOf (carries_of R) n × (n.old ≡ a) × (n.new ≡ b)
renamed_item R a b h = carry_item (carries_of R) (record { old = a; new = Some b }) b (has_sort old_lt (filter_map carry_of R) (record { old = a; new = Some b }) (has_filter_map carry_of R (Renamed a b) (record { old = a; new = Some b }) h refl)) refl

-- ---- hidden paths stay out of it
hidden_append : (s : List ℕ) (p q : Names) → has_name s (p ++ q) ≡ (has_name s p || has_name s q)
hidden_append s p q = list_any-append (same_name s) p q

both_seen : (s : List ℕ) (p q : Names) → has_name s p ≡ false → has_name s q ≡ false → has_name s (p ++ q) ≡ false
both_seen s p q a b = hidden_append s p q ∙ rw (a, b) refl

seen_parts : (s : List ℕ) (p q : Names) → has_name s (p ++ q) ≡ false → (has_name s p ≡ false) × (has_name s q ≡ false)
seen_parts s p q h = or_parts (has_name s p) (has_name s q) (sym (hidden_append s p q) ∙ h)

pub plain_at : (s : List ℕ) (T : Tree) (p : Names) → has_name s p ≡ false → plain s T p ≡ T p
plain_at s T p h = rw h refl

pub plain_some : (b : Bool) (o : Option Node) (x : Node) → cond b None o ≡ Some x → (b ≡ false) × (o ≡ Some x)
plain_some true o x e = absurd (cc)
plain_some false o x e = (refl, e)

pub plain_valid : (s : List ℕ) (T : Tree) → IsTree T → IsTree (plain s T)
plain_valid s T v = record {
  root = v.root;
  parents = λ p x n e.
      let k = plain_some (has_name s (p ++ x ∷ [])) (T (p ++ x ∷ [])) n e in
      let d = v.parents p x n k.1 in
      (d.0, plain_at s T p (seen_parts s p (x ∷ []) k.0).0 ∙ d.1);
}

pub plain_there : (s : List ℕ) (T : Tree) (p : Names) → IsThere (plain s T) p → IsThere T p
plain_there s T p t = (t.0, (plain_some (has_name s p) (T p) t.0 t.1).1)

plain_dir : (s : List ℕ) (T : Tree) (p : Names) → IsDirAt (plain s T) p → IsDirAt T p
plain_dir s T p d = (d.0, (plain_some (has_name s p) (T p) (Dir d.0) d.1).1)

-- what carries a path stands among the carries
pub carrier_has : (cs : List Carry) (p : Names) (c : Carry) (r : Names) → carrier cs p ≡ With c r → Has cs c
carrier_has [] p c r e = absurd (cc)
carrier_has (d ∷ cs) p c r e =
    ⊎_elim (λ k. inr (carrier_has cs p c r k)) (λ k. inl (by_some c d (cut d.old p) r k.1).0) (or_with (carrier cs p) (carried_by d (cut d.old p)) c r e)

module _ (s : List ℕ) (R : List Entry) (seen : HasNoHidden s R) where
  old_seen : (c : Carry) → Has (carries_of R) c → has_name s c.old ≡ false
  old_seen c h = ⊎_elim (λ g. seen.deleted c.old g.0) (λ g. (seen.renamed c.old g.0 g.1).0) (carry_from R c h)

  new_seen : (c : Carry) (b : Names) → Has (carries_of R) c → c.new ≡ Some b → has_name s b ≡ false
  new_seen c b h e = (seen.renamed c.old b (renamed_from R c b h e)).1

  to_seen : (c : Carry) (q r : Names) (o : Option Names) → has_name s q ≡ false → c.new ≡ o → then_rest o r ≡ Some q → has_name s r ≡ false
  to_seen c q r None h n e = absurd (cc)
  to_seen c q r (Some b) h n e = (seen_parts s b r (rw (same_Some (b ++ r) q e) h)).1

  from_at : (p q : Names) (k : Carried) → has_name s q ≡ false → carrier (carries_of R) p ≡ k → moved_as p k ≡ Some q → has_name s p ≡ false
  from_at p q Stays h e m = rw (same_Some p q m) h
  from_at p q (With c r) h e m =
      let k : p ≡ c.old ++ r = carrier_rest (carries_of R) p c r e in
      rw k (both_seen s c.old r (old_seen c (carrier_has (carries_of R) p c r e)) (to_seen c q r c.new h refl m))

  -- a path that is moved to one that is not hidden is not hidden
  pub from_seen : (p q : Names) → has_name s q ≡ false → where_to R p ≡ Some q → has_name s p ≡ false
  from_seen p q h m = from_at p q (carrier (carries_of R) p) h refl m

  goes_seen : (p q r : Names) (c : Carry) (o : Option Names) → has_name s r ≡ false → Has (carries_of R) c → c.new ≡ o → then_rest o r ≡ Some q → has_name s q ≡ false
  goes_seen p q r c None h i n e = absurd (cc)
  goes_seen p q r c (Some b) h i n e = rw (sym (same_Some (b ++ r) q e)) (both_seen s b r (new_seen c b i n) h)

  goes_at : (p q : Names) (k : Carried) → has_name s p ≡ false → carrier (carries_of R) p ≡ k → moved_as p k ≡ Some q → has_name s q ≡ false
  goes_at p q Stays h e m = rw (sym (same_Some p q m)) h
  goes_at p q (With c r) h e m =
      let k : p ≡ c.old ++ r = carrier_rest (carries_of R) p c r e in
      goes_seen p q r c c.new (seen_parts s c.old r (rw k at h)).1 (carrier_has (carries_of R) p c r e) refl m

  -- and the other way round
  to_is_seen : (p q : Names) → has_name s p ≡ false → where_to R p ≡ Some q → has_name s q ≡ false
  to_is_seen p q h m = goes_at p q (carrier (carries_of R) p) h refl m

  place_seen : (c q : Names) → Has R (Created c) → place (carries_of R) c ≡ Some q → has_name s q ≡ false
  place_seen c q h e =
      let g = place_parts (carries_of R) c q e in
      let k = seen_parts s g.front (g.name ∷ []) (rw g.path at (seen.created c h)) in
      rw g.place (both_seen s g.to (g.name ∷ []) (to_is_seen g.front g.to k.0 g.goes) k.1)

  made_seen : (q : Names) (ns : List Place) → ((n : Place) → Has ns n → has_name s n.new ≡ false) → list_any (λ n. is_above q n.new) ns ≡ true → has_name s q ≡ false
  made_seen q ns h e =
      let k = any_has (λ n. is_above q n.new) ns e in
      let r = above_rest q k.0.new k.2 in
      (seen_parts s q (r.name ∷ r.rest) (rw r.path at (h k.0 k.1))).0

-- ---- a true report passes the tests on a tree with the kinds of the earlier one
pub true_makes_check_pass : (s st : List ℕ) (R : List Entry) (A O N : Tree) → IsReport R → HasNoHidden s R → IsStageFree st R A → IsTree A → IsTree N → HasSameKinds s A O → IsTrueOf R O N → Passes st R A
true_makes_check_pass s st R A O N is seen free v w same t = record {
  stage = free.stage;
  deleted_off = free.deleted;
  renamed_off = free.renamed;
  deleted = λ p h. plain_there s A p (ta.deleted p h);
  modified = λ x p h. plain_there s A (x ∷ p) (ta.modified x p h);
  renamed = λ a b h. plain_there s A a (ta.renamed a b h);
  created = λ d x h. let c = ta.created d x h in (plain_dir s A d c.0, c.1);
  own = own;
  parent = parent;
  places = λ c q h e p i m. (ta.places c q h e).1 p (there p q (place_seen s R seen c q h e) i m) m;
  made = λ q h p i m. let j = there p q (made_q q h) i m in ok.unmade q p j.0 h j.1 m;
}
  where
    ta : IsTrueOf R (plain s A) N
    ta = true_same R (plain s A) O N same t

    form : IsForm st (plan R)
    form = form_of st R is free.deleted free.renamed

    free_plain : plain s A (st ∷ []) ≡ None
    free_plain = rw free.stage (none_cond (has_name s (st ∷ [])))

    ok : Checked st (plan R) (plain s A)
    ok = true_passes st (plan R) (plain s A) N form (plan_true st R (plain s A) N ta) (plain_valid s A v) w free_plain

    there : (p q : Names) → has_name s q ≡ false → IsThere A p → where_to R p ≡ Some q → IsThere (plain s A) p
    there p q h i m = (i.0, plain_at s A p (from_seen s R seen p q h m) ∙ i.1)

    own : (a b p : Names) → Has R (Renamed a b) → IsThere A p → where_to R p ≡ Some b → p ≡ a
    own a b p h i m =
        let n = renamed_item R a b h in
        let j = there p b (seen.renamed a b h).1 i m in
        ok.settled.own n.0 p j.0 (form.complete n.0 n.1) j.1 (m ∙ ap (λ (u : Names). Some u) (sym n.3)) ∙ n.2

    parent : (a d : Names) (x : List ℕ) → Has R (Renamed a (d ++ x ∷ [])) → (d ≡ []) ⊎ (IsMovedDir R A d ⊎ (is_to_be_made R d ≡ true))
    parent a d x h =
        let n = renamed_item R a (d ++ x ∷ []) h in
        ⊎_elim (λ i. inl i) (λ i. inr (⊎_elim (λ j. inl (j.0, plain_dir s A j.0 j.1, j.2)) (λ j. inr j) i)) (ok.landing n.0 d x (form.complete n.0 n.1) n.3)

    made_q : (q : Names) → is_to_be_made R q ≡ true → has_name s q ≡ false
    made_q q h = made_seen s R seen q (plan R).news (λ n i. (seen.renamed n.old n.new (place_renamed R n (form.sound n i))).1) (and_parts (is_fresh (plan R) q) (list_any (λ n. is_above q n.new) (plan R).news) h).1
