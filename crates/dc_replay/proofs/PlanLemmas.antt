-- From entries to what is carried and placed.
use Rattle.std.proofs.Common.{◌≡◌, ◌⊎◌, inl, inr, ⊎_elim, ℕ, List, [], ◌∷◌, ◌++◌, true, false, Option, Some, None, length, refl, sym, ◌∙◌, ap, subst, append_assoc}
use Rattle.std.specs.List.{filter_map, list_any}
use Rattle.std.proofs.lemmas.Bool.{false_from_ne_true}
use Rattle.dc_attrs.specs.Trees.{IsTree, Tree}
use Rattle.dc_path.specs.Paths.{Names, same_path}
use Rattle.dc_report.specs.Carrying.{Carry, Has, Place, add_item, carries_of, carry_of, items_of, moved, new_gt, old_lt, place, place_from, place_of, plan, then_rest}
use Rattle.dc_report.specs.Apart.{HasOld, IsReport, OldsDiffer}
use Rattle.dc_replay.specs.Checking.{IsMovedDir, IsOff, Passes}
use Rattle.dc_report.specs.declared.entries.Entry.{Entry}
use Rattle.dc_report.specs.declared.entries.Entry.TheVariants.{Created, Deleted, Modified, Renamed}
use Rattle.dc_report.proofs.LandingLemmas.{items_sorted, news_differ, renamed_in}
use Rattle.dc_report.proofs.Sorting.{IsSorted, sort_has, has_sort, sort_sorted, AreApart}
use Rattle.dc_replay.proofs.Where.{IsPlaceOf, place_carry}
use Rattle.dc_replay.proofs.Allowed.{Checked}
use Rattle.dc_replay.proofs.TrueReport.{IsForm}
use Rattle.dc_path.proofs.PathOrder.{path_lt-connex}
use Rattle.dc_path.proofs.OrderLemmas.{path_lt-trans}
use Rattle.dc_path.proofs.PathLemmas.{same_path-true, same_ends, nil_is_no_end}
use Rattle.std.proofs.lemmas.Option.{same_Some}
use Rattle.dc_report.proofs.HasLemmas.{any_has, filter_map_has}

-- ---- the carries come from entries
abbrev pub ComesFrom : List Entry → Carry → Type 0
ComesFrom R c = (Has R (Deleted c.old) × (c.new ≡ None)) ⊎ ((b : Names) × Has R (Renamed c.old b) × (c.new ≡ Some b))

comes_by : (R : List Entry) (c : Carry) (e : Entry) → Has R e → carry_of e ≡ Some c → ComesFrom R c
comes_by R c (Deleted p) h e = let k = same_Some _ c e in inl (subst (λ (d : Carry). Has R (Deleted d.old)) k h, ap (λ (d : Carry). d.new) (sym k))
comes_by R c (Renamed a b) h e = let k = same_Some _ c e in inr (b, subst (λ (d : Carry). Has R (Renamed d.old b)) k h, ap (λ (d : Carry). d.new) (sym k))
comes_by R c (Created p) h e = absurd (cc)
comes_by R c (Modified p) h e = absurd (cc)

pub carry_from : (R : List Entry) (c : Carry) → Has (carries_of R) c → ComesFrom R c
carry_from R c h = let k = filter_map_has carry_of R c (sort_has old_lt (filter_map carry_of R) c h) in comes_by R c k.0 k.1 k.2

filtered_old : (R : List Entry) (c : Carry) → Has (filter_map carry_of R) c → HasOld R c.old
filtered_old [] c h = absurd h
filtered_old (Deleted p ∷ R) c (inl e) = inl (ap (λ (d : Carry). d.old) e)
filtered_old (Deleted p ∷ R) c (inr h) = inr (filtered_old R c h)
filtered_old (Renamed a b ∷ R) c (inl e) = inl (ap (λ (d : Carry). d.old) e)
filtered_old (Renamed a b ∷ R) c (inr h) = inr (filtered_old R c h)
filtered_old (Created p ∷ R) c h = inr (filtered_old R c h)
filtered_old (Modified p ∷ R) c h = inr (filtered_old R c h)

pub carry_old : (R : List Entry) (c : Carry) → Has (carries_of R) c → HasOld R c.old
carry_old R c h = filtered_old R c (sort_has old_lt (filter_map carry_of R) c h)

olds_apart : (R : List Entry) → OldsDiffer R → AreApart old_lt (filter_map carry_of R)
olds_apart [] d = tt
olds_apart (Deleted p ∷ R) d = ((λ c h. path_lt-connex p c.old (λ e. d.0 c.old (sym e) (filtered_old R c h))), olds_apart R d.1)
olds_apart (Renamed a b ∷ R) d = ((λ c h. path_lt-connex a c.old (λ e. d.0 c.old (sym e) (filtered_old R c h))), olds_apart R d.1)
olds_apart (Created p ∷ R) d = olds_apart R d.1
olds_apart (Modified p ∷ R) d = olds_apart R d.1

pub carries_sorted : (R : List Entry) → OldsDiffer R → IsSorted old_lt (carries_of R)
carries_sorted R d = sort_sorted old_lt (filter_map carry_of R) (λ a b c h k. path_lt-trans a.old b.old c.old h k) (olds_apart R d)

-- ---- the renamed items
added : (o : Option Names) (old : Names) (l : ℕ) (ns : List Place) (n : Place) → Has (add_item o old l ns) n → ((o ≡ Some n.new) × (old ≡ n.old) × (n.label ≡ l)) ⊎ Has ns n
added None old l ns n h = inr h
added (Some b) old l ns n (inl e) = inl (ap (λ (m : Place). Some m.new) (sym e), ap (λ (m : Place). m.old) (sym e), ap (λ (m : Place). m.label) e)
added (Some b) old l ns n (inr h) = inr h

items_place : (cs : List Carry) (n : Place) → Has (items_of cs) n → IsPlaceOf cs n
items_place [] n h = absurd h
items_place (c ∷ cs) n h = ⊎_elim (λ e. inl e) (λ k. inr (items_place cs n k)) (added c.new c.old (length cs) (items_of cs) n h)

add_has : (o : Option Names) (old : Names) (l : ℕ) (ns : List Place) (n : Place) → ((o ≡ Some n.new) × (old ≡ n.old) × (n.label ≡ l)) ⊎ Has ns n → Has (add_item o old l ns) n
add_has None old l ns n (inl e) = let f = e.0 in absurd (cc)
add_has None old l ns n (inr h) = h
add_has (Some b) old l ns n (inl e) = let b' : b ≡ n.new = same_Some b n.new e.0 in inl (same_place n b old l b' e.1 e.2)
  where
    same_place : (n : Place) (b old : Names) (l : ℕ) → b ≡ n.new → old ≡ n.old → n.label ≡ l → n ≡ record { new = b; old = old; label = l }
    same_place n b old l e f g = λ i. record { new = sym e i; old = sym f i; label = g i }
add_has (Some b) old l ns n (inr h) = inr h

place_items : (cs : List Carry) (n : Place) → IsPlaceOf cs n → Has (items_of cs) n
place_items [] n h = absurd h
place_items (c ∷ cs) n (inl e) = add_has c.new c.old (length cs) (items_of cs) n (inl e)
place_items (c ∷ cs) n (inr h) = add_has c.new c.old (length cs) (items_of cs) n (inr (place_items cs n h))

-- ---- the places of what is created
pub record PlaceParts (cs : List Carry) (c q : Names) : Type 0 where
  pub front : Names
  pub name : List ℕ
  pub to : Names
  pub path : c ≡ front ++ name ∷ []
  pub goes : moved cs front ≡ Some to
  pub place : q ≡ to ++ name ∷ []

then_parts : (o : Option Names) (r q : Names) → then_rest o r ≡ Some q → (b : Names) × (o ≡ Some b) × (q ≡ b ++ r)
then_parts None r q e = absurd (cc)
then_parts (Some b) r q e = (b, refl, cc)

place_from_parts : (cs : List Carry) (front : Names) (x : List ℕ) (p q : Names) → place_from cs front x p ≡ Some q → PlaceParts cs (front ++ x ∷ p) q
place_from_parts cs front x [] q e =
    let k = then_parts (moved cs front) (x ∷ []) q e in
    record { front = front; name = x; to = k.0; path = refl; goes = k.1; place = k.2 }
place_from_parts cs front x (y ∷ p) q e =
    subst (λ (c : Names). PlaceParts cs c q) (append_assoc front (x ∷ []) (y ∷ p)) (place_from_parts cs (front ++ x ∷ []) y p q e)

pub place_parts : (cs : List Carry) (c q : Names) → place cs c ≡ Some q → PlaceParts cs c q
place_parts cs [] q e = absurd (cc)
place_parts cs (x ∷ p) q e = place_from_parts cs [] x p q e

abbrev IsPlaced : List Carry → List Entry → Names → Type 0
IsPlaced cs R q = (c : Names) × Has R (Created c) × (place cs c ≡ Some q)

placed_by : (cs : List Carry) (R : List Entry) (q : Names) (e : Entry) → Has R e → place_of cs e ≡ Some q → IsPlaced cs R q
placed_by cs R q (Deleted p) h e = absurd (cc)
placed_by cs R q (Renamed a b) h e = absurd (cc)
placed_by cs R q (Created c) h e = (c, h, e)
placed_by cs R q (Modified p) h e = absurd (cc)

pub placed_from : (cs : List Carry) (R : List Entry) (q : Names) → list_any (λ p. same_path p q) (filter_map (place_of cs) R) ≡ true → IsPlaced cs R q
placed_from cs R q h =
    let k = any_has (λ p. same_path p q) (filter_map (place_of cs) R) h in
    let e = filter_map_has (place_of cs) R k.0 k.1 in
    placed_by cs R q e.0 e.1 (e.2 ∙ ap Some (same_path-true k.0 q k.2))

-- ---- the form of a report, and what the tests find
-- a carry with a new path is a renamed entry
pub renamed_from : (R : List Entry) (c : Carry) (b : Names) → Has (carries_of R) c → c.new ≡ Some b → Has R (Renamed c.old b)
renamed_from R c b h e = renamed_in R c b (sort_has old_lt (filter_map carry_of R) c h) e

pub place_renamed : (R : List Entry) (n : Place) → IsPlaceOf (carries_of R) n → Has R (Renamed n.old n.new)
place_renamed R n h = let c = place_carry (carries_of R) n h in subst (λ (a : Names). Has R (Renamed a n.new)) c.2 (renamed_from R c.0 n.new c.1 c.3)

pub news_sound : (R : List Entry) (n : Place) → Has (plan R).news n → IsPlaceOf (carries_of R) n
news_sound R n h = items_place (carries_of R) n (sort_has new_gt (items_of (carries_of R)) n h)

pub news_complete : (R : List Entry) (n : Place) → IsPlaceOf (carries_of R) n → Has (plan R).news n
news_complete R n h = has_sort new_gt (items_of (carries_of R)) n (place_items (carries_of R) n h)

-- nothing is created at the root
pub no_root : (R : List Entry) → list_any (λ c. same_path c []) (plan R).places ≡ false
no_root R = false_from_ne_true (list_any (λ c. same_path c []) (plan R).places) (λ h.
    let k = placed_from (carries_of R) R [] h in
    let g = place_parts (carries_of R) k.0 [] k.2 in
    nil_is_no_end g.to g.name g.place)

pub form_of : (st : List ℕ) (R : List Entry) → IsReport R → ((p : Names) → Has R (Deleted p) → IsOff st p) → ((a b : Names) → Has R (Renamed a b) → IsOff st a × IsOff st b) → IsForm st (plan R)
form_of st R is del ren = record {
  ascending = carries_sorted R is.olds;
  descending = items_sorted (carries_of R) (news_differ R is (carries_sorted R is.olds));
  sound = news_sound R;
  complete = news_complete R;
  olds_off = λ c h. ⊎_elim (λ g. del c.old g.0) (λ g. (ren c.old g.0 g.1).0) (carry_from R c h);
  news_off = λ n h. (ren n.old n.new (place_renamed R n (news_sound R n h))).1;
  no_root = no_root R;
}

pub created_at : (st : List ℕ) (R : List Entry) (A : Tree) → Passes st R A → (d : Names) (y : List ℕ) → list_any (λ c. same_path c (d ++ y ∷ [])) (plan R).places ≡ true → IsMovedDir R A d
created_at st R A ok d y h =
    let k = placed_from (carries_of R) R (d ++ y ∷ []) h in
    let g = place_parts (carries_of R) k.0 (d ++ y ∷ []) k.2 in
    let same : g.to ≡ d = (same_ends g.to d g.name y (sym g.place)).0 in
    let c = ok.created g.front g.name (subst (λ (u : Names). Has R (Created u)) g.path k.1) in
    (g.front, c.0, g.goes ∙ ap (λ (u : Names). Some u) same)

-- where the tests pass, the moves have all that they need
pub checked : (st : List ℕ) (R : List Entry) (A : Tree) → IsReport R → IsTree A → Passes st R A → Checked st (plan R) A
checked st R A is v ok =
    let form = form_of st R is ok.deleted_off ok.renamed_off in
    record {
      settled = record {
        valid = v;
        ascending = form.ascending;
        descending = form.descending;
        sound = form.sound;
        complete = form.complete;
        own = λ n p x h e m. ok.own n.old n.new p (place_renamed R n (form.sound n h)) (x, e) m;
      };
      stage = ok.stage;
      olds_off = form.olds_off;
      news_off = form.news_off;
      no_root = form.no_root;
      olds = λ c h. ⊎_elim (λ g. ok.deleted c.old g.0) (λ g. ok.renamed c.old g.0 g.1) (carry_from R c h);
      created = created_at st R A ok;
      landing = λ n d y h e. ok.parent n.old d y (subst (λ (b : Names). Has R (Renamed n.old b)) e (place_renamed R n (form.sound n h)));
      unmade = λ q p x m e g. ok.made q m p (x, e) g;
    }
