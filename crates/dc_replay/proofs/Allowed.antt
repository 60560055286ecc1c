-- Each placing move finds what it needs.
use Rattle.std.proofs.Common.{◌≡◌, ◌⊎◌, inl, inr, ⊎_elim, ℕ, ◌≤◌, List, [], ◌∷◌, ◌++◌, Bool, true, false, cond, ◌&&◌, ◌||◌, not, Option, Some, None, length, refl, sym, ◌∙◌, ap, subst, arith, append_assoc, map, length-append}
use Rattle.std.specs.List.{list_any, filter}
use Rattle.std.proofs.lemmas.List.{append-nil}
use Rattle.std.proofs.lemmas.Bool.{and_parts, false_from_ne_true, and_right}
use Rattle.dc_attrs.specs.Attributes.{default_dir}
use Rattle.dc_attrs.specs.Trees.{Dir, IsDirAt, Node, Tree, with_node, IsThere}
use Rattle.dc_path.specs.Order.{path_lt}
use Rattle.dc_path.specs.Paths.{Names, at_cut, cut, same_path, is_above}
use Rattle.dc_path.proofs.Fronts.{above_append}
use Rattle.dc_report.proofs.WalkLemmas.{fresh_snoc}
use Rattle.dc_report.specs.Carrying.{Carry, Has, Place, Plan, Stays, With, carrier, is_fresh, is_made, moved}
use Rattle.dc_replay.specs.Arrivals.{From, arrival}
use Rattle.dc_replay.specs.Checking.{IsOff}
use Rattle.dc_replay.specs.Steps.{AreAllowed, IsAllowed}
use Rattle.dc_report.specs.Moves.{fronts, is_new_parent, parents, placing, label_of}
use Rattle.dc_report.specs.declared.entries.Move.TheVariants.{Make, Shift}
use Rattle.dc_replay.proofs.Staging.{allowed-append, staged, IsAscending}
use Rattle.dc_replay.proofs.Where.{IsPlaceOf, arrived, arrived_as, IsDescending, slot_own, carrier_own, OwnCarry, arrived_came, CameFrom, IsSettled, moved_arrives, place_carry}
use Rattle.dc_replay.proofs.Placing.{placed, makes_give, prepared, IsPart, part_tail, fresh_label, placing_gives, prepared_stage, prepared_at, none_above}
use Rattle.dc_path.proofs.PathOrder.{is_above-by_cut, is_rest, cut-less, path_lt-irrefl, path_lt-asym, above_less}
use Rattle.dc_path.proofs.PathLemmas.{cut-append, append-cut, same_path-refl, same_path-true, Ended, ended_cons}
use Rattle.dc_path.proofs.OrderLemmas.{path_lt-trans}
use Rattle.dc_report.proofs.HasLemmas.{has_any}
use Rattle.dc_report.proofs.Lists.{both_so}
use Rattle.dc_report.proofs.Carriers.{carrier_stays}
use Rattle.dc_attrs.proofs.TreeChanges.{dir_or, dir_kept}

-- ---- the last name of a path
pub ended_off : (st : List ℕ) (p : Names) → IsOff st p → Ended p
ended_off st p off = subst (λ (q : Names). Ended q) (sym off.path) (ended_cons off.first off.rest)

-- ---- what the tests have found, and what the form of a report gives
pub record Checked (st : List ℕ) (P : Plan) (A : Tree) : Type 0 where
  pub settled : IsSettled P.carries P.news A
  pub stage : A (st ∷ []) ≡ None
  pub olds_off : (c : Carry) → Has P.carries c → IsOff st c.old
  pub news_off : (n : Place) → Has P.news n → IsOff st n.new
  pub no_root : list_any (λ c. same_path c []) P.places ≡ false
  -- what is carried away stands, and what is created has a directory that stays
  pub olds : (c : Carry) → Has P.carries c → IsThere A c.old
  pub created : (d : Names) (y : List ℕ) → list_any (λ c. same_path c (d ++ y ∷ [])) P.places ≡ true → (p : Names) × IsDirAt A p × (moved P.carries p ≡ Some d)
  -- each new path has a parent to land in
  pub landing : (n : Place) (d : Names) (y : List ℕ) → Has P.news n → n.new ≡ d ++ y ∷ [] → (d ≡ []) ⊎ (((p : Names) × IsDirAt A p × (moved P.carries p ≡ Some d)) ⊎ (is_made P P.news d ≡ true))
  -- nothing is moved to a parent that is to be made
  pub unmade : (q p : Names) (x : Node) → is_made P P.news q ≡ true → A p ≡ Some x → moved P.carries p ≡ Some q → ⊥

-- ---- only the new paths below a path decide what stands there
abbrev pub Agrees : List Carry → Tree → List Place → List Place → Type 0
Agrees cs A all [] = Unit {0}
Agrees cs A all (n ∷ ns) = (q : Names) → path_lt q n.new ≡ true → arrived cs A all q ≡ arrived cs A (n ∷ ns) q

agree_below : (cs : List Carry) (A : Tree) (all ns : List Place) (n : Place) (q : Names) → Agrees cs A all (n ∷ ns) → path_lt q n.new ≡ true → arrived cs A all q ≡ arrived cs A ns q
agree_below cs A all ns n q g l = g q l ∙ ap (λ (k : Option Names). arrived_as cs A q (at_cut k (arrival ns q) (λ r. From n r))) (cut-less n.new q l)

agree_tail : (cs : List Carry) (A : Tree) (all ns : List Place) (n : Place) → Agrees cs A all (n ∷ ns) → IsDescending (n ∷ ns) → Agrees cs A all ns
agree_tail cs A all [] n g d = tt
agree_tail cs A all (m ∷ ns) n g d = λ q l. agree_below cs A all (m ∷ ns) n q g (path_lt-trans q m.new n.new l (d.0 m (inl refl)))

pub agree_all : (cs : List Carry) (A : Tree) (all : List Place) → Agrees cs A all all
agree_all cs A [] = tt
agree_all cs A (n ∷ ns) = λ q l. refl

-- ---- directories
pub record Rest (d t : Names) : Type 0 where
  pub name : List ℕ
  pub rest : Names
  pub path : t ≡ d ++ name ∷ rest

pub rest_of : (d t : Names) (o : Option Names) → cut d t ≡ o → is_rest o ≡ true → Rest d t
rest_of d t None e h = absurd (cc)
rest_of d t (Some []) e h = absurd (cc)
rest_of d t (Some (x ∷ r)) e h = record { name = x; rest = r; path = append-cut d t (x ∷ r) e }

pub above_rest : (d t : Names) → is_above d t ≡ true → Rest d t
above_rest d t h = rest_of d t (cut d t) refl (sym (is_above-by_cut d t) ∙ h)

front_at : (st : List ℕ) (d t : Names) → IsOff st t → Rest d t → cut (st ∷ []) d ≡ None
front_at st [] t off r = refl
front_at st (z ∷ d) t off r =
    let e : z ∷ (d ++ r.name ∷ r.rest) ≡ off.first ∷ off.rest = sym r.path ∙ off.path in
    let f : z ≡ off.first = cc in
    rw (f, off.other) refl

front_off : (st : List ℕ) (d t : Names) → IsOff st t → is_above d t ≡ true → cut (st ∷ []) d ≡ None
front_off st d t off h = front_at st d t off (above_rest d t h)

module _ (st : List ℕ) (P : Plan) (A : Tree) (ok : Checked st P A) where
  -- a directory stands where it is moved to, once the new paths below are placed
  dir_below : (n : Place) (ns : List Place) (d p : Names) → IsOff st n.new → Agrees P.carries A P.news (n ∷ ns) → is_above d n.new ≡ true → IsDirAt A p → moved P.carries p ≡ Some d → IsDirAt (placed st P A ns) d
  dir_below n ns d p off g h is e =
      let a = moved_arrives P.carries P.news A p d (Dir is.0) ok.settled is.1 e in
      let b = agree_below P.carries A P.news ns n d g (above_less d n.new h) in
      rw (front_off st d n.new off h) (dir_or (is_made P ns d) (arrived P.carries A ns d) (is.0, sym b ∙ a))

  made_dir : (n : Place) (ns : List Place) (d : Names) → IsOff st n.new → is_above d n.new ≡ true → is_made P ns d ≡ true → IsDirAt (placed st P A ns) d
  made_dir n ns d off h m = (default_dir, rw (front_off st d n.new off h, m) refl)

pub verdict_true : (a b c : Bool) → (a || (not b && c)) ≡ true → (a ≡ true) ⊎ ((b ≡ false) × (c ≡ true))
verdict_true true b c h = inl refl
verdict_true false true c h = absurd (cc)
verdict_true false false c h = inr (refl, h)

old_parent : (f m : Bool) → (f && not m) ≡ false → f ≡ true → m ≡ true
old_parent true true h e = refl
old_parent true false h e = absurd (cc)
old_parent false m h e = absurd (cc)

longer_path : (front q : Names) (x : List ℕ) → length (front ++ x ∷ []) ≤ length q → same_path front q ≡ false
longer_path front q x h = false_from_ne_true (same_path front q) (λ k.
    let e : length front ≡ length q = ap length (same_path-true front q k) in
    let l = length-append front (x ∷ []) in
    absurd (omega arith))

-- the makes for one new path, from a front on
makes_allowed : (f : Names → Bool) (new : Names) (X : Tree) (front rest : Names) → new ≡ front ++ rest
    → (f [] ≡ false)
    → ((q : Names) → f q ≡ true → is_above q new ≡ true → length front ≤ length q → X q ≡ None)
    → ((d : Names) (y : List ℕ) → f (d ++ y ∷ []) ≡ true → is_above d new ≡ true → f d ≡ false → IsDirAt X d)
    → ((front ≡ []) ⊎ ((d : Names) × (y : List ℕ) × (front ≡ d ++ y ∷ []) × (f front ≡ true → IsDirAt X d)))
    → AreAllowed X (map Make (filter f (fronts front rest)))
makes_allowed f new X front [] e root free next prev = tt
makes_allowed f new X front (x ∷ rest) e root free next prev =
    by_test (f front) refl
    (λ (Y : Tree) fr nx pr. makes_allowed f new Y (front ++ x ∷ []) rest (e ∙ sym (append_assoc front (x ∷ []) rest)) root fr nx pr)
  where
    above : is_above front new ≡ true
    above = above_append front x rest new e

    parent : f front ≡ true → (d : Names) × (y : List ℕ) × (front ≡ d ++ y ∷ []) × IsDirAt X d
    parent k = ⊎_elim (λ i. let no : true ≡ false = sym k ∙ ap f i ∙ root in absurd (cc)) (λ i. (i.0, i.1, i.2, i.3 k)) prev

    less : (q : Names) → length (front ++ x ∷ []) ≤ length q → length front ≤ length q
    less q h = let l = length-append front (x ∷ []) in omega arith

    by_test : (b : Bool) → f front ≡ b
        → ((Y : Tree)
        → ((q : Names) → f q ≡ true → is_above q new ≡ true → length (front ++ x ∷ []) ≤ length q → Y q ≡ None)
        → ((d : Names) (y : List ℕ) → f (d ++ y ∷ []) ≡ true → is_above d new ≡ true → f d ≡ false → IsDirAt Y d)
        → (((front ++ x ∷ []) ≡ []) ⊎ ((d : Names) × (y : List ℕ) × ((front ++ x ∷ []) ≡ d ++ y ∷ []) × (f (front ++ x ∷ []) ≡ true → IsDirAt Y d)))
        → AreAllowed Y (map Make (filter f (fronts (front ++ x ∷ []) rest))))
        → AreAllowed X (map Make (filter f (fronts front (x ∷ rest))))
    by_test true k go = rw k (
      record { absent = free front k above (omega arith); parent = (parent k).0; name = (parent k).1; path = (parent k).2; dir = (parent k).3 },
      go (with_node X front (Dir default_dir))
          (λ q fq a l. rw (longer_path front q x l) (free q fq a (less q l)))
          (λ d y fq a n. dir_kept X front d (next d y fq a n))
          (inr (front, x, refl, λ i. (default_dir, rw (same_path-refl front) refl))),
    )
    by_test false k go = rw k (go X (λ q fq a l. free q fq a (less q l)) next (inr (front, x, refl, λ i. next front x i above k)))

pub none_or : {X : Type 0} (o : Option X) → ((x : X) → o ≡ Some x → ⊥) → o ≡ None
none_or None h = refl
none_or (Some x) h = absurd (h x refl)

same_carry : (k c : Carry) (r : Names) (n m : Place) → With k [] ≡ With c r → k.new ≡ Some n.new → c.new ≡ Some m.new → n.new ≡ m.new
same_carry k c r n m e f g = let kc : k ≡ c = cc in let s : Some n.new ≡ Some m.new = sym f ∙ ap (λ (u : Carry). u.new) kc ∙ g in cc

with_stays : (k : Carry) (r : Names) → With k r ≡ Stays → ⊥
with_stays k r e = cc

-- what arrived by earlier new paths is not the item that comes next
not_from : (cs : List Carry) (A : Tree) (n : Place) (ns : List Place) (q : Names) (x : Node) → IsAscending cs → IsPlaceOf cs n → IsDescending (n ∷ ns) → (c : CameFrom cs A ns q x) → c.path ≡ n.old → ⊥
not_from cs A n ns q x asc is desc c o =
    ⊎_elim (λ i. with_stays k.carry [] (sym by ∙ i))
    (λ i. less i.0 i.3 (same_carry k.carry i.1 i.2 n i.0 (sym by ∙ i.4) k.new i.5))
    c.by
  where
    k : OwnCarry cs n
    k = carrier_own cs n asc is

    by : carrier cs c.path ≡ With k.carry []
    by = ap (carrier cs) o ∙ k.by

    less : (m : Place) → Has ns m → n.new ≡ m.new → ⊥
    less m h e = let f : true ≡ false = sym (desc.0 m h) ∙ ap (λ (u : Names). path_lt u n.new) (sym e) ∙ path_lt-irrefl n.new in cc

pub off_root : (st : List ℕ) (t q : Names) → IsOff st t → q ≡ [] → cut t q ≡ None
off_root st t q off e = rw (e, off.path) refl

module _ (st : List ℕ) (P : Plan) (A : Tree) (ok : Checked st P A) where
  made_all : (n : Place) (q : Names) → Has P.news n → is_fresh P q ≡ true → is_above q n.new ≡ true → is_made P P.news q ≡ true
  made_all n q h f a = rw (f, has_any (λ m. is_above q m.new) P.news n h a) refl

  -- nothing arrived where a parent is to be made
  free_parent : (n : Place) (ns : List Place) → Has P.news n → IsPart st P ns → IsOff st n.new → (q : Names) → is_new_parent P ns q ≡ true → is_above q n.new ≡ true → placed st P A ns q ≡ None
  free_parent n ns h part off q f a =
      let k = both_so (is_fresh P q) (is_made P ns q) f in
      let m = made_all n q h k.0 a in
      let none : arrived P.carries A ns q ≡ None = none_or (arrived P.carries A ns q) (λ x e.
      let c = arrived_came P.carries A ns q x part.sound e in ok.unmade q c.path x m c.was c.goes) in
      rw (front_off st q n.new off a, k.1, none) refl

  next_parent : (n : Place) (ns : List Place) → IsOff st n.new → Agrees P.carries A P.news (n ∷ ns) → (d : Names) (y : List ℕ) → is_new_parent P ns (d ++ y ∷ []) ≡ true → is_above d n.new ≡ true → is_new_parent P ns d ≡ false → IsDirAt (placed st P A ns) d
  next_parent n ns off g d y f a not_new =
      let k = both_so (is_fresh P (d ++ y ∷ [])) (is_made P ns (d ++ y ∷ [])) f in
      ⊎_elim
      (λ i. let c = ok.created d y i in dir_below st P A ok n ns d c.0 off g a c.1 c.2)
      (λ i. made_dir st P A ok n ns d off a (old_parent (is_fresh P d) (is_made P ns d) not_new i.1))
      (verdict_true (list_any (λ c. same_path c (d ++ y ∷ [])) P.places) (list_any (λ m. same_path m.new (d ++ y ∷ [])) P.news) (is_fresh P d) (sym (fresh_snoc P d y) ∙ k.0))

  root_parent : (ns : List Place) → is_new_parent P ns [] ≡ false
  root_parent ns = rw ok.no_root (root_at (list_any (λ n. same_path n.new []) P.news) (list_any (λ n. is_above [] n.new) ns))
    where
      root_at : (a b : Bool) → ((not a && false) && not ((not a && false) && b)) ≡ false
      root_at true b = refl
      root_at false b = refl

  parents_allowed : (n : Place) (ns : List Place) → Has P.news n → IsPart st P (n ∷ ns) → Agrees P.carries A P.news (n ∷ ns) → AreAllowed (placed st P A ns) (map Make (parents P ns n.new))
  parents_allowed n ns h part g =
      makes_allowed (is_new_parent P ns) n.new (placed st P A ns) [] n.new refl (root_parent ns)
      (λ q f a l. free_parent n ns h (part_tail st P n ns part) (part.off n (inl refl)) q f a)
      (next_parent n ns (part.off n (inl refl)) g)
      (inl refl)

  -- the place is free
  place_absent : (n : Place) (ns : List Place) → Has P.news n → IsPart st P (n ∷ ns) → arrived P.carries A ns n.new ≡ None
  place_absent n ns h part = none_or (arrived P.carries A ns n.new) (λ x e.
      let c = arrived_came P.carries A ns n.new x (part_tail st P n ns part).sound e in
      not_from P.carries A n ns n.new x ok.settled.ascending (part.sound n (inl refl)) part.descending c (ok.settled.own n c.path x h c.was c.goes))

  not_made_yet : (n : Place) (ns : List Place) → IsPart st P (n ∷ ns) → is_made P ns n.new ≡ false
  not_made_yet n ns part = rw (none_above n.new n.new [] ns self (λ m i l. path_lt-asym n.new m.new l (part.descending.0 m i))) (and_right (is_fresh P n.new) false refl)
    where
      self : cut n.new n.new ≡ Some []
      self = rw append-nil at (cut-append n.new [])

  place_free : (n : Place) (ns : List Place) → Has P.news n → IsPart st P (n ∷ ns) → prepared st P A n ns n.new ≡ None
  place_free n ns h part =
      let off = part.off n (inl refl) in
      let o : cut (st ∷ []) n.new ≡ None = rw (off.path, off.other) refl in
      let self : is_above n.new n.new ≡ false = is_above-by_cut n.new n.new ∙ ap is_rest (rw append-nil at (cut-append n.new [])) in
      prepared_at st P A n ns n.new ∙ rw (self, o, not_made_yet n ns part, place_absent n ns h part) (either (is_fresh P n.new))
    where
      either : (b : Bool) → cond ((b && true) && false) (Some (Dir default_dir)) None ≡ None
      either true = refl
      either false = refl

  prepared_dir : (n : Place) (ns : List Place) (d : Names) → IsDirAt (placed st P A ns) d → IsDirAt (prepared st P A n ns) d
  prepared_dir n ns d is = dir_or (list_any (λ p. same_path p d) (parents P ns n.new)) (placed st P A ns d) is

  -- its parent is a directory
  landing_dir : (n : Place) (ns : List Place) (d : Names) (y : List ℕ) → Has P.news n → IsPart st P (n ∷ ns) → Agrees P.carries A P.news (n ∷ ns) → n.new ≡ d ++ y ∷ [] → IsDirAt (prepared st P A n ns) d
  landing_dir n ns d y h part g e =
      ⊎_elim (λ i. moved_dir [] valid_root (rw i root_stays))
      (λ i. ⊎_elim (λ j. moved_dir j.0 j.1 j.2) (λ j. made_at j (is_made P ns d) refl) i)
      (ok.landing n d y h e)
    where
      off : IsOff st n.new
      off = part.off n (inl refl)

      above : is_above d n.new ≡ true
      above = above_append d y [] n.new e

      valid_root : IsDirAt A []
      valid_root = ok.settled.valid.root

      root_stays : moved P.carries [] ≡ Some []
      root_stays = rw (carrier_stays P.carries [] (λ c k. off_root st c.old [] (ok.olds_off c k) refl)) refl

      moved_dir : (p : Names) → IsDirAt A p → moved P.carries p ≡ Some d → IsDirAt (prepared st P A n ns) d
      moved_dir p is m = prepared_dir n ns d (dir_below st P A ok n ns d p off g above is m)

      made_at : is_made P P.news d ≡ true → (b : Bool) → is_made P ns d ≡ b → IsDirAt (prepared st P A n ns) d
      made_at j true m = prepared_dir n ns d (made_dir st P A ok n ns d off above m)
      made_at j false m =
          let f = (and_parts (is_fresh P d) (list_any (λ k. is_above d k.new) P.news) j).0 in
          (default_dir, prepared_at st P A n ns d ∙ rw (m, above, f) refl)

  shift_there : (n : Place) (ns : List Place) → IsPart st P (n ∷ ns) → IsThere (prepared st P A n ns) (st ∷ label_of n.label ∷ [])
  shift_there n ns part =
      let c = place_carry P.carries n (part.sound n (inl refl)) in
      let t = ok.olds c.0 c.1 in (
        t.0,
        prepared_stage st P A n ns (label_of n.label ∷ []) (part.off n (inl refl))
            ∙ rw (fresh_label st P n ns part) (slot_own P.carries A n ok.settled.ascending (part.sound n (inl refl)) ∙ ap A (sym c.2) ∙ t.1),
      )

  shift_allowed : (n : Place) (ns : List Place) → Has P.news n → IsPart st P (n ∷ ns) → Agrees P.carries A P.news (n ∷ ns) → IsAllowed (prepared st P A n ns) (Shift (st ∷ label_of n.label ∷ []) n.new)
  shift_allowed n ns h part g =
      let off = part.off n (inl refl) in
      let last = ended_off st n.new off in (
        shift_there n ns part,
        record { absent = place_free n ns h part; parent = last.front; name = last.name; path = last.path; dir = landing_dir n ns last.front last.name h part g last.path },
        rw (off.path, off.other) refl,
      )

  pub placing_allowed : (ns : List Place) → ((n : Place) → Has ns n → Has P.news n) → IsPart st P ns → Agrees P.carries A P.news ns → AreAllowed (staged st P.carries A) (placing st P ns)
  placing_allowed [] sub part g = tt
  placing_allowed (n ∷ ns) sub part g =
      let tail = part_tail st P n ns part in
      let h = sub n (inl refl) in
      allowed-append (placing st P ns) (map Make (parents P ns n.new) ++ Shift (st ∷ label_of n.label ∷ []) n.new ∷ []) (staged st P.carries A)
      (placing_allowed ns (λ m i. sub m (inr i)) tail (agree_tail P.carries A P.news ns n g part.descending))
      (subst (λ (t : Tree). AreAllowed t (map Make (parents P ns n.new) ++ Shift (st ∷ label_of n.label ∷ []) n.new ∷ [])) (sym (placing_gives st P A ns tail))
      (allowed-append (map Make (parents P ns n.new)) (Shift (st ∷ label_of n.label ∷ []) n.new ∷ []) (placed st P A ns)
      (parents_allowed n ns h part g)
      (subst (λ (t : Tree). AreAllowed t (Shift (st ∷ label_of n.label ∷ []) n.new ∷ [])) (sym (makes_give (parents P ns n.new) (placed st P A ns)))
      (shift_allowed n ns h part g, tt))))
