-- Entries in order of their paths: what a stable sort keeps, and the first two that have one path.
use Rattle.std.proofs.Common.{◌≡◌, ◌⊎◌, inl, inr, ℕ, ◌+◌, ◌<◌, ◌≤◌, zero, suc, List, [], ◌∷◌, ◌++◌, map, length, get_or, Bool, true, false, cond, not, ◌&&◌, refl, sym, ◌∙◌, ap, subst, append-nil, arith}
use Rattle.std.proofs.lemmas.Bool.{and_from}
use Rattle.std.proofs.lemmas.List.{length-map}
use Rattle.std.proofs.lemmas.List.Elements.{filter-append, filter_agree}
use Rattle.std.proofs.lemmas.List.Folds.{list_all-append, list_all-map}
use Rattle.std.proofs.lemmas.List.Sorted.{All-permutation, IsPermutation-sym}
use Rattle.std.proofs.lemmas.List.Sums.{AllPass-from_list_all, list_all-from_AllPass}
use Rattle.std.specs.Cmp.{first_so, second_so}
use Rattle.std.specs.List.{list_all}
use Rattle.std.specs.List.Sorted.{IsPermutation, IsSortedByKey, IsStableByKey, ties}
use Rattle.std.specs.Ordering.{is_lt}
use Rattle.dc_path.specs.Order.{path_lt, is_ascending}
use Rattle.dc_path.specs.Paths.{Names, path_cmp, same_path}
use Rattle.dc_path.proofs.OrderLemmas.{path_lt-apart, path_lt-cmp, path_lt-trans}
use Rattle.dc_path.proofs.PathLemmas.{same_path-flip, same_path-refl, same_path-true}
use Rattle.dc_path.proofs.PathOrder.{path_lt-connex}
use Rattle.dc_attrs.specs.Attributes.{default_file}
use Rattle.dc_listing.specs.Entries.{Entry, rel_of}
use Rattle.dc_listing.specs.Listed.{Origin, entry_at, entries_at, AreListed, AreTwo}
use Rattle.dc_listing.specs.Listing.{HasTwo, NoneTwiceBelow}
use Rattle.dc_listing.proofs.Ascending.{all_weaker}

-- ---- the order of paths
-- paths that are not the same are in one order or the other
apart_lt : (p q : Names) → same_path p q ≡ false → (path_lt p q ≡ true) ⊎ (path_lt q p ≡ true)
apart_lt p q n = path_lt-connex p q (λ e. let k : true ≡ false = sym (same_path-refl p) ∙ ap (same_path p) e ∙ n in cc)

-- neither is before the other exactly where they are the same
tie : (p q : Names) → (not (path_lt p q) && not (path_lt q p)) ≡ same_path q p
tie p q = by (path_lt p q) (path_lt q p) (same_path q p) refl refl refl
  where
    by : (b c d : Bool) → path_lt p q ≡ b → path_lt q p ≡ c → same_path q p ≡ d → (not b && not c) ≡ d
    by true c true e f g = sym (path_lt-apart p q e) ∙ g
    by true c false e f g = refl
    by false true true e f g = sym (path_lt-apart q p f) ∙ same_path-flip p q ∙ g
    by false true false e f g = refl
    by false false true e f g = refl
    by false false false e f g = elim (apart_lt q p g) [ inl k ↦ sym k ∙ f | inr k ↦ sym k ∙ e ]

-- what is not before one path is not before a lesser one
none_before : (x y z : Names) → path_lt y x ≡ false → path_lt z y ≡ false → path_lt z x ≡ false
none_before x y z h k = by (path_lt z x) refl (same_path x y) refl
  where
    by : (b : Bool) → path_lt z x ≡ b → (c : Bool) → same_path x y ≡ c → b ≡ false
    by false e c f = refl
    by true e true f = sym e ∙ ap (path_lt z) (same_path-true x y f) ∙ k
    by true e false f = elim (apart_lt x y f) [ inl l ↦ sym (path_lt-trans z x y e l) ∙ k | inr l ↦ sym l ∙ h ]

-- what is not before one path is after each lesser one
after_then : (x y z : Names) → path_lt x y ≡ true → path_lt z y ≡ false → path_lt x z ≡ true
after_then x y z h k = by (same_path y z) refl
  where
    by : (c : Bool) → same_path y z ≡ c → path_lt x z ≡ true
    by true f = ap (path_lt x) (sym (same_path-true y z f)) ∙ h
    by false f = elim (apart_lt y z f) [ inl l ↦ path_lt-trans x y z h l | inr l ↦ absurd (let e : true ≡ false = sym l ∙ k in cc) ]

-- ---- a stable sort
tie_at : (x y : Entry) → ties (λ (a b : Entry). is_lt (path_cmp a.rel b.rel)) x y ≡ same_path y.rel x.rel
tie_at x y = ap (λ b. not b && not (is_lt (path_cmp y.rel x.rel))) (sym (path_lt-cmp x.rel y.rel)) ∙ ap (λ b. not (path_lt x.rel y.rel) && not b) (sym (path_lt-cmp y.rel x.rel)) ∙ tie x.rel y.rel

-- the entries at a path stay in their order
pub stable_at : (xs ys : List Entry) → IsStableByKey rel_of path_cmp xs ys → (q : Names) → entries_at ys q ≡ entries_at xs q
stable_at xs ys h q =
    let x : Entry = record { rel = q; from = []; dir = false; length = 0; attrs = default_file } in
    sym (filter_agree (ties (λ (a b : Entry). is_lt (path_cmp a.rel b.rel)) x) (λ (e : Entry). same_path e.rel q) (tie_at x) ys)
    ∙ h x
    ∙ filter_agree (ties (λ (a b : Entry). is_lt (path_cmp a.rel b.rel)) x) (λ (e : Entry). same_path e.rel q) (tie_at x) xs

-- the same entries in another order pass the same tests
pub tests_same : (xs ys : List Entry) → IsPermutation xs ys → (test : Entry → Bool) → list_all test ys ≡ list_all test xs
tests_same xs ys p test = by (list_all test ys) (list_all test xs) refl refl
  where
    over : (us bs : List Entry) → IsPermutation us bs → list_all test us ≡ true → list_all test bs ≡ true
    over us bs q h = list_all-from_AllPass test bs (All-permutation (λ (e : Entry). test e ≡ true) us bs q (AllPass-from_list_all test us h))

    by : (b c : Bool) → list_all test ys ≡ b → list_all test xs ≡ c → b ≡ c
    by true true e f = refl
    by false false e f = refl
    by true false e f = sym (over ys xs (IsPermutation-sym xs ys p) e) ∙ f
    by false true e f = sym e ∙ over xs ys p f

-- ---- entries in order
abbrev IsInOrder : List Entry → Type 0
IsInOrder xs = IsSortedByKey rel_of path_cmp xs

order_tail : (x : Entry) (xs : List Entry) → IsInOrder (x ∷ xs) → IsInOrder xs
order_tail x xs h k d l m =
    let e : suc k + 1 ≡ suc (k + 1) = omega arith in
    let P : ℕ → Type 0 = λ n. is_lt (path_cmp (get_or (x ∷ xs) n d).rel (get_or xs k d).rel) ≡ false in
    subst P e (h (suc k) d (omega arith) (omega arith))

twice_tail : (x : Entry) (xs : List Entry) (n : ℕ) → NoneTwiceBelow (x ∷ xs) (suc n) → NoneTwiceBelow xs n
twice_tail x xs n h k d m =
    let e : suc k + 1 ≡ suc (k + 1) = omega arith in
    let P : ℕ → Type 0 = λ j. same_path (get_or xs k d).rel (get_or (x ∷ xs) j d).rel ≡ false in
    subst P e (h (suc k) d (omega arith))

first_two : (x y : Entry) (xs : List Entry) → IsInOrder (x ∷ y ∷ xs) → path_lt y.rel x.rel ≡ false
first_two x y xs h = path_lt-cmp y.rel x.rel ∙ h 0 x (omega arith) (omega arith)

none_less : (x : Entry) (xs : List Entry) → IsInOrder (x ∷ xs) → list_all (λ (e : Entry). not (path_lt e.rel x.rel)) xs ≡ true
none_less x [] h = refl
none_less x (y ∷ xs) h =
    and_from _ _ (ap not (first_two x y xs h))
    (all_weaker (λ (e : Entry). not (path_lt e.rel y.rel)) (λ (e : Entry). not (path_lt e.rel x.rel)) (λ e k. ap not (none_before x.rel y.rel e.rel (first_two x y xs h) (not_so (path_lt e.rel y.rel) k))) xs (none_less y xs (order_tail x (y ∷ xs) h)))
  where
    not_so : (b : Bool) → not b ≡ true → b ≡ false
    not_so true k = cc
    not_so false k = refl

-- one that is not the same as the next is before all that follow
all_greater : (x y : Entry) (xs : List Entry) → IsInOrder (x ∷ y ∷ xs) → same_path x.rel y.rel ≡ false → list_all (λ (e : Entry). path_lt x.rel e.rel) (y ∷ xs) ≡ true
all_greater x y xs h n =
    and_from _ _ less (all_weaker (λ (e : Entry). not (path_lt e.rel y.rel)) (λ (e : Entry). path_lt x.rel e.rel) (λ e k. after_then x.rel y.rel e.rel less (not_so (path_lt e.rel y.rel) k)) xs (none_less y xs (order_tail x (y ∷ xs) h)))
  where
    not_so : (b : Bool) → not b ≡ true → b ≡ false
    not_so true k = cc
    not_so false k = refl

    less : path_lt x.rel y.rel ≡ true
    less = elim (apart_lt x.rel y.rel n) [ inl l ↦ l | inr l ↦ absurd (let e : true ≡ false = sym l ∙ first_two x y xs h in cc) ]

pub ascends : (xs : List Entry) → IsInOrder xs → NoneTwiceBelow xs (length xs) → is_ascending (map rel_of xs) ≡ true
ascends [] h t = refl
ascends (x ∷ []) h t = refl
ascends (x ∷ y ∷ xs) h t = and_from _ _ (list_all-map (path_lt x.rel) rel_of (y ∷ xs) ∙ all_greater x y xs h (t 0 x (omega arith))) (ascends (y ∷ xs) (order_tail x (y ∷ xs) h) (twice_tail x (y ∷ xs) (length (y ∷ xs)) t))

-- ---- the first two neighbours at one path
-- what is before them ascends, also to the first of them, and what follows is not before them
record Parted (xs : List Entry) (x y : Entry) : Type 0 where
  before : List Entry
  rest : List Entry
  is : xs ≡ before ++ x ∷ y ∷ rest
  ascending : is_ascending (map rel_of before) ≡ true
  below : list_all (λ (e : Entry). path_lt e.rel x.rel) before ≡ true
  above : list_all (λ (e : Entry). not (path_lt e.rel x.rel)) (y ∷ rest) ≡ true

parted : (xs : List Entry) (k : ℕ) (x y : Entry) → IsInOrder xs → NoneTwiceBelow xs (k + 1) → k + 1 < length xs → x ≡ get_or xs k x → y ≡ get_or xs (k + 1) y → Parted xs x y
parted [] k x y h t l e f = absurd (omega arith)
parted (a ∷ []) k x y h t l e f = absurd (omega arith)
parted (a ∷ b ∷ xs) zero x y h t l e f =
    let g : y ≡ b = f in
    record {
      before = [];
      rest = xs;
      is = ap (λ (z : Entry). z ∷ b ∷ xs) (sym e) ∙ ap (λ (z : Entry). x ∷ z ∷ xs) (sym g);
      ascending = refl;
      below = refl;
      above = subst (λ (z : Entry). list_all (λ (w : Entry). not (path_lt w.rel z.rel)) (y ∷ xs) ≡ true) (sym e) (subst (λ (z : Entry). list_all (λ (w : Entry). not (path_lt w.rel a.rel)) (z ∷ xs) ≡ true) (sym g) (none_less a (b ∷ xs) h));
    }
parted (a ∷ b ∷ xs) (suc k) x y h t l e f = by (parted (b ∷ xs) k x y (order_tail a (b ∷ xs) h) (twice_tail a (b ∷ xs) (k + 1) (subst (NoneTwiceBelow (a ∷ b ∷ xs)) up t)) (omega arith) e (f ∙ ap (λ n. get_or (a ∷ b ∷ xs) n y) up))
  where
    up : suc k + 1 ≡ suc (k + 1)
    up = omega arith

    by : Parted (b ∷ xs) x y → Parted (a ∷ b ∷ xs) x y
    by r =
        let all = list_all-append (λ (w : Entry). path_lt a.rel w.rel) r.before (x ∷ y ∷ r.rest) in
        let low : (list_all (λ (w : Entry). path_lt a.rel w.rel) r.before && list_all (λ (w : Entry). path_lt a.rel w.rel) (x ∷ y ∷ r.rest)) ≡ true =
        sym all ∙ ap (list_all (λ (w : Entry). path_lt a.rel w.rel)) (sym r.is) ∙ all_greater a b xs h (t 0 a (omega arith)) in
        record {
          before = a ∷ r.before;
          rest = r.rest;
          is = ap (λ (zs : List Entry). a ∷ zs) r.is;
          ascending = and_from (list_all (path_lt a.rel) (map rel_of r.before)) (is_ascending (map rel_of r.before)) (list_all-map (path_lt a.rel) rel_of r.before ∙ first_so (list_all (λ (w : Entry). path_lt a.rel w.rel) r.before) (list_all (λ (w : Entry). path_lt a.rel w.rel) (x ∷ y ∷ r.rest)) low) r.ascending;
          below = and_from (path_lt a.rel x.rel) (list_all (λ (w : Entry). path_lt w.rel x.rel) r.before)
              (first_so (path_lt a.rel x.rel) (list_all (λ (w : Entry). path_lt a.rel w.rel) (y ∷ r.rest)) (second_so (list_all (λ (w : Entry). path_lt a.rel w.rel) r.before) (list_all (λ (w : Entry). path_lt a.rel w.rel) (x ∷ y ∷ r.rest)) low)) r.below;
          above = r.above;
        }

-- ---- the entries at one path
none_below : (xs : List Entry) (q : Names) → list_all (λ (e : Entry). path_lt e.rel q) xs ≡ true → entries_at xs q ≡ []
none_below [] q h = refl
none_below (x ∷ xs) q h = ap (λ b. cond b (x ∷ entries_at xs q) (entries_at xs q)) (same_path-flip x.rel q ∙ path_lt-apart x.rel q (first_so _ _ h)) ∙ none_below xs q (second_so _ _ h)

none_above : (xs : List Entry) (q : Names) → list_all (λ (e : Entry). path_lt q e.rel) xs ≡ true → entries_at xs q ≡ []
none_above [] q h = refl
none_above (x ∷ xs) q h = ap (λ b. cond b (x ∷ entries_at xs q) (entries_at xs q)) (path_lt-apart q x.rel (first_so _ _ h)) ∙ none_above xs q (second_so _ _ h)

-- of entries that ascend at most one stands at a path
one_at : (xs : List Entry) (q : Names) → is_ascending (map rel_of xs) ≡ true → length (entries_at xs q) ≤ 1
one_at [] q a = omega arith
one_at (x ∷ xs) q a = by (same_path x.rel q) refl (one_at xs q (second_so _ _ a))
  where
    by : (b : Bool) → same_path x.rel q ≡ b → length (entries_at xs q) ≤ 1 → length (entries_at (x ∷ xs) q) ≤ 1
    by false e ih = subst (λ (c : Bool). length (cond c (x ∷ entries_at xs q) (entries_at xs q)) ≤ 1) (sym e) ih
    by true e ih =
        let none : entries_at xs q ≡ [] = none_above xs q (subst (λ (p : Names). list_all (λ (w : Entry). path_lt p w.rel) xs ≡ true) (same_path-true x.rel q e) (sym (list_all-map (path_lt x.rel) rel_of xs) ∙ first_so _ _ a)) in
        subst (λ (c : Bool). length (cond c (x ∷ entries_at xs q) (entries_at xs q)) ≤ 1) (sym e) (subst (λ (es : List Entry). length (x ∷ es) ≤ 1) (sym none) (omega arith))

two_here : (before rest : List Entry) (x y : Entry) → list_all (λ (e : Entry). path_lt e.rel x.rel) before ≡ true → same_path x.rel y.rel ≡ true → entries_at (before ++ x ∷ y ∷ rest) x.rel ≡ x ∷ y ∷ entries_at rest x.rel
two_here before rest x y h e =
    filter-append (λ (w : Entry). same_path w.rel x.rel) before (x ∷ y ∷ rest)
    ∙ ap (λ (es : List Entry). es ++ entries_at (x ∷ y ∷ rest) x.rel) (none_below before x.rel h)
    ∙ rw (same_path-refl x.rel, same_path-flip y.rel x.rel, e) refl

one_before : (before rest : List Entry) (x y : Entry) (q : Names) → is_ascending (map rel_of before) ≡ true → list_all (λ (e : Entry). not (path_lt e.rel x.rel)) (y ∷ rest) ≡ true → path_lt q x.rel ≡ true → length (entries_at (before ++ x ∷ y ∷ rest) q) ≤ 1
one_before before rest x y q a h l =
    let later = none_above (x ∷ y ∷ rest) q (and_from _ _ l (all_weaker (λ (e : Entry). not (path_lt e.rel x.rel)) (λ (e : Entry). path_lt q e.rel) (λ e k. after_then q x.rel e.rel l (not_so (path_lt e.rel x.rel) k)) (y ∷ rest) h)) in
    subst (λ (es : List Entry). length es ≤ 1) (sym (filter-append (λ (w : Entry). same_path w.rel q) before (x ∷ y ∷ rest) ∙ ap (λ (es : List Entry). entries_at before q ++ es) later ∙ append-nil (entries_at before q))) (one_at before q a)
  where
    not_so : (b : Bool) → not b ≡ true → b ≡ false
    not_so true k = cc
    not_so false k = refl

-- the first two neighbours at one path are the first two there, and at no lesser path are there two
pub has_two : (xs : List Entry) (k : ℕ) (x y : Entry) → IsInOrder xs → NoneTwiceBelow xs (k + 1) → k + 1 < length xs → x ≡ get_or xs k x → y ≡ get_or xs (k + 1) y → same_path x.rel y.rel ≡ true → HasTwo xs x.rel x.from y.from
has_two xs k x y h t l e f n =
    let r = parted xs k x y h t l e f in
    record {
      one = x;
      two = y;
      more = entries_at r.rest x.rel;
      here = ap (λ (es : List Entry). entries_at es x.rel) r.is ∙ two_here r.before r.rest x y r.below n;
      first_is = refl;
      second_is = refl;
      least = λ q m. subst (λ (es : List Entry). length (entries_at es q) ≤ 1) (sym r.is) (one_before r.before r.rest x y q r.ascending r.above m);
    }

-- ---- two that are listed at one path
map_two : (q : Names) (zs : List Origin) (x y : Entry) (ys : List Entry) → map (entry_at q) zs ≡ x ∷ y ∷ ys → (one : Origin) × (two : Origin) × (more : List Origin) × (zs ≡ one ∷ two ∷ more) × (x.from ≡ one.from) × (y.from ≡ two.from)
map_two q [] x y ys h = cc
map_two q (one ∷ []) x y ys h = cc
map_two q (one ∷ two ∷ more) x y ys h =
    let e : entry_at q one ≡ x = cc in
    let f : entry_at q two ≡ y = cc in
    (one, two, more, refl, sym (ap (λ (z : Entry). z.from) e), sym (ap (λ (z : Entry). z.from) f))

pub are_two : (listed : Names → List Origin) (entries : List Entry) (rel first second : Names) → AreListed listed entries → HasTwo entries rel first second → AreTwo listed rel first second
are_two listed entries rel first second a h =
    let m = map_two rel (listed rel) h.one h.two h.more (sym (a rel) ∙ h.here) in
    record {
      one = m.0;
      two = m.1;
      more = m.2;
      here = m.3;
      first_is = h.first_is ∙ m.4;
      second_is = h.second_is ∙ m.5;
      least = λ q l. subst (λ n. n ≤ 1) (ap length (a q) ∙ length-map (listed q) (entry_at q)) (h.least q l);
    }
