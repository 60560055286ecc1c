-- Numbers in ascending order: there is one such list of the same numbers.
use Rattle.std.proofs.Common.{◌≡◌, ℕ, zero, suc, ◌+◌, ◌<◌, ◌≤◌, ◌⊎◌, inl, inr, cond, nat_le, List, [], ◌∷◌, length, get_or, map, refl, sym, ap, ap₂, ◌∙◌, arith}
use Rattle.std.specs.List.{range_with_len, sum_by}
use Rattle.std.specs.List.Sorted.{IsNonDecreasing, IsNonDecreasingBy, IsPermutation}
use Rattle.std.proofs.lemmas.Bool.{cases_order, le-leb, lt-leb, cond-true, cond-false}
use Rattle.std.proofs.lemmas.List.{get_or-map, length-map}
use Rattle.std.proofs.lemmas.List.FromFn.{get_or-range_with_len}
use Rattle.std.proofs.lemmas.List.Sorted.{sum_by-IsPermutation}
use Rattle.std.proofs.lemmas.List.Sums.{sum_by-cons}

-- ---- a list by its numbers
pub row_from : (xs : List ℕ) (a : ℕ) → ((k : ℕ) → k < length xs → get_or xs k 0 ≡ a + k) → xs ≡ range_with_len a (length xs)
row_from [] a h = refl
row_from (x ∷ xs) a h =
    let head : x ≡ a = omega (arith, h 0 (omega arith)) in
    ap₂ (λ k ks. k ∷ ks) head (row_from xs (a + 1) (λ k l. omega (arith, h (suc k) (omega arith))))

pub row_at : (xs : List ℕ) (a k : ℕ) → xs ≡ range_with_len a (length xs) → k < length xs → get_or xs k 0 ≡ a + k
row_at xs a k e l = ap (λ ys. get_or ys k 0) e ∙ get_or-range_with_len a (length xs) k 0 l

-- ---- how many are at most x
abbrev at_most : (x : ℕ) → ℕ → ℕ
at_most x y = cond (nat_le y x) 1 0

none_at_most : (x : ℕ) (ys : List ℕ) → ((k : ℕ) → k < length ys → x < get_or ys k 0) → sum_by (at_most x) ys ≡ 0
none_at_most x [] h = refl
none_at_most x (y ∷ ys) h =
    let head : at_most x y ≡ 0 = cond-false _ 1 0 (lt-leb y x (h 0 (omega arith))) in
    omega (arith, sum_by-cons (at_most x) y ys, head, none_at_most x ys (λ k l. h (suc k) (omega arith)))

some_at_most : (x : ℕ) (xs : List ℕ) → 1 ≤ sum_by (at_most x) (x ∷ xs)
some_at_most x xs =
    let head : at_most x x ≡ 1 = cond-true _ 1 0 (le-leb x x (omega arith)) in
    omega (arith, sum_by-cons (at_most x) x xs, head)

-- the first number of an ascending list is not below that of another list of the same numbers
not_below : (x y : ℕ) (xs ys : List ℕ) → IsNonDecreasing (y ∷ ys) → ((f : ℕ → ℕ) → sum_by f (x ∷ xs) ≡ sum_by f (y ∷ ys)) → x < y → ⊥
not_below x y xs ys up same l =
    omega (arith, some_at_most x xs, same (at_most x), none_at_most x (y ∷ ys) (λ k b. omega (arith, l, up 0 k 0 (omega arith) b)))

same_first : (x y : ℕ) (xs ys : List ℕ) → IsNonDecreasing (x ∷ xs) → IsNonDecreasing (y ∷ ys) → ((f : ℕ → ℕ) → sum_by f (x ∷ xs) ≡ sum_by f (y ∷ ys)) →
    (x ≡ y) ⊎ ((x < y) ⊎ (y < x)) → x ≡ y
same_first x y xs ys a b same (inl e) = e
same_first x y xs ys a b same (inr (inl l)) = absurd (not_below x y xs ys b same l)
same_first x y xs ys a b same (inr (inr l)) = absurd (not_below y x ys xs a (λ f. sym (same f)) l)

same_sorted : (xs ys : List ℕ) → IsNonDecreasing xs → IsNonDecreasing ys → ((f : ℕ → ℕ) → sum_by f xs ≡ sum_by f ys) → xs ≡ ys
same_sorted [] [] a b same = refl
same_sorted [] (y ∷ ys) a b same = absurd (omega (arith, same (λ _. 1), sum_by-cons (λ _. 1) y ys))
same_sorted (x ∷ xs) [] a b same = absurd (omega (arith, same (λ _. 1), sum_by-cons (λ _. 1) x xs))
same_sorted (x ∷ xs) (y ∷ ys) a b same =
    let first : x ≡ y = same_first x y xs ys a b same (cases_order x y) in
    ap₂ (λ k ks. k ∷ ks) first
    (same_sorted xs ys (λ i j d le l. a (suc i) (suc j) d (omega arith) (omega arith)) (λ i j d le l. b (suc i) (suc j) d (omega arith) (omega arith))
    (λ f. omega (arith, same f, sum_by-cons f x xs, sum_by-cons f y ys, ap f first)))

-- the same numbers, twice in ascending order
pub sorted_once : (xs ys zs : List ℕ) → IsPermutation xs ys → IsPermutation xs zs → IsNonDecreasing ys → IsNonDecreasing zs → ys ≡ zs
sorted_once xs ys zs one two a b = same_sorted ys zs a b (λ f. sum_by-IsPermutation f xs ys one ∙ sym (sum_by-IsPermutation f xs zs two))

-- ---- numbers that rise
pub rise_cons : (x : ℕ) (xs : List ℕ) → ((k d : ℕ) → k < length xs → x ≤ get_or xs k d) → IsNonDecreasing xs → IsNonDecreasing (x ∷ xs)
rise_cons x xs first rest zero zero d le l = omega arith
rise_cons x xs first rest zero (suc j) d le l = first j d (omega (arith, l))
rise_cons x xs first rest (suc i) zero d le l = absurd (omega (arith, le))
rise_cons x xs first rest (suc i) (suc j) d le l = rest i j d (omega (arith, le)) (omega (arith, l))

pub keys_rise : {X : Type 0} (key : X → ℕ) (xs : List X) → IsNonDecreasingBy key xs → IsNonDecreasing (map key xs)
keys_rise key [] h i j d le l = absurd (omega (arith, l))
keys_rise key (x ∷ xs) h i j d le l =
    let within : j < length (x ∷ xs) = omega (arith, l, length-map (x ∷ xs) key) in
    omega (
      arith,
      get_or-map key (x ∷ xs) i x d (omega (arith, le, within)),
      get_or-map key (x ∷ xs) j x d within,
      h i j x le within,
    )
