-- Items of lists, by their places.
use Rattle.std.proofs.Common.{◌≡◌, ℕ, zero, suc, ◌+◌, ◌<◌, ◌≤◌, Bool, true, false, List, [], ◌∷◌, ◌++◌, length, take, drop, slice_get, Some, None, refl, ap, ◌∙◌, arith, ◌&&◌, not}
use Rattle.std.specs.List.{list_all, list_any}
use Rattle.std.specs.Cmp.{first_so, second_so}
use Rattle.std.proofs.lemmas.Bool.{or_parts}

module _ {X : Type 0} (f : X → Bool) where
  -- one that does not pass
  pub list_all-miss : (xs : List X) (i : ℕ) (x : X) → slice_get xs i ≡ Some x → f x ≡ false → list_all f xs ≡ false
  list_all-miss [] i x e h = absurd (cc)
  list_all-miss (y ∷ xs) zero x e h = let k : y ≡ x = cc in rw (ap f k ∙ h) refl
  list_all-miss (y ∷ xs) (suc i) x e h = let ih : list_all f xs ≡ false = list_all-miss xs i x e h in grind (arith, ih)

  -- one more that passes
  pub list_all-more : (xs : List X) (i : ℕ) (x : X) → slice_get xs i ≡ Some x → f x ≡ true → list_all f (take i xs) ≡ true → list_all f (take (i + 1) xs) ≡ true
  list_all-more [] i x e h k = absurd (cc)
  list_all-more (y ∷ xs) zero x e h k = let l : y ≡ x = cc in rw (ap f l ∙ h) refl
  list_all-more (y ∷ xs) (suc i) x e h k =
      let one = first_so (f y) (list_all f (take i xs)) k in
      let ih : list_all f (take (i + 1) xs) ≡ true = list_all-more xs i x e h (second_so (f y) (list_all f (take i xs)) k) in
      let s : suc i + 1 ≡ suc (i + 1) = omega arith in
      rw s (rw (one, ih) refl)

  -- one more that does not pass
  pub list_any-more : (xs : List X) (i : ℕ) (x : X) → slice_get xs i ≡ Some x → f x ≡ false → list_any f (take i xs) ≡ false → list_any f (take (i + 1) xs) ≡ false
  list_any-more [] i x e h k = absurd (cc)
  list_any-more (y ∷ xs) zero x e h k = let l : y ≡ x = cc in rw (ap f l ∙ h) refl
  list_any-more (y ∷ xs) (suc i) x e h k =
      let parts = or_parts (f y) (list_any f (take i xs)) k in
      let one = parts.0 in
      let ih : list_any f (take (i + 1) xs) ≡ false = list_any-more xs i x e h parts.1 in
      let s : suc i + 1 ≡ suc (i + 1) = omega arith in
      rw s (rw (one, ih) refl)

-- a list has an item at each place below its length
pub get_past : {X : Type 0} (xs : List X) (i : ℕ) → i < length xs → slice_get xs i ≡ None → ⊥
get_past [] i h e = omega arith
get_past (x ∷ xs) zero h e = cc
get_past (x ∷ xs) (suc i) h e = get_past xs i (omega arith) e

-- what is left from a place on
pub drop_get : {X : Type 0} (xs : List X) (i : ℕ) (x : X) → slice_get xs i ≡ Some x → drop i xs ≡ x ∷ drop (i + 1) xs
drop_get [] i x e = absurd (cc)
drop_get (y ∷ xs) zero x e = let k : y ≡ x = cc in ap (λ z. z ∷ xs) k
drop_get (y ∷ xs) (suc i) x e = let s : suc i + 1 ≡ suc (i + 1) = omega arith in rw s (drop_get xs i x e)

-- what stands before the next place
pub take_get : {X : Type 0} (xs : List X) (i : ℕ) (x : X) → slice_get xs i ≡ Some x → take (i + 1) xs ≡ take i xs ++ x ∷ []
take_get [] i x e = absurd (cc)
take_get (y ∷ xs) zero x e = let k : y ≡ x = cc in ap (λ z. z ∷ []) k
take_get {X} (y ∷ xs) (suc i) x e = let s : suc i + 1 ≡ suc (i + 1) = omega arith in rw s (ap (λ (zs : List X). y ∷ zs) (take_get xs i x e))

-- nothing is left at the end
pub drop_past : {X : Type 0} (xs : List X) (i : ℕ) → length xs ≤ i → drop i xs ≡ []
drop_past [] zero h = refl
drop_past [] (suc i) h = refl
drop_past (x ∷ xs) zero h = absurd (omega arith)
drop_past (x ∷ xs) (suc i) h = drop_past xs i (omega arith)

-- a test that holds, and one that does not
pub both_so : (a b : Bool) → (a && not b) ≡ true → (a ≡ true) × (b ≡ false)
both_so true true h = absurd (cc)
both_so true false h = (refl, refl)
both_so false b h = absurd (cc)
