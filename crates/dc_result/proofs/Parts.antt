-- The first elements of a list in order, and what is found among them.
use Rattle.std.proofs.Common.{◌≡◌, ◌⊎◌, inl, inr, ⊎_elim, ℕ, ◌-◌, ◌≤◌, List, [], ◌∷◌, ◌++◌, length, take, drop, zero, suc, Bool, true, false, cond, ◌||◌, Option, Some, map, reverse, refl, sym, ◌∙◌, ap, arith}
use Rattle.std.proofs.lemmas.Bool.{and_from, or_from}
use Rattle.std.proofs.lemmas.List.{take-append-drop, take-append-le, take_all, map-append, reverse-append, length-reverse, length-drop, length-map}
use Rattle.std.proofs.lemmas.List.Sorted.{IsPermutation-reverse, list_any-IsPermutation}
use Rattle.std.specs.Cmp.{first_so, second_so}
use Rattle.std.specs.List.{list_all, list_any}
use Rattle.dc_path.specs.Found.{found, has_path}
use Rattle.dc_path.specs.Order.{path_lt, is_ascending}
use Rattle.dc_path.specs.Paths.{Names, is_under, same_path}
use Rattle.dc_path.proofs.FoundLemmas.{found-once}
use Rattle.dc_missing.specs.Missing.{covers}
use Rattle.dc_result.proofs.Effecting.{behind}

module _ {A : Type 0} (place : A → Names) where
  all_take : (test : Names → Bool) (k : ℕ) (xs : List A) → list_all test (map place xs) ≡ true → list_all test (map place (take k xs)) ≡ true
  all_take test zero xs h = refl
  all_take test (suc k) [] h = refl
  all_take test (suc k) (x ∷ xs) h = and_from (test (place x)) (list_all test (map place (take k xs))) (first_so _ _ h) (all_take test k xs (second_so _ _ h))

  pub take_ascends : (k : ℕ) (xs : List A) → is_ascending (map place xs) ≡ true → is_ascending (map place (take k xs)) ≡ true
  take_ascends zero xs h = refl
  take_ascends (suc k) [] h = refl
  take_ascends (suc k) (x ∷ xs) h = and_from (list_all (path_lt (place x)) (map place (take k xs))) (is_ascending (map place (take k xs))) (all_take (path_lt (place x)) k xs (first_so _ _ h)) (take_ascends k xs (second_so _ _ h))

  pub drop_ascends : (k : ℕ) (xs : List A) → is_ascending (map place xs) ≡ true → is_ascending (map place (drop k xs)) ≡ true
  drop_ascends zero xs h = h
  drop_ascends (suc k) [] h = refl
  drop_ascends (suc k) (x ∷ xs) h = drop_ascends k xs (second_so _ _ h)

  one_found : (x y : A) (o w : Option A) (b : Bool) → (o ≡ Some y → w ≡ Some y) → cond b (Some x) o ≡ Some y → cond b (Some x) w ≡ Some y
  one_found x y o w true h e = e
  one_found x y o w false h e = h e

  -- what is found in a part is found in the whole
  pub take_found : (k : ℕ) (xs : List A) (q : Names) (y : A) → found place (take k xs) q ≡ Some y → found place xs q ≡ Some y
  take_found zero xs q y e = absurd (cc)
  take_found (suc k) [] q y e = absurd (cc)
  take_found (suc k) (x ∷ xs) q y e = one_found x y (found place (take k xs) q) (found place xs q) (same_path (place x) q) (take_found k xs q y) e

  pub drop_found : (k : ℕ) (xs : List A) (q : Names) (y : A) → is_ascending (map place xs) ≡ true → found place (drop k xs) q ≡ Some y → found place xs q ≡ Some y
  drop_found zero xs q y a e = e
  drop_found (suc k) [] q y a e = absurd (cc)
  drop_found (suc k) (x ∷ xs) q y a e = behind x y (found place xs q) (same_path (place x) q) (found-once place x xs q a) (drop_found k xs q y (second_so _ _ a) e)

-- ---- paths of a part
neither : (b c : Bool) → (b || c) ≡ false → (b ≡ false) × (c ≡ false)
neither true c h = absurd (cc)
neither false c h = (refl, h)

any_take : {A : Type 0} (test : A → Bool) (k : ℕ) (xs : List A) → list_any test xs ≡ false → list_any test (take k xs) ≡ false
any_take test zero xs h = refl
any_take test (suc k) [] h = refl
any_take test (suc k) (x ∷ xs) h = let n = neither (test x) (list_any test xs) h in or_from (test x) (list_any test (take k xs)) n.0 (any_take test k xs n.1)

pub has_take : (k : ℕ) (ps : List Names) (q : Names) → has_path ps q ≡ false → has_path (take k ps) q ≡ false
has_take k ps q h = any_take (λ p. same_path p q) k ps h

pub covers_take : (k : ℕ) (ps : List Names) (q : Names) → covers ps q ≡ false → covers (take k ps) q ≡ false
covers_take k ps q h = any_take (λ p. is_under p q) k ps h

pub has_reverse : (ps : List Names) (q : Names) → has_path (reverse ps) q ≡ has_path ps q
has_reverse ps q = sym (list_any-IsPermutation (λ p. same_path p q) ps (reverse ps) (IsPermutation-reverse ps))

-- ---- the last ones, the last one first
le_case : (k n : ℕ) → (k ≤ n) ⊎ (n ≤ k)
le_case zero n = inl (omega arith)
le_case (suc k) zero = inr (omega arith)
le_case (suc k) (suc n) = ⊎_elim (λ h. inl (omega (arith, h))) (λ h. inr (omega (arith, h))) (le_case k n)

module _ {A B : Type 0} (f : A → B) (xs : List A) (k : ℕ) where
  count : k ≤ length xs → length (reverse (map f (drop (length xs - k) xs))) ≡ k
  count h =
      let a = length-reverse (map f (drop (length xs - k) xs)) in
      let b = length-map (drop (length xs - k) xs) f in
      let c = length-drop (length xs - k) xs in
      omega (arith, a, b, c, h)

  in_two : reverse (map f xs) ≡ reverse (map f (drop (length xs - k) xs)) ++ reverse (map f (take (length xs - k) xs))
  in_two =
      ap (λ (ys : List A). reverse (map f ys)) (sym (take-append-drop (length xs - k) xs))
      ∙ ap reverse (map-append f (take (length xs - k) xs) (drop (length xs - k) xs))
      ∙ reverse-append (map f (take (length xs - k) xs)) (map f (drop (length xs - k) xs))

  few : k ≤ length xs → take k (reverse (map f xs)) ≡ reverse (map f (drop (length xs - k) xs))
  few h =
      ap (take k) in_two
      ∙ take-append-le k (reverse (map f (drop (length xs - k) xs))) (reverse (map f (take (length xs - k) xs))) (let c = count h in omega (arith, c))
      ∙ take_all k (reverse (map f (drop (length xs - k) xs))) (let c = count h in omega (arith, c))

  many : length xs ≤ k → take k (reverse (map f xs)) ≡ reverse (map f (drop (length xs - k) xs))
  many h =
      take_all k (reverse (map f xs)) (let a = length-reverse (map f xs) in let b = length-map xs f in omega (arith, a, b, h))
      ∙ ap (λ (n : ℕ). reverse (map f (drop n xs))) (let e : zero ≡ length xs - k = omega (arith, h) in e)

  pub last_ones : take k (reverse (map f xs)) ≡ reverse (map f (drop (length xs - k) xs))
  last_ones = ⊎_elim few many (le_case k (length xs))
