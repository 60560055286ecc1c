-- How often a number stands in lists and in bundles.
use Rattle.std.proofs.Common.{◌≡◌, ℕ, zero, suc, ◌+◌, ◌==◌, nat_lt, nat_le, ◌&&◌, Bool, true, false, cond, List, [], ◌∷◌, ◌++◌, map, filter, refl, sym, ap, ap₂, ◌∙◌, arith, eqb-true}
use Rattle.std.specs.List.{range_with_len}
use Rattle.std.proofs.lemmas.Bool.Decides.{nat_tests}
use Rattle.std.proofs.lemmas.List.Sums.{sum_by-append, sum_by-cons}
use Rattle.dc_split.specs.Bundles.{numbers, flatten, times, once_below, AreFilledUpTo, HoldEachOnce}

pub times-append : (x : ℕ) (xs ys : List ℕ) → times x (xs ++ ys) ≡ times x xs + times x ys
times-append x xs ys = sum_by-append (λ y. cond (y == x) 1 0) xs ys

times-cons : (x y : ℕ) (ys : List ℕ) → times x (y ∷ ys) ≡ cond (y == x) 1 0 + times x ys
times-cons x y ys = sum_by-cons (λ y. cond (y == x) 1 0) y ys

-- ---- the numbers in a row
-- 1 among so many numbers from a on, and else 0
abbrev once_among : ℕ → ℕ → ℕ → ℕ
once_among a n x = cond (nat_le a x && nat_lt x (a + n)) 1 0

among_none : (a x : ℕ) → 0 ≡ once_among a 0 x
among_none a x = grind (arith, nat_tests)

among_more : (a n x : ℕ) → cond (a == x) 1 0 + once_among (a + 1) n x ≡ once_among a (suc n) x
among_more a n x = grind (arith, nat_tests)

times-range : (x a n : ℕ) → times x (range_with_len a n) ≡ once_among a n x
times-range x a zero = among_none a x
times-range x a (suc n) = times-cons x a (range_with_len (a + 1) n) ∙ ap (λ t. cond (a == x) 1 0 + t) (times-range x (a + 1) n) ∙ among_more a n x

among_all : (n x : ℕ) → once_among 0 n x ≡ once_below n x
among_all n x = grind (arith, nat_tests)

-- each number below the count stands among the numbers once
pub times-numbers : (x n : ℕ) → times x (numbers n) ≡ once_below n x
times-numbers x n = times-range x 0 n ∙ among_all n x

-- bundles that are filled up in order have each record once
pub filled_once : {lengths : List ℕ} {limit count : ℕ} {bundles : List (List ℕ)} → AreFilledUpTo lengths limit count bundles → HoldEachOnce count bundles
filled_once {lengths} {limit} {count} h x = ap (times x) h.ordered ∙ times-numbers x count

-- ---- the numbers that pass a test
times-picked : (x y : ℕ) (ys : List ℕ) (passes : Bool) → times x (cond passes (y ∷ ys) ys) ≡ cond passes (cond (y == x) 1 0 + times x ys) (times x ys)
times-picked x y ys true = times-cons x y ys
times-picked x y ys false = refl

picked_one : (u v : ℕ) (passes same found : Bool) → (same ≡ true → found ≡ passes) → u ≡ cond found v 0 → cond passes (cond same 1 0 + u) u ≡ cond found (cond same 1 0 + v) 0
picked_one u v true true true f h = ap (λ k. 1 + k) h
picked_one u v true true false f h = let e : false ≡ true = f refl in cc
picked_one u v true false true f h = ap (λ k. 0 + k) h
picked_one u v true false false f h = omega (arith, h)
picked_one u v false true true f h = let e : true ≡ false = f refl in cc
picked_one u v false true false f h = h
picked_one u v false false true f h = omega (arith, h)
picked_one u v false false false f h = h

pub times-filter : (p : ℕ → Bool) (x : ℕ) (xs : List ℕ) → times x (filter p xs) ≡ cond (p x) (times x xs) 0
times-filter p x [] = grind arith
times-filter p x (y ∷ ys) =
    times-picked x y (filter p ys) (p y)
    ∙ picked_one (times x (filter p ys)) (times x ys) (p y) (y == x) (p x) (λ same. ap p (sym (eqb-true y x same))) (times-filter p x ys)
    ∙ ap (λ t. cond (p x) t 0) (sym (times-cons x y ys))

-- ---- bundles of which just one, at place r, has a number, t times
module _ (x r t : ℕ) (f : ℕ → List ℕ) (each : (j : ℕ) → times x (f j) ≡ cond (r == j) t 0) where
  dealt_none : (a : ℕ) → 0 ≡ cond (nat_le a r && nat_lt r (a + 0)) t 0
  dealt_none a = grind (arith, nat_tests)

  dealt_more : (a n : ℕ) → cond (r == a) t 0 + cond (nat_le (a + 1) r && nat_lt r (a + 1 + n)) t 0 ≡ cond (nat_le a r && nat_lt r (a + suc n)) t 0
  dealt_more a n = grind (arith, nat_tests)

  pub times-dealt : (a n : ℕ) → times x (flatten (map f (range_with_len a n))) ≡ cond (nat_le a r && nat_lt r (a + n)) t 0
  times-dealt a zero = dealt_none a
  times-dealt a (suc n) =
      times-append x (f a) (flatten (map f (range_with_len (a + 1) n)))
      ∙ ap₂ (λ u v. u + v) (each a) (times-dealt (a + 1) n) ∙ dealt_more a n
