-- Sums over lists, over the numbers below a bound and over views.
use Rattle.std.proofs.Common.{◌≡◌, ℕ, zero, suc, ◌+◌, ◌<◌, ◌≤◌, ltb, cond, true, false, Bool, List, [], ◌∷◌, ◌++◌, set, refl, sym, ap, ⊎_elim, arith}
use Rattle.std.proofs.lemmas.Bool.{lt-ltb, le-ltb, cases_lt}
use mathlib.Core.Option.{some, some-ne-none, some-injective}
use lib.ListN.{get_elem?}
use Rattle.dc_pool.specs.declared.rule.View.{View}
use Rattle.dc_pool.specs.Drawing.{weight, weight_below, total, past, past_count, ceiling}

pub weight-append : (h : ℕ → ℕ) (xs ys : List ℕ) → weight h (xs ++ ys) ≡ weight h xs + weight h ys
weight-append h [] ys = omega arith
weight-append h (x ∷ xs) ys = omega (arith, weight-append h xs ys)

pub total_set : (f : View → ℕ) (views : List View) (by : ℕ) (v w : View) → get_elem? views by ≡ some v → total f (set views by w) + f v ≡ total f views + f w
total_set f [] by v w at = absurd (some-ne-none v (sym at))
total_set f (x ∷ xs) zero v w at = let e : f x ≡ f v = ap f (some-injective x v at) in omega arith
total_set f (x ∷ xs) (suc by) v w at = omega (arith, total_set f xs by v w at)

pub total_snoc : (f : View → ℕ) (views : List View) (w : View) → total f (views ++ w ∷ []) ≡ total f views + f w
total_snoc f [] w = omega arith
total_snoc f (x ∷ xs) w = omega (arith, total_snoc f xs w)

pub total_le : (f g : View → ℕ) (views : List View) → ((by : ℕ) (v : View) → get_elem? views by ≡ some v → f v ≤ g v) → total f views ≤ total g views
total_le f g [] below = omega arith
total_le f g (x ∷ xs) below = let here = below 0 x refl in let more = total_le f g xs (λ by. below (suc by)) in omega arith

pub total_at : (f : View → ℕ) (views : List View) (by : ℕ) (v : View) → get_elem? views by ≡ some v → f v ≤ total f views
total_at f [] by v at = absurd (some-ne-none v (sym at))
total_at f (x ∷ xs) zero v at = let e : f x ≡ f v = ap f (some-injective x v at) in omega arith
total_at f (x ∷ xs) (suc by) v at = omega (arith, total_at f xs by v at)

pub total_none : (f g : View → ℕ) (views : List View) → ((by : ℕ) (v : View) → get_elem? views by ≡ some v → g v ≡ 0 → f v ≡ 0) → total g views ≡ 0 → total f views ≡ 0
total_none f g [] idle none = refl
total_none f g (x ∷ xs) idle none = let here : f x ≡ 0 = idle 0 x refl (omega arith) in let more : total f xs ≡ 0 = total_none f g xs (λ by. idle (suc by)) (omega arith) in omega arith

-- where one view has all that g counts, it has all that f counts
pub total_alone : (f g : View → ℕ) (views : List View) (by : ℕ) (v : View) → ((by : ℕ) (v : View) → get_elem? views by ≡ some v → g v ≡ 0 → f v ≡ 0) → get_elem? views by ≡ some v → total g views ≡ g v → total f views ≡ f v
total_alone f g [] by v idle at all = absurd (some-ne-none v (sym at))
total_alone f g (x ∷ xs) zero v idle at all =
    let e : f x ≡ f v = ap f (some-injective x v at) in
    let e' : g x ≡ g v = ap g (some-injective x v at) in
    let more : total f xs ≡ 0 = total_none f g xs (λ by. idle (suc by)) (omega arith) in
    omega arith
total_alone f g (x ∷ xs) (suc by) v idle at all =
    let least = total_at g xs by v at in
    let here : f x ≡ 0 = idle 0 x refl (omega arith) in
    let more : total f xs ≡ f v = total_alone f g xs by v (λ j. idle (suc j)) at (omega arith) in
    omega arith

pub past_le : (n x : ℕ) → past n x ≤ 1
past_le n x = go (ltb x n)
  where
    go : (b : Bool) → cond b 0 1 ≤ 1
    go true = omega arith
    go false = omega arith

pub past_not : (n x : ℕ) → x < n → past n x ≡ 0
past_not n x h = ap (λ b. cond b 0 1) (lt-ltb x n h)

pub past_is : (n x : ℕ) → n ≤ x → past n x ≡ 1
past_is n x h = ap (λ b. cond b 0 1) (le-ltb x n h)

-- what is at least n among the numbers below m
pub past_below : (n m : ℕ) → (m ≤ n + weight_below (past n) m) × (m ≤ n → weight_below (past n) m ≡ 0)
past_below n zero = (omega arith, λ _. refl)
past_below n (suc m) = ⊎_elim
    (λ (l : m < n). let e = past_not n m l in let i = (past_below n m).1 (omega arith) in (omega arith, λ _. omega arith))
    (λ (g : n ≤ m). let e = past_is n m g in let i = (past_below n m).0 in (omega arith, λ l. absurd (omega arith)))
    (cases_lt m n)

pub ceiling_le : (n : ℕ) (xs : List ℕ) → past_count n xs ≡ 0 → ceiling xs ≤ n
ceiling_le n [] none = omega arith
ceiling_le n (x ∷ xs) none = ⊎_elim
    (λ (l : x < n). let i = ceiling_le n xs (omega arith) in omega arith)
    (λ (g : n ≤ x). let e = past_is n x g in absurd (omega arith))
    (cases_lt x n)

pub ceiling-push : (xs : List ℕ) (x : ℕ) → ceiling xs ≤ x → ceiling (xs ++ x ∷ []) ≡ suc x
ceiling-push [] x h = omega arith
ceiling-push (y ∷ ys) x h = let i = ceiling-push ys x (omega arith) in omega arith
