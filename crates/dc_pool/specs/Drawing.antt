-- The draw machine: a word that counts up, and for each seat the list of the numbers that it drew.
use Rattle.std.specs.Prelude.{◌≡◌, ℕ, zero, suc, ◌+◌, ◌-◌, ◌≤◌, nat_lt, if◌then◌else◌, max, List, [], ◌∷◌, ◌++◌}
use mathlib.Core.Option.{some}
use lib.ListN.{get_elem?}
use Rattle.atomic_table.specs.Table.{State, Step, Me}
use Rattle.dc_pool.specs.declared.rule.View.{View}
use Rattle.dc_pool.specs.declared.rule.Made.{Made}

-- a view with these numbers and so many seats
abbrev pub view : List ℕ → ℕ → View
view drawn seats = record { drawn = drawn; seats = seats }

-- the weights of the numbers of a list, added up
abbrev pub weight : (ℕ → ℕ) → List ℕ → ℕ
weight h [] = 0
weight h (x ∷ xs) = h x + weight h xs

-- the weights of all numbers below a bound, added up
abbrev pub weight_below : (ℕ → ℕ) → ℕ → ℕ
weight_below h zero = 0
weight_below h (suc n) = weight_below h n + h n

-- a number of each view, added up
abbrev pub total : (View → ℕ) → List View → ℕ
total f [] = 0
total f (v ∷ vs) = f v + total f vs

-- 1 for a number of at least n, and else 0
abbrev pub past : ℕ → ℕ → ℕ
past n x = if nat_lt x n then 0 else 1

-- how many numbers of at least n a list has
abbrev pub past_count : ℕ → List ℕ → ℕ
past_count n xs = weight (past n) xs

-- a list has no more numbers of at least n than its view has seats, and a view without seats has an empty list
pub record Fits (n : ℕ) (v : View) : Type 0 where
  pub ended : past_count n v.drawn ≤ v.seats
  pub idle : v.seats ≡ 0 → v.drawn ≡ []

-- The rule. Word 1 is the number of bundles. However numbers are weighed, all lists together weigh what the numbers below word 0 weigh:
-- each of these stands in exactly one list, once, and no other number stands in any. The seats of all views are those that were made
pub record IsKept (k : Made) (s : State ℕ View) : Type 0 where
  pub next : ℕ
  pub words : s.words ≡ next ∷ k.bundles ∷ []
  pub once : (h : ℕ → ℕ) → total (λ v. weight h v.drawn) s.views ≡ weight_below h next
  pub seats : total (λ v. v.seats) s.views ≡ k.seats
  pub fits : (by : ℕ) (v : View) → get_elem? s.views by ≡ some v → Fits k.bundles v

-- the view of the first seat: it has drawn nothing, and all seats are its own
abbrev pub opened : Made → View
opened k = view [] k.seats

-- the least number above all of these
abbrev pub ceiling : List ℕ → ℕ
ceiling [] = 0
ceiling (x ∷ xs) = max (suc x) (ceiling xs)

-- a draw: the list has grown by the number that was found, which is above all that it had, and nothing else of the seat has changed
abbrev pub Drew : Step ℕ → Me ℕ View → ℕ → Me ℕ View → Type 0
Drew step before found after = (after ≡ (view (before.0.drawn ++ found ∷ []) before.0.seats, before.1)) × (ceiling before.0.drawn ≤ found)

-- a split of a seat: what is left, and what is given away
abbrev pub one_less : View → View
one_less v = view v.drawn (v.seats - 1)

abbrev pub one_seat : View
one_seat = view [] 1

-- a join of two seats: the one that has both, and the one that is spent
abbrev pub joined : View → View → View
joined v w = view (v.drawn ++ w.drawn) (v.seats + w.seats)

abbrev pub nobody : View
nobody = view [] 0

-- however the numbers below n are weighed, two lists weigh the same
abbrev pub SameBelow : ℕ → List ℕ → List ℕ → Type 0
SameBelow n old new = (h : ℕ → ℕ) → ((b : ℕ) → n ≤ b → h b ≡ 0) → weight h new ≡ weight h old
