-- Counts that rise, and that show something only below their last value.
use Rattle.std.specs.Prelude.{◌≡◌, ℕ, ◌+◌, ◌≤◌, nat_lt, Bool, true, min, if◌then◌else◌, List, [], ◌∷◌, sum_by}
use Rattle.std.specs.List.{list_all}
use Rattle.dc_path.specs.Causes.{counted}
use Rattle.dc_pool.specs.declared.crew.Worked.{Worked}
use Rattle.dc_pool.specs.declared.crew.Worked.TheVariants.{Done, Failed, Killed, Ended}

-- the last value of a count of 64 bits
abbrev pub last : ℕ
last = 18446744073709551615

module _ {R E : Type 0} where
  -- how many failures an answer shows
  abbrev pub failures : Worked R E → ℕ
  failures (Done receipt) = 0
  failures Failed = 1
  failures (Killed worker_too) = 0
  failures (Ended end) = 0

  -- how many things were made for an answer, at least: one for what is done, and one for what was killed late
  abbrev pub gifts : Bool → Worked R E → ℕ
  gifts late (Done receipt) = 1
  gifts late Failed = 0
  gifts late (Killed worker_too) = if late then 1 else 0
  gifts late (Ended end) = 0

-- a count has not fallen, and rose by at least so many, or stands at its last value or above
abbrev pub RoseBy : ℕ → ℕ → ℕ → Type 0
RoseBy more before now = (before ≤ now) × (counted before more ≤ now)

-- the same of a count that went from a to b while something else grew from m to n
abbrev pub RoseWith : ℕ → ℕ → ℕ → ℕ → Type 0
RoseWith a m n b = (m ≤ n) × (a ≤ b) × (min (a + n) (last + m) ≤ b + m)

module _ {S : Type 0} where
  -- a slot's count does not stand at its last value
  abbrev pub below_last : (S → ℕ) → S → Bool
  below_last f slot = nat_lt (f slot) last

  -- over all slots together the count rose by at least so many, unless a slot's count ends at its last value
  abbrev pub Gained : (S → ℕ) → ℕ → List S → List S → Type 0
  Gained f more old new = list_all (below_last f) new ≡ true → (list_all (below_last f) old ≡ true) × (sum_by f old + more ≤ sum_by f new)

  -- there are as many slots as before, and at no place did the count fall
  abbrev pub NoneFell : (S → ℕ) → List S → List S → Type 0
  NoneFell f [] [] = Unit {0}
  NoneFell f (x ∷ xs) (y ∷ ys) = (f x ≤ f y) × NoneFell f xs ys
  NoneFell f [] (y ∷ ys) = ⊥
  NoneFell f (x ∷ xs) [] = ⊥
