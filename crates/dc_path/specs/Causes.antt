-- Counts that show a cause: of 64 bits, standing still at the last value.
use Rattle.std.specs.Prelude.{ℕ, Bool, false, nat_le, ◌+◌, ◌-◌, ◌^◌, ◌≤◌, min, Option}
use Rattle.std.specs.Option.{option_map_or}

-- the sum of two counts, which stops at the last value
abbrev pub counted : ℕ → ℕ → ℕ
counted before more = min (before + more) (2 ^ 64 - 1)

-- a count after one more
abbrev pub raised : ℕ → ℕ
raised before = counted before 1

-- a count that rose, or stands at its last value
abbrev pub Rose : ℕ → ℕ → Type 0
Rose before now = raised before ≤ now

-- a count has come to the first at which it tells, where one is told
abbrev pub has_come : Option ℕ → ℕ → Bool
has_come first count = option_map_or (λ n. nat_le n count) first false
