-- Which records go into which bundle. A bundle is a list of numbers of records, which count from 0.
use Rattle.std.specs.Prelude.{ℕ, ◌+◌, ◌*◌, ◌%◌, ◌<◌, ◌≤◌, ◌≡◌, ◌==◌, nat_lt, min, List, [], ◌∷◌, length, map, filter, sum, sum_by, count_by, All, slice_index, if◌then◌else◌}
use Rattle.std.specs.Int.{div_ceil}
use Rattle.std.specs.List.{flat_map, range_with_len}

-- the numbers of so many records
abbrev pub numbers : ℕ → List ℕ
numbers count = range_with_len 0 count

-- all bundles, joined in their order
abbrev pub flatten : List (List ℕ) → List ℕ
flatten bundles = flat_map (λ bundle. bundle) bundles

-- how often a number stands in a list
abbrev pub times : ℕ → List ℕ → ℕ
times x list = count_by (λ y. y == x) list

-- 1 below the count, and else 0
abbrev pub once_below : ℕ → ℕ → ℕ
once_below count x = if nat_lt x count then 1 else 0

-- each number below the count stands in exactly one bundle, once, and no other number stands in any
abbrev pub HoldEachOnce : ℕ → List (List ℕ) → Type 0
HoldEachOnce count bundles = (x : ℕ) → times x (flatten bundles) ≡ once_below count x

-- the sum of all lengths divided by `maps`, rounded up (Hadoop DistCp, `UniformSizeInputFormat`)
abbrev pub limit_of : List ℕ → ℕ → ℕ
limit_of lengths maps = div_ceil (sum lengths) maps

-- the sum of the lengths of a bundle's records
abbrev pub size_of : List ℕ → List ℕ → ℕ
size_of lengths bundle = sum_by (λ number. slice_index lengths number) bundle

-- the length of a bundle's first record
abbrev pub first_length : List ℕ → List ℕ → ℕ
first_length lengths [] = 0
first_length lengths (number ∷ bundle) = slice_index lengths number

-- a bundle has a record
abbrev pub IsFilled : List ℕ → Type 0
IsFilled bundle = 0 < length bundle

-- a bundle of two records or more has at most the limit
abbrev pub FitsLimit : List ℕ → ℕ → List ℕ → Type 0
FitsLimit lengths limit bundle = 2 ≤ length bundle → size_of lengths bundle ≤ limit

-- a bundle would pass the limit with the first record of the next
abbrev pub IsFullBefore : List ℕ → ℕ → List ℕ → List ℕ → Type 0
IsFullBefore lengths limit bundle next = limit < size_of lengths bundle + first_length lengths next

-- each bundle stands in this relation to the next
abbrev pub EachToNext : (List ℕ → List ℕ → Type 0) → List (List ℕ) → Type 0
EachToNext R [] = Unit {0}
EachToNext R (b ∷ []) = Unit {0}
EachToNext R (b ∷ c ∷ bundles) = R b c × EachToNext R (c ∷ bundles)

-- the first `count` records, in order, in bundles that are filled up to a limit
pub record AreFilledUpTo (lengths : List ℕ) (limit count : ℕ) (bundles : List (List ℕ)) : Type 0 where
  pub filled : All IsFilled bundles
  pub ordered : flatten bundles ≡ numbers count
  pub within : All (FitsLimit lengths limit) bundles
  pub full : EachToNext (IsFullBefore lengths limit) bundles

-- bundles of about one size (Hadoop DistCp, `UniformSizeInputFormat`)
abbrev pub AreUniform : List ℕ → ℕ → List (List ℕ) → Type 0
AreUniform lengths maps bundles = AreFilledUpTo lengths (limit_of lengths maps) (length lengths) bundles

-- two bundles for each map, but no more than there are records
abbrev pub dynamic_count : ℕ → ℕ → ℕ
dynamic_count count maps = min count (2 * maps)

-- the numbers below the count that leave `place` when they are divided by `bundles`
abbrev pub leaving : ℕ → ℕ → ℕ → List ℕ
leaving count bundles place = filter (λ number. number % bundles == place) (numbers count)

-- the bundles of the dynamic strategy (Hadoop DistCp Guide, "-strategy"; which record goes where is own)
abbrev pub dynamic_bundles : ℕ → ℕ → List (List ℕ)
dynamic_bundles count maps = map (leaving count (dynamic_count count maps)) (numbers (dynamic_count count maps))
