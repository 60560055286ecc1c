-- The names of what stands directly under a path.
use Rattle.std.specs.Prelude.{◌≡◌, ℕ, List, [], ◌∷◌, ◌++◌, Bool}
use Rattle.std.specs.Option.{is_some}
use Rattle.std.specs.List.{list_any}
use Rattle.std.specs.List.Sorted.{IsStrictlySortedBy}
use Rattle.std.specs.Ordering.{nat_cmp}
use Rattle.std.specs.Cmp.Lexicographic.{slice_cmp}
use Rattle.dc_path.specs.Names.{same_name}
use Rattle.dc_path.specs.Paths.{Names}
use Rattle.dc_attrs.specs.Trees.{Tree}

-- these names and no others, strictly ascending by bytes
pub record IsNames (has : List ℕ → Bool) (names : Names) : Type 0 where
  pub ascending : IsStrictlySortedBy (slice_cmp nat_cmp) names
  pub all : (x : List ℕ) → has x ≡ list_any (same_name x) names

-- the names of what stands directly under a path, strictly ascending
abbrev pub AreChildren : Tree → Names → Names → Type 0
AreChildren t p names = IsNames (λ x. is_some (t (p ++ x ∷ []))) names
