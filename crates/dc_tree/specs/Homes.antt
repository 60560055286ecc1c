-- Where each slot of an arena hangs.
use Rattle.std.specs.Prelude.{◌≡◌, ℕ, List, Option, Some, None, get_or}
use Rattle.dc_tree.specs.declared.homes.Home.{Home}

-- where a slot hangs, as far as it was noted: the slot of a directory, and the name there
abbrev pub home_at : List (Option Home) → ℕ → Option Home
home_at homes c = get_or homes c None

-- of each slot to which a link leads, it is noted where it hangs
abbrev pub AreHomes : (ℕ → List ℕ → Option ℕ) → List (Option Home) → Type 0
AreHomes g homes = (k : ℕ) (x : List ℕ) (c : ℕ) → g k x ≡ Some c → home_at homes c ≡ Some (record { parent = k; name = x })

-- it is noted where one slot hangs
pub record Rehomed (old new : List (Option Home)) (c : ℕ) (home : Home) : Type 0 where
  pub here : home_at new c ≡ Some home
  pub others : (k : ℕ) → (k ≡ c → ⊥) → home_at new k ≡ home_at old k
