-- The map from old paths to new ones, and names that may pass the limits of a path.
use Rattle.std.specs.Prelude.{◌≡◌, ℕ, List, [], ◌∷◌, ◌++◌, map, Option, None, Some}
use Rattle.std.specs.Borrow.{Bor}
use Rattle.dc_path.specs.Paths.{IsWithin, Names}
use Rattle.dc_report.specs.Carrying.{Carried, Carry, Has, Stays, With}

-- an old path, and where to
abbrev pub carry_to : Names → Option Names → Carry
carry_to p q = record { old = p; new = q }

-- the entries of the map, as what a report carries
abbrev pub carries_in : List (Names × Option Names) → List Carry
carries_in entries = map (λ e. carry_to e.0 e.1) entries

-- the old path of what carries, and the new one
abbrev pub hit_of : Carried → Option (Names × Option Names)
hit_of Stays = None
hit_of (With c rest) = Some (c.old, c.new)

-- what was found in the map
abbrev pub found : Option (Names × Bor (Option Names)) → Option (Names × Option Names)
found None = None
found (Some hit) = Some (hit.0, hit.1.now)

-- ---- names that may pass the limits of a path
-- the longest front of the names that is within the limits
pub record IsFitting (front names : Names) : Type 0 where
  pub rest : Names
  pub path : names ≡ front ++ rest
  pub longest : (x : List ℕ) (r : Names) → rest ≡ x ∷ r → IsWithin (front ++ x ∷ []) → ⊥

-- each path that is deleted or renamed is within the limits
abbrev pub OldsFit : List Carry → Type 0
OldsFit cs = (c : Carry) → Has cs c → IsWithin c.old
