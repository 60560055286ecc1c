-- No entry takes a path that another takes, and none gives one that another gives.
use Rattle.std.specs.Prelude.{◌≡◌, ◌⊎◌, List, [], ◌∷◌}
use Rattle.dc_path.specs.Paths.{Names}
use Rattle.dc_report.specs.Carrying.{Has}
use Rattle.dc_report.specs.declared.entries.Entry.{Entry}
use Rattle.dc_report.specs.declared.entries.Entry.TheVariants.{Created, Deleted, Modified, Renamed}

-- the entry deletes or renames the path
abbrev pub is_old : Names → Entry → Type 0
is_old p (Deleted q) = p ≡ q
is_old p (Renamed a b) = p ≡ a
is_old p (Created c) = ⊥
is_old p (Modified q) = ⊥

-- one of the entries deletes or renames the path
abbrev pub HasOld : List Entry → Names → Type 0
HasOld [] p = ⊥
HasOld (e ∷ es) p = is_old p e ⊎ HasOld es p

-- no path is deleted or renamed twice
abbrev pub OldsDiffer : List Entry → Type 0
OldsDiffer [] = Unit {0}
OldsDiffer (e ∷ es) = ((p : Names) → is_old p e → HasOld es p → ⊥) × OldsDiffer es

-- no path is deleted or renamed twice, and no two paths are renamed to one
pub record IsReport (R : List Entry) : Type 0 where
  pub olds : OldsDiffer R
  pub news : (a b c : Names) → Has R (Renamed a c) → Has R (Renamed b c) → a ≡ b
