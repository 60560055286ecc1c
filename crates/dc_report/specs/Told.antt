-- Entries that a text can tell, but that a name may hold a line feed, which no line does.
use Rattle.std.specs.Prelude.{◌≡◌, ℕ, true, false, List, [], ◌∷◌, ◌++◌, None}
use Rattle.std.specs.List.{list_all, list_any}
use Rattle.dc_path.specs.Names.{same_name}
use Rattle.dc_path.specs.Paths.{Names, IsPath, is_root}
use Rattle.dc_report.specs.declared.entries.Entry.{Entry}
use Rattle.dc_report.specs.declared.entries.Entry.TheVariants.{Deleted, Renamed, Created, Modified}
use Rattle.dc_report.specs.Carrying.{Has}
use Rattle.dc_report.specs.Grammar.{is_told}
use Rattle.dc_report.specs.Reports.{double_of}
use Rattle.dc_report.specs.Writing.{paths_of}

-- a path within the limits, each name of which may stand in a report
pub record IsToldPath (path : Names) : Type 0 where
  pub limits : IsPath path
  pub told : list_all is_told path ≡ true

-- the paths of an entry may stand in a report; the root is modified alone
abbrev pub IsTold : Entry → Type 0
IsTold (Created p) = IsToldPath p × (is_root p ≡ false)
IsTold (Deleted p) = IsToldPath p × (is_root p ≡ false)
IsTold (Modified p) = IsToldPath p
IsTold (Renamed a b) = (IsToldPath a × (is_root a ≡ false)) × (IsToldPath b × (is_root b ≡ false))

-- behind the entries before, each entry may stand in a report and tells of no path again
abbrev pub AreTold : List Entry → List Entry → Type 0
AreTold before [] = Unit {0}
AreTold before (entry ∷ entries) = (IsTold entry × (double_of 1 before entry ≡ None)) × AreTold (before ++ entry ∷ []) entries

-- no path of the entries has this name
abbrev pub HasNoName : List ℕ → List Entry → Type 0
HasNoName name R = (entry : Entry) (p : Names) → Has R entry → Has (paths_of entry) p → list_any (same_name name) p ≡ false
