-- What the definitions of reports say together.
use Rattle.std.specs.Prelude.{◌≡◌, ◌↔◌, ℕ, List, Some}
use Rattle.dc_report.specs.declared.entries.Entry.{Entry}
use Rattle.dc_report.specs.Grammar.{entry_from}
use Rattle.dc_report.specs.Told.{IsTold}
use Rattle.dc_report.specs.Writing.{line_of}

-- a line spells an entry exactly where the entry may stand in a report and the line is that of the entry
abbrev pub LinesSpellEntries : Type 0
LinesSpellEntries = (line : List ℕ) (entry : Entry) → (entry_from line ≡ Some entry) ↔ (IsTold entry × (line ≡ line_of entry))
