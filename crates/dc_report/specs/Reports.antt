-- What a text tells as a report, or which line is refused.
use Rattle.std.specs.Prelude.{ℕ, ◌+◌, Bool, false, List, [], ◌∷◌, ◌++◌, Option, Some, None, Result, Ok, Err, if◌then◌else◌}
use Rattle.std.specs.List.{list_any}
use Rattle.dc_path.specs.Lines.{lines_of}
use Rattle.dc_path.specs.Paths.{Names, same_path}
use Rattle.dc_report.specs.declared.entries.Entry.{Entry}
use Rattle.dc_report.specs.declared.entries.Entry.TheVariants.{Deleted, Renamed, Created, Modified}
use Rattle.dc_report.specs.declared.report.ReportError.{ReportError}
use Rattle.dc_report.specs.declared.report.ReportError.TheVariants.{BadHead, BadLine, DoubleLine, DoubleSource, DoubleTarget}
use Rattle.dc_report.specs.Lines.{unended}
use Rattle.dc_report.specs.Grammar.{entry_from, is_heading}

-- ---- which paths entries name
abbrev pub creates : Names → Entry → Bool
creates p (Created q) = same_path p q
creates p (Deleted q) = false
creates p (Renamed a b) = false
creates p (Modified q) = false

abbrev pub modifies : Names → Entry → Bool
modifies p (Modified q) = same_path p q
modifies p (Created q) = false
modifies p (Deleted q) = false
modifies p (Renamed a b) = false

-- the path is deleted, or the old path of a rename
abbrev pub takes : Names → Entry → Bool
takes p (Deleted q) = same_path p q
takes p (Renamed a b) = same_path p a
takes p (Created q) = false
takes p (Modified q) = false

-- the path is the new path of a rename
abbrev pub gives : Names → Entry → Bool
gives p (Renamed a b) = same_path p b
gives p (Deleted q) = false
gives p (Created q) = false
gives p (Modified q) = false

-- ---- what is wrong with a line
-- the entry of this line tells of a path again that an earlier entry has
abbrev pub double_of : ℕ → List Entry → Entry → Option ReportError
double_of line before (Created p) = if list_any (creates p) before then Some (DoubleLine line) else None
double_of line before (Modified p) = if list_any (modifies p) before then Some (DoubleLine line) else None
double_of line before (Deleted p) = if list_any (takes p) before then Some (DoubleSource line) else None
double_of line before (Renamed a b) =
    if list_any (takes a) before then Some (DoubleSource line) else
    if list_any (gives b) before then Some (DoubleTarget line) else None

-- the entries, unless there is a fault
abbrev pub unless_double : Option ReportError → List Entry → Result (List Entry) ReportError
unless_double None entries = Ok entries
unless_double (Some fault) entries = Err fault

-- the entries before, with what a line spells behind them
abbrev pub with_spelt : ℕ → List Entry → Option Entry → Result (List Entry) ReportError
with_spelt line before None = Err (BadLine line)
with_spelt line before (Some entry) = unless_double (double_of line before entry) (before ++ entry ∷ [])

-- the entries go on, unless there was a fault
abbrev pub go_on : Result (List Entry) ReportError → (List Entry → Result (List Entry) ReportError) → Result (List Entry) ReportError
go_on (Ok entries) more = more entries
go_on (Err fault) more = Err fault

-- the entries before with those of the lines behind them, or the fault of the first line that has one; lines count on from this number
abbrev pub entries_from : ℕ → List Entry → List (List ℕ) → Result (List Entry) ReportError
entries_from line before [] = Ok before
entries_from line before (text ∷ lines) = go_on (with_spelt line before (entry_from text)) (λ entries. entries_from (line + 1) entries lines)

abbrev pub headed : List (List ℕ) → Result (List Entry) ReportError
headed [] = Err BadHead
headed (heading ∷ lines) = if is_heading heading then entries_from 2 [] lines else Err BadHead

-- the entries that a text tells, or why it is no report; line feeds at its end are passed over
abbrev pub report_from : List ℕ → Result (List Entry) ReportError
report_from text = headed (lines_of (unended text))
