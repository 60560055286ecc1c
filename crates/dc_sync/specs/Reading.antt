-- The report of a directory, as a file of a store (HDFS Snapshots, "Get Snapshots Difference Report"; where the file stands is this project's).
use Rattle.std.specs.Prelude.{ℕ, List, [], ◌∷◌, ◌++◌, Option, Some, None, Result, Ok, Err, codes}
use Rattle.dc_path.specs.Paths.{Names}
use Rattle.dc_attrs.specs.Trees.{Tree, snapshot}
use Rattle.dc_file.specs.Files.{file_at}
use Rattle.dc_file.specs.declared.reading.FileError.{FileError}
use Rattle.dc_file.specs.declared.reading.FileError.TheVariants as file_error
use Rattle.dc_listing.specs.Roots.{and_then}
use Rattle.dc_report.specs.Reports.{report_from}
use Rattle.dc_report.specs.declared.entries.Entry.{Entry}
use Rattle.dc_report.specs.declared.report.ReportError.{ReportError}
use Rattle.dc_report.specs.declared.report.ReportError.TheVariants as report_error
use Rattle.dc_sync.specs.Steps.{stepped_on}
use Rattle.dc_sync.specs.declared.errors.SyncError.{SyncError}
use Rattle.dc_sync.specs.declared.errors.SyncError.TheVariants as sync_error

-- the name of the file: `to.` and the later snapshot, or `current` for now
abbrev pub file_name : Option (List ℕ) → List ℕ
file_name (Some to) = codes "to." ++ to
file_name None = codes "current"

-- the names below the directory
abbrev pub report_names : List ℕ → Option (List ℕ) → Names
report_names from to = snapshot ∷ codes ".reports" ∷ from ∷ file_name to ∷ []

-- the path of the file, or its refusal where it passes the limits
abbrev pub report_path : Names → List ℕ → Option (List ℕ) → Result Names SyncError
report_path dir from to = stepped_on dir (report_names from to)

-- how a file at this path is refused
abbrev pub refused_file : Names → FileError → SyncError
refused_file path file_error.NoFile = sync_error.NoReport path
refused_file path file_error.TooBig = sync_error.TooBig path
refused_file path file_error.Changed = sync_error.Changed path
refused_file path file_error.Fault = sync_error.Fault
refused_file path file_error.Memory = sync_error.Memory

abbrev pub unless_refused : Names → Result (List ℕ) FileError → Result (List ℕ) SyncError
unless_refused path (Ok text) = Ok text
unless_refused path (Err e) = Err (refused_file path e)

-- the bytes of the file at a path, or why there are none
abbrev pub text_at : Tree → Names → Result (List ℕ) SyncError
text_at s path = unless_refused path (file_at s path)

-- the line of a report that is refused; 1 for the heading
abbrev pub line_in : ReportError → ℕ
line_in report_error.BadHead = 1
line_in (report_error.BadLine line) = line
line_in (report_error.DoubleLine line) = line
line_in (report_error.DoubleSource line) = line
line_in (report_error.DoubleTarget line) = line
line_in report_error.Memory = 0

-- how a text is refused that is no report
abbrev pub refused_report : ReportError → SyncError
refused_report report_error.BadHead = sync_error.BadReport 1
refused_report (report_error.BadLine line) = sync_error.BadReport line
refused_report (report_error.DoubleLine line) = sync_error.BadReport line
refused_report (report_error.DoubleSource line) = sync_error.BadReport line
refused_report (report_error.DoubleTarget line) = sync_error.BadReport line
refused_report report_error.Memory = sync_error.Memory

-- what a text tells as a report, or the line that is refused
abbrev pub parsed : Result (List Entry) ReportError → Result (List Entry) SyncError
parsed (Ok entries) = Ok entries
parsed (Err e) = Err (refused_report e)

-- the entries of the report of a directory, or the first refusal: of its path, its file, its text
abbrev pub report_at : Tree → Names → List ℕ → Option (List ℕ) → Result (List Entry) SyncError
report_at s dir from to = and_then (report_path dir from to) (λ path. and_then (text_at s path) (λ text. parsed (report_from text)))
