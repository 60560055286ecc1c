-- What the files that options name hold: sources, patterns and a kill plan (Hadoop DistCp Guide, `-f` and `-filters`; `-kills` is this project's).
use Rattle.std.specs.Prelude.{◌≡◌, ℕ, ◌+◌, Bool, true, false, ◌||◌, List, [], ◌∷◌, length, nat_eq, nat_lt, Option, Some, None, Result, Ok, Err, if◌then◌else◌}
use Rattle.std.specs.Option.{is_some}
use Rattle.std.specs.Result.{result_ok}
use Rattle.std.specs.List.{prefix_len, filter_map}
use Rattle.std.specs.Str.{is_utf8}
use Rattle.dc_path.specs.Lines.{lines_of}
use Rattle.dc_path.specs.Paths.{Names}
use Rattle.dc_path.specs.Reading.{path_from}
use Rattle.dc_attrs.specs.Trees.{Tree}
use Rattle.dc_file.specs.Files.{max_bytes, file_at}
use Rattle.dc_file.specs.declared.reading.FileError.{FileError}
use Rattle.dc_file.specs.declared.reading.FileError.TheVariants as file_error
use Rattle.dc_options.specs.Settings.{Settings}
use Rattle.dc_filter.specs.Filters.{filter_from}
use Rattle.dc_filter.specs.declared.filter.FilterError.{FilterError}
use Rattle.dc_filter.specs.declared.filter.FilterError.TheVariants as filter_error
use Rattle.dc_kills.specs.Entries.{Entry}
use Rattle.dc_kills.specs.Faults.{fault_of, IsPlanOf}
use Rattle.dc_kills.specs.declared.plan.PlanError.{PlanError}
use Rattle.dc_kills.specs.declared.plan.PlanError.TheVariants as plan_error
use Rattle.dc_listing.specs.Roots.{and_then}
use Rattle.dc_engine.specs.Refusals.{refused_as}
use Rattle.dc_engine.specs.declared.inputs.Inputs.{Inputs}
use Rattle.dc_engine.specs.declared.inputs.InputError.{InputError}
use Rattle.dc_engine.specs.declared.inputs.InputError.TheVariants as input_error

-- ---- a file of the source
-- how a file at this path is refused
abbrev pub input_of : Names → FileError → InputError
input_of path file_error.NoFile = input_error.NoFile path
input_of path file_error.TooBig = input_error.TooBig path
input_of path file_error.Changed = input_error.Changed path
input_of path file_error.Fault = input_error.Fault
input_of path file_error.Memory = input_error.Memory

-- the bytes of the file at a path
abbrev pub text_at : Tree → Names → Result (List ℕ) InputError
text_at s path = refused_as (input_of path) (file_at s path)

-- what the file holds that an option names, where it is given; else what stands for it
abbrev pub held_in : {A : Type 0} → Tree → Option Names → Result A InputError → (List ℕ → Result A InputError) → Result A InputError
held_in s None other from = other
held_in s (Some path) other from = and_then (text_at s path) from

-- ---- sources
-- the path that a line is; none where it is not UTF-8 or reads as no path
abbrev pub path_in : List ℕ → Option Names
path_in line = if is_utf8 line then result_ok (path_from line) else None

-- the line is empty, or a path
abbrev pub is_path_line : List ℕ → Bool
is_path_line line = nat_eq (length line) 0 || is_some (path_in line)

-- how many lines stand before the first that is neither empty nor a path
abbrev pub path_lines : List (List ℕ) → ℕ
path_lines lines = prefix_len is_path_line lines

-- these paths, of which there is at least one
abbrev pub some_of : List Names → Result (List Names) InputError
some_of [] = Err (input_error.BadList 0)
some_of (path ∷ paths) = Ok (path ∷ paths)

-- the paths of the lines that are not empty, or the first line, counted from 1, that is no path; 0 where there is no path
abbrev pub paths_in : List (List ℕ) → Result (List Names) InputError
paths_in lines = if nat_lt (path_lines lines) (length lines) then Err (input_error.BadList (path_lines lines + 1)) else some_of (filter_map path_in lines)

-- the sources: those of the file of `-f`, or else those of the words
abbrev pub sources_in : Settings → Tree → Result (List Names) InputError
sources_in o s = held_in s o.list (Ok o.sources) (λ text. paths_in (lines_of text))

-- the most sources that there may be: those of the words, or in a file one for each byte
abbrev pub most_by : Option Names → ℕ → ℕ
most_by None given = given
most_by (Some path) given = max_bytes

abbrev pub most_sources : Settings → ℕ
most_sources o = most_by o.list (length o.sources)

-- ---- patterns
abbrev pub pattern_of : FilterError → InputError
pattern_of (filter_error.BadPattern line) = input_error.BadPattern line
pattern_of (filter_error.BigPattern line) = input_error.BigPattern line
pattern_of filter_error.Memory = input_error.Memory

-- the lines of the file of `-filters`; without it no lines
abbrev pub lines_in : Settings → Tree → Result (List (List ℕ)) InputError
lines_in o s = held_in s o.filters (Ok []) (λ text. refused_as pattern_of (filter_from text))

-- ---- a kill plan
-- the line that is named; 0 without one
abbrev pub line_in : FilterError → ℕ
line_in (filter_error.BadPattern line) = line
line_in (filter_error.BigPattern line) = line
line_in filter_error.Memory = 0

-- both refusals of a line are one
abbrev pub plan_of : PlanError → InputError
plan_of (plan_error.BadLine line) = input_error.BadPlan line
plan_of (plan_error.Repeated line) = input_error.BadPlan line
plan_of plan_error.Memory = input_error.Memory

abbrev pub unless_fault : Option PlanError → Result (Unit {0}) InputError
unless_fault None = Ok tt
unless_fault (Some e) = Err (plan_of e)

-- the file of `-kills` is a kill plan, or why it is not; without it nothing is refused
abbrev pub plan_in : Settings → Tree → Result (Unit {0}) InputError
plan_in o s = held_in s o.kills (Ok tt) (λ text. unless_fault (fault_of text))

-- the plan is that of the file of `-kills`; without it the empty one
abbrev pub KillsAre : Option Names → Tree → List Entry → Type 0
KillsAre None s plan = plan ≡ []
KillsAre (Some path) s plan = (text : List ℕ) × (file_at s path ≡ Ok text) × IsPlanOf text plan

-- ---- all of them
-- the sources, and the lines of the patterns
pub record Held : Type 0 where
  pub sources : List Names
  pub lines : List (List ℕ)

abbrev pub held_of : Inputs → Held
held_of i = record { sources = i.sources; lines = i.filter }

-- what the files hold, or the first refusal in the order of `-f`, `-filters` and `-kills`
abbrev pub inputs_in : Settings → Tree → Result Held InputError
inputs_in o s = and_then (sources_in o s) (λ sources. and_then (lines_in o s) (λ lines. and_then (plan_in o s) (λ _. Ok (record { sources = sources; lines = lines }))))

-- ---- kinds
-- the source failed
abbrev pub is_input_fault : InputError → Bool
is_input_fault (input_error.NoFile path) = false
is_input_fault (input_error.TooBig path) = false
is_input_fault (input_error.BadList line) = false
is_input_fault (input_error.BadPattern line) = false
is_input_fault (input_error.BigPattern line) = false
is_input_fault (input_error.BadPlan line) = false
is_input_fault (input_error.Changed path) = false
is_input_fault input_error.Fault = true
is_input_fault input_error.Memory = false

-- the source denied what it showed
abbrev pub is_input_denied : InputError → Bool
is_input_denied (input_error.NoFile path) = false
is_input_denied (input_error.TooBig path) = false
is_input_denied (input_error.BadList line) = false
is_input_denied (input_error.BadPattern line) = false
is_input_denied (input_error.BigPattern line) = false
is_input_denied (input_error.BadPlan line) = false
is_input_denied (input_error.Changed path) = true
is_input_denied input_error.Fault = false
is_input_denied input_error.Memory = false

-- the pattern of a line would be too big
abbrev pub is_input_big : InputError → Bool
is_input_big (input_error.NoFile path) = false
is_input_big (input_error.TooBig path) = false
is_input_big (input_error.BadList line) = false
is_input_big (input_error.BadPattern line) = false
is_input_big (input_error.BigPattern line) = true
is_input_big (input_error.BadPlan line) = false
is_input_big (input_error.Changed path) = false
is_input_big input_error.Fault = false
is_input_big input_error.Memory = false

-- options and the source's tree decide that there is such a refusal
abbrev pub is_input_decided : InputError → Bool
is_input_decided (input_error.NoFile path) = true
is_input_decided (input_error.TooBig path) = true
is_input_decided (input_error.BadList line) = true
is_input_decided (input_error.BadPattern line) = true
is_input_decided (input_error.BigPattern line) = false
is_input_decided (input_error.BadPlan line) = true
is_input_decided (input_error.Changed path) = false
is_input_decided input_error.Fault = false
is_input_decided input_error.Memory = false

-- a refusal of what a file holds, for which the source is not asked
pub record IsOfText (e : InputError) : Type 0 where
  pub no_fault : is_input_fault e ≡ false
  pub no_denial : is_input_denied e ≡ false
