-- What a run prints (Hadoop DistCp, `CopyMapper.Counter`, for the names of the counters), and its exit status.
use Rattle.std.specs.Prelude.{ℕ, Bool, true, false, List, [], ◌++◌, Option, Some, None, codes, decimal, flat_map, length}
use Rattle.hex.specs.Hex.{encode_lower}
use Rattle.dc_path.specs.Paths.{Names, dotted_of, text_of}
use Rattle.dc_options.specs.declared.errors.OptionError.{OptionError}
use Rattle.dc_options.specs.declared.errors.OptionError.TheVariants as option
use Rattle.dc_engine.specs.declared.outcome.BadTarget.{BadTarget}
use Rattle.dc_engine.specs.declared.outcome.BadTarget.TheVariants as target
use Rattle.dc_engine.specs.declared.outcome.Counts.{Counts}
use Rattle.dc_engine.specs.declared.outcome.Outcome.{Outcome}
use Rattle.dc_engine.specs.declared.outcome.Outcome.TheVariants as ended
use Rattle.dc_engine.specs.declared.outcome.Phase.{Phase}
use Rattle.dc_engine.specs.declared.outcome.Phase.TheVariants as phase
use Rattle.dc_engine.specs.declared.outcome.TooManyOf.{TooManyOf}
use Rattle.dc_engine.specs.declared.outcome.TooManyOf.TheVariants as many

-- ---- lines
-- why words are no options
abbrev pub bad_option : List ℕ → List ℕ
bad_option reason = codes "distcp: bad option: " ++ reason

-- the same of each error; want of memory is written as the outcome `Memory` is
unfoldable pub option_text : OptionError → List ℕ
option_text (option.UnknownOption word) = bad_option (codes "unknown " ++ word)
option_text (option.Repeated word) = bad_option (codes "repeated " ++ word)
option_text (option.NeedsValue word) = bad_option (codes "no value for " ++ word)
option_text (option.BadNumber word) = bad_option (codes "bad number for " ++ word)
option_text (option.BadLetter place) = bad_option (codes "bad letter at " ++ decimal place)
option_text option.BadStrategy = bad_option (codes "bad strategy")
option_text (option.BadSnapshot word) = bad_option (codes "bad snapshot for " ++ word)
option_text (option.BadPath text) = bad_option (codes "bad path " ++ text)
option_text option.UpdateOverwrite = bad_option (codes "-update with -overwrite")
option_text option.UpdateAtomic = bad_option (codes "-update with -atomic")
option_text option.OverwriteAtomic = bad_option (codes "-overwrite with -atomic")
option_text option.DeleteAlone = bad_option (codes "-delete needs -update or -overwrite")
option_text option.AppendAlone = bad_option (codes "-append needs -update")
option_text option.AppendSkipCrc = bad_option (codes "-append with -skipcrccheck")
option_text option.DiffAlone = bad_option (codes "-diff needs -update")
option_text option.RdiffAlone = bad_option (codes "-rdiff needs -update")
option_text option.DiffRdiff = bad_option (codes "-diff with -rdiff")
option_text option.DiffDelete = bad_option (codes "-delete with a report")
option_text option.TmpAlone = bad_option (codes "-tmp needs -atomic")
option_text option.DiffFilters = bad_option (codes "-filters with a report")
option_text option.DiffFiles = bad_option (codes "-f with a report")
option_text option.FilesWithSources = bad_option (codes "-f with source paths")
option_text option.NoPaths = bad_option (codes "no paths")
option_text option.OneSource = bad_option (codes "a report needs one source")
option_text option.Memory = codes "distcp: no memory"

-- what is wrong with the target
abbrev pub target_text : BadTarget → List ℕ
target_text target.InSnapshot = codes "distcp: bad target: in a snapshot"
target_text target.UnderFile = codes "distcp: bad target: under a file"
target_text target.ManyOntoFile = codes "distcp: bad target: several sources onto a file"
target_text target.DirOntoFile = codes "distcp: bad target: a directory onto a file"
target_text target.AtomicExists = codes "distcp: bad target: exists under -atomic"
target_text target.NoTmp = codes "distcp: bad target: no folder for -tmp"
target_text target.TmpInside = codes "distcp: bad target: work path and target overlap"

-- what there is too much of
abbrev pub many_text : TooManyOf → List ℕ
many_text many.Items = codes "distcp: too many items"
many_text many.Pieces = codes "distcp: too many pieces"
many_text many.Missing = codes "distcp: too many target paths"

-- the words for a part of a run
abbrev pub phase_text : Phase → List ℕ
phase_text phase.Check = codes "check"
phase_text phase.Replay = codes "replay"
phase_text phase.Decide = codes "decide"
phase_text phase.Copy = codes "copy"
phase_text phase.Dirs = codes "dirs"
phase_text phase.Land = codes "land"
phase_text phase.Sweep = codes "sweep"
phase_text phase.FileAttrs = codes "file attributes"
phase_text phase.Delete = codes "delete"
phase_text phase.DirAttrs = codes "directory attributes"
phase_text phase.Move = codes "move"

-- how the run ended; a name is written as the bytes that it has, a path under the target with a dot in front
unfoldable pub outcome_text : Outcome → List ℕ
outcome_text ended.Committed = codes "committed"
outcome_text (ended.CommittedWithout paths) = codes "committed without " ++ decimal (length paths)
outcome_text (ended.BadOption error) = option_text error
outcome_text (ended.NoFile path) = codes "distcp: no file " ++ text_of path
outcome_text (ended.TooBig path) = codes "distcp: file too big " ++ text_of path
outcome_text (ended.BadList number) = codes "distcp: bad list in line " ++ decimal number
outcome_text (ended.BadPattern number) = codes "distcp: bad pattern in line " ++ decimal number
outcome_text (ended.BigPattern number) = codes "distcp: pattern too big in line " ++ decimal number
outcome_text (ended.BadPlan number) = codes "distcp: bad kill plan in line " ++ decimal number
outcome_text (ended.BadReport number) = codes "distcp: bad report in line " ++ decimal number
outcome_text (ended.NoReport path) = codes "distcp: no report " ++ text_of path
outcome_text (ended.NoSource path) = codes "distcp: no source " ++ text_of path
outcome_text (ended.BadTarget kind) = target_text kind
outcome_text (ended.Duplicate rel first second) = codes "distcp: duplicate " ++ dotted_of rel ++ codes " from " ++ text_of first ++ codes " and " ++ text_of second
outcome_text (ended.TooMany what) = many_text what
outcome_text (ended.TooLong parent name) = codes "distcp: path too long: " ++ name ++ codes " in " ++ text_of parent
outcome_text (ended.Clash path) = codes "distcp: clash at " ++ dotted_of path
outcome_text (ended.NotAtBegin path) = codes "distcp: target changed at " ++ dotted_of path
outcome_text (ended.StageExists path) = codes "distcp: stage exists " ++ text_of path
outcome_text (ended.ReportFalse path) = codes "distcp: report is false at " ++ dotted_of path
outcome_text (ended.WorkExists path) = codes "distcp: work path exists " ++ text_of path
outcome_text ended.SourceFault = codes "distcp: source fault"
outcome_text (ended.TargetFault part done) = codes "distcp: target fault in " ++ phase_text part ++ codes " after " ++ decimal done
outcome_text (ended.CopyFailed path) = codes "distcp: copy failed " ++ dotted_of path
outcome_text (ended.Differs path expected found) = codes "distcp: differs " ++ dotted_of path ++ codes " " ++ encode_lower expected ++ codes " " ++ encode_lower found
outcome_text (ended.Changed path) = codes "distcp: store changed at " ++ text_of path
outcome_text (ended.Uncertain path) = codes "distcp: uncertain " ++ text_of path
outcome_text ended.Memory = codes "distcp: no memory"
outcome_text ended.Unbuilt = codes "distcp: not built yet"

-- the six counters, a line each
unfoldable pub counter_lines : Counts → List ℕ
counter_lines counts =
    codes "COPY=" ++ decimal counts.copied ++ codes "\n"
    ++ codes "DIR_COPY=" ++ decimal counts.dirs ++ codes "\n"
    ++ codes "SKIP=" ++ decimal counts.skipped ++ codes "\n"
    ++ codes "FAIL=" ++ decimal counts.failed ++ codes "\n"
    ++ codes "BYTESCOPIED=" ++ decimal counts.bytes_copied ++ codes "\n"
    ++ codes "BYTESSKIPPED=" ++ decimal counts.bytes_skipped ++ codes "\n"

-- that the run went on without this path under the target
abbrev pub without_line : Names → List ℕ
without_line path = codes "WITHOUT " ++ dotted_of path ++ codes "\n"

-- the lines before the last, by the paths that a run which committed went on without; none of another run
abbrev pub lines_before : Option (List Names) → Counts → List ℕ
lines_before None counts = []
lines_before (Some paths) counts = counter_lines counts ++ flat_map without_line paths

-- the paths that a run which committed went on without
unfoldable pub left_out : Outcome → Option (List Names)
left_out ended.Committed = Some []
left_out (ended.CommittedWithout paths) = Some paths
left_out (ended.BadOption error) = None
left_out (ended.NoFile path) = None
left_out (ended.TooBig path) = None
left_out (ended.BadList number) = None
left_out (ended.BadPattern number) = None
left_out (ended.BigPattern number) = None
left_out (ended.BadPlan number) = None
left_out (ended.BadReport number) = None
left_out (ended.NoReport path) = None
left_out (ended.NoSource path) = None
left_out (ended.BadTarget kind) = None
left_out (ended.Duplicate rel first second) = None
left_out (ended.TooMany what) = None
left_out (ended.TooLong parent name) = None
left_out (ended.Clash path) = None
left_out (ended.NotAtBegin path) = None
left_out (ended.StageExists path) = None
left_out (ended.ReportFalse path) = None
left_out (ended.WorkExists path) = None
left_out ended.SourceFault = None
left_out (ended.TargetFault part done) = None
left_out (ended.CopyFailed path) = None
left_out (ended.Differs path expected found) = None
left_out (ended.Changed path) = None
left_out (ended.Uncertain path) = None
left_out ended.Memory = None
left_out ended.Unbuilt = None

-- all that a run prints: where it committed its counters and what it went on without, and then how it ended
abbrev pub lines : Outcome → Counts → List ℕ
lines outcome counts = lines_before (left_out outcome) counts ++ outcome_text outcome ++ codes "\n"

-- ---- the exit status
-- of words that are no options; want of memory has the status of the outcome `Memory`
unfoldable pub option_status : OptionError → ℕ
option_status (option.UnknownOption word) = 255
option_status (option.Repeated word) = 255
option_status (option.NeedsValue word) = 255
option_status (option.BadNumber word) = 255
option_status (option.BadLetter place) = 255
option_status option.BadStrategy = 255
option_status (option.BadSnapshot word) = 255
option_status (option.BadPath text) = 255
option_status option.UpdateOverwrite = 255
option_status option.UpdateAtomic = 255
option_status option.OverwriteAtomic = 255
option_status option.DeleteAlone = 255
option_status option.AppendAlone = 255
option_status option.AppendSkipCrc = 255
option_status option.DiffAlone = 255
option_status option.RdiffAlone = 255
option_status option.DiffRdiff = 255
option_status option.DiffDelete = 255
option_status option.TmpAlone = 255
option_status option.DiffFilters = 255
option_status option.DiffFiles = 255
option_status option.FilesWithSources = 255
option_status option.NoPaths = 255
option_status option.OneSource = 255
option_status option.Memory = 24

-- of a run that committed, by whether it printed all its lines; of every other outcome, printed or not
unfoldable pub status_of : Outcome → Bool → ℕ
status_of ended.Committed true = 0
status_of ended.Committed false = 28
status_of (ended.CommittedWithout paths) true = 29
status_of (ended.CommittedWithout paths) false = 28
status_of (ended.BadOption error) printed = option_status error
status_of (ended.NoFile path) printed = 255
status_of (ended.TooBig path) printed = 255
status_of (ended.BadList number) printed = 255
status_of (ended.BadPattern number) printed = 255
status_of (ended.BigPattern number) printed = 255
status_of (ended.BadPlan number) printed = 255
status_of (ended.BadReport number) printed = 255
status_of (ended.NoReport path) printed = 255
status_of (ended.NoSource path) printed = 255
status_of (ended.BadTarget kind) printed = 255
status_of (ended.Duplicate rel first second) printed = 254
status_of (ended.TooMany what) printed = 253
status_of (ended.TooLong parent name) printed = 25
status_of (ended.Clash path) printed = 25
status_of (ended.NotAtBegin path) printed = 25
status_of (ended.StageExists path) printed = 25
status_of (ended.ReportFalse path) printed = 25
status_of (ended.WorkExists path) printed = 25
status_of ended.SourceFault printed = 25
status_of (ended.TargetFault part done) printed = 25
status_of (ended.CopyFailed path) printed = 25
status_of (ended.Differs path expected found) printed = 25
status_of (ended.Changed path) printed = 25
status_of (ended.Uncertain path) printed = 26
status_of ended.Memory printed = 24
status_of ended.Unbuilt printed = 255
