-- How runs end, by kinds.
use Rattle.std.specs.Prelude.{ℕ, Bool, true, false, ⊤, List, nat_eq, ◌&&◌}
use Rattle.dc_path.specs.Paths.{Names}
use Rattle.dc_engine.specs.declared.outcome.Outcome.{Outcome}
use Rattle.dc_engine.specs.declared.outcome.Outcome.TheVariants as outcome
use Rattle.dc_engine.specs.declared.outcome.Phase.{Phase}
use Rattle.dc_engine.specs.declared.outcome.Phase.TheVariants as phase_of
use Rattle.dc_engine.specs.declared.outcome.TooManyOf.{TooManyOf}
use Rattle.dc_engine.specs.declared.outcome.TooManyOf.TheVariants as too_many

-- what options, words and trees decide, and no failure, no denial of what was shown, no size of a pattern and no want of memory
abbrev pub is_decided : Outcome → Bool
is_decided outcome.Committed = true
is_decided (outcome.CommittedWithout paths) = false
is_decided (outcome.BadOption error) = true
is_decided (outcome.NoFile path) = true
is_decided (outcome.TooBig path) = true
is_decided (outcome.BadList line) = true
is_decided (outcome.BadPattern line) = true
is_decided (outcome.BigPattern line) = false
is_decided (outcome.BadPlan line) = true
is_decided (outcome.BadReport line) = true
is_decided (outcome.NoReport path) = true
is_decided (outcome.NoSource path) = true
is_decided (outcome.BadTarget kind) = true
is_decided (outcome.Duplicate rel first second) = true
is_decided (outcome.TooMany what) = true
is_decided (outcome.TooLong parent name) = true
is_decided (outcome.Clash path) = true
is_decided (outcome.NotAtBegin path) = true
is_decided (outcome.StageExists path) = true
is_decided (outcome.ReportFalse path) = true
is_decided (outcome.WorkExists path) = true
is_decided outcome.SourceFault = false
is_decided (outcome.TargetFault phase done) = false
is_decided (outcome.CopyFailed path) = false
is_decided (outcome.Differs path expected found) = false
is_decided (outcome.Changed path) = false
is_decided (outcome.Uncertain path) = false
is_decided outcome.Memory = false
is_decided outcome.Unbuilt = true

-- a store denied what it showed in this run
abbrev pub is_changed : Outcome → Bool
is_changed outcome.Committed = false
is_changed (outcome.CommittedWithout paths) = false
is_changed (outcome.BadOption error) = false
is_changed (outcome.NoFile path) = false
is_changed (outcome.TooBig path) = false
is_changed (outcome.BadList line) = false
is_changed (outcome.BadPattern line) = false
is_changed (outcome.BigPattern line) = false
is_changed (outcome.BadPlan line) = false
is_changed (outcome.BadReport line) = false
is_changed (outcome.NoReport path) = false
is_changed (outcome.NoSource path) = false
is_changed (outcome.BadTarget kind) = false
is_changed (outcome.Duplicate rel first second) = false
is_changed (outcome.TooMany what) = false
is_changed (outcome.TooLong parent name) = false
is_changed (outcome.Clash path) = false
is_changed (outcome.NotAtBegin path) = false
is_changed (outcome.StageExists path) = false
is_changed (outcome.ReportFalse path) = false
is_changed (outcome.WorkExists path) = false
is_changed outcome.SourceFault = false
is_changed (outcome.TargetFault phase done) = false
is_changed (outcome.CopyFailed path) = false
is_changed (outcome.Differs path expected found) = false
is_changed (outcome.Changed path) = true
is_changed (outcome.Uncertain path) = false
is_changed outcome.Memory = false
is_changed outcome.Unbuilt = false

-- the source failed
abbrev pub is_source_fault : Outcome → Bool
is_source_fault outcome.Committed = false
is_source_fault (outcome.CommittedWithout paths) = false
is_source_fault (outcome.BadOption error) = false
is_source_fault (outcome.NoFile path) = false
is_source_fault (outcome.TooBig path) = false
is_source_fault (outcome.BadList line) = false
is_source_fault (outcome.BadPattern line) = false
is_source_fault (outcome.BigPattern line) = false
is_source_fault (outcome.BadPlan line) = false
is_source_fault (outcome.BadReport line) = false
is_source_fault (outcome.NoReport path) = false
is_source_fault (outcome.NoSource path) = false
is_source_fault (outcome.BadTarget kind) = false
is_source_fault (outcome.Duplicate rel first second) = false
is_source_fault (outcome.TooMany what) = false
is_source_fault (outcome.TooLong parent name) = false
is_source_fault (outcome.Clash path) = false
is_source_fault (outcome.NotAtBegin path) = false
is_source_fault (outcome.StageExists path) = false
is_source_fault (outcome.ReportFalse path) = false
is_source_fault (outcome.WorkExists path) = false
is_source_fault outcome.SourceFault = true
is_source_fault (outcome.TargetFault phase done) = false
is_source_fault (outcome.CopyFailed path) = false
is_source_fault (outcome.Differs path expected found) = false
is_source_fault (outcome.Changed path) = false
is_source_fault (outcome.Uncertain path) = false
is_source_fault outcome.Memory = false
is_source_fault outcome.Unbuilt = false

-- the target failed
abbrev pub is_target_fault : Outcome → Bool
is_target_fault outcome.Committed = false
is_target_fault (outcome.CommittedWithout paths) = false
is_target_fault (outcome.BadOption error) = false
is_target_fault (outcome.NoFile path) = false
is_target_fault (outcome.TooBig path) = false
is_target_fault (outcome.BadList line) = false
is_target_fault (outcome.BadPattern line) = false
is_target_fault (outcome.BigPattern line) = false
is_target_fault (outcome.BadPlan line) = false
is_target_fault (outcome.BadReport line) = false
is_target_fault (outcome.NoReport path) = false
is_target_fault (outcome.NoSource path) = false
is_target_fault (outcome.BadTarget kind) = false
is_target_fault (outcome.Duplicate rel first second) = false
is_target_fault (outcome.TooMany what) = false
is_target_fault (outcome.TooLong parent name) = false
is_target_fault (outcome.Clash path) = false
is_target_fault (outcome.NotAtBegin path) = false
is_target_fault (outcome.StageExists path) = false
is_target_fault (outcome.ReportFalse path) = false
is_target_fault (outcome.WorkExists path) = false
is_target_fault outcome.SourceFault = false
is_target_fault (outcome.TargetFault phase done) = true
is_target_fault (outcome.CopyFailed path) = false
is_target_fault (outcome.Differs path expected found) = false
is_target_fault (outcome.Changed path) = false
is_target_fault (outcome.Uncertain path) = false
is_target_fault outcome.Memory = false
is_target_fault outcome.Unbuilt = false

-- the pattern of a line would be too big
abbrev pub is_big_pattern : Outcome → Bool
is_big_pattern outcome.Committed = false
is_big_pattern (outcome.CommittedWithout paths) = false
is_big_pattern (outcome.BadOption error) = false
is_big_pattern (outcome.NoFile path) = false
is_big_pattern (outcome.TooBig path) = false
is_big_pattern (outcome.BadList line) = false
is_big_pattern (outcome.BadPattern line) = false
is_big_pattern (outcome.BigPattern line) = true
is_big_pattern (outcome.BadPlan line) = false
is_big_pattern (outcome.BadReport line) = false
is_big_pattern (outcome.NoReport path) = false
is_big_pattern (outcome.NoSource path) = false
is_big_pattern (outcome.BadTarget kind) = false
is_big_pattern (outcome.Duplicate rel first second) = false
is_big_pattern (outcome.TooMany what) = false
is_big_pattern (outcome.TooLong parent name) = false
is_big_pattern (outcome.Clash path) = false
is_big_pattern (outcome.NotAtBegin path) = false
is_big_pattern (outcome.StageExists path) = false
is_big_pattern (outcome.ReportFalse path) = false
is_big_pattern (outcome.WorkExists path) = false
is_big_pattern outcome.SourceFault = false
is_big_pattern (outcome.TargetFault phase done) = false
is_big_pattern (outcome.CopyFailed path) = false
is_big_pattern (outcome.Differs path expected found) = false
is_big_pattern (outcome.Changed path) = false
is_big_pattern (outcome.Uncertain path) = false
is_big_pattern outcome.Memory = false
is_big_pattern outcome.Unbuilt = false

-- the options ask for what is not built yet
abbrev pub is_unbuilt : Outcome → Bool
is_unbuilt outcome.Committed = false
is_unbuilt (outcome.CommittedWithout paths) = false
is_unbuilt (outcome.BadOption error) = false
is_unbuilt (outcome.NoFile path) = false
is_unbuilt (outcome.TooBig path) = false
is_unbuilt (outcome.BadList line) = false
is_unbuilt (outcome.BadPattern line) = false
is_unbuilt (outcome.BigPattern line) = false
is_unbuilt (outcome.BadPlan line) = false
is_unbuilt (outcome.BadReport line) = false
is_unbuilt (outcome.NoReport path) = false
is_unbuilt (outcome.NoSource path) = false
is_unbuilt (outcome.BadTarget kind) = false
is_unbuilt (outcome.Duplicate rel first second) = false
is_unbuilt (outcome.TooMany what) = false
is_unbuilt (outcome.TooLong parent name) = false
is_unbuilt (outcome.Clash path) = false
is_unbuilt (outcome.NotAtBegin path) = false
is_unbuilt (outcome.StageExists path) = false
is_unbuilt (outcome.ReportFalse path) = false
is_unbuilt (outcome.WorkExists path) = false
is_unbuilt outcome.SourceFault = false
is_unbuilt (outcome.TargetFault phase done) = false
is_unbuilt (outcome.CopyFailed path) = false
is_unbuilt (outcome.Differs path expected found) = false
is_unbuilt (outcome.Changed path) = false
is_unbuilt (outcome.Uncertain path) = false
is_unbuilt outcome.Memory = false
is_unbuilt outcome.Unbuilt = true

-- the target is looked at before anything is changed
abbrev pub is_check : Phase → Bool
is_check phase_of.Check = true
is_check phase_of.Replay = false
is_check phase_of.Decide = false
is_check phase_of.Copy = false
is_check phase_of.Dirs = false
is_check phase_of.Land = false
is_check phase_of.Sweep = false
is_check phase_of.FileAttrs = false
is_check phase_of.Delete = false
is_check phase_of.DirAttrs = false
is_check phase_of.Move = false

-- there are too many listed items
abbrev pub is_items : TooManyOf → Bool
is_items too_many.Items = true
is_items too_many.Pieces = false
is_items too_many.Missing = false

-- how a survey may end that lists nothing: the target fails in the check alone, after nothing
abbrev pub is_of_survey : Outcome → Bool
is_of_survey outcome.Committed = false
is_of_survey (outcome.CommittedWithout paths) = false
is_of_survey (outcome.BadOption error) = false
is_of_survey (outcome.NoFile path) = true
is_of_survey (outcome.TooBig path) = true
is_of_survey (outcome.BadList line) = true
is_of_survey (outcome.BadPattern line) = true
is_of_survey (outcome.BigPattern line) = true
is_of_survey (outcome.BadPlan line) = true
is_of_survey (outcome.BadReport line) = false
is_of_survey (outcome.NoReport path) = false
is_of_survey (outcome.NoSource path) = true
is_of_survey (outcome.BadTarget kind) = true
is_of_survey (outcome.Duplicate rel first second) = true
is_of_survey (outcome.TooMany what) = is_items what
is_of_survey (outcome.TooLong parent name) = true
is_of_survey (outcome.Clash path) = false
is_of_survey (outcome.NotAtBegin path) = false
is_of_survey (outcome.StageExists path) = false
is_of_survey (outcome.ReportFalse path) = false
is_of_survey (outcome.WorkExists path) = true
is_of_survey outcome.SourceFault = true
is_of_survey (outcome.TargetFault phase done) = is_check phase && nat_eq done 0
is_of_survey (outcome.CopyFailed path) = false
is_of_survey (outcome.Differs path expected found) = false
is_of_survey (outcome.Changed path) = true
is_of_survey (outcome.Uncertain path) = false
is_of_survey outcome.Memory = true
is_of_survey outcome.Unbuilt = true

-- a fact of the path that passes the limits, told by its parent and its last name
abbrev pub IfTooLong : Outcome → (Names → List ℕ → Type 0) → Type 0
IfTooLong outcome.Committed P = ⊤
IfTooLong (outcome.CommittedWithout paths) P = ⊤
IfTooLong (outcome.BadOption error) P = ⊤
IfTooLong (outcome.NoFile path) P = ⊤
IfTooLong (outcome.TooBig path) P = ⊤
IfTooLong (outcome.BadList line) P = ⊤
IfTooLong (outcome.BadPattern line) P = ⊤
IfTooLong (outcome.BigPattern line) P = ⊤
IfTooLong (outcome.BadPlan line) P = ⊤
IfTooLong (outcome.BadReport line) P = ⊤
IfTooLong (outcome.NoReport path) P = ⊤
IfTooLong (outcome.NoSource path) P = ⊤
IfTooLong (outcome.BadTarget kind) P = ⊤
IfTooLong (outcome.Duplicate rel first second) P = ⊤
IfTooLong (outcome.TooMany what) P = ⊤
IfTooLong (outcome.TooLong parent name) P = P parent name
IfTooLong (outcome.Clash path) P = ⊤
IfTooLong (outcome.NotAtBegin path) P = ⊤
IfTooLong (outcome.StageExists path) P = ⊤
IfTooLong (outcome.ReportFalse path) P = ⊤
IfTooLong (outcome.WorkExists path) P = ⊤
IfTooLong outcome.SourceFault P = ⊤
IfTooLong (outcome.TargetFault phase done) P = ⊤
IfTooLong (outcome.CopyFailed path) P = ⊤
IfTooLong (outcome.Differs path expected found) P = ⊤
IfTooLong (outcome.Changed path) P = ⊤
IfTooLong (outcome.Uncertain path) P = ⊤
IfTooLong outcome.Memory P = ⊤
IfTooLong outcome.Unbuilt P = ⊤
