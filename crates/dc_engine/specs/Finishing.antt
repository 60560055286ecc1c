-- How a run ends, by the counts of both stores, from what is settled to its answer (Hadoop DistCp, `DistCp.execute`).
use Rattle.std.specs.Prelude.{◌≡◌, ◌≢◌, ◌⊎◌, ℕ, ◌≤◌, Bool, true, false, nat_eq, ◌||◌, List, [], ◌∷◌, ◌++◌, length, Result, Ok, Err}
use Rattle.std.specs.List.{sum_by}
use Rattle.dc_path.specs.Paths.{Names}
use Rattle.dc_attrs.specs.Trees.{Tree}
use Rattle.dc_fs.specs.Causes.{Rose, counted}
use Rattle.dc_fs.specs.Rest.{Rest}
use Rattle.dc_fs.specs.Views.{View}
use Rattle.dc_fs.specs.declared.target.Landed.{Landed}
use Rattle.dc_options.specs.Settings.{Settings}
use Rattle.dc_decide.specs.Plans.{Decisions}
use Rattle.dc_commit.specs.Moving.{RoseBy}
use Rattle.dc_crew.specs.Slots.{RoseTogether}
use Rattle.dc_engine.specs.Committing.{CommitCause, CommitStops, LeavesDue, Task, is_past_sweep, outcome_of_commit}
use Rattle.dc_engine.specs.Copying.{IfCopyFailed, IfDiffers, is_of_copy}
use Rattle.dc_engine.specs.Counting.{bytes_copied_of, bytes_skipped_of, copied_of, dirs_of, failed_of, paths_out, skipped_of}
use Rattle.dc_engine.specs.Outcomes.{is_changed, is_of_survey, is_target_fault}
use Rattle.dc_engine.specs.Running.{HasCopied, IfTargetFault, IsStopped, commits, is_unknown, without}
use Rattle.dc_engine.specs.Settling.{is_of_settle}
use Rattle.dc_engine.specs.declared.committing.CommitError.{CommitError}
use Rattle.dc_engine.specs.declared.outcome.Counts.{Counts}
use Rattle.dc_engine.specs.declared.outcome.Outcome.{Outcome}
use Rattle.dc_engine.specs.declared.outcome.Outcome.TheVariants as outcome
use Rattle.dc_engine.specs.declared.outcome.Phase.{Phase}
use Rattle.dc_engine.specs.declared.outcome.Phase.TheVariants as phase_of
use Rattle.dc_engine.specs.declared.outcome.Run.{Run}

-- ---- answers
-- all steps are done, without the items at these paths
abbrev pub ended_without : List Names → Outcome
ended_without [] = outcome.Committed
ended_without (path ∷ paths) = outcome.CommittedWithout (path ∷ paths)

-- the answer of a run whose copy is committed by this plan
pub record IsRunOf (plan : Decisions) (run : Run) : Type 0 where
  pub answer : run.outcome ≡ ended_without (paths_out plan.items)
  pub moves : run.moves ≡ 0
  pub copied : run.counts.copied ≡ copied_of plan.items
  pub dirs : run.counts.dirs ≡ dirs_of plan.items
  pub skipped : run.counts.skipped ≡ skipped_of plan.items
  pub failed : run.counts.failed ≡ failed_of plan.items
  pub bytes_copied : run.counts.bytes_copied ≡ bytes_copied_of plan.items
  pub bytes_skipped : run.counts.bytes_skipped ≡ bytes_skipped_of plan.items

-- the outcome of an answer
abbrev pub outcome_in : Result Run Outcome → Outcome
outcome_in (Ok run) = run.outcome
outcome_in (Err e) = e

-- ---- kinds of outcomes
-- the work path is moved to the target
abbrev pub is_move : Phase → Bool
is_move phase_of.Check = false
is_move phase_of.Replay = false
is_move phase_of.Decide = false
is_move phase_of.Copy = false
is_move phase_of.Dirs = false
is_move phase_of.Land = false
is_move phase_of.Sweep = false
is_move phase_of.FileAttrs = false
is_move phase_of.Delete = false
is_move phase_of.DirAttrs = false
is_move phase_of.Move = true

-- no temporary is left when the phase begins
abbrev pub is_behind_sweep : Phase → Bool
is_behind_sweep phase_of.Check = false
is_behind_sweep phase_of.Replay = false
is_behind_sweep phase_of.Decide = false
is_behind_sweep phase_of.Copy = false
is_behind_sweep phase_of.Dirs = false
is_behind_sweep phase_of.Land = false
is_behind_sweep phase_of.Sweep = false
is_behind_sweep phase_of.FileAttrs = true
is_behind_sweep phase_of.Delete = true
is_behind_sweep phase_of.DirAttrs = true
is_behind_sweep phase_of.Move = true

-- a phase of a commit, which fails in the sweep and in the move after nothing
abbrev pub is_commit_at : Phase → ℕ → Bool
is_commit_at phase_of.Check done = false
is_commit_at phase_of.Replay done = false
is_commit_at phase_of.Decide done = false
is_commit_at phase_of.Copy done = false
is_commit_at phase_of.Dirs done = true
is_commit_at phase_of.Land done = true
is_commit_at phase_of.Sweep done = nat_eq done 0
is_commit_at phase_of.FileAttrs done = true
is_commit_at phase_of.Delete done = true
is_commit_at phase_of.DirAttrs done = true
is_commit_at phase_of.Move done = nat_eq done 0

-- how a run may end in its commit
abbrev pub is_of_commit : Outcome → Bool
is_of_commit outcome.Committed = true
is_of_commit (outcome.CommittedWithout paths) = true
is_of_commit (outcome.BadOption error) = false
is_of_commit (outcome.NoFile path) = false
is_of_commit (outcome.TooBig path) = false
is_of_commit (outcome.BadList line) = false
is_of_commit (outcome.BadPattern line) = false
is_of_commit (outcome.BigPattern line) = false
is_of_commit (outcome.BadPlan line) = false
is_of_commit (outcome.BadReport line) = false
is_of_commit (outcome.NoReport path) = false
is_of_commit (outcome.NoSource path) = false
is_of_commit (outcome.BadTarget kind) = false
is_of_commit (outcome.Duplicate rel first second) = false
is_of_commit (outcome.TooMany what) = false
is_of_commit (outcome.TooLong parent name) = false
is_of_commit (outcome.Clash path) = false
is_of_commit (outcome.NotAtBegin path) = false
is_of_commit (outcome.StageExists path) = false
is_of_commit (outcome.ReportFalse path) = false
is_of_commit (outcome.WorkExists path) = false
is_of_commit outcome.SourceFault = false
is_of_commit (outcome.TargetFault phase done) = is_commit_at phase done
is_of_commit (outcome.CopyFailed path) = false
is_of_commit (outcome.Differs path expected found) = false
is_of_commit (outcome.Changed path) = true
is_of_commit (outcome.Uncertain path) = true
is_of_commit outcome.Memory = true
is_of_commit outcome.Unbuilt = false

-- how a run may end before anything is copied
abbrev pub is_of_look : Outcome → Bool
is_of_look e = is_of_survey e || is_of_settle e

-- how a run may end from what is settled on
abbrev pub is_of_finish : Outcome → Bool
is_of_finish e = is_of_copy e || is_of_commit e

-- ---- the commit
-- all is done, and what is due to each copy of which this is the commit is left
abbrev pub LeavesDone : Task → View → View → Type 0
LeavesDone task old new = LeavesDue {X = Unit {0}} task old new (Ok tt)

-- a phase stops, for this reason
pub record StopsCommit (task : Task) (old new : View) (e : Outcome) : Type 0 where
  pub why : CommitError
  pub named : e ≡ outcome_of_commit why
  pub stops : CommitStops task old new why
  pub cause : CommitCause old new why
  pub swept : is_past_sweep why ≡ true → new.rest.scratch ≡ 0
  pub due : LeavesDue {X = Unit {0}} task old new (Err why)

-- memory runs out before anything is done, or a phase stops
abbrev pub EndsCommit : Task → View → View → Outcome → Type 0
EndsCommit task old new e = ((e ≡ outcome.Memory) × (new ≡ old)) ⊎ StopsCommit task old new e

-- ---- what the counts show
-- three renames failed in the move, and in every other phase none
pub record RenamesIn (phase : Phase) (target target_now : View) : Type 0 where
  pub moving : is_move phase ≡ true → RoseBy 3 target.faults target_now.faults × RoseBy 3 target.rest.rename_faults target_now.rest.rename_faults
  pub before : is_move phase ≡ false → target_now.rest.rename_faults ≡ target.rest.rename_faults

-- with `-atomic` a rename failed, and then three looks
pub record IsUnsure (o : Settings) (target target_now : View) : Type 0 where
  pub asked : o.atomic ≡ true
  pub faults : RoseBy 4 target.faults target_now.faults
  pub renames : Rose target.rest.rename_faults target_now.rest.rename_faults

-- nothing has changed at the target, and nothing has landed
pub record IsAsItWas (target target_now : View) : Type 0 where
  pub tree : target_now.tree ≡ target.tree
  pub landed : target_now.rest.landed ≡ target.rest.landed
  pub renames : target_now.rest.rename_faults ≡ target.rest.rename_faults

-- what both stores show of this outcome
pub record ShowsEnd (o : Settings) (e : Outcome) (source source_now target target_now : View) : Type 0 where
  pub some : e ≢ outcome.CommittedWithout []
  pub allowed : o.ignore ≡ false → commits e ≡ true → e ≡ outcome.Committed
  pub swept : commits e ≡ true → target_now.rest.scratch ≡ 0
  pub cause : is_target_fault e ≡ true → Rose target.faults target_now.faults
  pub renames : IfTargetFault e (λ phase done. RenamesIn phase target target_now)
  pub emptied : IfTargetFault e (λ phase done. is_behind_sweep phase ≡ true → target_now.rest.scratch ≡ 0)
  pub uncertain : is_unknown e ≡ true → IsUnsure o target target_now
  pub given_up : IfCopyFailed e (λ path. o.ignore ≡ false)
  pub four : IfCopyFailed e (λ path. RoseTogether source.rest source_now.rest target.rest target_now.rest 4)
  pub unfailed : source.steady ≡ true → target.steady ≡ true → IfCopyFailed e (λ path. ⊥)
  pub differ : IfDiffers e (λ path expected found. expected ≢ found)
  pub early : is_of_commit e ≡ false → IsAsItWas target target_now

-- at least so many more temporaries were created
abbrev pub HasCreated : Rest → Rest → ℕ → Type 0
HasCreated old new n = counted old.created n ≤ new.created

-- what has landed gained as many files and bytes as the counters say, whatever is told
pub record Gains (counts : Counts) (old new : List Landed) : Type 0 where
  pub more : List Landed
  pub landed : new ≡ old ++ more
  pub files : length more ≡ counts.copied
  pub bytes : sum_by (λ (one : Landed). one.bytes) more ≡ counts.bytes_copied

-- ---- what is told
-- no store that tells denies what it showed, and no digests differ
pub record IsSure (e : Outcome) : Type 0 where
  pub shown : is_changed e ≡ false
  pub same : IfDiffers e (λ path expected found. ⊥)

-- it commits, and the copy is made; or it does not
pub record HasEnded (o : Settings) (s t : Tree) (run : Run) (source source_now target target_now : View) : Type 0 where
  pub copied : commits run.outcome ≡ true → HasCopied o s t (without run.outcome) run.counts source source_now target target_now
  pub stopped : commits run.outcome ≡ false → IsStopped o s t run.outcome target target_now
  pub sure : IsSure run.outcome
