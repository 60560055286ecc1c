-- All phases of a commit in their order (Hadoop DistCp, `CopyCommitter.commitJob`): what they leave, and where they stop.
use Rattle.std.specs.Prelude.{◌≡◌, ◌⊎◌, ℕ, ◌+◌, Bool, true, false, not, ◌&&◌, List, ◌++◌, map, take, Option, Some, None, IfSome, IfErr, OnOk, IsSomeAnd, Result, Ok, Err, ⊤}
use Rattle.std.specs.List.{list_all, list_any}
use Rattle.std.specs.Option.{option_map}
use Rattle.dc_path.specs.Paths.{Names, is_root}
use Rattle.dc_attrs.specs.Keeping.{Kept}
use Rattle.dc_attrs.specs.Refusals.{refused_rename}
use Rattle.dc_attrs.specs.Trees.{Tree, moved}
use Rattle.dc_fs.specs.Causes.{Rose}
use Rattle.dc_fs.specs.Rest.{Rest, SweepStops, with_scratch}
use Rattle.dc_fs.specs.Views.{View}
use Rattle.dc_options.specs.Settings.{Settings}
use Rattle.dc_decide.specs.Plans.{Decision, Decisions}
use Rattle.dc_commit.specs.Landing.{Landing, LandStops, all_landed, is_told, land_step, landing_of}
use Rattle.dc_commit.specs.Making.{make_steps}
use Rattle.dc_commit.specs.Moving.{AfterMove, MoveCause, with_rename_faults}
use Rattle.dc_commit.specs.Removals.{remove_steps}
use Rattle.dc_commit.specs.Settings.{dir_steps, file_steps}
use Rattle.dc_commit.specs.Steps.{Step, Stops, after, is_fault}
use Rattle.dc_commit.specs.declared.landing.Ready.{Ready}
use Rattle.dc_commit.specs.declared.moving.Moved.{Moved}
use Rattle.dc_commit.specs.declared.moving.Moved.TheVariants as move
use Rattle.dc_commit.specs.declared.steps.StepError.{StepError}
use Rattle.dc_commit.specs.declared.steps.StepError.TheVariants as step_error
use Rattle.dc_result.specs.Atomic.{IsAtomic}
use Rattle.dc_result.specs.Begins.{Begins}
use Rattle.dc_result.specs.Commits.{Commit, IsCommit, dirs_set, files_landed}
use Rattle.dc_result.specs.During.{Making, Landing as AtLanding, SettingFiles, Removing, SettingDirs, Point, tree_at}
use Rattle.dc_result.specs.Effects.{AreEffects, effects}
use Rattle.dc_result.specs.Jobs.{IsJob, Job}
use Rattle.dc_result.specs.Result.{IsResult}
use Rattle.dc_engine.specs.declared.committing.AdjustError.{AdjustError}
use Rattle.dc_engine.specs.declared.committing.AdjustError.TheVariants as adjust_error
use Rattle.dc_engine.specs.declared.committing.BuildError.{BuildError}
use Rattle.dc_engine.specs.declared.committing.BuildError.TheVariants as build_error
use Rattle.dc_engine.specs.declared.committing.CommitError.{CommitError}
use Rattle.dc_engine.specs.declared.committing.CommitError.TheVariants as commit_error
use Rattle.dc_engine.specs.declared.committing.MoveError.{MoveError}
use Rattle.dc_engine.specs.declared.committing.MoveError.TheVariants as move_error
use Rattle.dc_engine.specs.declared.outcome.Outcome.{Outcome}
use Rattle.dc_engine.specs.declared.outcome.Outcome.TheVariants as outcome
use Rattle.dc_engine.specs.declared.outcome.Phase.{Phase}
use Rattle.dc_engine.specs.declared.outcome.Phase.TheVariants as phase_of

-- ---- how a run ends
abbrev pub outcome_of_step : StepError → Phase → Outcome
outcome_of_step (step_error.Fault done) phase = outcome.TargetFault phase done
outcome_of_step (step_error.Changed path) phase = outcome.Changed path
outcome_of_step (step_error.Memory done) phase = outcome.Memory

abbrev pub outcome_of_build : BuildError → Outcome
outcome_of_build (build_error.Dirs error) = outcome_of_step error phase_of.Dirs
outcome_of_build (build_error.Land error) = outcome_of_step error phase_of.Land
outcome_of_build build_error.Sweep = outcome.TargetFault phase_of.Sweep 0

abbrev pub outcome_of_adjust : AdjustError → Outcome
outcome_of_adjust (adjust_error.FileAttrs error) = outcome_of_step error phase_of.FileAttrs
outcome_of_adjust (adjust_error.Delete error) = outcome_of_step error phase_of.Delete
outcome_of_adjust (adjust_error.DirAttrs error) = outcome_of_step error phase_of.DirAttrs

abbrev pub outcome_of_move : MoveError → Outcome
outcome_of_move move_error.NotMoved = outcome.TargetFault phase_of.Move 0
outcome_of_move (move_error.Uncertain path) = outcome.Uncertain path
outcome_of_move (move_error.Changed path) = outcome.Changed path
outcome_of_move move_error.Memory = outcome.Memory

abbrev pub outcome_of_commit : CommitError → Outcome
outcome_of_commit (commit_error.Build error) = outcome_of_build error
outcome_of_commit (commit_error.Adjust error) = outcome_of_adjust error
outcome_of_commit (commit_error.Move error) = outcome_of_move error

-- ---- what a commit is given
-- the options, the target path, and the plan, the files that land and the paths that go
pub record Task : Type 0 where
  pub options : Settings
  pub place : Names
  pub given : Commit

-- files that are ready, as they land
abbrev pub landings_of : {P : Type 0} → (P → Option (List ℕ)) → (P → ℕ) → Decisions → List (Ready P) → List Landing
landings_of content size plan files = map (landing_of content size plan) files

abbrev pub task_of : {P : Type 0} → (P → Option (List ℕ)) → (P → ℕ) → Settings → Names → Decisions → List (Ready P) → List Names → Task
task_of content size options place plan files paths = record {
  options = options;
  place = place;
  given = record { plan = plan; landings = landings_of content size plan files; paths = paths };
}

-- the bytes of all files are told
abbrev pub AreTold : List Landing → Type 0
AreTold landings = list_all is_told landings ≡ true

-- ---- directories, files, the sweep
-- the tree after these steps, where one is told
abbrev pub done : List Step → Option Tree → Option Tree
done steps tree = option_map (after steps) tree

-- with the directories, and with the files too
abbrev pub with_dirs : Names → Decisions → Option Tree → Option Tree
with_dirs place plan tree = done (make_steps place plan) tree

abbrev pub with_files : Task → Option Tree → Option Tree
with_files task tree = done (map land_step task.given.landings) (with_dirs task.place task.given.plan tree)

-- the same target with another tree
abbrev pub at_tree : Option Tree → View → View
at_tree tree target = record target { tree = tree }

-- what a target keeps when these files have landed and no temporary is left
abbrev pub swept : List Landing → Rest → Rest
swept landings rest = with_scratch 0 (all_landed landings rest)

-- these files have landed, and no temporary is left
pub record HaveCome (landings : List Landing) (old new : View) : Type 0 where
  pub rest : new.rest ≡ swept landings old.rest
  pub tree : AreTold landings → new.tree ≡ done (map land_step landings) old.tree

-- they have landed, and the sweep failed
pub record LacksSweep (landings : List Landing) (old new : View) : Type 0 where
  pub rest : SweepStops (all_landed landings old.rest) new.rest
  pub tree : AreTold landings → new.tree ≡ done (map land_step landings) old.tree

-- some of the directories are made, and nothing else
pub record StopsInDirs (place : Names) (plan : Decisions) (old new : View) (error : StepError) : Type 0 where
  pub rest : new.rest ≡ old.rest
  pub stop : Stops (make_steps place plan) old.tree new.tree error

-- landing and the sweep
abbrev pub Lands : {X : Type 0} → List Landing → View → View → Result X BuildError → Type 0
Lands landings old new (Ok x) = HaveCome landings old new
Lands landings old new (Err (build_error.Dirs error)) = ⊥
Lands landings old new (Err (build_error.Land error)) = LandStops landings old new error
Lands landings old new (Err build_error.Sweep) = LacksSweep landings old new

-- the same with the directories before them
abbrev pub BuildStops : Names → Decisions → List Landing → View → View → BuildError → Type 0
BuildStops place plan landings old new (build_error.Dirs error) = StopsInDirs place plan old new error
BuildStops place plan landings old new (build_error.Land error) = LandStops landings (at_tree (with_dirs place plan old.tree) old) new error
BuildStops place plan landings old new build_error.Sweep = LacksSweep landings (at_tree (with_dirs place plan old.tree) old) new

abbrev pub Builds : {X : Type 0} → Names → Decisions → List Landing → View → View → Result X BuildError → Type 0
Builds place plan landings old new (Ok x) = HaveCome landings (at_tree (with_dirs place plan old.tree) old) new
Builds place plan landings old new (Err error) = BuildStops place plan landings old new error

-- ---- attributes and removals
-- the tree with the attributes of files, then without what the source lacks, then with the attributes of directories
abbrev pub with_file_attrs : Kept → Decisions → Option Tree → Option Tree
with_file_attrs keep plan tree = done (file_steps keep plan) tree

abbrev pub without_missing : Kept → Decisions → List Names → Option Tree → Option Tree
without_missing keep plan paths tree = done (remove_steps paths) (with_file_attrs keep plan tree)

abbrev pub adjusted : Kept → Decisions → List Names → Option Tree → Option Tree
adjusted keep plan paths tree = done (dir_steps keep plan) (without_missing keep plan paths tree)

abbrev pub AdjustStops : Kept → Decisions → List Names → Option Tree → Option Tree → AdjustError → Type 0
AdjustStops keep plan paths old new (adjust_error.FileAttrs error) = Stops (file_steps keep plan) old new error
AdjustStops keep plan paths old new (adjust_error.Delete error) = Stops (remove_steps paths) (with_file_attrs keep plan old) new error
AdjustStops keep plan paths old new (adjust_error.DirAttrs error) = Stops (dir_steps keep plan) (without_missing keep plan paths old) new error

abbrev pub Adjusts : {X : Type 0} → Kept → Decisions → List Names → Option Tree → Option Tree → Result X AdjustError → Type 0
Adjusts keep plan paths old new (Ok x) = new ≡ adjusted keep plan paths old
Adjusts keep plan paths old new (Err error) = AdjustStops keep plan paths old new error

-- ---- the move
-- what became of the work path
abbrev pub move_of : {X : Type 0} → Result X MoveError → Moved
move_of (Ok x) = move.Moved
move_of (Err move_error.NotMoved) = move.NotMoved
move_of (Err (move_error.Uncertain path)) = move.Uncertain
move_of (Err (move_error.Changed path)) = move.Changed
move_of (Err move_error.Memory) = move.Memory

abbrev pub move_in : MoveError → Moved
move_in error = move_of {X = Unit {0}} (Err error)

-- the error names this path, if any
abbrev pub TellsPath : MoveError → Names → Type 0
TellsPath move_error.NotMoved place = ⊤
TellsPath (move_error.Uncertain path) place = path ≡ place
TellsPath (move_error.Changed path) place = path ≡ place
TellsPath move_error.Memory place = ⊤

-- a told tree that does not refuse the move is as this says
abbrev pub Moves : Moved → Names → Names → Option Tree → Option Tree → Type 0
Moves moving work place old new = IfSome old (λ t. refused_rename t work place ≡ None → AfterMove moving t (moved t work place) new)

-- a file is listed at the root path, and the copy goes on without it: nothing is made under the base
abbrev pub lacks_work : List Decision → Bool
lacks_work items = list_any (λ d. is_root d.item.rel && (not d.item.dir && d.out)) items

-- the work path is moved to the target
abbrev pub moves : Settings → Decisions → Bool
moves o plan = o.atomic && not (lacks_work plan.items)

-- ---- all phases
-- the tree after all phases but the move
abbrev pub filled : Task → Option Tree → Option Tree
filled task tree = adjusted task.options.keep task.given.plan task.given.paths (with_files task tree)

-- the work path is moved to the target at the end
abbrev pub is_moved : Task → Bool
is_moved task = moves task.options task.given.plan

-- the tree after all phases
abbrev pub IsLeft : Bool → Task → Option Tree → Option Tree → Type 0
IsLeft false task old new = new ≡ filled task old
IsLeft true task old new = Moves move.Moved task.given.plan.base task.place (filled task old) new

-- all phases are done: the files have landed, no temporary is left, and nothing else that the target keeps has changed, but
-- that renames may have failed in the move
pub record HasCommitted (task : Task) (old new : View) : Type 0 where
  pub rest : new.rest ≡ with_rename_faults new.rest.rename_faults (swept task.given.landings old.rest)
  pub tree : AreTold task.given.landings → IsLeft (is_moved task) task old.tree new.tree
  pub quiet : is_moved task ≡ false → (new.rest.rename_faults ≡ old.rest.rename_faults) × (new.faults ≡ old.faults)

-- behind the sweep a phase stops on the tree that the phases before it leave
pub record StopsInAdjust (task : Task) (old new : View) (error : AdjustError) : Type 0 where
  pub rest : new.rest ≡ swept task.given.landings old.rest
  pub from : Option Tree
  pub known : AreTold task.given.landings → from ≡ with_files task old.tree
  pub stop : AdjustStops task.options.keep task.given.plan task.given.paths from new.tree error

-- all phases but the move are done
pub record StopsInMove (task : Task) (old new : View) (error : MoveError) : Type 0 where
  pub asked : is_moved task ≡ true
  pub rest : new.rest ≡ with_rename_faults new.rest.rename_faults (swept task.given.landings old.rest)
  pub tree : AreTold task.given.landings → Moves (move_in error) task.given.plan.base task.place (filled task old.tree) new.tree
  pub named : TellsPath error task.place

-- where a commit stops, all phases before are done
abbrev pub CommitStops : Task → View → View → CommitError → Type 0
CommitStops task old new (commit_error.Build error) = BuildStops task.place task.given.plan task.given.landings old new error
CommitStops task old new (commit_error.Adjust error) = StopsInAdjust task old new error
CommitStops task old new (commit_error.Move error) = StopsInMove task old new error

-- ---- causes
abbrev pub is_build_fault : BuildError → Bool
is_build_fault (build_error.Dirs error) = is_fault error
is_build_fault (build_error.Land error) = is_fault error
is_build_fault build_error.Sweep = true

abbrev pub is_adjust_fault : AdjustError → Bool
is_adjust_fault (adjust_error.FileAttrs error) = is_fault error
is_adjust_fault (adjust_error.Delete error) = is_fault error
is_adjust_fault (adjust_error.DirAttrs error) = is_fault error

-- a phase that failed raised the count of faults; the move raised it, and that of renames that failed, as often as it tells
abbrev pub CommitCause : View → View → CommitError → Type 0
CommitCause old new (commit_error.Build error) = is_build_fault error ≡ true → Rose old.faults new.faults
CommitCause old new (commit_error.Adjust error) = is_adjust_fault error ≡ true → Rose old.faults new.faults
CommitCause old new (commit_error.Move error) = MoveCause (move_in error) old new

-- the commit stops behind the sweep
abbrev pub is_past_sweep : CommitError → Bool
is_past_sweep (commit_error.Build error) = false
is_past_sweep (commit_error.Adjust error) = true
is_past_sweep (commit_error.Move error) = true

-- ---- the commit of a copy
-- the commit is that of this copy, which begins on this tree
pub record IsCommitOf (s : Tree) (job : Job) (task : Task) (tree : Option Tree) : Type 0 where
  pub copy : IsJob s job
  pub begins : Begins job
  pub given : IsCommit s job task.given
  pub told : tree ≡ Some job.before
  pub place : task.place ≡ job.target
  pub settings : task.options ≡ job.settings
  pub atomic : job.settings.atomic ≡ true → IsAtomic job
  pub direct : job.settings.atomic ≡ false → job.base ≡ job.target

-- the result stands there, and each listed file that is not skipped has landed once
pub record IsDone (job : Job) (commit : Commit) (old new : View) : Type 0 where
  pub result : IsResult job new.tree
  pub landed : new.rest.landed ≡ old.rest.landed ++ effects commit.plan

-- a phase has come to the point that the error tells, or after a fault to the next; no tree refuses one of its steps
abbrev pub AtStep : Job → Commit → (ℕ → Point) → Option Tree → StepError → Type 0
AtStep job commit at new (step_error.Fault k) = (new ≡ Some (tree_at job commit (at k))) ⊎ (new ≡ Some (tree_at job commit (at (k + 1))))
AtStep job commit at new (step_error.Memory k) = new ≡ Some (tree_at job commit (at k))
AtStep job commit at new (step_error.Changed path) = ⊥

-- all directories and exactly the first so many files
pub record HasLandedFirst (job : Job) (commit : Commit) (k : ℕ) (old new : View) : Type 0 where
  pub tree : new.tree ≡ Some (tree_at job commit (AtLanding k))
  pub landed : new.rest.landed ≡ old.rest.landed ++ take k (effects commit.plan)

abbrev pub AtFile : Job → Commit → View → View → StepError → Type 0
AtFile job commit old new (step_error.Fault k) = HasLandedFirst job commit k old new
AtFile job commit old new (step_error.Memory k) = HasLandedFirst job commit k old new
AtFile job commit old new (step_error.Changed path) = ⊥

-- how far the tree and the record of landings have come where a commit stops
abbrev pub LandedAll : Commit → View → View → Type 0
LandedAll commit old new = new.rest.landed ≡ old.rest.landed ++ effects commit.plan

abbrev pub EndsAt : Job → Commit → View → View → CommitError → Type 0
EndsAt job commit old new (commit_error.Build (build_error.Dirs error)) = AtStep job commit Making new.tree error × (new.rest.landed ≡ old.rest.landed)
EndsAt job commit old new (commit_error.Build (build_error.Land error)) = AtFile job commit old new error
EndsAt job commit old new (commit_error.Build build_error.Sweep) = (new.tree ≡ Some (files_landed job commit)) × LandedAll commit old new
EndsAt job commit old new (commit_error.Adjust (adjust_error.FileAttrs error)) = AtStep job commit SettingFiles new.tree error × LandedAll commit old new
EndsAt job commit old new (commit_error.Adjust (adjust_error.Delete error)) = AtStep job commit Removing new.tree error × LandedAll commit old new
EndsAt job commit old new (commit_error.Adjust (adjust_error.DirAttrs error)) = AtStep job commit SettingDirs new.tree error × LandedAll commit old new
EndsAt job commit old new (commit_error.Move error) = AfterMove (move_in error) (dirs_set job commit) (moved (dirs_set job commit) job.base job.target) new.tree × LandedAll commit old new

-- whether the last move was made is not known
abbrev pub is_uncertain : CommitError → Bool
is_uncertain (commit_error.Build error) = false
is_uncertain (commit_error.Adjust error) = false
is_uncertain (commit_error.Move move_error.NotMoved) = false
is_uncertain (commit_error.Move (move_error.Uncertain path)) = true
is_uncertain (commit_error.Move (move_error.Changed path)) = false
is_uncertain (commit_error.Move move_error.Memory) = false

-- all at and under the target path is as it was
abbrev pub IsUntouched : Job → Option Tree → Type 0
IsUntouched job new = IsSomeAnd new (λ t. (rest : Names) → t (job.target ++ rest) ≡ job.before (job.target ++ rest))

-- what the commit of a copy leaves: the result after Ok, and else the tree of the point that the error tells; under `-atomic`
-- the target stays as it was, but where whether the move was made is not known
pub record IsDue {X : Type 0} (job : Job) (commit : Commit) (old new : View) (answer : Result X CommitError) : Type 0 where
  pub defined : AreEffects job (effects commit.plan)
  pub result : OnOk answer (IsDone job commit old new)
  pub ends : IfErr answer (EndsAt job commit old new)
  pub spared : IfErr answer (λ e. job.settings.atomic ≡ true → is_uncertain e ≡ false → IsUntouched job new.tree)

-- it leaves what is due to each copy of which this is the commit
abbrev pub LeavesDue : {X : Type 0} → Task → View → View → Result X CommitError → Type 0
LeavesDue task old new answer = (s : Tree) (job : Job) → IsCommitOf s job task old.tree → IsDue job task.given old new answer
