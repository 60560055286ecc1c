-- How a run ends between stores that tell their trees, by what its copy and its commit answer.
use Rattle.std.proofs.Common.{◌≡◌, ℕ, ◌-◌, ◌*◌, true, false, List, Option, Some, None, Ok, Err, refl, sym, ◌∙◌, ap, subst}
use Rattle.std.specs.List.{All, list_all}
use Rattle.std.specs.Option.{is_some}
use Rattle.dc_path.specs.Paths.{Names}
use Rattle.dc_attrs.specs.Trees.{Tree, IsTree}
use Rattle.dc_fs.specs.Rest.{Rest}
use Rattle.dc_fs.specs.Views.{BothTrees, View}
use Rattle.dc_options.specs.Settings.{Settings}
use Rattle.dc_listing.specs.Entries.{Entry}
use Rattle.dc_decide.specs.Plans.{Decisions}
use Rattle.dc_pieces.specs.Cutting.{plan_pieces}
use Rattle.dc_commit.specs.Landing.{is_ready}
use Rattle.dc_commit.specs.declared.landing.Ready.{Ready}
use Rattle.dc_crew.specs.Jobs as crew
use Rattle.dc_crew.specs.Slots.{KeepsTarget, RoseTogether}
use Rattle.dc_ready.specs.Laws.{IsKept}
use Rattle.dc_result.specs.Jobs.{Job}
use Rattle.dc_engine.specs.Begun.{job_of}
use Rattle.dc_engine.specs.Committing.{HasCommitted, IsCommitOf, LeavesDue, Task, outcome_of_commit, task_of}
use Rattle.dc_engine.specs.Copying.{AreCopied, LeavesFiles, is_of_copy}
use Rattle.dc_engine.specs.Counting.{bytes_copied_of, bytes_skipped_of, copied_of, dirs_of, failed_of, paths_out, skipped_of}
use Rattle.dc_engine.specs.Running.{Ends, HasCopied, HasNotBegun, IsPrepared, IsStopped, commits, is_unknown, without}
use Rattle.dc_engine.specs.declared.committing.CommitError.{CommitError}
use Rattle.dc_engine.specs.declared.outcome.Counts.{Counts}
use Rattle.dc_engine.specs.declared.outcome.Outcome.{Outcome}
use Rattle.dc_engine.specs.declared.outcome.Run.{Run}
use Rattle.dc_engine.specs.declared.outcome.Outcome.TheVariants as outcome
use Rattle.dc_engine.proofs.RunCounts.{copied_from}
use Rattle.dc_engine.proofs.RunEnds.{copy_early, copy_looked, ends_since, none_commits, not_begun_stopped, stopped_from}
use Rattle.dc_engine.proofs.RunLemmas.{commit_is, copy_is}
use Rattle.dc_engine.proofs.RunShown.{TellsTrue, none_denied}

-- for all that is settled between two trees that are told
abbrev pub IfPrepared : Settings → Decisions → List Names → Option Tree → Option Tree → (Tree → Tree → Type 0) → Type 0
IfPrepared o plan paths source target P = BothTrees source target (λ s t. (entries : List Entry) → IsPrepared o s t entries plan paths → P s t)

-- ---- nothing is ready
stays_told : (o : Settings) (plan : Decisions) (paths : List Names) (source : Option Tree) (e : Outcome) (from from_now old new : View) → HasNotBegun e old new → is_unknown e ≡ false → commits e ≡ false
    → (tree : Option Tree) → old.tree ≡ tree → IfPrepared o plan paths source tree (λ s t. Ends o s t (Err e) from from_now old new)
stays_told o plan paths None e from from_now old new h known stops tree is = tt
stays_told o plan paths (Some s) e from from_now old new h known stops None is = λ v. tt
stays_told o plan paths (Some s) e from from_now old new h known stops (Some t) is = λ v w entries p. (stops, not_begun_stopped o s t e old new h known is)

pub copy_ends_told : (o : Settings) (plan : Decisions) (paths : List Names) (source : Option Tree) (e : Outcome) (from from_now old new : View) → KeepsTarget old new → is_of_copy e ≡ true
    → IfPrepared o plan paths source old.tree (λ s t. Ends o s t (Err e) from from_now old new)
copy_ends_told o plan paths source e from from_now old new keeps kind =
    let early = copy_early e kind in
    stays_told o plan paths source e from from_now old new (record { tree = keeps.tree; landed = keeps.landed; told = copy_looked e kind }) early.known early.stops old.tree refl

-- memory runs out after the copy, before anything is done
pub memory_told : (o : Settings) (plan : Decisions) (paths : List Names) (source : Option Tree) (from from_now old new : View) → KeepsTarget old new
    → IfPrepared o plan paths source old.tree (λ s t. Ends o s t (Err outcome.Memory) from from_now old new)
memory_told o plan paths source from from_now old new keeps =
    stays_told o plan paths source outcome.Memory from from_now old new (record { tree = keeps.tree; landed = keeps.landed; told = tt }) refl refl old.tree refl

-- ---- the commit of what is ready
module _ {P : Type 0} (content : P → Option (List ℕ)) (size : P → ℕ) (o : Settings) (old new : Decisions) (paths : List Names) (files : List (Ready P)) (left : LeavesFiles old new) (whole : o.ignore ≡ false → new ≡ old)
    (kept : All IsKept old.items) (all_ready : list_all (is_ready new) files ≡ true) (older ready newer : View) (keeps : KeepsTarget older ready) where
  abbrev task : Task
  task = task_of content size o o.target new files paths

  -- of two trees that are told
  module _ (s t : Tree) (entries : List Entry) (p : IsPrepared o s t entries old paths) (source : IsTree s) (target : IsTree t) (told : older.tree ≡ Some t)
      (copied : AreCopied (crew.job_of (Some s) true old.items (plan_pieces o.blocks old)) content size old new files) where
    abbrev job : Job
    job = job_of o s t p.surveyed.asked new

    is_commit : IsCommitOf s job task ready.tree
    is_commit = subst (IsCommitOf s job task) (sym (keeps.tree ∙ told)) (commit_is o s t entries old new paths p source target left content size files kept copied all_ready)

    stops : {X : Type 0} (e : CommitError) → LeavesDue {X = X} task ready newer (Err e) → IsStopped o s t (outcome_of_commit e) older newer
    stops e due =
        ends_since o s t (outcome_of_commit e) older ready newer newer keeps.tree keeps.landed refl refl
        (stopped_from o s t entries job task ready newer (copy_is o s t entries old new paths p source target left whole) is_commit e (due s job is_commit))

    never : {X : Type 0} (e : CommitError) → LeavesDue {X = X} task ready newer (Err e) → TellsTrue (outcome_of_commit e)
    never e due = none_denied job task.given ready newer e (due s job is_commit).ends

    made : {X : Type 0} (x : X) (out : List Names) (counts : Counts) (from from_now : View) → LeavesDue task ready newer (Ok x) → HasCommitted task ready newer
        → counts.copied ≡ copied_of new.items → counts.dirs ≡ dirs_of new.items → counts.skipped ≡ skipped_of new.items → counts.failed ≡ failed_of new.items
        → counts.bytes_copied ≡ bytes_copied_of new.items → counts.bytes_skipped ≡ bytes_skipped_of new.items → out ≡ paths_out new.items
        → RoseTogether from.rest from_now.rest older.rest ready.rest (4 * (failed_of new.items - failed_of old.items)) → (from.steady ≡ true → older.steady ≡ true → new ≡ old) → HasCopied o s t out counts from from_now older newer
    made x out counts from from_now due done copied dirs skipped failed bytes_copied bytes_skipped told rose unfailed =
        copied_from o s t entries old new paths p source target left x task.given out counts from from_now older ready newer whole unfailed refl
        (due s job is_commit) keeps.landed copied dirs skipped failed bytes_copied bytes_skipped told rose (ap (λ (r : Rest). r.desk_faults) done.rest)

  -- ---- as they are told
  pub stops_told : {X : Type 0} (e : CommitError) (source source_now : View) → LeavesDue {X = X} task ready newer (Err e) → (from tree : Option Tree) → older.tree ≡ tree
      → AreCopied (crew.job_of from (is_some tree) old.items (plan_pieces o.blocks old)) content size old new files
      → IfPrepared o old paths from tree (λ s t. Ends o s t (Err (outcome_of_commit e)) source source_now older newer)
  stops_told e source source_now due None tree is copied = tt
  stops_told e source source_now due (Some s) None is copied = λ v. tt
  stops_told e source source_now due (Some s) (Some t) is copied = λ v w entries p. (none_commits e, stops s t entries p v w is copied e due)

  pub never_told : {X : Type 0} (e : CommitError) → LeavesDue {X = X} task ready newer (Err e) → (from tree : Option Tree) → older.tree ≡ tree
      → AreCopied (crew.job_of from (is_some tree) old.items (plan_pieces o.blocks old)) content size old new files → IfPrepared o old paths from tree (λ s t. TellsTrue (outcome_of_commit e))
  never_told e due None tree is copied = tt
  never_told e due (Some s) None is copied = λ v. tt
  never_told e due (Some s) (Some t) is copied = λ v w entries p. never s t entries p v w is copied e due

  pub made_told : {X : Type 0} (x : X) (run : Run) (source source_now : View) → LeavesDue task ready newer (Ok x) → HasCommitted task ready newer → commits run.outcome ≡ true → without run.outcome ≡ paths_out new.items
      → run.counts.copied ≡ copied_of new.items → run.counts.dirs ≡ dirs_of new.items → run.counts.skipped ≡ skipped_of new.items → run.counts.failed ≡ failed_of new.items
      → run.counts.bytes_copied ≡ bytes_copied_of new.items → run.counts.bytes_skipped ≡ bytes_skipped_of new.items
      → RoseTogether source.rest source_now.rest older.rest ready.rest (4 * (failed_of new.items - failed_of old.items)) → (source.steady ≡ true → older.steady ≡ true → new ≡ old) → (from tree : Option Tree) → older.tree ≡ tree
      → AreCopied (crew.job_of from (is_some tree) old.items (plan_pieces o.blocks old)) content size old new files
      → IfPrepared o old paths from tree (λ s t. Ends o s t (Ok run) source source_now older newer)
  made_told x run source source_now due done ok told copied dirs skipped failed bytes_copied bytes_skipped rose unfailed None tree is parts = tt
  made_told x run source source_now due done ok told copied dirs skipped failed bytes_copied bytes_skipped rose unfailed (Some s) None is parts = λ v. tt
  made_told x run source source_now due done ok told copied dirs skipped failed bytes_copied bytes_skipped rose unfailed (Some s) (Some t) is parts = λ v w entries p.
      (ok, made s t entries p v w is parts x (without run.outcome) run.counts source source_now due done copied dirs skipped failed bytes_copied bytes_skipped told rose unfailed)
