-- What is told of the end of a copy that is carried out.
use Rattle.std.proofs.Common.{◌≡◌, inl, inr, ℕ, ◌-◌, ◌*◌, true, false, List, [], ◌∷◌, Option, Some, None, Result, Ok, Err, IfOk, IfErr, OnOk, refl, sym, ◌∙◌, ap, subst}
use Rattle.std.specs.List.{All, list_all}
use Rattle.std.specs.Option.{is_some}
use Rattle.dc_path.specs.Paths.{Names}
use Rattle.dc_attrs.specs.Trees.{Tree}
use Rattle.dc_fs.specs.Views.{View}
use Rattle.dc_options.specs.Settings.{Settings}
use Rattle.dc_listing.specs.Entries.{Entry}
use Rattle.dc_decide.specs.Plans.{Decisions}
use Rattle.dc_pieces.specs.Cutting.{plan_pieces}
use Rattle.dc_pieces.specs.declared.piece.Piece.{Piece}
use Rattle.dc_commit.specs.Landing.{is_ready}
use Rattle.dc_commit.specs.declared.landing.Ready.{Ready}
use Rattle.dc_crew.specs.Jobs as crew
use Rattle.dc_crew.specs.Slots.{KeepsTarget, RoseTogether}
use Rattle.dc_ready.specs.Laws.{IsKept}
use Rattle.dc_engine.specs.Committing.{HasCommitted, Task, task_of}
use Rattle.dc_engine.specs.Copying.{AreCopied, LeavesFiles}
use Rattle.dc_engine.specs.Counting.{failed_of, paths_out}
use Rattle.dc_engine.specs.Finishing.{EndsCommit, IsRunOf, IsSure, LeavesDone, ended_without, outcome_in}
use Rattle.dc_engine.specs.Running.{Ends, IsPrepared, commits, without}
use Rattle.dc_engine.specs.declared.outcome.Outcome.{Outcome}
use Rattle.dc_engine.specs.declared.outcome.Outcome.TheVariants as outcome
use Rattle.dc_engine.specs.declared.outcome.Run.{Run}
use Rattle.dc_engine.proofs.RunShown.{TellsTrue}
use Rattle.dc_engine.proofs.RunTold.{IfPrepared, made_told, memory_told, never_told, stops_told}
use Rattle.dc_engine.proofs.ToldPlans.{told_so}

-- ---- all steps are done
ended_commits : (paths : List Names) → commits (ended_without paths) ≡ true
ended_commits [] = refl
ended_commits (path ∷ paths) = refl

ended_tells : (paths : List Names) → without (ended_without paths) ≡ paths
ended_tells [] = refl
ended_tells (path ∷ paths) = refl

ended_sure : (paths : List Names) → IsSure (ended_without paths)
ended_sure [] = record { shown = refl; same = tt }
ended_sure (path ∷ paths) = record { shown = refl; same = tt }

-- ---- no store denies what it showed
always_sure : (source target : Option Tree) (o : Settings) (plan : Decisions) (paths : List Names) (e : Outcome) → IsSure e → IfPrepared o plan paths source target (λ s t. IsSure e)
always_sure None target o plan paths e h = tt
always_sure (Some s) None o plan paths e h = λ v. tt
always_sure (Some s) (Some t) o plan paths e h = λ v w entries p. h

pub told_sure : (source target : Option Tree) (o : Settings) (plan : Decisions) (paths : List Names) (e : Outcome) → IfPrepared o plan paths source target (λ s t. TellsTrue e) → IfPrepared o plan paths source target (λ s t. IsSure e)
told_sure source target o plan paths e h =
    told_so source target (λ s t. (entries : List Entry) → IsPrepared o s t entries plan paths → TellsTrue e) (λ s t. (entries : List Entry) → IsPrepared o s t entries plan paths → IsSure e)
    (λ s t k entries p. let true_so = k entries p in record { shown = true_so.0; same = true_so.1 }) h

-- ---- what is ready is committed
module _ {P : Type 0} (content : P → Option (List ℕ)) (size : P → ℕ) (o : Settings) (old new : Decisions) (paths : List Names) (files : List (Ready P)) (left : LeavesFiles old new) (whole : o.ignore ≡ false → new ≡ old)
    (kept : All IsKept old.items) (all_ready : list_all (is_ready new) files ≡ true) (older ready newer : View) (keeps : KeepsTarget older ready) (from : Option Tree) (pieces : List Piece) (cut : pieces ≡ plan_pieces o.blocks old)
    (copied : AreCopied (crew.job_of from (is_some older.tree) old.items pieces) content size old new files) where
  abbrev task : Task
  task = task_of content size o o.target new files paths

  so_cut : AreCopied (crew.job_of from (is_some older.tree) old.items (plan_pieces o.blocks old)) content size old new files
  so_cut = subst (λ (ps : List Piece). AreCopied (crew.job_of from (is_some older.tree) old.items ps) content size old new files) cut copied

  pub carried_told : (r : Result Run Outcome) (source source_now : View) → IfOk r (IsRunOf new) → OnOk r (HasCommitted task ready newer) → OnOk r (LeavesDone task ready newer) → IfErr r (EndsCommit task ready newer)
      → RoseTogether source.rest source_now.rest older.rest ready.rest (4 * (failed_of new.items - failed_of old.items)) → (source.steady ≡ true → older.steady ≡ true → new ≡ old) → IfPrepared o old paths from older.tree (λ s t. Ends o s t r source source_now older newer)
  carried_told (Ok run) source source_now answer done due ends rose unfailed =
      made_told content size o old new paths files left whole kept all_ready older ready newer keeps tt run source source_now due done
      (ap commits answer.answer ∙ ended_commits (paths_out new.items)) (ap without answer.answer ∙ ended_tells (paths_out new.items))
      answer.copied answer.dirs answer.skipped answer.failed answer.bytes_copied answer.bytes_skipped rose unfailed from older.tree refl so_cut
  carried_told (Err e) source source_now answer done due (inl h) rose unfailed =
      subst (λ (x : Outcome). IfPrepared o old paths from older.tree (λ s t. Ends o s t (Err x) source source_now older newer)) (sym h.0)
      (subst (λ (v : View). IfPrepared o old paths from older.tree (λ s t. Ends o s t (Err outcome.Memory) source source_now older v)) (sym h.1)
      (memory_told o old paths from source source_now older ready keeps))
  carried_told (Err e) source source_now answer done due (inr h) rose unfailed =
      subst (λ (x : Outcome). IfPrepared o old paths from older.tree (λ s t. Ends o s t (Err x) source source_now older newer)) (sym h.named)
      (stops_told content size o old new paths files left whole kept all_ready older ready newer keeps h.why source source_now h.due from older.tree refl so_cut)

  pub carried_sure : (r : Result Run Outcome) → IfOk r (IsRunOf new) → IfErr r (EndsCommit task ready newer) → IfPrepared o old paths from older.tree (λ s t. IsSure (outcome_in r))
  carried_sure (Ok run) answer ends = always_sure from older.tree o old paths run.outcome (subst IsSure (sym answer.answer) (ended_sure (paths_out new.items)))
  carried_sure (Err e) answer (inl h) = always_sure from older.tree o old paths e (subst IsSure (sym h.0) (record { shown = refl; same = tt }))
  carried_sure (Err e) answer (inr h) =
      told_sure from older.tree o old paths e
      (subst (λ (x : Outcome). IfPrepared o old paths from older.tree (λ s t. TellsTrue x)) (sym h.named)
      (never_told content size o old new paths files left whole kept all_ready older ready newer keeps h.why h.due from older.tree refl so_cut))
