-- What both stores show of the end of a run.
use Rattle.std.proofs.Common.{◌≡◌, inl, inr, ℕ, ◌≤◌, true, false, cond, nat_eq, IsTrue, ◌&&◌, ◌||◌, List, [], ◌∷◌, map, filter, Option, Some, None, Result, Ok, Err, IfOk, IfErr, OnOk, refl, sym, ◌∙◌, ap, subst, arith}
use Rattle.std.proofs.lemmas.List.Elements.{All-head, All-tail}
use Rattle.std.specs.Cmp.{first_so}
use Rattle.std.specs.List.{All}
use Rattle.dc_path.specs.Paths.{Names}
use Rattle.dc_attrs.specs.Trees.{Tree}
use Rattle.dc_fs.specs.Causes.{Rose}
use Rattle.dc_fs.specs.Rest.{Rest, with_scratch}
use Rattle.dc_fs.specs.Views.{BothTrees, View}
use Rattle.dc_options.specs.Settings.{Settings}
use Rattle.dc_listing.specs.Entries.{Entry, fits_entry}
use Rattle.dc_decide.specs.Plans.{Decision, Decisions, IsDecision, item_rel}
use Rattle.dc_plan.specs.Planning.{IsAsked}
use Rattle.dc_commit.specs.Landing.{all_landed}
use Rattle.dc_ready.specs.Laws.{IsKept}
use Rattle.dc_commit.specs.Moving.{RoseBy, with_rename_faults}
use Rattle.dc_commit.specs.Steps.{is_fault}
use Rattle.dc_commit.specs.declared.steps.StepError.{StepError}
use Rattle.dc_commit.specs.declared.steps.StepError.TheVariants as step_error
use Rattle.dc_crew.specs.Slots.{KeepsTarget}
use Rattle.dc_engine.specs.Committing.{CommitCause, CommitStops, HasCommitted, Task, is_past_sweep, outcome_of_commit, outcome_of_step, swept}
use Rattle.dc_engine.specs.Copying.{is_copy}
use Rattle.dc_engine.specs.Counting.{is_out, paths_out}
use Rattle.dc_engine.specs.Finishing.{EndsCommit, HasEnded, IsRunOf, IsSure, RenamesIn, ShowsEnd, ended_without, is_behind_sweep, is_commit_at, is_move, is_of_finish, outcome_in}
use Rattle.dc_engine.specs.Running.{Ends, IsPrepared, IsStopped, commits}
use Rattle.dc_engine.specs.Sweeping.{IsSwept}
use Rattle.dc_engine.specs.declared.committing.AdjustError.TheVariants as adjust_error
use Rattle.dc_engine.specs.declared.committing.BuildError.TheVariants as build_error
use Rattle.dc_engine.specs.declared.committing.CommitError.{CommitError}
use Rattle.dc_engine.specs.declared.committing.CommitError.TheVariants as commit_error
use Rattle.dc_engine.specs.declared.committing.MoveError.TheVariants as move_error
use Rattle.dc_engine.specs.declared.outcome.Outcome.{Outcome}
use Rattle.dc_engine.specs.declared.outcome.Outcome.TheVariants as outcome
use Rattle.dc_engine.specs.declared.outcome.Phase.{Phase}
use Rattle.dc_engine.specs.declared.outcome.Phase.TheVariants as phase_of
use Rattle.dc_engine.specs.declared.outcome.Run.{Run}
use Rattle.dc_engine.proofs.RunEnds.{ends_since}

-- ---- counts
-- a count that rose by so many between two others
pub rose_between : (many a b c d : ℕ) → a ≤ b → RoseBy many b c → c ≤ d → RoseBy many a d
rose_between many a b c d h r k = omega (arith, h, r, k)

-- ---- a commit that stops
module _ (o : Settings) (source source_now older old new : View) (kept : KeepsTarget older old) where
  -- for memory, or because the target denied what it showed
  pub memory_shows : ShowsEnd o outcome.Memory source source_now older new
  memory_shows = record {
    some = λ h. absurd (cc);
    allowed = λ _ c. absurd (cc);
    swept = λ c. absurd (cc);
    cause = λ c. absurd (cc);
    renames = tt;
    emptied = tt;
    uncertain = λ c. absurd (cc);
    given_up = tt;
    four = tt;
    unfailed = λ _ _. tt;
    differ = tt;
    early = λ c. absurd (cc);
  }

  changed_shows : (path : Names) → ShowsEnd o (outcome.Changed path) source source_now older new
  changed_shows path = record {
    some = λ h. absurd (cc);
    allowed = λ _ c. absurd (cc);
    swept = λ c. absurd (cc);
    cause = λ c. absurd (cc);
    renames = tt;
    emptied = tt;
    uncertain = λ c. absurd (cc);
    given_up = tt;
    four = tt;
    unfailed = λ _ _. tt;
    differ = tt;
    early = λ c. absurd (cc);
  }

  unsure_shows : (path : Names) → o.atomic ≡ true → RoseBy 4 old.faults new.faults → Rose old.rest.rename_faults new.rest.rename_faults → ShowsEnd o (outcome.Uncertain path) source source_now older new
  unsure_shows path asked faults renames = record {
    some = λ h. absurd (cc);
    allowed = λ _ c. absurd (cc);
    swept = λ c. absurd (cc);
    cause = λ c. absurd (cc);
    renames = tt;
    emptied = tt;
    uncertain = λ _. record {
      asked = asked;
      faults = rose_between 4 older.faults old.faults new.faults new.faults kept.faults faults (omega arith);
      renames = subst (λ (n : ℕ). Rose n new.rest.rename_faults) kept.rename_faults renames;
    };
    given_up = tt;
    four = tt;
    unfailed = λ _ _. tt;
    differ = tt;
    early = λ c. absurd (cc);
  }

  -- for a fault in a phase
  fault_shows : (phase : Phase) (done : ℕ) → is_commit_at phase done ≡ true → Rose old.faults new.faults → RenamesIn phase old new → (is_behind_sweep phase ≡ true → new.rest.scratch ≡ 0)
      → ShowsEnd o (outcome.TargetFault phase done) source source_now older new
  fault_shows phase done at rose renames emptied = record {
    some = λ h. absurd (cc);
    allowed = λ _ c. absurd (cc);
    swept = λ c. absurd (cc);
    cause = λ _. rose_between 1 older.faults old.faults new.faults new.faults kept.faults rose (omega arith);
    renames = record {
      moving = λ m.
          let r = renames.moving m in
          (rose_between 3 older.faults old.faults new.faults new.faults kept.faults r.0 (omega arith), subst (λ (n : ℕ). RoseBy 3 n new.rest.rename_faults) kept.rename_faults r.1);
      before = λ m. renames.before m ∙ kept.rename_faults;
    };
    emptied = emptied;
    uncertain = λ c. absurd (cc);
    given_up = tt;
    four = tt;
    unfailed = λ _ _. tt;
    differ = tt;
    early = λ c. let no : true ≡ false = sym at ∙ c in absurd (cc);
  }

  step_shows : (phase : Phase) (e : StepError) → is_move phase ≡ false → ((done : ℕ) → is_commit_at phase done ≡ true) → (is_fault e ≡ true → Rose old.faults new.faults)
      → new.rest.rename_faults ≡ old.rest.rename_faults → (is_behind_sweep phase ≡ true → new.rest.scratch ≡ 0) → ShowsEnd o (outcome_of_step e phase) source source_now older new
  step_shows phase (step_error.Fault done) move at cause same emptied =
      fault_shows phase done (at done) (cause refl) (record { moving = λ m. let no : true ≡ false = sym m ∙ move in absurd (cc); before = λ _. same }) emptied
  step_shows phase (step_error.Changed path) move at cause same emptied = changed_shows path
  step_shows phase (step_error.Memory done) move at cause same emptied = memory_shows

  same_renames : (a b : Rest) → a ≡ b → a.rename_faults ≡ b.rename_faults
  same_renames a b e = ap (λ (r : Rest). r.rename_faults) e

  stop_shows : (task : Task) → task.options ≡ o → (e : CommitError) → CommitStops task old new e → CommitCause old new e → (is_past_sweep e ≡ true → new.rest.scratch ≡ 0)
      → ShowsEnd o (outcome_of_commit e) source source_now older new
  stop_shows task is (commit_error.Build (build_error.Dirs e)) stops cause swept =
      step_shows phase_of.Dirs e refl (λ _. refl) cause (same_renames new.rest old.rest stops.rest) (λ c. absurd (cc))
  stop_shows task is (commit_error.Build (build_error.Land e)) stops cause swept =
      step_shows phase_of.Land e refl (λ _. refl) cause (same_renames new.rest (all_landed stops.before old.rest) stops.landed.rest) (λ c. absurd (cc))
  stop_shows task is (commit_error.Build build_error.Sweep) stops cause emptied =
      fault_shows phase_of.Sweep 0 refl (cause refl)
      (record { moving = λ m. absurd (cc); before = λ _. same_renames new.rest (with_scratch stops.rest.0 (all_landed task.given.landings old.rest)) stops.rest.2 })
      (λ c. absurd (cc))
  stop_shows task is (commit_error.Adjust (adjust_error.FileAttrs e)) stops cause emptied =
      step_shows phase_of.FileAttrs e refl (λ _. refl) cause (same_renames new.rest (swept task.given.landings old.rest) stops.rest) (λ _. emptied refl)
  stop_shows task is (commit_error.Adjust (adjust_error.Delete e)) stops cause emptied =
      step_shows phase_of.Delete e refl (λ _. refl) cause (same_renames new.rest (swept task.given.landings old.rest) stops.rest) (λ _. emptied refl)
  stop_shows task is (commit_error.Adjust (adjust_error.DirAttrs e)) stops cause emptied =
      step_shows phase_of.DirAttrs e refl (λ _. refl) cause (same_renames new.rest (swept task.given.landings old.rest) stops.rest) (λ _. emptied refl)
  stop_shows task is (commit_error.Move move_error.NotMoved) stops cause emptied =
      fault_shows phase_of.Move 0 refl (let three = cause.0 in omega (arith, three)) (record { moving = λ _. cause; before = λ m. absurd (cc) }) (λ _. emptied refl)
  stop_shows task is (commit_error.Move (move_error.Uncertain path)) stops cause emptied =
      unsure_shows path (ap (λ (q : Settings). q.atomic) (sym is) ∙ first_so _ _ stops.asked) cause.0 cause.1
  stop_shows task is (commit_error.Move (move_error.Changed path)) stops cause emptied = changed_shows path
  stop_shows task is (commit_error.Move move_error.Memory) stops cause emptied = memory_shows

  pub commit_shows : (task : Task) → task.options ≡ o → (e : Outcome) → EndsCommit task old new e → ShowsEnd o e source source_now older new
  commit_shows task is e (inl h) = subst (λ (x : Outcome). ShowsEnd o x source source_now older new) (sym h.0) memory_shows
  commit_shows task is e (inr h) = subst (λ (x : Outcome). ShowsEnd o x source source_now older new) (sym h.named) (stop_shows task is h.why h.stops h.cause h.swept)

  -- ---- a commit that comes to its end
  ended_shows : (paths : List Names) → (o.ignore ≡ false → paths ≡ []) → new.rest.scratch ≡ 0 → ShowsEnd o (ended_without paths) source source_now older new
  ended_shows [] allowed emptied = record {
    some = λ h. absurd (cc);
    allowed = λ _ _. refl;
    swept = λ _. emptied;
    cause = λ c. absurd (cc);
    renames = tt;
    emptied = tt;
    uncertain = λ c. absurd (cc);
    given_up = tt;
    four = tt;
    unfailed = λ _ _. tt;
    differ = tt;
    early = λ c. absurd (cc);
  }
  ended_shows (path ∷ paths) allowed emptied = record {
    some = λ h. absurd (cc);
    allowed = λ off _. let no : path ∷ paths ≡ [] = allowed off in absurd (cc);
    swept = λ _. emptied;
    cause = λ c. absurd (cc);
    renames = tt;
    emptied = tt;
    uncertain = λ c. absurd (cc);
    given_up = tt;
    four = tt;
    unfailed = λ _ _. tt;
    differ = tt;
    early = λ c. absurd (cc);
  }

  pub done_shows : (task : Task) (paths : List Names) (e : Outcome) → HasCommitted task old new → e ≡ ended_without paths → (o.ignore ≡ false → paths ≡ []) → ShowsEnd o e source source_now older new
  done_shows task paths e done answer allowed =
      subst (λ (x : Outcome). ShowsEnd o x source source_now older new) (sym answer) (ended_shows paths allowed (ap (λ (r : Rest). r.scratch) done.rest))

  pub carried_shows : (task : Task) (plan : Decisions) (r : Result Run Outcome) → task.options ≡ o → (o.ignore ≡ false → paths_out plan.items ≡ []) → IfOk r (IsRunOf plan) → OnOk r (HasCommitted task old new)
      → IfErr r (EndsCommit task old new) → ShowsEnd o (outcome_in r) source source_now older new
  carried_shows task plan (Ok run) is allowed answer done ends = done_shows task (paths_out plan.items) run.outcome done answer.answer allowed
  carried_shows task plan (Err e) is allowed answer done ends = commit_shows task is e ends

-- ---- desks
desks_stay : (a b : Rest) → a ≡ b → a.desks_out ≡ b.desks_out
desks_stay a b e = ap (λ (r : Rest). r.desks_out) e

stop_desks : (task : Task) (old new : View) (e : CommitError) → CommitStops task old new e → new.rest.desks_out ≡ old.rest.desks_out
stop_desks task old new (commit_error.Build (build_error.Dirs e)) stops = desks_stay new.rest old.rest stops.rest
stop_desks task old new (commit_error.Build (build_error.Land e)) stops = desks_stay new.rest (all_landed stops.before old.rest) stops.landed.rest
stop_desks task old new (commit_error.Build build_error.Sweep) stops = desks_stay new.rest (with_scratch stops.rest.0 (all_landed task.given.landings old.rest)) stops.rest.2
stop_desks task old new (commit_error.Adjust e) stops = desks_stay new.rest (swept task.given.landings old.rest) stops.rest
stop_desks task old new (commit_error.Move e) stops = desks_stay new.rest (with_rename_faults new.rest.rename_faults (swept task.given.landings old.rest)) stops.rest

-- all that were opened have come back
pub carried_desks : (task : Task) (older old new : View) (r : Result Run Outcome) → KeepsTarget older old → OnOk r (HasCommitted task old new) → IfErr r (EndsCommit task old new) → new.rest.desks_out ≡ older.rest.desks_out
carried_desks task older old new (Ok run) kept done ends = ap (λ (r : Rest). r.desks_out) done.rest ∙ kept.desks_out
carried_desks task older old new (Err e) kept done (inl h) = ap (λ (v : View). v.rest.desks_out) h.1 ∙ kept.desks_out
carried_desks task older old new (Err e) kept done (inr h) = stop_desks task old new h.why h.stops ∙ kept.desks_out

-- ---- kinds
step_kind : (phase : Phase) (e : StepError) → is_copy phase ≡ false → ((done : ℕ) → is_commit_at phase done ≡ true) → is_of_finish (outcome_of_step e phase) ≡ true
step_kind phase (step_error.Fault done) copy at = ap (λ b. b && nat_eq done 0 || is_commit_at phase done) copy ∙ at done
step_kind phase (step_error.Changed path) copy at = refl
step_kind phase (step_error.Memory done) copy at = refl

stop_kind : (e : CommitError) → is_of_finish (outcome_of_commit e) ≡ true
stop_kind (commit_error.Build (build_error.Dirs e)) = step_kind phase_of.Dirs e refl (λ _. refl)
stop_kind (commit_error.Build (build_error.Land e)) = step_kind phase_of.Land e refl (λ _. refl)
stop_kind (commit_error.Build build_error.Sweep) = refl
stop_kind (commit_error.Adjust (adjust_error.FileAttrs e)) = step_kind phase_of.FileAttrs e refl (λ _. refl)
stop_kind (commit_error.Adjust (adjust_error.Delete e)) = step_kind phase_of.Delete e refl (λ _. refl)
stop_kind (commit_error.Adjust (adjust_error.DirAttrs e)) = step_kind phase_of.DirAttrs e refl (λ _. refl)
stop_kind (commit_error.Move move_error.NotMoved) = refl
stop_kind (commit_error.Move (move_error.Uncertain path)) = refl
stop_kind (commit_error.Move (move_error.Changed path)) = refl
stop_kind (commit_error.Move move_error.Memory) = refl

ended_kind : (paths : List Names) → is_of_finish (ended_without paths) ≡ true
ended_kind [] = refl
ended_kind (path ∷ paths) = refl

pub carried_kind : (task : Task) (old new : View) (plan : Decisions) (r : Result Run Outcome) → IfOk r (IsRunOf plan) → IfErr r (EndsCommit task old new) → is_of_finish (outcome_in r) ≡ true
carried_kind task old new plan (Ok run) answer ends = ap is_of_finish answer.answer ∙ ended_kind (paths_out plan.items)
carried_kind task old new plan (Err e) answer (inl h) = ap is_of_finish h.0
carried_kind task old new plan (Err e) answer (inr h) = ap is_of_finish h.named ∙ stop_kind h.why

-- ---- what the type of items keeps
pub kept_of : (d : Decision) (entry : Entry) → entry ≡ d.item → IsDecision d → IsTrue (fits_entry entry) → IsKept d
kept_of d entry is decision fits = record { decision = decision; entry = ap fits_entry (sym is) ∙ fits }

-- ---- without -i nothing is left out
pub none_out : (o : Settings) (items : List Decision) → o.ignore ≡ false → All (IsAsked o) items → paths_out items ≡ []
none_out o [] off a = refl
none_out o (d ∷ ds) off a =
    ap (λ b. map item_rel (cond b (d ∷ filter is_out ds) (filter is_out ds))) ((All-head (IsAsked o) d ds a).allowed off) ∙ none_out o ds off (All-tail (IsAsked o) d ds a)

-- ---- what is told where a run does not commit
pub refused_told : (told_source told_target : Option Tree) (o : Settings) (plan : Decisions) (paths : List Names) (e : Outcome) (run : Run) (source source_now target now swept : View) → run.outcome ≡ e → IsSwept now swept
    → BothTrees told_source told_target (λ s t. (entries : List Entry) → IsPrepared o s t entries plan paths → Ends o s t (Err e) source source_now target now)
    → BothTrees told_source told_target (λ s t. (entries : List Entry) → IsPrepared o s t entries plan paths → IsSure e)
    → BothTrees told_source told_target (λ s t. (entries : List Entry) → IsPrepared o s t entries plan paths → HasEnded o s t run source source_now target swept)
refused_told None told_target o plan paths e run source source_now target now swept is s ends sure = tt
refused_told (Some a) None o plan paths e run source source_now target now swept is s ends sure = λ v. tt
refused_told (Some a) (Some b) o plan paths e run source source_now target now swept is s ends sure = λ v w entries p.
    let h = ends v w entries p in record {
      copied = λ c. let no : true ≡ false = sym c ∙ ap commits is ∙ h.0 in absurd (cc);
      stopped = λ _. subst (λ (x : Outcome). IsStopped o a b x target swept) (sym is) (ends_since o a b e target target now swept refl refl s.tree (ap (λ (r : Rest). r.landed) s.rest.2) h.1);
      sure = subst IsSure (sym is) (sure v w entries p);
    }
