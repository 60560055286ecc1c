-- What the commit of a copy leaves, by the laws of what a copy leaves.
use Rattle.std.proofs.Common.{◌≡◌, ◌⊎◌, inl, inr, ⊎_elim, ℕ, ◌+◌, List, [], ◌∷◌, ◌++◌, length, length-append, take, Bool, true, false, not, ◌&&◌, Option, Some, None, Result, Ok, Err, IfErr, OnOk, map, is_some, refl, sym, ◌∙◌, ap, subst, arith, append-nil, append_assoc}
use Rattle.std.proofs.lemmas.List.{take-map, take_all}
use Rattle.dc_path.specs.Paths.{Names, cut, is_above, is_under}
use Rattle.dc_path.proofs.Fronts.{above_shorter}
use Rattle.dc_path.proofs.PathLemmas.{append-cut, cut-append, ended_cons}
use Rattle.dc_attrs.specs.Refusals.{refused_rename}
use Rattle.dc_attrs.specs.Trees.{Tree, IsDirAt, moved}
use Rattle.dc_fs.specs.Rest.{Rest}
use Rattle.dc_fs.specs.Views.{View}
use Rattle.dc_fs.specs.declared.target.Landed.{Landed}
use Rattle.dc_commit.specs.Landing.{all_landed, landed_of}
use Rattle.dc_commit.specs.Making.{make_steps}
use Rattle.dc_commit.specs.Moving.{AfterMove}
use Rattle.dc_commit.specs.Removals.{remove_steps}
use Rattle.dc_commit.specs.Settings.{dir_steps, file_steps}
use Rattle.dc_commit.specs.Steps.{Step, Stops, after, allows}
use Rattle.dc_commit.specs.declared.moving.Moved.{Moved}
use Rattle.dc_commit.specs.declared.moving.Moved.TheVariants as move
use Rattle.dc_commit.specs.declared.steps.StepError.{StepError}
use Rattle.dc_commit.specs.declared.steps.StepError.TheVariants as step_error
use Rattle.dc_options.specs.Settings.{Settings}
use Rattle.dc_result.specs.Atomic.{IsAtomic}
use Rattle.dc_result.specs.Begins.{Begins}
use Rattle.dc_result.specs.Commits.{Commit, IsCommit, dirs_made, dirs_set, files_landed, files_set, missing_gone}
use Rattle.dc_result.specs.During.{Making, Landing as AtLanding, SettingFiles, Removing, SettingDirs, Point, tree_at}
use Rattle.dc_result.specs.Effects.{effects}
use Rattle.dc_result.specs.Jobs.{IsJob, Job}
use Rattle.dc_result.specs.Laws.{Allows, LandsEffects}
use Rattle.dc_result.specs.Result.{IsResult}
use Rattle.dc_result.specs.Stops.{LandStopsAt, StopsAt}
use Rattle.dc_result.proofs.Lawful.{effects_land, land_stops_are_fronts, move_gives_result, move_not_refused, none_refused, phases_build, stops_are_fronts}
use Rattle.dc_result.proofs.Untouched.{target_is_untouched}
use Rattle.dc_engine.specs.Committing.{AtFile, AtStep, CommitStops, EndsAt, HasCommitted, IsDone, IsDue, IsLeft, IsUntouched, LeavesDue, Moves, Task, at_tree, filled, is_moved, is_uncertain, lacks_work, move_in, swept, with_dirs, with_file_attrs, with_files, without_missing}
use Rattle.dc_engine.specs.declared.committing.AdjustError.TheVariants as adjust_error
use Rattle.dc_engine.specs.declared.committing.BuildError.TheVariants as build_error
use Rattle.dc_engine.specs.declared.committing.CommitError.{CommitError}
use Rattle.dc_engine.specs.declared.committing.CommitError.TheVariants as commit_error
use Rattle.dc_engine.specs.declared.committing.MoveError.TheVariants as move_error
use Rattle.dc_engine.proofs.WorkLemmas.{has_work, no_work, unmoved_result}

-- ---- one phase
-- a phase that stops on a told tree that allows all its steps has come to a point
at_step : (job : Job) (commit : Commit) (at : ℕ → Point) (steps : List Step) (t : Tree) (new : Option Tree) (e : StepError) → ((k : ℕ) → tree_at job commit (at k) ≡ after (take k steps) t) → allows steps t ≡ true
    → StopsAt steps t new e → AtStep job commit at new e
at_step job commit at steps t new (step_error.Fault k) is a s = ⊎_elim (λ w. inl (w ∙ ap Some (sym (is k)))) (λ w. inr (w ∙ ap Some (sym (is (k + 1))))) s.1
at_step job commit at steps t new (step_error.Memory k) is a s = s.1 ∙ ap Some (sym (is k))
at_step job commit at steps t new (step_error.Changed path) is a s = let no : true ≡ false = sym a ∙ s in absurd (cc)

-- a task with the settings and the target path of a copy
abbrev task_for : Job → Commit → Task
task_for job commit = record { options = job.settings; place = job.target; given = commit }

task_is : (job : Job) (task : Task) → task.options ≡ job.settings → task.place ≡ job.target → task ≡ task_for job task.given
task_is job task a b =
    ap (λ (o : Settings). record { options = o; place = task.place; given = task.given }) a
    ∙ ap (λ (p : Names). record { options = job.settings; place = p; given = task.given }) b

-- ---- the target is not above the work path
module _ (job : Job) (begins : Begins job) (atomic : IsAtomic job) where
  not_in : (q r : Names) → q ≡ job.target ++ r → (is_above q job.target ≡ true) ⊎ IsDirAt job.before q → ⊥
  not_in q r e (inl h) =
      let short : is_above q job.target ≡ false = above_shorter q job.target (omega (arith, ap length e, length-append job.target r)) in
      let no : true ≡ false = sym h ∙ short in absurd (cc)
  not_in q r e (inr h) = let no : None ≡ Some _ = sym (ap job.before e ∙ atomic.target_free r) ∙ h.1 in absurd (cc)

  not_over : (r : Names) → job.base ≡ job.target ++ r → ⊥
  not_over [] e =
      let same : is_under job.base job.target ≡ true = ap (λ (p : Names). is_under p job.target) (e ∙ append-nil job.target) ∙ ap (λ (p : Names). is_some (cut job.target p)) (sym (append-nil job.target)) ∙ ap is_some (cut-append job.target []) in
      let no : true ≡ false = sym same ∙ atomic.apart in absurd (cc)
  not_over (x ∷ r) e =
      let k = ended_cons x r in
      let is : job.base ≡ (job.target ++ k.front) ++ k.name ∷ [] = e ∙ ap (λ (p : Names). job.target ++ p) k.path ∙ sym (append_assoc job.target k.front (k.name ∷ [])) in
      not_in (job.target ++ k.front) k.front refl (begins.room.above (job.target ++ k.front) k.name is)

  off : is_under job.target job.base ≡ false
  off = by (cut job.target job.base) refl
    where
      by : (o : Option Names) → cut job.target job.base ≡ o → is_some o ≡ false
      by None e = refl
      by (Some r) e = absurd (not_over r (append-cut job.target job.base r e))

-- ---- the commit of a copy
module _ (s : Tree) (job : Job) (commit : Commit) (is : IsJob s job) (begins : Begins job) (c : IsCommit s job commit) (atomic : job.settings.atomic ≡ true → IsAtomic job) (direct : job.settings.atomic ≡ false → job.base ≡ job.target) (old new : View) (told : old.tree ≡ Some job.before) where
  can : Allows job commit
  can = none_refused s job commit is begins c

  lands : LandsEffects job commit
  lands = effects_land s job commit is c

  -- what stands before each phase
  dirs_told : with_dirs job.target commit.plan old.tree ≡ Some (dirs_made job commit)
  dirs_told = ap (with_dirs job.target commit.plan) told

  files_told : with_files (task_for job commit) old.tree ≡ Some (files_landed job commit)
  files_told = ap (with_files (task_for job commit)) told

  filled_told : filled (task_for job commit) old.tree ≡ Some (dirs_set job commit)
  filled_told = ap (filled (task_for job commit)) told

  -- what is recorded
  recorded : (r : Rest) → r.landed ≡ old.rest.landed ++ map landed_of commit.landings → r.landed ≡ old.rest.landed ++ effects commit.plan
  recorded r h = h ∙ ap (λ (ls : List Landed). old.rest.landed ++ ls) lands.recorded

  first_landed : (k : ℕ) → new.rest ≡ all_landed (take k commit.landings) old.rest → new.rest.landed ≡ old.rest.landed ++ take k (effects commit.plan)
  first_landed k h = ap (λ (r : Rest). r.landed) h ∙ ap (λ (ls : List Landed). old.rest.landed ++ ls) (sym (take-map landed_of k commit.landings) ∙ ap (λ (ls : List Landed). take k ls) lands.recorded)

  -- ---- the move
  asks : (a lacks : Bool) → (a && not lacks) ≡ true → (a ≡ true) × (lacks ≡ false)
  asks true true h = absurd (cc)
  asks true false h = (refl, refl)
  asks false lacks h = absurd (cc)

  stays : (a lacks : Bool) → (a && not lacks) ≡ false → a ≡ true → lacks ≡ true
  stays true true h e = refl
  stays true false h e = absurd (cc)
  stays false lacks h e = absurd (cc)

  moved_told : (m : Moved) → is_moved (task_for job commit) ≡ true → Moves m commit.plan.base job.target (filled (task_for job commit) old.tree) new.tree → AfterMove m (dirs_set job commit) (moved (dirs_set job commit) job.base job.target) new.tree
  moved_told m asked h =
      let a = asks job.settings.atomic (lacks_work commit.plan.items) asked in
      subst (λ (p : Names). refused_rename (dirs_set job commit) p job.target ≡ None → AfterMove m (dirs_set job commit) (moved (dirs_set job commit) p job.target) new.tree) c.planned.under
      (subst (λ (o : Option Tree). Moves m commit.plan.base job.target o new.tree) filled_told h)
      (move_not_refused s job commit is begins (atomic a.0) (has_work job commit.plan c.planned a.1) c)

  -- ---- after Ok
  unmoved : (a : Bool) → job.settings.atomic ≡ a → is_moved (task_for job commit) ≡ false → IsResult job (Some (dirs_set job commit))
  unmoved false e asked = (phases_build s job commit is c).result (direct e)
  unmoved true e asked =
      let w = no_work job commit.plan c.planned (stays job.settings.atomic (lacks_work commit.plan.items) asked e) in
      unmoved_result job begins (atomic e) w.0 w.1 s commit is c

  left_is : (moving : Bool) → is_moved (task_for job commit) ≡ moving → IsLeft moving (task_for job commit) old.tree new.tree → IsResult job new.tree
  left_is true asked h =
      let a = asks job.settings.atomic (lacks_work commit.plan.items) asked in
      subst (IsResult job) (sym (moved_told move.Moved asked h)) (move_gives_result s job commit is (atomic a.0) c)
  left_is false asked h = subst (IsResult job) (sym (h ∙ filled_told)) (unmoved job.settings.atomic refl asked)

  done_is : HasCommitted (task_for job commit) old new → IsDone job commit old new
  done_is h = record {
    result = left_is (is_moved (task_for job commit)) refl (h.tree lands.told);
    landed = recorded new.rest (ap (λ (r : Rest). r.landed) h.rest);
  }

  -- ---- where it stops
  at_file : (e : StepError) → LandStopsAt commit.landings (dirs_made job commit) (at_tree (with_dirs job.target commit.plan old.tree) old) new e → AtFile job commit old new e
  at_file (step_error.Fault k) h = record { tree = h.tree; landed = first_landed k h.rest }
  at_file (step_error.Memory k) h = record { tree = h.tree; landed = first_landed k h.rest }
  at_file (step_error.Changed path) h = let no : true ≡ false = sym can.landings ∙ h in absurd (cc)

  at_phase : (at : ℕ → Point) (steps : List Step) (t : Tree) (from : Option Tree) (e : StepError) → ((k : ℕ) → tree_at job commit (at k) ≡ after (take k steps) t) → allows steps t ≡ true → from ≡ Some t → Stops steps from new.tree e → AtStep job commit at new.tree e
  at_phase at steps t from e trees a known h = at_step job commit at steps t new.tree e trees a (stops_are_fronts steps t new.tree e (subst (λ (o : Option Tree). Stops steps o new.tree e) known h))

  all_recorded : (r : Rest) → r ≡ swept commit.landings old.rest → r.landed ≡ old.rest.landed ++ effects commit.plan
  all_recorded r h = recorded r (ap (λ (q : Rest). q.landed) h)

  ends_is : (e : CommitError) → CommitStops (task_for job commit) old new e → EndsAt job commit old new e
  ends_is (commit_error.Build (build_error.Dirs e)) h = (at_phase Making (make_steps job.target commit.plan) job.before old.tree e (λ k. refl) can.dirs told h.stop, ap (λ (r : Rest). r.landed) h.rest)
  ends_is (commit_error.Build (build_error.Land e)) h = at_file e (land_stops_are_fronts commit.landings (dirs_made job commit) (at_tree (with_dirs job.target commit.plan old.tree) old) new e dirs_told lands.told h)
  ends_is (commit_error.Build build_error.Sweep) h = (h.tree lands.told ∙ files_told, recorded new.rest (ap (λ (r : Rest). r.landed) h.rest.2))
  ends_is (commit_error.Adjust (adjust_error.FileAttrs e)) h = (
    at_phase SettingFiles (file_steps job.settings.keep commit.plan) (files_landed job commit) h.from e (λ k. refl) can.file_attrs (h.known lands.told ∙ files_told) h.stop,
    all_recorded new.rest h.rest,
  )
  ends_is (commit_error.Adjust (adjust_error.Delete e)) h = (
    at_phase Removing (remove_steps commit.paths) (files_set job commit) (with_file_attrs job.settings.keep commit.plan h.from) e (λ k. refl) can.removals (ap (with_file_attrs job.settings.keep commit.plan) (h.known lands.told ∙ files_told)) h.stop,
    all_recorded new.rest h.rest,
  )
  ends_is (commit_error.Adjust (adjust_error.DirAttrs e)) h = (
    at_phase SettingDirs (dir_steps job.settings.keep commit.plan) (missing_gone job commit) (without_missing job.settings.keep commit.plan commit.paths h.from) e (λ k. refl) can.dir_attrs (ap (without_missing job.settings.keep commit.plan commit.paths) (h.known lands.told ∙ files_told)) h.stop,
    all_recorded new.rest h.rest,
  )
  ends_is (commit_error.Move e) h = (moved_told (move_in e) h.asked (h.tree lands.told), recorded new.rest (ap (λ (r : Rest). r.landed) h.rest))

  -- ---- the target is spared
  module _ (a : job.settings.atomic ≡ true) where
    at_point : (point : Point) → new.tree ≡ Some (tree_at job commit point) → IsUntouched job new.tree
    at_point point h = subst (IsUntouched job) (sym h) (λ rest. target_is_untouched s job commit is (atomic a) (off job begins (atomic a)) c point rest)

    at_some : (at : ℕ → Point) (e : StepError) → AtStep job commit at new.tree e → IsUntouched job new.tree
    at_some at (step_error.Fault k) h = ⊎_elim (at_point (at k)) (at_point (at (k + 1))) h
    at_some at (step_error.Memory k) h = at_point (at k) h
    at_some at (step_error.Changed path) h = absurd h

    at_landing : (e : StepError) → AtFile job commit old new e → IsUntouched job new.tree
    at_landing (step_error.Fault k) h = at_point (AtLanding k) h.tree
    at_landing (step_error.Memory k) h = at_point (AtLanding k) h.tree
    at_landing (step_error.Changed path) h = absurd h

    at_end : new.tree ≡ Some (dirs_set job commit) → IsUntouched job new.tree
    at_end h =
        let steps = dir_steps job.settings.keep commit.plan in
        at_point (SettingDirs (length steps)) (h ∙ ap (λ (xs : List Step). Some (after xs (missing_gone job commit))) (sym (take_all (length steps) steps (omega arith))))

    spared_is : (e : CommitError) → EndsAt job commit old new e → is_uncertain e ≡ false → IsUntouched job new.tree
    spared_is (commit_error.Build (build_error.Dirs e)) h u = at_some Making e h.0
    spared_is (commit_error.Build (build_error.Land e)) h u = at_landing e h
    spared_is (commit_error.Build build_error.Sweep) h u = at_point (SettingFiles 0) h.0
    spared_is (commit_error.Adjust (adjust_error.FileAttrs e)) h u = at_some SettingFiles e h.0
    spared_is (commit_error.Adjust (adjust_error.Delete e)) h u = at_some Removing e h.0
    spared_is (commit_error.Adjust (adjust_error.DirAttrs e)) h u = at_some SettingDirs e h.0
    spared_is (commit_error.Move move_error.NotMoved) h u = at_end h.0
    spared_is (commit_error.Move (move_error.Uncertain path)) h u = absurd (cc)
    spared_is (commit_error.Move (move_error.Changed path)) h u = absurd h.0
    spared_is (commit_error.Move move_error.Memory) h u = at_end h.0

  due_for : {X : Type 0} (r : Result X CommitError) → OnOk r (HasCommitted (task_for job commit) old new) → IfErr r (CommitStops (task_for job commit) old new) → IsDue job commit old new r
  due_for (Ok x) ok stops = record { defined = lands.defined; result = done_is ok; ends = tt; spared = tt }
  due_for (Err e) ok stops = record { defined = lands.defined; result = tt; ends = ends_is e stops; spared = λ a u. spared_is a e (ends_is e stops) u }

-- what is due after all phases, by what they leave
pub due : {X : Type 0} (task : Task) (old new : View) (r : Result X CommitError) → OnOk r (HasCommitted task old new) → IfErr r (CommitStops task old new) → LeavesDue task old new r
due task old new r ok stops s job k =
    let e = task_is job task k.settings k.place in
    due_for s job task.given k.copy k.begins k.given k.atomic k.direct old new k.told r
    (subst (λ (t : Task). OnOk r (HasCommitted t old new)) e ok) (subst (λ (t : Task). IfErr r (CommitStops t old new)) e stops)
