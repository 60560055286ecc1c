-- What a run leaves that ends early, by where its copy or its commit stops.
use Rattle.std.proofs.Common.{◌≡◌, ◌⊎◌, inl, inr, ⊎_elim, ℕ, ◌+◌, Bool, true, false, List, ◌++◌, Option, Some, None, IsSomeAnd, Err, refl, sym, ◌∙◌, ap, subst, append-nil}
use Rattle.std.proofs.lemmas.Bool.{eqb-true}
use Rattle.std.specs.Cmp.{first_so, second_so}
use Rattle.dc_path.specs.Paths.{Names, at_cut, cut}
use Rattle.dc_path.proofs.PathLemmas.{append-cut}
use Rattle.dc_attrs.specs.Trees.{Tree, moved}
use Rattle.dc_fs.specs.Views.{View}
use Rattle.dc_fs.specs.declared.target.Landed.{Landed}
use Rattle.dc_options.specs.Settings.{Settings}
use Rattle.dc_listing.specs.Entries.{Entry}
use Rattle.dc_commit.specs.declared.steps.StepError.{StepError}
use Rattle.dc_commit.specs.declared.steps.StepError.TheVariants as step_error
use Rattle.dc_result.specs.Commits.{Commit, dirs_set}
use Rattle.dc_result.specs.During.{Making, Landing as AtLanding, SettingFiles, Removing, SettingDirs, Point, partly, progress, tree_at}
use Rattle.dc_result.specs.Effects.{AreEffects, effects}
use Rattle.dc_result.specs.Jobs.{Job}
use Rattle.dc_result.specs.Laws.{Passes}
use Rattle.dc_result.specs.Result.{IsBuilt, IsResult}
use Rattle.dc_result.proofs.Lawful.{move_gives_result, phases_build, points_are_partly}
use Rattle.dc_engine.specs.Committing.{AtFile, AtStep, EndsAt, IsCommitOf, IsDue, IsUntouched, Task, is_uncertain, outcome_of_commit, outcome_of_step}
use Rattle.dc_engine.specs.Copying.{is_copy, is_of_copy}
use Rattle.dc_engine.specs.Outcomes.{is_of_survey, is_target_fault}
use Rattle.dc_engine.specs.Running.{ComesTo, During, EndsEarly, HasBegun, HasNotBegun, IfTargetFault, IsAsBefore, IsAt, IsBuiltOrMoved, IsCopy, IsStopped, commits, is_look, is_unknown, landed_in}
use Rattle.dc_engine.specs.Settling.{is_of_settle}
use Rattle.dc_engine.specs.declared.committing.AdjustError.TheVariants as adjust_error
use Rattle.dc_engine.specs.declared.committing.BuildError.TheVariants as build_error
use Rattle.dc_engine.specs.declared.committing.CommitError.{CommitError}
use Rattle.dc_engine.specs.declared.committing.CommitError.TheVariants as commit_error
use Rattle.dc_engine.specs.declared.committing.MoveError.TheVariants as move_error
use Rattle.dc_engine.specs.declared.outcome.Outcome.{Outcome}
use Rattle.dc_engine.specs.declared.outcome.Outcome.TheVariants as outcome
use Rattle.dc_engine.specs.declared.outcome.Phase.{Phase}
use Rattle.dc_engine.specs.declared.outcome.Phase.TheVariants as phase_of

-- ---- kinds of outcomes
-- a commit that stops is uncertain as its error is, and has not come to its end
pub unknown_is : (e : CommitError) → is_unknown (outcome_of_commit e) ≡ is_uncertain e
unknown_is (commit_error.Build (build_error.Dirs (step_error.Fault done))) = refl
unknown_is (commit_error.Build (build_error.Dirs (step_error.Changed path))) = refl
unknown_is (commit_error.Build (build_error.Dirs (step_error.Memory done))) = refl
unknown_is (commit_error.Build (build_error.Land (step_error.Fault done))) = refl
unknown_is (commit_error.Build (build_error.Land (step_error.Changed path))) = refl
unknown_is (commit_error.Build (build_error.Land (step_error.Memory done))) = refl
unknown_is (commit_error.Build build_error.Sweep) = refl
unknown_is (commit_error.Adjust (adjust_error.FileAttrs (step_error.Fault done))) = refl
unknown_is (commit_error.Adjust (adjust_error.FileAttrs (step_error.Changed path))) = refl
unknown_is (commit_error.Adjust (adjust_error.FileAttrs (step_error.Memory done))) = refl
unknown_is (commit_error.Adjust (adjust_error.Delete (step_error.Fault done))) = refl
unknown_is (commit_error.Adjust (adjust_error.Delete (step_error.Changed path))) = refl
unknown_is (commit_error.Adjust (adjust_error.Delete (step_error.Memory done))) = refl
unknown_is (commit_error.Adjust (adjust_error.DirAttrs (step_error.Fault done))) = refl
unknown_is (commit_error.Adjust (adjust_error.DirAttrs (step_error.Changed path))) = refl
unknown_is (commit_error.Adjust (adjust_error.DirAttrs (step_error.Memory done))) = refl
unknown_is (commit_error.Move move_error.NotMoved) = refl
unknown_is (commit_error.Move (move_error.Uncertain path)) = refl
unknown_is (commit_error.Move (move_error.Changed path)) = refl
unknown_is (commit_error.Move move_error.Memory) = refl

step_stops : (e : StepError) (phase : Phase) → commits (outcome_of_step e phase) ≡ false
step_stops (step_error.Fault done) phase = refl
step_stops (step_error.Changed path) phase = refl
step_stops (step_error.Memory done) phase = refl

pub none_commits : (e : CommitError) → commits (outcome_of_commit e) ≡ false
none_commits (commit_error.Build (build_error.Dirs e)) = step_stops e phase_of.Dirs
none_commits (commit_error.Build (build_error.Land e)) = step_stops e phase_of.Land
none_commits (commit_error.Build build_error.Sweep) = refl
none_commits (commit_error.Adjust (adjust_error.FileAttrs e)) = step_stops e phase_of.FileAttrs
none_commits (commit_error.Adjust (adjust_error.Delete e)) = step_stops e phase_of.Delete
none_commits (commit_error.Adjust (adjust_error.DirAttrs e)) = step_stops e phase_of.DirAttrs
none_commits (commit_error.Move move_error.NotMoved) = refl
none_commits (commit_error.Move (move_error.Uncertain path)) = refl
none_commits (commit_error.Move (move_error.Changed path)) = refl
none_commits (commit_error.Move move_error.Memory) = refl

-- the outcome of a survey, of a settling and of a copy in which nothing is ready is known, and no commit
pub record IsEarly (e : Outcome) : Type 0 where
  pub known : is_unknown e ≡ false
  pub stops : commits e ≡ false

pub survey_early : (e : Outcome) → is_of_survey e ≡ true → IsEarly e
survey_early outcome.Committed h = absurd (cc)
survey_early (outcome.CommittedWithout paths) h = absurd (cc)
survey_early (outcome.Uncertain path) h = absurd (cc)
survey_early e h = record { known = refl; stops = refl }

pub settle_early : (e : Outcome) → is_of_settle e ≡ true → IsEarly e
settle_early outcome.Committed h = absurd (cc)
settle_early (outcome.CommittedWithout paths) h = absurd (cc)
settle_early (outcome.Uncertain path) h = absurd (cc)
settle_early e h = record { known = refl; stops = refl }

pub copy_early : (e : Outcome) → is_of_copy e ≡ true → IsEarly e
copy_early outcome.Committed h = absurd (cc)
copy_early (outcome.CommittedWithout paths) h = absurd (cc)
copy_early (outcome.Uncertain path) h = absurd (cc)
copy_early e h = record { known = refl; stops = refl }

-- the target has failed, if at all, where its tree is not changed
pub looked_in : (phase : Phase) (e : Outcome) → is_look phase ≡ true → (is_target_fault e ≡ true → e ≡ outcome.TargetFault phase 0) → IfTargetFault e (λ named done. (is_look named ≡ true) × (done ≡ 0))
looked_in phase (outcome.TargetFault named done) look h =
    subst (λ (x : Outcome). IfTargetFault x (λ named done. (is_look named ≡ true) × (done ≡ 0))) (sym (h refl)) (look, refl)
looked_in phase e look h = tt

copy_looks : (phase : Phase) → is_copy phase ≡ true → is_look phase ≡ true
copy_looks phase_of.Copy h = refl
copy_looks phase h = absurd (cc)

pub copy_looked : (e : Outcome) → is_of_copy e ≡ true → IfTargetFault e (λ named done. (is_look named ≡ true) × (done ≡ 0))
copy_looked (outcome.TargetFault named done) h = (copy_looks named (first_so _ _ h), eqb-true done 0 (second_so _ _ h))
copy_looked e h = tt

-- ---- nothing has begun
as_before : (o : Settings) (t : Tree) (new : View) → new.tree ≡ Some t → IsAsBefore o t new
as_before o t new h = subst (λ (w : Option Tree). IsSomeAnd w (λ now. (rest : Names) → now (o.target ++ rest) ≡ t (o.target ++ rest))) (sym h) (λ rest. refl)

pub not_begun_stopped : (o : Settings) (s t : Tree) (e : Outcome) (old new : View) → HasNotBegun e old new → is_unknown e ≡ false → old.tree ≡ Some t → IsStopped o s t e old new
not_begun_stopped o s t e old new h known told = record {
  early = λ _. inl h;
  unknown = λ u. let no : true ≡ false = sym u ∙ known in absurd (cc);
  spared = λ _ _. as_before o t new (h.tree ∙ told);
}

-- ---- the commit of a copy stops
module _ (o : Settings) (s t : Tree) (entries : List Entry) (job : Job) (commit : Commit) (old new : View) (copy : IsCopy o s t entries job) (passes : Passes job commit) (defined : AreEffects job (effects commit.plan)) where
  at_point : (point : Point) → new.tree ≡ Some (tree_at job commit point) → IsAt job point new.tree
  at_point point h = (
    passes.elements,
    passes.are,
    subst (λ (w : Option Tree). IsSomeAnd w (λ now. (p : Names) → now p ≡ partly job (progress job passes.elements point) p)) (sym h) (passes.trees point),
  )

  begun : (phase : Phase) (done : ℕ) (e : Outcome) → IfTargetFault e (λ named count. (named ≡ phase) × (count ≡ done)) → During job phase done new.tree
      → new.rest.landed ≡ old.rest.landed ++ landed_in phase done (effects commit.plan) → HasBegun o s t e old new
  begun phase done e told tree landed = record {
    entries = entries;
    job = job;
    copy = copy;
    phase = phase;
    done = done;
    told = told;
    tree = tree;
    effects = effects commit.plan;
    defined = defined;
    landed = landed;
  }

  begun_step : (phase : Phase) (at : ℕ → Point) (e : StepError) → ((k : ℕ) → ComesTo job at k new.tree → During job phase k new.tree)
      → ((k : ℕ) → new.rest.landed ≡ old.rest.landed ++ landed_in phase k (effects commit.plan)) → AtStep job commit at new.tree e → HasBegun o s t (outcome_of_step e phase) old new
  begun_step phase at (step_error.Fault k) during landed h =
      begun phase k (outcome.TargetFault phase k) (refl, refl) (during k (⊎_elim (λ w. inl (at_point (at k) w)) (λ w. inr (at_point (at (k + 1)) w)) h)) (landed k)
  begun_step phase at (step_error.Memory k) during landed h = begun phase k outcome.Memory tt (during k (inl (at_point (at k) h))) (landed k)
  begun_step phase at (step_error.Changed path) during landed h = absurd h

  begun_land : (e : StepError) → AtFile job commit old new e → HasBegun o s t (outcome_of_step e phase_of.Land) old new
  begun_land (step_error.Fault k) h = begun phase_of.Land k (outcome.TargetFault phase_of.Land k) (refl, refl) (at_point (AtLanding k) h.tree) h.landed
  begun_land (step_error.Memory k) h = begun phase_of.Land k outcome.Memory tt (at_point (AtLanding k) h.tree) h.landed
  begun_land (step_error.Changed path) h = absurd h

  begun_at : (e : CommitError) → IsBuilt job (Some (dirs_set job commit)) → EndsAt job commit old new e → is_uncertain e ≡ false → HasBegun o s t (outcome_of_commit e) old new
  begun_at (commit_error.Build (build_error.Dirs e)) built h known = begun_step phase_of.Dirs Making e (λ k w. w) (λ k. h.1 ∙ sym (append-nil old.rest.landed)) h.0
  begun_at (commit_error.Build (build_error.Land e)) built h known = begun_land e h
  begun_at (commit_error.Build build_error.Sweep) built h known = begun phase_of.Sweep 0 (outcome.TargetFault phase_of.Sweep 0) (refl, refl) (at_point (SettingFiles 0) h.0) h.1
  begun_at (commit_error.Adjust (adjust_error.FileAttrs e)) built h known = begun_step phase_of.FileAttrs SettingFiles e (λ k w. w) (λ k. h.1) h.0
  begun_at (commit_error.Adjust (adjust_error.Delete e)) built h known = begun_step phase_of.Delete Removing e (λ k w. w) (λ k. h.1) h.0
  begun_at (commit_error.Adjust (adjust_error.DirAttrs e)) built h known = begun_step phase_of.DirAttrs SettingDirs e (λ k w. w) (λ k. h.1) h.0
  begun_at (commit_error.Move move_error.NotMoved) built h known = begun phase_of.Move 0 (outcome.TargetFault phase_of.Move 0) (refl, refl) (subst (IsBuilt job) (sym h.0) built) h.1
  begun_at (commit_error.Move (move_error.Uncertain path)) built h known = let no : true ≡ false = known in absurd (cc)
  begun_at (commit_error.Move (move_error.Changed path)) built h known = absurd h.0
  begun_at (commit_error.Move move_error.Memory) built h known = begun phase_of.Move 0 outcome.Memory tt (subst (IsBuilt job) (sym h.0) built) h.1

-- what is moved onto itself is as it was
moved_onto : (t : Tree) (b q : Names) → moved t b b q ≡ t q
moved_onto t b q = by (cut b q) refl
  where
    by : (c : Option Names) → cut b q ≡ c → at_cut c (at_cut c (t q) (λ rest. None)) (λ rest. t (b ++ rest)) ≡ t q
    by None e = refl
    by (Some r) e = ap t (sym (append-cut b q r e))

module _ (o : Settings) (s t : Tree) (entries : List Entry) (job : Job) (task : Task) (old new : View) (copy : IsCopy o s t entries job) (c : IsCommitOf s job task old.tree) where
  built : IsBuilt job (Some (dirs_set job task.given))
  built = (phases_build s job task.given c.copy c.given).built

  -- after the move all is the result, wherever it was built
  moved_result : (atomic : Bool) → job.settings.atomic ≡ atomic → IsResult job (Some (moved (dirs_set job task.given) job.base job.target))
  moved_result true a = move_gives_result s job task.given c.copy (c.atomic a) c.given
  moved_result false a =
      let is = c.direct a in
      let there = (phases_build s job task.given c.copy c.given).result is in (
        there.0,
        there.1,
        λ p. ap (λ (b : Names). moved (dirs_set job task.given) b job.target p) is ∙ moved_onto (dirs_set job task.given) job.target p ∙ there.2 p,
      )

  unknown_at : AreEffects job (effects task.given.plan) → (e : CommitError) → EndsAt job task.given old new e → is_uncertain e ≡ true → IsBuiltOrMoved o s t old new
  unknown_at defined (commit_error.Build e) h u = let no : false ≡ true = u in absurd (cc)
  unknown_at defined (commit_error.Adjust e) h u = let no : false ≡ true = u in absurd (cc)
  unknown_at defined (commit_error.Move move_error.NotMoved) h u = let no : false ≡ true = u in absurd (cc)
  unknown_at defined (commit_error.Move (move_error.Changed path)) h u = absurd h.0
  unknown_at defined (commit_error.Move move_error.Memory) h u = let no : false ≡ true = u in absurd (cc)
  unknown_at defined (commit_error.Move (move_error.Uncertain path)) h u = record {
    entries = entries;
    job = job;
    copy = copy;
    tree = ⊎_elim (λ w. inl (subst (IsBuilt job) (sym w) built)) (λ w. inr (subst (IsResult job) (sym w) (moved_result job.settings.atomic refl))) h.0;
    effects = effects task.given.plan;
    defined = defined;
    landed = h.1;
  }

  pub begun_from : {X : Type 0} (e : CommitError) → IsDue {X = X} job task.given old new (Err e) → is_uncertain e ≡ false → HasBegun o s t (outcome_of_commit e) old new
  begun_from e due known = begun_at o s t entries job task.given old new copy (points_are_partly s job task.given c.copy c.given) due.defined e built due.ends known

  pub unknown_from : {X : Type 0} (e : CommitError) → IsDue {X = X} job task.given old new (Err e) → is_uncertain e ≡ true → IsBuiltOrMoved o s t old new
  unknown_from e due u = unknown_at due.defined e due.ends u

  pub spared_from : {X : Type 0} (e : CommitError) → IsDue {X = X} job task.given old new (Err e) → o.atomic ≡ true → is_uncertain e ≡ false → IsAsBefore o t new
  spared_from e due a known =
      subst (λ (j : Job). IsUntouched j new.tree) copy.job_is (due.spared (ap (λ (j : Job). j.settings.atomic) copy.job_is ∙ a) known)

  pub stopped_from : {X : Type 0} (e : CommitError) → IsDue {X = X} job task.given old new (Err e) → IsStopped o s t (outcome_of_commit e) old new
  stopped_from e due = record {
    early = λ known. inr (begun_from e due (sym (unknown_is e) ∙ known));
    unknown = λ u. unknown_from e due (sym (unknown_is e) ∙ u);
    spared = λ a known. spared_from e due a (sym (unknown_is e) ∙ known);
  }

-- ---- the same between earlier and later views
module _ (o : Settings) (s t : Tree) (e : Outcome) (older old new newer : View) (tree : old.tree ≡ older.tree) (landed : old.rest.landed ≡ older.rest.landed) (tree_now : newer.tree ≡ new.tree) (landed_now : newer.rest.landed ≡ new.rest.landed) where
  landed_since : (ls : List Landed) → new.rest.landed ≡ old.rest.landed ++ ls → newer.rest.landed ≡ older.rest.landed ++ ls
  landed_since ls h = landed_now ∙ h ∙ ap (λ (first : List Landed). first ++ ls) landed

  early_since : EndsEarly o s t e old new → EndsEarly o s t e older newer
  early_since (inl h) = inl (record { tree = tree_now ∙ h.tree ∙ tree; landed = landed_now ∙ h.landed ∙ landed; told = h.told })
  early_since (inr h) = inr (record {
    entries = h.entries;
    job = h.job;
    copy = h.copy;
    phase = h.phase;
    done = h.done;
    told = h.told;
    tree = subst (During h.job h.phase h.done) (sym tree_now) h.tree;
    effects = h.effects;
    defined = h.defined;
    landed = landed_since (landed_in h.phase h.done h.effects) h.landed;
  })

  unknown_since : IsBuiltOrMoved o s t old new → IsBuiltOrMoved o s t older newer
  unknown_since h = record {
    entries = h.entries;
    job = h.job;
    copy = h.copy;
    tree = subst (λ (w : Option Tree). IsBuilt h.job w ⊎ IsResult h.job w) (sym tree_now) h.tree;
    effects = h.effects;
    defined = h.defined;
    landed = landed_since h.effects h.landed;
  }

  pub ends_since : IsStopped o s t e old new → IsStopped o s t e older newer
  ends_since h = record {
    early = λ known. early_since (h.early known);
    unknown = λ u. unknown_since (h.unknown u);
    spared = λ a known. subst (λ (w : Option Tree). IsSomeAnd w (λ now. (rest : Names) → now (o.target ++ rest) ≡ t (o.target ++ rest))) (sym tree_now) (h.spared a known);
  }
