-- A phase of a commit as a list of steps (Hadoop DistCp, `CopyCommitter`): what each makes of the target's tree, and where a phase stops.
use Rattle.std.specs.Prelude.{◌≡◌, ◌⊎◌, ℕ, ◌+◌, Bool, true, false, ◌&&◌, List, [], ◌∷◌, ◌++◌, length, Option, IfSome, Result, Ok, Err}
use Rattle.std.specs.Option.{option_map}
use Rattle.dc_path.specs.Paths.{Names}
use Rattle.dc_attrs.specs.Trees.{Tree}
use Rattle.dc_fs.specs.Answers.{is_refusal}
use Rattle.dc_fs.specs.declared.errors.WriteError.{WriteError}
use Rattle.dc_fs.specs.declared.errors.WriteError.TheVariants as write_error
use Rattle.dc_commit.specs.declared.steps.StepError.{StepError}
use Rattle.dc_commit.specs.declared.steps.StepError.TheVariants as step_error

-- one step: its path, whether a tree allows it, and what it makes of the tree
pub record Step : Type 0 where
  pub place : Names
  pub may : Tree → Bool
  pub change : Tree → Tree

-- the tree after these steps, one after the other
abbrev pub after : List Step → Tree → Tree
after [] t = t
after (step ∷ steps) t = after steps (step.change t)

-- the tree allows each of these steps where those before it are done
abbrev pub allows : List Step → Tree → Bool
allows [] t = true
allows (step ∷ steps) t = step.may t && allows steps (step.change t)

abbrev pub is_fault : StepError → Bool
is_fault (step_error.Fault done) = true
is_fault (step_error.Changed path) = false
is_fault (step_error.Memory done) = false

abbrev pub is_changed : StepError → Bool
is_changed (step_error.Fault done) = false
is_changed (step_error.Changed path) = true
is_changed (step_error.Memory done) = false

-- the tree did not allow the step, and is as it was
pub record IsDenied (step : Step) (path : Names) (old new : Option Tree) : Type 0 where
  pub place : path ≡ step.place
  pub denied : IfSome old (λ t. step.may t ≡ false)
  pub tree : new ≡ old

-- what one step leaves that stops after so many others: after a fault it is done or not, after every other error it is not
abbrev pub StopsIn : ℕ → Step → Option Tree → Option Tree → StepError → Type 0
StopsIn count step old new (step_error.Fault done) = (done ≡ count) × ((new ≡ old) ⊎ (new ≡ option_map step.change old))
StopsIn count step old new (step_error.Memory done) = (done ≡ count) × (new ≡ old)
StopsIn count step old new (step_error.Changed path) = IsDenied step path old new

-- what one step leaves, after so many others
abbrev pub TakesStep : {X : Type 0} → ℕ → Step → Option Tree → Option Tree → Result X StepError → Type 0
TakesStep count step old new (Ok x) = new ≡ option_map step.change old
TakesStep count step old new (Err e) = StopsIn count step old new e

-- steps that follow so many others stop in one of them: those before it are done, and no other
pub record StopsFrom (first : ℕ) (steps : List Step) (old new : Option Tree) (error : StepError) : Type 0 where
  pub before : List Step
  pub step : Step
  pub behind : List Step
  pub all : steps ≡ before ++ step ∷ behind
  pub stop : StopsIn (first + length before) step (option_map (after before) old) new error

-- the steps of a phase, which follow none
abbrev pub Stops : List Step → Option Tree → Option Tree → StepError → Type 0
Stops steps old new error = StopsFrom 0 steps old new error

-- what a step answers where the target refused a call at its path, after so many other steps
abbrev pub Answers : WriteError → Names → ℕ → StepError → Type 0
Answers error path count (step_error.Fault done) = (done ≡ count) × (error ≡ write_error.Fault)
Answers error path count (step_error.Memory done) = (done ≡ count) × (error ≡ write_error.Fault → ⊥)
Answers error path count (step_error.Changed at) = (at ≡ path) × (is_refusal error ≡ true)
