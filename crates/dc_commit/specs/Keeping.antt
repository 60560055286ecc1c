-- What a phase of a commit keeps of a target besides its tree.
use Rattle.std.specs.Prelude.{◌≡◌, Result}
use Rattle.dc_fs.specs.Causes.{steady_at}
use Rattle.dc_fs.specs.Views.{View, HasCauseIf}
use Rattle.dc_commit.specs.Steps.{is_fault}
use Rattle.dc_commit.specs.declared.steps.StepError.{StepError}

-- all that the target keeps besides its tree stays, and a fault has its cause
pub record Keeps {X : Type 0} (old new : View) (result : Result X StepError) : Type 0 where
  pub rest : new.rest ≡ old.rest
  pub cause : HasCauseIf old.faults new.faults result is_fault
  pub calm : steady_at new.steady new.faults ≡ steady_at old.steady old.faults
