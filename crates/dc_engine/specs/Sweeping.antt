-- What is left where a run looks at the target, and sweeps it after a refusal.
use Rattle.std.specs.Prelude.{◌≡◌, ◌⊎◌, ◌≤◌, Bool, Result, OnOk, OnErr}
use Rattle.dc_fs.specs.Causes.{Rose, steady_at}
use Rattle.dc_fs.specs.Rest.{SweepStops}
use Rattle.dc_fs.specs.Views.{View, HasCauseIf}

-- all temporaries were to go: none is left, or the target failed at that; all else stays
pub record IsSwept (old new : View) : Type 0 where
  pub tree : new.tree ≡ old.tree
  pub rest : SweepStops old.rest new.rest
  pub cleared : (new.rest.scratch ≡ 0) ⊎ Rose old.faults new.faults
  pub later : old.faults ≤ new.faults
  pub calm : steady_at new.steady new.faults ≡ steady_at old.steady old.faults

-- a call only looked, and after a refusal it swept besides: all but temporaries stays, and a fault has its cause
pub record LooksOrSweeps {T E : Type 0} (old new : View) (result : Result T E) (is_fault : E → Bool) : Type 0 where
  pub tree : new.tree ≡ old.tree
  pub rest : OnOk result (new.rest ≡ old.rest)
  pub swept : OnErr result (SweepStops old.rest new.rest)
  pub cause : HasCauseIf old.faults new.faults result is_fault
  pub calm : steady_at new.steady new.faults ≡ steady_at old.steady old.faults
