-- What a phase keeps, one step after the other.
use Rattle.std.proofs.Common.{◌≡◌, ℕ, Result, Ok, Err, refl, ◌∙◌, subst, arith}
use Rattle.dc_fs.specs.Causes.{Rose, steady_at}
use Rattle.dc_fs.specs.Views.{View}
use Rattle.dc_commit.specs.Keeping.{Keeps}
use Rattle.dc_commit.specs.declared.steps.StepError.{StepError}

-- nothing has failed, and all is kept
pub record Quiet (old new : View) : Type 0 where
  pub rest : new.rest ≡ old.rest
  pub still : new.faults ≡ old.faults
  pub calm : steady_at new.steady new.faults ≡ steady_at old.steady old.faults

pub quiet_start : (v : View) → Quiet v v
quiet_start v = record { rest = refl; still = refl; calm = refl }

pub quiet_more : {X : Type 0} (u v w : View) (x : X) → Quiet u v → Keeps v w (Ok x) → Quiet u w
quiet_more u v w x q k = record { rest = k.rest ∙ q.rest; still = k.cause.still ∙ q.still; calm = k.calm ∙ q.calm }

pub quiet_end : {X : Type 0} (u v : View) (x : X) → Quiet u v → Keeps u v (Ok x)
quiet_end u v x q = record { rest = q.rest; cause = record { later = omega (arith, q.still); rose = tt; still = q.still }; calm = q.calm }

pub quiet_stop : {X Y : Type 0} (u v w : View) (e : StepError) → Quiet u v → Keeps {X = X} v w (Err e) → Keeps {X = Y} u w (Err e)
quiet_stop u v w e q k = record {
  rest = k.rest ∙ q.rest;
  cause = record {
    later = omega (arith, k.cause.later, q.still);
    rose = λ f. subst (λ (n : ℕ). Rose n w.faults) q.still (k.cause.rose f);
    still = tt;
  };
  calm = k.calm ∙ q.calm;
}

pub quiet_keeps : {X : Type 0} (u v w : View) (r : Result X StepError) → Quiet u v → Keeps v w r → Keeps u w r
quiet_keeps u v w (Ok x) q k = quiet_end u w x (quiet_more u v w x q k)
quiet_keeps u v w (Err e) q k = quiet_stop u v w e q k

pub quiet_of : {X : Type 0} (u v : View) (x : X) → Keeps u v (Ok x) → Quiet u v
quiet_of u v x k = record { rest = k.rest; still = k.cause.still; calm = k.calm }

pub keeps_again : {X Y : Type 0} (u v : View) (e : StepError) → Keeps {X = X} u v (Err e) → Keeps {X = Y} u v (Err e)
keeps_again u v e k = quiet_stop u u v e (quiet_start u) k
