-- The path is too long, or fits.
use Rattle.std.proofs.Common.{◌∙◌, ap, subst, sym}
use Rattle.std.proofs.lemmas.Result.{err_from_is_err_and}
use Rattle.dc_path.specs.Paths.{IsPath}
use Rattle.dc_replay.specs.TestAnswers.{Holds}
use Rattle.dc_sync.specs.Steps.{stepped_on}
use Rattle.dc_sync.proofs.TestLemmas.{fit_tests, step_tests}
use Rattle.dc_sync.proofs.checking.fit.Goals as goal

pub returns-in_err-step_on : goal.returns-in_err-step_on
returns-in_err-step_on c =
    let p = err_from_is_err_and c.from_residual.result c.from_residual.ensures.1 in
    rw (p.1, p.2) (step_tests c.args.base.now c.args.path.now c.in_err-step_on.field-0.0 Holds (λ k. ap (stepped_on c.args.base.now) (sym c.names.ensures) ∙ c.in_err-step_on.ensures k))

pub returns : goal.returns
returns c =
    fit_tests c.args.base.now c.args.path.now c.in_ok-step_on.field-0 tt (ap (stepped_on c.args.base.now) (sym c.names.ensures) ∙ c.in_ok-step_on.ensures) (subst IsPath c.drop.view_is c.drop.invariant.0)
