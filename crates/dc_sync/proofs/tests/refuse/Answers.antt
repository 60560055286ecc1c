-- The place is too long, or is told as false.
use Rattle.std.proofs.Common.{◌∙◌, sym, ap, subst}
use Rattle.std.proofs.lemmas.Result.{err_from_is_err_and}
use Rattle.dc_path.specs.Paths.{IsPath, Names}
use Rattle.dc_replay.specs.TestAnswers.{FalseAt, within}
use Rattle.dc_sync.specs.Steps.{stepped_on}
use Rattle.dc_sync.proofs.TestLemmas.{lacks_only, step_tests, taken_tests}
use Rattle.dc_sync.proofs.tests.refuse.Goals as goal

pub returns-in_err-step_on : goal.returns-in_err-step_on
returns-in_err-step_on c =
    let p = err_from_is_err_and c.from_residual.result c.from_residual.ensures.1 in
    rw (p.1, p.2) (step_tests c.args.base.now c.args.place.now c.in_err-step_on.field-0.0 (FalseAt c.args.place.now) c.in_err-step_on.ensures)

pub returns-in_err-path : goal.returns-in_err-path
returns-in_err-path c =
    let p = err_from_is_err_and c.from_residual-in_err-path.result c.from_residual-in_err-path.ensures.1 in
    rw (p.1, p.2)
    (lacks_only c.args.base.now c.args.place.now c.in_ok-step_on.field-0 c.in_err-path.field-0.0 (within c.args.base.now c.args.place.now (FalseAt c.args.place.now)) c.in_ok-step_on.ensures
    (subst IsPath c.drop.view_is c.drop.invariant.0) (λ k. ap (λ (r : Names). stepped_on r c.args.place.now) (sym c.root.ensures) ∙ c.in_err-path.ensures k))

pub returns : goal.returns
returns c =
    taken_tests c.args.base.now c.args.place.now c.in_ok-step_on.field-0 c.in_ok-path.path c.in_ok-step_on.ensures (subst IsPath c.drop.view_is c.drop.invariant.0)
    (ap (λ (r : Names). stepped_on r c.args.place.now) (sym c.root.ensures) ∙ c.in_ok-path.ensures)
