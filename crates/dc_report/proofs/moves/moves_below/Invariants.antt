-- What is known of the loop over the moves.
use Rattle.dc_report.proofs.LimitLemmas.{IsBelow}
use Rattle.dc_report.proofs.moves.moves_below.Given as goal

abbrev pub invariant-loop-step : goal.invariant-loop-step
invariant-loop-step l = IsBelow l.base l.steps l.step-index l.moves
