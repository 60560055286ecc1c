use Rattle.std.proofs.Common.{◌≡◌}
use Rattle.dc_crew.specs.States.{undone_below}
use Rattle.dc_crew.proofs.states.not_done.Given as goal

abbrev pub invariant-loop-place : goal.invariant-loop-place
invariant-loop-place l = l.numbers ≡ undone_below l.states l.place
