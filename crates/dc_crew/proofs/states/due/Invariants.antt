use Rattle.std.proofs.Common.{◌≡◌}
use Rattle.dc_crew.specs.States.{tasks_below}
use Rattle.dc_crew.proofs.states.due.Given as goal

abbrev pub invariant-loop-place : goal.invariant-loop-place
invariant-loop-place l = l.tasks.items ≡ tasks_below l.kills l.states l.place
