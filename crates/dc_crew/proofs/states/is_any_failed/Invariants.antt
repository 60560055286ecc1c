use Rattle.std.proofs.Common.{◌<◌, take, All}
use Rattle.dc_crew.specs.States.{state_of}
use Rattle.dc_crew.proofs.states.is_any_failed.Given as goal

abbrev pub invariant-loop-task : goal.invariant-loop-task
invariant-loop-task l = All (λ t. (state_of l.states t.piece).failed < 4) (take l.task-index l.tasks)
