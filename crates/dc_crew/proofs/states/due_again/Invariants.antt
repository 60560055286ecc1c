use Rattle.std.proofs.Common.{◌≡◌, take}
use Rattle.dc_crew.specs.States.{tasks_again}
use Rattle.dc_crew.proofs.states.due_again.Given as goal

abbrev pub invariant-loop-task : goal.invariant-loop-task
invariant-loop-task l = l.again.items ≡ tasks_again l.kills l.states (take l.task-index l.tasks)
