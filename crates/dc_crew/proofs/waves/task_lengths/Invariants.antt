use Rattle.std.proofs.Common.{◌≡◌, take}
use Rattle.dc_crew.specs.States.{lengths_of}
use Rattle.dc_crew.proofs.waves.task_lengths.Given as goal

abbrev pub invariant-loop-task : goal.invariant-loop-task
invariant-loop-task l = l.lengths.items ≡ lengths_of l.pieces (take l.task-index l.tasks)
