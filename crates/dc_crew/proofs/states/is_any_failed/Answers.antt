use Rattle.std.proofs.Common.{rules, ◌<◌, All, arith, subst}
use Rattle.std.proofs.lemmas.List.Elements.{All-more}
use Rattle.dc_pool.proofs.Numbers.{take_whole}
use Rattle.dc_crew.specs.declared.crew.Task.{Task}
use Rattle.dc_crew.specs.Jobs.{no_task}
use Rattle.dc_crew.specs.States.{state_of}
use Rattle.dc_crew.proofs.states.is_any_failed.Goals as goal

pub loop-task-preserved : goal.loop-task-preserved
loop-task-preserved c = All-more (λ (t : Task). (state_of c.args.states.now t.piece).failed < 4) c.args.tasks.now c.loop-task.task-index no_task c.loop-task-test.true c.loop-task.invariant (search (rules, arith))

pub returns : goal.returns
returns c = λ _. subst (All (λ (t : Task). (state_of c.args.states.now t.piece).failed < 4)) (take_whole c.loop-task.task-index c.args.tasks.now c.loop-task-test.false) c.loop-task.invariant
