use Rattle.std.proofs.Common.{length}
use Rattle.dc_pool.proofs.threads.+fn-halves-join_mut+arg2+fn-halves-join_mut+arg3+halves.Given as goal

abbrev pub decreases-join_mut+arg2 : goal.decreases-join_mut+arg2
decreases-join_mut+arg2 g l = length l.front_slots.now

abbrev pub decreases-join_mut+arg3 : goal.decreases-join_mut+arg3
decreases-join_mut+arg3 g l = length l.back_slots.now

abbrev pub decreases-halves : goal.decreases-halves
decreases-halves g l = length l.slots.now
