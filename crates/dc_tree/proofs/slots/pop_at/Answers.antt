use Rattle.dc_tree.proofs.Cells.{popped_at}
use Rattle.dc_tree.proofs.slots.pop_at.Goals as goal

pub returns-clause-pops : goal.returns-clause-pops
returns-clause-pops c = popped_at c.args.slots.now.items c.args.at c.index_mut.result.now c.pop_in.new.slot c.pop_in.result c.requires c.index_mut.ensures.value c.pop_in.ensures
