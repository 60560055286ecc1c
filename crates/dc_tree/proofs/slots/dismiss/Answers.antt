use Rattle.std.proofs.Common.{None}
use Rattle.dc_tree.proofs.Cells.{edited}
use Rattle.dc_tree.proofs.slots.dismiss.Goals as goal

pub returns-clause-nodes : goal.returns-clause-nodes
returns-clause-nodes c = edited c.args.slots.now.items c.args.at c.index_mut.result.now c.dismiss_in.new.slot None c.requires c.index_mut.ensures.value c.dismiss_in.ensures
