use Rattle.dc_tree.proofs.Cells.{same_put}
use Rattle.dc_tree.proofs.slots.free_at.Goals as goal

pub returns : goal.returns
returns c = same_put c.args.slots.now.items c.args.at c.index_mut.result.now c.set_next.new.slot c.index_mut.ensures.value c.set_next.ensures
