use Rattle.dc_tree.proofs.Cells.{puts}
use Rattle.dc_tree.proofs.slots.put_slot.Goals as goal

pub returns : goal.returns
returns c = puts c.args.slots.now.items c.args.at c.args.slot c.requires
