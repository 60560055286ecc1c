use Rattle.dc_tree.proofs.Listing.{one_copied}
use Rattle.dc_tree.proofs.slots.copy_slots.Goals as goal

pub loop-slot-preserved : goal.loop-slot-preserved
loop-slot-preserved c = one_copied c.args.slots.now c.loop-slot.copy.items c.push.new.self.items c.loop-slot.slot-index c.slot-item.result c.in_ok-copied.copied c.loop-slot-test.true c.slot-item.is c.in_ok-copied.ensures c.in_ok-push.ensures.items c.loop-slot.invariant
