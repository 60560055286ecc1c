use Rattle.dc_tree.proofs.Under.{slot_absent}
use Rattle.dc_tree.proofs.arena.Arena.slot_of.Goals as goal

pub returns-in-Missing-clause-slot : goal.returns-in-Missing-clause-slot
returns-in-Missing-clause-slot c = slot_absent c.args.self.now c.args.path.now c.find.ensures.way.forest c.in-Missing.ensures.way.node

pub returns-in-NotDir-clause-slot : goal.returns-in-NotDir-clause-slot
returns-in-NotDir-clause-slot c = slot_absent c.args.self.now c.args.path.now c.find.ensures.way.forest c.in-NotDir.ensures.way.node
