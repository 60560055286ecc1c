use Rattle.std.proofs.Common.{map}
use Rattle.dc_tree.specs.Arena.{cell_of}
use Rattle.dc_tree.proofs.Steps.{keeps_popped, keeps_dismissed}
use Rattle.dc_tree.proofs.slots.drain_one.Goals as goal

pub returns-then-child-len : goal.returns-then-child-len
returns-then-child-len c = let p = c.in-Child.ensures.pops in keeps_popped (map cell_of c.args.slots.now.items) (map cell_of c.pop_at.new.slots.items) c.args.at p.0 c.in-Child.child p.1 p.2 p.3

pub returns-else-child-len : goal.returns-else-child-len
returns-else-child-len c = let p = c.in-Child.ensures.pops in keeps_dismissed (map cell_of c.args.slots.now.items) (map cell_of c.pop_at.new.slots.items) (map cell_of c.dismiss.new.slots.items) c.args.at p.0 c.in-Child.child p.1 p.2 p.3 c.dismiss.ensures.nodes
