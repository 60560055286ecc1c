use Rattle.std.proofs.Common.{map}
use Rattle.dc_tree.specs.Arena.{cell_of}
use Rattle.dc_tree.specs.Edits.{Keeps}
use Rattle.dc_tree.proofs.slots.drain.Given as goal

abbrev pub invariant-loop : goal.invariant-loop
invariant-loop l = Keeps (map cell_of l.fn.slots.items) (map cell_of l.slots.items)
