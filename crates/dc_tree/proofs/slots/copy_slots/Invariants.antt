use Rattle.std.proofs.Common.{◌≡◌, map, take}
use Rattle.dc_tree.specs.Arena.{cell_of}
use Rattle.dc_tree.proofs.slots.copy_slots.Given as goal

abbrev pub invariant-loop-slot : goal.invariant-loop-slot
invariant-loop-slot l = map cell_of l.copy.items ≡ take l.slot-index (map cell_of l.slots)
