use Rattle.std.proofs.Common.{◌≡◌, map, take, drop}
use Rattle.dc_tree.specs.Arena.{cell_of, way_from}
use Rattle.dc_tree.proofs.slots.walk.Given as goal

abbrev pub invariant-loop-i : goal.invariant-loop-i
invariant-loop-i l = way_from (map cell_of l.slots) 0 (take l.count l.path) ≡ way_from (map cell_of l.slots) l.at (drop l.i (take l.count l.path))
