use Rattle.std.proofs.Common.{map}
use Rattle.dc_tree.specs.Arena.{cell_of}
use Rattle.dc_tree.proofs.Whole.{Walked}
use Rattle.dc_tree.proofs.same.same_below.Given as goal

abbrev pub invariant-loop : goal.invariant-loop
invariant-loop l = Walked l.keep (map cell_of l.first) (map cell_of l.second) l.top l.other_top l.at l.counter
