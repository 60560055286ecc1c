use Rattle.std.proofs.Common.{refl, map}
use Rattle.dc_tree.specs.Arena.{cell_of}
use Rattle.dc_tree.proofs.Climbing.{go_down, go_past, down_parts}
use Rattle.dc_tree.proofs.same.advance.Goals as goal

pub returns-in-To-clause-turn : goal.returns-in-To-clause-turn
returns-in-To-clause-turn c = λ i j r s. let w = c.in-To.ensures in go_down (map cell_of c.args.first.now) (map cell_of c.args.second.now) i j r c.args.at _ w.0 s w.1 w.2 w.3 refl

pub returns-in-Differs-clause-turn : goal.returns-in-Differs-clause-turn
returns-in-Differs-clause-turn c = λ i j r s. let w = c.in-Differs.ensures in down_parts (map cell_of c.args.first.now) (map cell_of c.args.second.now) i j r c.args.at w.0 w.1 s w.2 w.3 w.4

pub returns-in-Nowhere-clause-turn : goal.returns-in-Nowhere-clause-turn
returns-in-Nowhere-clause-turn c = λ i j r s. go_past (map cell_of c.args.first.now) (map cell_of c.args.second.now) i j r c.args.at c.climb.result s c.in-Nowhere.ensures (c.climb.ensures.turn i j r s)
