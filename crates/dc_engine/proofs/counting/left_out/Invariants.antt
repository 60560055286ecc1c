use Rattle.std.proofs.Common.{◌≡◌, take, filter, map}
use Rattle.dc_decide.specs.Plans.{item_rel}
use Rattle.dc_engine.specs.Counting.{is_out}
use Rattle.dc_engine.proofs.counting.left_out.Given as goal

-- the paths of the first items that are out
abbrev pub invariant-loop-planned : goal.invariant-loop-planned
invariant-loop-planned l = record {
  paths : l.paths ≡ map item_rel (filter is_out (take l.planned-index l.items));
}
