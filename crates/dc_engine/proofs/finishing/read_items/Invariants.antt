use Rattle.std.proofs.Common.{take, All}
use Rattle.dc_ready.specs.Laws.{IsKept}
use Rattle.dc_engine.proofs.finishing.read_items.Given as goal

-- the first items are as their type keeps them
abbrev pub invariant-loop-planned : goal.invariant-loop-planned
invariant-loop-planned l = All IsKept (take l.planned-index l.items)
