use Rattle.std.proofs.Common.{◌≡◌, ◌≤◌, length, take, filter}
use Rattle.dc_engine.specs.Counting.{is_out}
use Rattle.dc_engine.proofs.counting.count_failed.Given as goal

-- how many of the first items are items that are out
abbrev pub invariant-loop-planned : goal.invariant-loop-planned
invariant-loop-planned l = record {
  count : l.count ≡ length (filter is_out (take l.planned-index l.items));
  small : l.count ≤ l.planned-index;
}
