use Rattle.std.proofs.Common.{◌≡◌, ◌≤◌, length, take, filter}
use Rattle.dc_commit.specs.Landing.{is_landing}
use Rattle.dc_engine.proofs.counting.count_copied.Given as goal

-- how many of the first items are files
abbrev pub invariant-loop-planned : goal.invariant-loop-planned
invariant-loop-planned l = record {
  count : l.count ≡ length (filter is_landing (take l.planned-index l.items));
  small : l.count ≤ l.planned-index;
}
