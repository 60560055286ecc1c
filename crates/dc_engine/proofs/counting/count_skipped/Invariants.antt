use Rattle.std.proofs.Common.{◌≡◌, ◌≤◌, length, take, filter}
use Rattle.dc_engine.specs.Counting.{is_skipped}
use Rattle.dc_engine.proofs.counting.count_skipped.Given as goal

-- how many of the first items are skipped files
abbrev pub invariant-loop-planned : goal.invariant-loop-planned
invariant-loop-planned l = record {
  count : l.count ≡ length (filter is_skipped (take l.planned-index l.items));
  small : l.count ≤ l.planned-index;
}
