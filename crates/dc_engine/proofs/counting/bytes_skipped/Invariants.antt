use Rattle.std.proofs.Common.{◌≡◌, ◌≤◌, ◌*◌, ◌^◌, take, filter}
use Rattle.std.specs.List.{sum_by}
use Rattle.dc_engine.specs.Counting.{is_skipped, source_length}
use Rattle.dc_engine.proofs.counting.bytes_skipped.Given as goal

-- the source lengths of the first items
abbrev pub invariant-loop-planned : goal.invariant-loop-planned
invariant-loop-planned l = record {
  total : l.total ≡ sum_by source_length (filter is_skipped (take l.planned-index l.items));
  small : l.total ≤ l.planned-index * 2 ^ 64;
}
