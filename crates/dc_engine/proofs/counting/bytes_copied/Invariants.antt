use Rattle.std.proofs.Common.{◌≡◌, ◌≤◌, ◌*◌, ◌^◌, take, filter}
use Rattle.std.specs.List.{sum_by}
use Rattle.dc_commit.specs.Landing.{is_landing}
use Rattle.dc_ready.specs.Laws.{copied_bytes}
use Rattle.dc_engine.proofs.counting.bytes_copied.Given as goal

-- the bytes of the first items
abbrev pub invariant-loop-planned : goal.invariant-loop-planned
invariant-loop-planned l = record {
  total : l.total ≡ sum_by copied_bytes (filter is_landing (take l.planned-index l.items));
  small : l.total ≤ l.planned-index * 2 ^ 64;
}
