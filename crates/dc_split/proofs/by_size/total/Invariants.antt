-- What is known of the loop that adds the lengths.
use Rattle.std.proofs.Common.{◌≡◌, ◌≤◌, ◌*◌, ◌^◌, sum, take}
use Rattle.dc_split.proofs.by_size.total.Given as goal

-- the sum so far
abbrev pub invariant-loop-length : goal.invariant-loop-length
invariant-loop-length l = record {
  total : l.total ≡ sum (take l.length-index l.lengths);
  small : l.total ≤ l.length-index * 2 ^ 64;
}
