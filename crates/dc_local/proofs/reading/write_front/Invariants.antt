use Rattle.std.proofs.Common.{◌≤◌, length}
use Rattle.dc_local.proofs.reading.write_front.Given as goal

abbrev pub invariant-writes : goal.invariant-writes
invariant-writes l = l.done ≤ length l.bytes
