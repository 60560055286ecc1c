use Rattle.std.proofs.Common.{◌≤◌}
use Rattle.dc_local.proofs.reading.digest_of.Given as goal

abbrev pub invariant-pieces : goal.invariant-pieces
invariant-pieces l = l.left ≤ l.length
