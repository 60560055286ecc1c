use Rattle.std.proofs.Common.{◌≤◌, length}
use Rattle.dc_local.proofs.stdout.write_whole.Given as goal

-- no more is written than there is
abbrev pub invariant-writes : goal.invariant-writes
invariant-writes g l = l.done ≤ length l.piece
