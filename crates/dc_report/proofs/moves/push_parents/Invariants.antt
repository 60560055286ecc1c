-- What is known of the loop down to a new path.
use Rattle.std.specs.Option.{option_copied}
use Rattle.dc_report.proofs.WalkLoop.{IsWalking}
use Rattle.dc_report.proofs.moves.push_parents.Given as goal

abbrev pub invariant-loop-count : goal.invariant-loop-count
invariant-loop-count l = IsWalking l.ground (option_copied l.last) l.new l.count l.front l.fresh l.fn.moves l.moves
