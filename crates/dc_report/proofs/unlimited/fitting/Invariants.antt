-- What is known of the loop over the names.
use Rattle.std.proofs.Common.{◌≡◌, take}
use Rattle.dc_report.proofs.unlimited.fitting.Given as goal

-- the front has the names so far
abbrev pub invariant-loop-name : goal.invariant-loop-name
invariant-loop-name l = l.front ≡ take l.name-index l.names
