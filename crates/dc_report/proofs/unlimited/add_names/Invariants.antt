-- What is known of the loop that adds the names.
use Rattle.std.proofs.Common.{◌≡◌, ◌++◌, take}
use Rattle.dc_report.proofs.unlimited.add_names.Given as goal

-- the names so far
abbrev pub invariant-loop-name : goal.invariant-loop-name
invariant-loop-name l = l.to ≡ l.fn.to ++ take l.name-index l.names
