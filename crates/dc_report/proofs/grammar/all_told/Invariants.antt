-- What is known of the loop over the names.
use Rattle.std.proofs.Common.{◌≡◌, true, take}
use Rattle.std.specs.List.{list_all}
use Rattle.dc_report.specs.Grammar.{is_told}
use Rattle.dc_report.proofs.grammar.all_told.Given as goal

-- the names so far may stand in a report
abbrev pub invariant-loop-place : goal.invariant-loop-place
invariant-loop-place l = list_all is_told (take l.place l.path) ≡ true
