-- What is known of the loop over the names.
use Rattle.std.proofs.Common.{◌≡◌, false, take}
use Rattle.std.specs.List.{list_any}
use Rattle.dc_report.specs.Writing.{is_ambiguous}
use Rattle.dc_report.proofs.writing.has_ambiguous.Given as goal

-- the names so far can be read back
abbrev pub invariant-loop-place : goal.invariant-loop-place
invariant-loop-place l = list_any is_ambiguous (take l.place l.path) ≡ false
