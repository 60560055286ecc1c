-- What is known of the loop over the lines.
use Rattle.std.proofs.Common.{◌≡◌, ◌+◌, ◌<◌, ◌^◌, [], length}
use Rattle.dc_path.specs.Lines.{lines_of}
use Rattle.dc_report.specs.Known.{Knows}
use Rattle.dc_report.specs.Reports.{entries_from}
use Rattle.dc_report.proofs.report.read_lines.Given as goal

-- what is left tells what all lines tell
abbrev pub invariant-loop-rest : goal.invariant-loop-rest
invariant-loop-rest l = record {
  knows : Knows l.known l.entries;
  left : entries_from l.line l.entries (lines_of l.rest) ≡ entries_from 2 [] (lines_of l.fn.lines);
  room : l.line + length l.rest < 2 ^ 64;
}

abbrev pub decreases-loop-rest : goal.decreases-loop-rest
decreases-loop-rest l = length l.rest
