-- What is known of the loop over the line feeds.
use Rattle.std.proofs.Common.{◌≡◌, ◌≤◌, take, length}
use Rattle.dc_report.specs.Lines.{unended}
use Rattle.dc_report.proofs.lines.without_end.Given as goal

abbrev pub invariant-loop-end : goal.invariant-loop-end
invariant-loop-end l = record {
  within : l.end ≤ length l.text;
  same : unended (take l.end l.text) ≡ unended l.text;
}

abbrev pub decreases-loop-end : goal.decreases-loop-end
decreases-loop-end l = l.end
