-- Entries that are read are entries that a text can tell.
use Rattle.std.proofs.Common.{◌≡◌, length, arith, rules}
use Rattle.dc_path.specs.Lines.{lines_of}
use Rattle.dc_report.specs.Lines.{unended}
use Rattle.dc_report.proofs.ReadBack.{lines_are_told}
use Rattle.dc_report.proofs.Steps.{headed_none}
use Rattle.dc_report.proofs.report.Report.read.Goals as goal

pub invariant_of-result : goal.invariant_of-result
invariant_of-result c =
    let read = c.in_ok-entries.ensures in
    (lines_are_told 2 c.in_ok-entries.entries (lines_of c.first_line.result.1.now) read.ok, read.carries)

pub returns-then-is_empty : goal.returns-then-is_empty
returns-then-is_empty c = λ _.
    let none : length (unended c.args.text.now) ≡ 0 = grind (arith, rules, c.without_end-text.ensures, c.is_empty.ensures, c.if-is_empty.true) in
    headed_none c.args.text.now none
