-- Where nothing is left, the entries are those of all lines.
use Rattle.std.proofs.Common.{◌∙◌, sym, arith, rules}
use Rattle.dc_report.proofs.Steps.{reads_end}
use Rattle.dc_report.proofs.report.read_lines.Goals as goal

pub returns-clause-ok : goal.returns-clause-ok
returns-clause-ok c = sym c.loop-rest.invariant.left ∙ reads_end c.loop-rest.line c.loop-rest.entries c.loop-rest.rest.now (grind (arith, rules, c.is_empty.ensures, c.loop-rest-test.false))
