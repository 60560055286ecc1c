-- What is not UTF-8 is no heading.
use Rattle.std.proofs.Common.{sym}
use Rattle.dc_report.proofs.Texts.{not_utf8, no_heading}
use Rattle.dc_report.proofs.grammar.is_heading.Goals as goal

pub returns-in-Err-clause-heading : goal.returns-in-Err-clause-heading
returns-in-Err-clause-heading c = sym (no_heading c.args.line.now (not_utf8 c.args.line.now c.in-Err.ensures.cases.0))
