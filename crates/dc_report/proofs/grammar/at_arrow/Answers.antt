-- The text is cut at the last ` -> `.
use Rattle.dc_report.proofs.Arrows.{at_arrow_is}
use Rattle.dc_report.proofs.grammar.at_arrow.Goals as goal

pub returns : goal.returns
returns c = at_arrow_is c.args.text.now c.rsplit_once.result c.rsplit_once.ensures.cases
