-- The law is proved of the definitions.
use Rattle.dc_report.proofs.SpeltLines.{lines_spell_entries}
use Rattle.dc_report.proofs.laws.report_laws.Goals as goal

pub returns : goal.returns
returns c = lines_spell_entries
