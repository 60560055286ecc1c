-- The law is proved of the definitions.
use Rattle.dc_attrs.proofs.Fields.{one_line_each}
use Rattle.dc_attrs.proofs.laws.line_laws.Goals as goal

pub returns : goal.returns
returns c = one_line_each
