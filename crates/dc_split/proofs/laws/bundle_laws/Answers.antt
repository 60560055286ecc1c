-- The law is proved of the definition.
use Rattle.dc_split.proofs.LawProofs.{uniform_is_one}
use Rattle.dc_split.proofs.laws.bundle_laws.Goals as goal

pub returns : goal.returns
returns c = uniform_is_one
