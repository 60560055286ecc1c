-- The laws are proved of the definitions.
use Rattle.dc_ready.proofs.CutLemmas.{pieces_have_items}
use Rattle.dc_ready.proofs.Lawful.{joined_land, joined_landing, joined_sized}
use Rattle.dc_ready.proofs.laws.ready_laws.Goals as goal

pub returns : goal.returns
returns g c = record {
  items = pieces_have_items;
  landing = joined_landing;
  sized = joined_sized;
  land = joined_land;
}
