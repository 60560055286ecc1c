use Rattle.dc_sync.proofs.NameLemmas.{snapshot_is_name, reports_is_name}
use Rattle.dc_sync.proofs.reading.names_of.Goals as goal

pub name_of-requires : goal.name_of-requires
name_of-requires c = snapshot_is_name

pub name_of-requires-2 : goal.name_of-requires-2
name_of-requires-2 c = reports_is_name
