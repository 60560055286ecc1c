use Rattle.dc_sync.proofs.ReadingLemmas.{counted_line}
use Rattle.dc_sync.proofs.reading.parse.Goals as goal

pub unreported-requires : goal.unreported-requires
unreported-requires c = counted_line c.args.text.now c.in-Err.error c.requires c.in-Err.ensures
