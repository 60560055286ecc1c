-- The next name passes a limit.
use Rattle.std.proofs.Common.{length, refl}
use Rattle.std.proofs.lemmas.Option.{slice_get_read}
use Rattle.dc_report.proofs.FittingLemmas.{fitting_stops}
use Rattle.dc_report.proofs.unlimited.fitting.Goals as goal

pub returns-in-Err : goal.returns-in-Err
returns-in-Err c =
    let got = slice_get_read c.args.names.now (length c.args.names.now) c.loop-name.name-index c.name-item.result refl c.loop-name-test.true c.name-item.is in
    fitting_stops c.loop-name.front c.args.names.now c.loop-name.name-index c.name-item.result c.in-Err.error
    c.loop-name.invariant got (c.in-Err.ensures c.in_ok-no_memory-in-Err.ensures)
