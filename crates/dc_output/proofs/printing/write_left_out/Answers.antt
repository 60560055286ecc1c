use Rattle.std.proofs.lemmas.Result.{err_from_is_err_and}
use Rattle.dc_output.specs.Output.{without_line}
use Rattle.dc_output.specs.Writes.{sink_view}
use Rattle.dc_output.proofs.WriteLemmas.{stops_at}
use Rattle.dc_output.proofs.printing.write_left_out.Goals as goal

pub returns-in_err-write_without : goal.returns-in_err-write_without
returns-in_err-write_without g c =
    let p = err_from_is_err_and c.from_residual.result c.from_residual.ensures.1 in
    stops_at without_line c.args.paths.now c.loop-path.path-index c.path-item.result c.loop-path-test.true c.path-item.is
    (sink_view g.O.Sink c.args.out.now) (sink_view g.O.Sink c.loop-path.out) (sink_view g.O.Sink c.write_without.new.out)
    c.from_residual.result p.1 c.loop-path.invariant c.in_err-write_without.ensures
