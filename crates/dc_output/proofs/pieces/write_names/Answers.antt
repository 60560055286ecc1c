use Rattle.std.proofs.Common.{◌∷◌, List, ℕ}
use Rattle.std.proofs.lemmas.Result.{err_from_is_err_and}
use Rattle.dc_output.specs.Writes.{sink_view}
use Rattle.dc_output.proofs.WriteLemmas.{stops_at}
use Rattle.dc_output.proofs.pieces.write_names.Goals as goal

pub returns-in_err-write_name : goal.returns-in_err-write_name
returns-in_err-write_name g c =
    let p = err_from_is_err_and c.from_residual.result c.from_residual.ensures.1 in
    rw (← c.names-name-items.ensures)
    (stops_at (λ (name : List ℕ). 47 ∷ name) c.names-name-items.result.now c.loop-name.name-index c.name-item.result c.loop-name-test.true c.name-item.is
    (sink_view g.O.Sink c.args.out.now) (sink_view g.O.Sink c.loop-name.out) (sink_view g.O.Sink c.write_name.new.out)
    c.from_residual.result p.1 c.loop-name.invariant c.in_err-write_name.ensures)
