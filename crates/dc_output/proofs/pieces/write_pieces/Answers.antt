use Rattle.std.proofs.lemmas.Result.{err_from_is_err_and}
use Rattle.dc_output.specs.Pieces.{piece_text}
use Rattle.dc_output.specs.Writes.{sink_view}
use Rattle.dc_output.proofs.WriteLemmas.{stops_at}
use Rattle.dc_output.proofs.pieces.write_pieces.Goals as goal

pub returns-in_err-write_piece : goal.returns-in_err-write_piece
returns-in_err-write_piece g c =
    let p = err_from_is_err_and c.from_residual.result c.from_residual.ensures.1 in
    stops_at piece_text c.args.pieces.now c.loop-piece.piece-index c.piece-item.result c.loop-piece-test.true c.piece-item.is
    (sink_view g.O.Sink c.args.out.now) (sink_view g.O.Sink c.loop-piece.out) (sink_view g.O.Sink c.write_piece.new.out)
    c.from_residual.result p.1 c.loop-piece.invariant c.in_err-write_piece.ensures
