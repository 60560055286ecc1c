use Rattle.std.proofs.Common.{Ok, flat_map, take}
use Rattle.dc_output.specs.Pieces.{piece_text}
use Rattle.dc_output.specs.Writes.{Writes, sink_view}
use Rattle.dc_output.proofs.pieces.write_pieces.Given as goal

-- the pieces so far
abbrev pub invariant-loop-piece : goal.invariant-loop-piece
invariant-loop-piece g l = Writes (flat_map piece_text (take l.piece-index l.pieces)) (sink_view g.O.Sink l.initial.out) (sink_view g.O.Sink l.out) (Ok tt)
