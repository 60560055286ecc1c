use Rattle.std.proofs.Common.{◌∷◌, [], rules}
use Rattle.dc_path.specs.Paths.{joined}
use Rattle.dc_output.specs.Writes.{sink_view}
use Rattle.dc_output.proofs.WriteLemmas.{then_writes}
use Rattle.dc_output.proofs.pieces.write_piece.Goals as goal

pub returns-in_ok-write-in-Below : goal.returns-in_ok-write-in-Below
returns-in_ok-write-in-Below g c =
    rw c.in-Below.is
    (then_writes (46 ∷ []) (joined c.in-Below.path.now) (sink_view g.O.Sink c.args.out.now) (sink_view g.O.Sink c.write-in-Below.new.self) (sink_view g.O.Sink c.write_names-in-Below.new.out) c.write_names-in-Below.result
    (search rules) c.write_names-in-Below.ensures)
