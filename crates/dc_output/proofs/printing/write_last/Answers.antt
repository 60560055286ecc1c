use Rattle.std.proofs.Common.{◌∷◌, [], rules}
use Rattle.dc_output.specs.Output.{outcome_text}
use Rattle.dc_output.specs.Writes.{sink_view}
use Rattle.dc_output.proofs.WriteLemmas.{then_writes}
use Rattle.dc_output.proofs.printing.write_last.Goals as goal

pub returns : goal.returns
returns g c =
    then_writes (outcome_text c.args.outcome.now) (10 ∷ []) (sink_view g.O.Sink c.args.out.now) (sink_view g.O.Sink c.write_pieces.new.out) (sink_view g.O.Sink c.write.new.self) c.write.result
    (rw c.outcome_row.ensures at c.in_ok-write_pieces.ensures) (search rules)
