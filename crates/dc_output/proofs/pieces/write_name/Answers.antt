use Rattle.std.proofs.Common.{◌∷◌, [], rules}
use Rattle.dc_output.specs.Writes.{sink_view}
use Rattle.dc_output.proofs.WriteLemmas.{then_writes}
use Rattle.dc_output.proofs.pieces.write_name.Goals as goal

pub returns : goal.returns
returns g c =
    then_writes (47 ∷ []) c.args.name.now (sink_view g.O.Sink c.args.out.now) (sink_view g.O.Sink c.write.new.self) (sink_view g.O.Sink c.write-2.new.self) c.write-2.result
    (search rules) (search rules)
