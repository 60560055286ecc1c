use Rattle.std.proofs.Common.{◌∷◌, [], ◌++◌, append_assoc}
use Rattle.dc_output.specs.Output.{left_out, lines_before, outcome_text}
use Rattle.dc_output.specs.Writes.{sink_view}
use Rattle.dc_output.proofs.WriteLemmas.{then_writes}
use Rattle.dc_output.proofs.printing.write_lines.Goals as goal

pub returns : goal.returns
returns g c =
    rw append_assoc
    (then_writes (lines_before (left_out c.args.outcome.now) c.args.counts.now) (outcome_text c.args.outcome.now ++ 10 ∷ []) (sink_view g.O.Sink c.args.out.now) (sink_view g.O.Sink c.write_before.new.out) (sink_view g.O.Sink c.write_last.new.out) c.write_last.result
    c.in_ok-write_before.ensures c.write_last.ensures)
