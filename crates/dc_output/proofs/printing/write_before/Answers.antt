use Rattle.std.proofs.Common.{flat_map}
use Rattle.dc_output.specs.Output.{counter_lines, without_line}
use Rattle.dc_output.specs.Writes.{sink_view}
use Rattle.dc_output.proofs.WriteLemmas.{then_writes}
use Rattle.dc_output.proofs.printing.write_before.Goals as goal

pub returns-in_ok-write_counters-in-Some : goal.returns-in_ok-write_counters-in-Some
returns-in_ok-write_counters-in-Some g c =
    rw c.in-Some.ensures.some
    (then_writes (counter_lines c.args.counts.now) (flat_map without_line c.in-Some.paths.now) (sink_view g.O.Sink c.args.out.now) (sink_view g.O.Sink c.write_counters.new.out) (sink_view g.O.Sink c.write_left_out.new.out) c.write_left_out.result
    c.in_ok-write_counters-in-Some.ensures c.write_left_out.ensures)
