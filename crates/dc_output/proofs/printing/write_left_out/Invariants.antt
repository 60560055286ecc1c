use Rattle.std.proofs.Common.{Ok, flat_map, take}
use Rattle.dc_output.specs.Output.{without_line}
use Rattle.dc_output.specs.Writes.{Writes, sink_view}
use Rattle.dc_output.proofs.printing.write_left_out.Given as goal

-- the paths so far
abbrev pub invariant-loop-path : goal.invariant-loop-path
invariant-loop-path g l = Writes (flat_map without_line (take l.path-index l.paths)) (sink_view g.O.Sink l.initial.out) (sink_view g.O.Sink l.out) (Ok tt)
