use Rattle.std.proofs.Common.{Ok, take}
use Rattle.dc_path.specs.Paths.{joined}
use Rattle.dc_output.specs.Writes.{Writes, sink_view}
use Rattle.dc_output.proofs.pieces.write_names.Given as goal

-- the names so far
abbrev pub invariant-loop-name : goal.invariant-loop-name
invariant-loop-name g l = Writes (joined (take l.name-index l.name-items)) (sink_view g.O.Sink l.initial.out) (sink_view g.O.Sink l.out) (Ok tt)
