use Rattle.std.proofs.Common.{length}
use Rattle.dc_engine.proofs.InputLemmas.{IsReading}
use Rattle.dc_engine.proofs.inputs.read_lines.Given as goal

abbrev pub invariant-lines : goal.invariant-lines
invariant-lines l = IsReading l.text l.rest l.paths l.number

abbrev pub decreases-lines : goal.decreases-lines
decreases-lines l = length l.rest
