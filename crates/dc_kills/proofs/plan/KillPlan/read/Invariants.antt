-- What is known of the loop over the lines.
use Rattle.std.proofs.Common.{◌≤◌, length}
use Rattle.dc_kills.specs.Plans.{IsInOrder}
use Rattle.dc_kills.proofs.Reading.{IsReading}
use Rattle.dc_kills.proofs.plan.KillPlan.read.Given as goal

-- the entries of the lines so far
abbrev pub invariant-loop-rest : goal.invariant-loop-rest
invariant-loop-rest l = record {
  reading : IsReading l.text l.rest l.stops.entries l.number;
  ordered : IsInOrder l.stops.entries;
  few : length l.stops.entries ≤ l.number;
}

-- what is left of the text
abbrev pub decreases-loop-rest : goal.decreases-loop-rest
decreases-loop-rest l = length l.rest
