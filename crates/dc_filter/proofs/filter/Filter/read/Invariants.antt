use Rattle.std.proofs.Common.{◌≤◌, length}
use Rattle.dc_filter.proofs.FilterLemmas.{IsReading}
use Rattle.dc_filter.proofs.filter.Filter.read.Given as goal

abbrev pub invariant-lines : goal.invariant-lines
invariant-lines g l = record {
  reading : IsReading l.text l.rest l.patterns.items l.number;
  later : g.P.Patterns.refused l.initial.pats ≤ g.P.Patterns.refused l.pats;
}

abbrev pub decreases-lines : goal.decreases-lines
decreases-lines g l = length l.rest
