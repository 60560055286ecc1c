-- What is known of the loop over the prefixes of a path.
use Rattle.std.proofs.Common.{◌≡◌}
use Rattle.dc_report.specs.Carrying.{carrier, old_lt}
use Rattle.dc_report.specs.Carries.{carries_in, hit_of}
use Rattle.dc_report.proofs.Carriers.{hit_left, size_left}
use Rattle.dc_report.proofs.Sorting.{IsSorted}
use Rattle.dc_report.proofs.carries.carrier.Given as goal

-- what is left is carried by what carries the path
abbrev pub invariant-loop-rest : goal.invariant-loop-rest
invariant-loop-rest l = record {
  left : hit_of (carrier (carries_in l.carries.entries) l.path) ≡ hit_left l.carries.entries l.rest;
  ascends : IsSorted old_lt (carries_in l.carries.entries);
}

abbrev pub decreases-loop-rest : goal.decreases-loop-rest
decreases-loop-rest l = size_left l.rest
