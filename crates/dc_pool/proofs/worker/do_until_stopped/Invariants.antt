use Rattle.std.proofs.Common.{◌≡◌, ℕ, ◌+◌, ◌-◌, ◌≤◌, take, length}
use Rattle.dc_split.specs.Bundles.{times}
use Rattle.dc_pool.specs.Waves.{stands, IsAdded, LeaveGoing}
use Rattle.dc_pool.proofs.worker.do_until_stopped.Given as goal

abbrev pub invariant-loop-at : goal.invariant-loop-at
invariant-loop-at g l = record {
  within : l.at ≤ length l.numbers;
  fit : g.C.Crew.fit l.crew l.slot;
  kept : (g.C.Crew.faults l.initial.slot ≤ g.C.Crew.faults l.slot) × (g.C.Crew.makes l.initial.slot ≤ g.C.Crew.makes l.slot);
  added : IsAdded (g.C.Crew.right l.crew) (g.C.Crew.right_end l.crew) (g.C.Crew.doomed l.crew) (g.C.Crew.late l.crew) g.C.Crew.faults g.C.Crew.makes l.initial.slot l.slot l.initial.wave l.wave;
  numbers : (x : ℕ) → stands x l.wave ≡ stands x l.initial.wave + times x (take l.at l.numbers);
  lost : l.wave.lost ≡ l.initial.wave.lost;
  going : LeaveGoing (g.C.Crew.stops l.crew) l.wave.killed;
}

abbrev pub decreases-loop-at : goal.decreases-loop-at
decreases-loop-at g l = length l.numbers - l.at
