use Rattle.std.proofs.Common.{◌≡◌, ℕ, ◌+◌, ◌-◌, ◌≤◌, [], length}
use Rattle.dc_pool.specs.Drawing.{weight, ceiling}
use Rattle.dc_pool.specs.Counts.{RoseWith}
use Rattle.dc_pool.specs.Waves.{stands, AllRight, in_bundle, made_for, LeaveGoing}
use Rattle.dc_pool.proofs.worker.one_worker.Given as goal

abbrev pub invariant-loop-b : goal.invariant-loop-b
invariant-loop-b g l = record {
  fit : g.C.Crew.fit l.crew l.slot;
  kept : (g.C.Crew.faults l.initial.slot ≤ g.C.Crew.faults l.slot) × (g.C.Crew.makes l.initial.slot ≤ g.C.Crew.makes l.slot);
  right : AllRight (g.C.Crew.right l.crew) (g.C.Crew.right_end l.crew) (g.C.Crew.doomed l.crew) l.wave;
  own : (l.drawer.seat.table_id ≡ l.initial.drawer.seat.table_id) × (l.drawer.bundles ≡ l.initial.drawer.bundles) × (l.drawer.seat.me.0.seats ≡ l.initial.drawer.seat.me.0.seats);
  numbers : (x : ℕ) → stands x l.wave + weight (in_bundle l.bundles x) l.initial.drawer.seat.me.0.drawn ≡ weight (in_bundle l.bundles x) l.drawer.seat.me.0.drawn;
  faults : RoseWith (g.C.Crew.faults l.initial.slot) 0 (length l.wave.failed) (g.C.Crew.faults l.slot);
  makes : RoseWith (g.C.Crew.makes l.initial.slot) 0 (made_for (g.C.Crew.late l.crew) l.wave) (g.C.Crew.makes l.slot);
  lost : l.wave.lost ≡ [];
  going : LeaveGoing (g.C.Crew.stops l.crew) l.wave.killed;
}

abbrev pub decreases-loop-b : goal.decreases-loop-b
decreases-loop-b g l = l.draws.bundles - ceiling l.drawer.seat.me.0.drawn
