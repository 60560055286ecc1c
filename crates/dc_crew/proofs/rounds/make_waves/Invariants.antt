use Rattle.std.proofs.Common.{◌≡◌, ◌+◌, ◌<◌, ◌≤◌, ◌^◌, ℕ, true, false, length, All, count_by}
use Rattle.dc_pool.specs.Counts.{Gained}
use Rattle.dc_crew.specs.Slots.{IsFit, job_in, slot_faults, slot_makes}
use Rattle.dc_crew.specs.States.{state_of, tasks_of, tally, parts_of}
use Rattle.dc_crew.specs.Advances.{AreRight, failures, is_doomed_at}
use Rattle.dc_crew.proofs.MeasureLemmas.{measure}
use Rattle.dc_crew.proofs.SpentLemmas.{is_spent}
use Rattle.dc_crew.proofs.rounds.make_waves.Given as goal

abbrev pub invariant-waves : goal.invariant-waves
invariant-waves g l = record {
  few : l.settings.go_on ≡ false → (p : ℕ) → (state_of l.states p).failed < 4;
  due : l.tasks.items ≡ tasks_of l.kills l.states;
  len : length l.states ≡ length l.fn.states;
  slots : length l.slots ≡ length l.fn.slots;
  fit : All (IsFit g.S.Store g.D.Desk g.J.World.scene l.settings.size) l.slots;
  failed : (p : ℕ) → (state_of l.states p).failed ≤ 4;
  bound : (p : ℕ) → (state_of l.states p).ended + measure l.kills l.states < 2 ^ 31;
  faults : Gained (slot_faults g.S.Store g.D.Desk) (failures l.states) l.fn.slots l.slots;
  makes : (dead : ℕ) × Gained (slot_makes g.D.Desk) (length l.parts.items + dead) l.fn.slots l.slots × (failures l.states ≡ 0 → count_by (is_spent l.pieces l.settings.size l.states) l.kills ≤ dead);
  spared : (p : ℕ) → (state_of l.states p).done ≡ true → is_doomed_at l.kills l.pieces l.settings.size p ((state_of l.states p).ended + 1) ≡ false;
  right : AreRight (job_in g.J.World.scene l.items l.pieces) g.D.Temp.Held.content g.D.Temp.Held.size l.parts.items;
  once : (p : ℕ) → parts_of p l.parts.items ≡ tally (state_of l.states p).done;
}

abbrev pub decreases-waves : goal.decreases-waves
decreases-waves g l = measure l.kills l.states
