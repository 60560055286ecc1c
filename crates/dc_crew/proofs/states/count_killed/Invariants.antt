use Rattle.std.proofs.Common.{◌≡◌, ◌+◌, ℕ, length, take}
use Rattle.dc_crew.specs.States.{state_of, hits, SameFailed, SameDone}
use Rattle.dc_crew.proofs.states.count_killed.Given as goal

abbrev pub invariant-loop-number : goal.invariant-loop-number
invariant-loop-number l = record {
  len : length l.states ≡ length l.initial.states;
  ended : (p : ℕ) → (state_of l.states p).ended ≡ (state_of l.initial.states p).ended + hits l.tasks p (take l.number-index l.numbers);
  failed : SameFailed l.initial.states l.states;
  done : SameDone l.initial.states l.states;
}
