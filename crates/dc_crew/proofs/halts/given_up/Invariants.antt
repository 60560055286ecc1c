use Rattle.std.proofs.Common.{ℕ, ◌<◌}
use Rattle.dc_crew.specs.States.{state_of}
use Rattle.dc_crew.proofs.halts.given_up.Given as goal

abbrev pub invariant-loop-place : goal.invariant-loop-place
invariant-loop-place l = (q : ℕ) → q < l.place → (state_of l.states q).failed < 4
