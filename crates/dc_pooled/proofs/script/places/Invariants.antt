-- What is known of the loop that makes the slots.
use Rattle.std.proofs.Common.{◌≡◌, length}
use Rattle.dc_pooled.proofs.script.places.Given as goal

-- the slots so far
abbrev pub invariant-loop-place : goal.invariant-loop-place
invariant-loop-place l = length l.places ≡ l._place
