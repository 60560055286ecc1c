-- What is known of the loop over the numbers.
use Rattle.std.proofs.Common.{◌≡◌, ℕ, ◌+◌, ◌<◌, get_or}
use Rattle.dc_pieces.proofs.parts.are_in_row.Given as goal

-- so far they are in a row
abbrev pub invariant-loop-place : goal.invariant-loop-place
invariant-loop-place l = (k : ℕ) → k < l.place → get_or l.numbers k 0 ≡ l.first + k
