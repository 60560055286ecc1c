use Rattle.std.proofs.Common.{◌≡◌, ◌+◌, ◌≤◌, ◌++◌, ℕ, length, map, reverse, vec_len}
use Rattle.dc_crew.specs.States.{state_of, hits, SameFailed, SameEnded, AreKnown, numbers_of, tally, part_for}
use Rattle.dc_crew.proofs.states.keep_done.Given as goal

abbrev pub invariant-loop-receipt : goal.invariant-loop-receipt
invariant-loop-receipt g l = record {
  len : length l.states ≡ length l.initial.states;
  known : AreKnown (length l.states) l.tasks (numbers_of l.receipts.items);
  ended : SameEnded l.initial.states l.states;
  failed : SameFailed l.initial.states l.states;
  once : (p : ℕ) → tally (state_of l.initial.states p).done + hits l.tasks p (numbers_of l.fn.done) ≤ 1;
  done : (p : ℕ) → tally (state_of l.states p).done + hits l.tasks p (numbers_of l.receipts.items) ≡ tally (state_of l.initial.states p).done + hits l.tasks p (numbers_of l.fn.done);
  parts : l.parts.items ++ reverse (map (part_for l.tasks) l.receipts.items) ≡ l.initial.parts.items ++ reverse (map (part_for l.tasks) l.fn.done);
}

abbrev pub decreases-loop-receipt : goal.decreases-loop-receipt
decreases-loop-receipt g l = vec_len l.receipts
