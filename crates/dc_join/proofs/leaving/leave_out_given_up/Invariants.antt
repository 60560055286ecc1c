-- What is known of the loop over the pieces.
use Rattle.std.proofs.Common.{◌≡◌, length, take}
use Rattle.dc_join.specs.Leaving.{AreLeftOut}
use Rattle.dc_join.proofs.leaving.leave_out_given_up.Given as goal

-- the items of the pieces so far are left out
abbrev pub invariant-loop-number : goal.invariant-loop-number
invariant-loop-number l = record {
  base : l.plan.base ≡ l.initial.plan.base;
  items : AreLeftOut l.pieces (take l.number-index l.given_up) l.initial.plan.items l.plan.items;
  len : length l.plan.items ≡ length l.initial.plan.items;
}
