-- One part more, and all.
use Rattle.std.proofs.Common.{◌∙◌, ap}
use Rattle.dc_join.specs.Adding.{grouped}
use Rattle.dc_join.specs.Joining.{bit_for}
use Rattle.dc_join.proofs.AddingLemmas.{grouped_part}
use Rattle.dc_join.proofs.joining.group.Goals as goal

pub loop-part-preserved : goal.loop-part-preserved
loop-part-preserved g c =
    c.in_ok-add_if_landing.ensures
    ∙ ap (λ files. grouped files (bit_for c.args.plan.now c.args.pieces.now c.in-Some.part)) c.loop-part.invariant
    ∙ grouped_part (bit_for c.args.plan.now c.args.pieces.now) c.loop-part.yielded c.in-Some.part
