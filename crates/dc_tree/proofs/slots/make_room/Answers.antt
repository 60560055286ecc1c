use Rattle.std.proofs.Common.{◌∙◌, ap, map, List}
use Rattle.std.proofs.Math.Path.{fun_ext}
use Rattle.dc_tree.specs.declared.slots.Slot.{Slot}
use Rattle.dc_tree.specs.Arena.{cell_of, GoneCell, cell_at}
use Rattle.dc_tree.proofs.Cells.{pushed}
use Rattle.dc_tree.proofs.slots.make_room.Goals as goal

pub returns-clause-same : goal.returns-clause-same
returns-clause-same c = fun_ext (λ k. ap (λ (xs : List Slot). cell_at (map cell_of xs) k) c.in_ok-push.ensures.items ∙ pushed c.args.slots.now.items _ (ap GoneCell c.new.ensures.empty) k)
