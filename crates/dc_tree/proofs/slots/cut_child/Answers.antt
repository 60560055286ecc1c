use Rattle.std.proofs.Common.{sym, subst, None}
use Rattle.dc_tree.specs.declared.slots.Slot.{Slot}
use Rattle.dc_tree.specs.Arena.{cell_of, DirCell}
use Rattle.dc_tree.specs.Edits.{Child}
use Rattle.dc_tree.proofs.Cells.{child_set}
use Rattle.dc_tree.proofs.slots.cut_child.Goals as goal

pub returns-in-Dir : goal.returns-in-Dir
returns-in-Dir c = subst (λ (s : Slot). Child (cell_of s) c.args.name.now None (DirCell c.in-Dir.attrs c.remove.new.self.entries)) (sym c.in-Dir.is) (child_set c.in-Dir.attrs c.in-Dir.children c.remove.new.self c.args.name.now None c.remove.ensures.updates)
