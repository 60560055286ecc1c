use Rattle.std.proofs.Common.{sym, subst, Some}
use Rattle.dc_tree.specs.declared.slots.Slot.{Slot}
use Rattle.dc_tree.specs.Arena.{cell_of, DirCell}
use Rattle.dc_tree.specs.Edits.{Child}
use Rattle.dc_tree.proofs.Cells.{child_set}
use Rattle.dc_tree.proofs.slots.add_child.Goals as goal

pub returns-in_ok-insert-in-Dir-clause-ok : goal.returns-in_ok-insert-in-Dir-clause-ok
returns-in_ok-insert-in-Dir-clause-ok c = subst (λ (s : Slot). Child (cell_of s) c.args.name (Some c.args.to) (DirCell c.in-Dir.attrs c.insert.new.self.entries)) (sym c.in-Dir.is) (child_set c.in-Dir.attrs c.in-Dir.children c.insert.new.self c.args.name (Some c.args.to) c.in_ok-insert-in-Dir.ensures.updates)
