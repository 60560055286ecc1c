use Rattle.std.proofs.Common.{sym, subst}
use Rattle.dc_tree.specs.declared.slots.Slot.{Slot}
use Rattle.dc_tree.specs.Arena.{cell_of, GoneCell}
use Rattle.dc_tree.specs.Edits.{Pops}
use Rattle.dc_tree.specs.declared.slots.Popped.TheVariants as popped
use Rattle.dc_tree.proofs.Cells.{pops_child}
use Rattle.dc_tree.proofs.slots.pop_in.Goals as goal

pub returns-in-Some : goal.returns-in-Some
returns-in-Some c = subst (λ (s : Slot). Pops (cell_of s) (popped.Child c.in-Some.child) (GoneCell c.pop_first.new.self.entries)) (sym c.in-Gone.is) (pops_child c.in-Gone.children c.pop_first.new.self c.in-Some._name c.in-Some.child c.in-Some.ensures.value c.in-Some.ensures.updates)
