use Rattle.std.proofs.Common.{◌∙◌, sym, map, []}
use Rattle.dc_tree.specs.Arena.{cell_of}
use Rattle.dc_tree.proofs.Nexts.{link_found}
use Rattle.dc_tree.proofs.same.link_at.Goals as goal

pub returns-in-Some : goal.returns-in-Some
returns-in-Some c = c.copied.ensures ∙ c.get.ensures.value ∙ sym (link_found (map cell_of c.args.slots.now) c.args.at c.args.name.now c.in-Some.children.now.entries c.in-Some.ensures)

pub returns-in-None : goal.returns-in-None
returns-in-None c = sym (link_found (map cell_of c.args.slots.now) c.args.at c.args.name.now [] c.in-None.ensures)
