use Rattle.std.proofs.Common.{◌∙◌, sym, ap, ℕ, map, []}
use Rattle.dc_attrs.specs.declared.shown.Seen.TheVariants as seen_as
use Rattle.dc_attrs.specs.Trees.{seen_node}
use Rattle.dc_tree.specs.Arena.{cell_of, node_of, GoneCell}
use Rattle.dc_tree.proofs.Cells.{cell_read, cell_out, node_is}
use Rattle.dc_tree.proofs.slots.seen_at.Goals as goal

pub returns-in-Some-Dir : goal.returns-in-Some-Dir
returns-in-Some-Dir c = sym (ap seen_node (node_is (map cell_of c.args.slots.now) c.args.at _ (cell_read c.args.slots.now c.args.at c.in-Some-Dir.field-0.now c.in-Some-Dir.ensures.lookup.0 c.in-Some-Dir.ensures.lookup.1) ∙ ap (λ s. node_of (cell_of s)) c.in-Some-Dir.field-0-is))

pub returns-in-Some-File : goal.returns-in-Some-File
returns-in-Some-File c = ap (λ (n : ℕ). seen_as.File n) c.len.ensures ∙ sym (ap seen_node (node_is (map cell_of c.args.slots.now) c.args.at _ (cell_read c.args.slots.now c.args.at c.in-Some-File.field-0.now c.in-Some-File.ensures.lookup.0 c.in-Some-File.ensures.lookup.1) ∙ ap (λ s. node_of (cell_of s)) c.in-Some-File.field-0-is))

pub returns-in-Some-Gone : goal.returns-in-Some-Gone
returns-in-Some-Gone c = sym (ap seen_node (node_is (map cell_of c.args.slots.now) c.args.at _ (cell_read c.args.slots.now c.args.at c.in-Some-Gone.field-0.now c.in-Some-Gone.ensures.lookup.0 c.in-Some-Gone.ensures.lookup.1) ∙ ap (λ s. node_of (cell_of s)) c.in-Some-Gone.field-0-is))

pub returns-in-None : goal.returns-in-None
returns-in-None c = sym (ap seen_node (node_is (map cell_of c.args.slots.now) c.args.at (GoneCell []) (cell_out c.args.slots.now c.args.at c.in-None.ensures.lookup.0)))
