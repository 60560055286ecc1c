use Rattle.std.proofs.Common.{◌∙◌, ap, refl, map, []}
use Rattle.dc_tree.specs.Arena.{cell_of, GoneCell}
use Rattle.dc_tree.proofs.Cells.{cell_read, cell_out}
use Rattle.std.proofs.lemmas.Result.{IfOk-weaker}
use Rattle.dc_tree.proofs.Listing.{names_are, no_names, no_order}
use Rattle.dc_tree.proofs.slots.names_at.Goals as goal

pub returns-in-Some-Dir : goal.returns-in-Some-Dir
returns-in-Some-Dir c = IfOk-weaker c.names_of.result _ _ (λ names e. names_are (map cell_of c.args.slots.now) c.args.at _ c.in-Some-Dir.children names (cell_read c.args.slots.now c.args.at c.in-Some-Dir.field-0.now c.in-Some-Dir.ensures.lookup.0 c.in-Some-Dir.ensures.lookup.1 ∙ ap cell_of c.in-Some-Dir.field-0-is) refl c.names_of.ensures.ascending e) c.names_of.ensures.names

pub returns-in-Some-Gone : goal.returns-in-Some-Gone
returns-in-Some-Gone c = IfOk-weaker c.names_of-in-Some-Gone.result _ _ (λ names e. names_are (map cell_of c.args.slots.now) c.args.at _ c.in-Some-Gone.children names (cell_read c.args.slots.now c.args.at c.in-Some-Gone.field-0.now c.in-Some-Gone.ensures.lookup.0 c.in-Some-Gone.ensures.lookup.1 ∙ ap cell_of c.in-Some-Gone.field-0-is) refl c.names_of-in-Some-Gone.ensures.ascending e) c.names_of-in-Some-Gone.ensures.names

pub returns-in-Some-File : goal.returns-in-Some-File
returns-in-Some-File c = no_names (map cell_of c.args.slots.now) c.args.at _ _ (cell_read c.args.slots.now c.args.at c.in-Some-File.field-0.now c.in-Some-File.ensures.lookup.0 c.in-Some-File.ensures.lookup.1 ∙ ap cell_of c.in-Some-File.field-0-is) refl c.new.ensures no_order

pub returns-in-None : goal.returns-in-None
returns-in-None c = no_names (map cell_of c.args.slots.now) c.args.at (GoneCell []) _ (cell_out c.args.slots.now c.args.at c.in-None.ensures.lookup.0) refl c.new-in-None.ensures no_order
