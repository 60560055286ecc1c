use Rattle.std.proofs.Common.{◌≡◌, ◌∙◌, sym, ap, ℕ, map, Some, None, Option}
use Rattle.dc_attrs.specs.Trees.{Dir}
use Rattle.dc_tree.specs.Arena.{cell_of, cell_at, DirCell, FileCell, GoneCell, way_on, find}
use Rattle.dc_tree.specs.declared.slots.Way.TheVariants.{At}
use Rattle.dc_tree.proofs.Cells.{cell_read, cell_out, step_is}
use Rattle.dc_tree.proofs.slots.child.Goals as goal

pub returns-in-Some : goal.returns-in-Some
returns-in-Some c =
    let is : cell_at (map cell_of c.args.slots.now) c.args.at ≡ DirCell c.in-Some-Dir.field-0-0 c.in-Some-Dir.children.entries = cell_read c.args.slots.now c.args.at c.in-Some-Dir.field-0.now c.in-Some-Dir.ensures.lookup.0 c.in-Some-Dir.ensures.lookup.1 ∙ ap cell_of c.in-Some-Dir.field-0-is in
    let found : Some c.in-Some.child ≡ find c.args.name.now c.in-Some-Dir.children.entries = sym c.in-Some.is ∙ c.copied.ensures ∙ c.get-in-Some-Dir.ensures.value in
    ap (λ (o : Option ℕ). way_on (Some (Dir c.in-Some-Dir.field-0-0)) o (λ k. At k)) found ∙ sym (step_is (map cell_of c.args.slots.now) c.args.at (DirCell c.in-Some-Dir.field-0-0 c.in-Some-Dir.children.entries) c.args.name.now (λ k. At k) is)

pub returns-in-None-copied : goal.returns-in-None-copied
returns-in-None-copied c =
    let is : cell_at (map cell_of c.args.slots.now) c.args.at ≡ DirCell c.in-Some-Dir.field-0-0 c.in-Some-Dir.children.entries = cell_read c.args.slots.now c.args.at c.in-Some-Dir.field-0.now c.in-Some-Dir.ensures.lookup.0 c.in-Some-Dir.ensures.lookup.1 ∙ ap cell_of c.in-Some-Dir.field-0-is in
    let found : None ≡ find c.args.name.now c.in-Some-Dir.children.entries = sym c.in-None-copied.is ∙ c.copied.ensures ∙ c.get-in-Some-Dir.ensures.value in
    ap (λ (o : Option ℕ). way_on (Some (Dir c.in-Some-Dir.field-0-0)) o (λ k. At k)) found ∙ sym (step_is (map cell_of c.args.slots.now) c.args.at (DirCell c.in-Some-Dir.field-0-0 c.in-Some-Dir.children.entries) c.args.name.now (λ k. At k) is)

pub returns-in-Some-File : goal.returns-in-Some-File
returns-in-Some-File c =
    let is : cell_at (map cell_of c.args.slots.now) c.args.at ≡ FileCell c.in-Some-File.field-0-0 c.in-Some-File.field-0-1 = cell_read c.args.slots.now c.args.at c.in-Some-File.field-0.now c.in-Some-File.ensures.lookup.0 c.in-Some-File.ensures.lookup.1 ∙ ap cell_of c.in-Some-File.field-0-is in
    sym (step_is (map cell_of c.args.slots.now) c.args.at (FileCell c.in-Some-File.field-0-0 c.in-Some-File.field-0-1) c.args.name.now (λ k. At k) is)

pub returns-in-Some-Gone : goal.returns-in-Some-Gone
returns-in-Some-Gone c =
    let is : cell_at (map cell_of c.args.slots.now) c.args.at ≡ GoneCell c.in-Some-Gone.field-0-1.entries = cell_read c.args.slots.now c.args.at c.in-Some-Gone.field-0.now c.in-Some-Gone.ensures.lookup.0 c.in-Some-Gone.ensures.lookup.1 ∙ ap cell_of c.in-Some-Gone.field-0-is in
    sym (step_is (map cell_of c.args.slots.now) c.args.at (GoneCell c.in-Some-Gone.field-0-1.entries) c.args.name.now (λ k. At k) is)

pub returns-in-None : goal.returns-in-None
returns-in-None c = sym (step_is (map cell_of c.args.slots.now) c.args.at (GoneCell _) c.args.name.now (λ k. At k) (cell_out c.args.slots.now c.args.at c.in-None.ensures.lookup.0))
