use Rattle.std.proofs.Common.{sym, ◌∙◌, ap, subst, map, Option, List}
use Rattle.std.proofs.lemmas.Result.{on_ok_weaker, on_err_weaker}
use Rattle.dc_attrs.specs.Trees.{Node}
use Rattle.dc_tree.specs.Arena.{cell_of, Cell, node_of, tree_of}
use Rattle.dc_tree.specs.Edits.{Adds}
use Rattle.dc_attrs.specs.Fitting.{is_fitting}
use Rattle.dc_tree.proofs.Steps.{on_either, some_of, same_arena, same_tree, same_homes, hung_arena, hung_tree}
use Rattle.dc_tree.proofs.Homing.{hung_homes}
use Rattle.dc_tree.proofs.Valid.{whole}
use Rattle.dc_tree.proofs.arena.Arena.hang.Goals as goal

pub invariant_of-self : goal.invariant_of-self
invariant_of-self c =
    let cells : List Cell = map cell_of c.self.inside.slots.items in
    let new : List Cell = map cell_of c.add.new.slots.items in
    let was = c.self.inside.homes.items in
    let now = c.add.new.homes.items in
    let name = c.in-Some.name.now in
    let to = node_of (cell_of c.args.slot) in
    let v = some_of to c.requires.some in
    on_either c.add.result c.add.ensures.ok c.add.ensures.err
    (λ h.
    let a = subst (λ (o : Option Node). Adds c.args.self.now c.args.parent name o new) v.1 (subst (λ (cells : List Cell). Adds cells c.args.parent name to new) c.self.view_is h.adds) in
    let arena = hung_arena c.args.self.now new c.args.path.now c.args.parent name v.0 c.requires.vacant c.in-Some.ensures a (sym (ap is_fitting v.1) ∙ c.requires.fits) in
    (arena, hung_homes cells new c.args.parent name to was now h.adds arena c.self.invariant.1 h.home))
    (λ e. (same_arena cells new e.cells c.self.invariant.0, same_homes cells new was now e.cells e.homes c.self.invariant.1))

pub returns-in_default-clause-whole : goal.returns-in_default-clause-whole
returns-in_default-clause-whole c = whole c.args.self.now c.requires.vacant.forest

pub returns-clause-whole : goal.returns-clause-whole
returns-clause-whole c =
    let cells : List Cell = map cell_of c.self.inside.slots.items in
    let new : List Cell = map cell_of c.add.new.slots.items in
    let name = c.in-Some.name.now in
    let to = node_of (cell_of c.args.slot) in
    let v = some_of to c.requires.some in
    on_either c.add.result c.add.ensures.ok c.add.ensures.err
    (λ h.
    let a = subst (λ (o : Option Node). Adds c.args.self.now c.args.parent name o new) v.1 (subst (λ (cells : List Cell). Adds cells c.args.parent name to new) c.self.view_is h.adds) in
    whole new (hung_arena c.args.self.now new c.args.path.now c.args.parent name v.0 c.requires.vacant c.in-Some.ensures a (sym (ap is_fitting v.1) ∙ c.requires.fits)))
    (λ e. whole new (same_arena cells new e.cells c.self.invariant.0))

pub returns-clause-ok : goal.returns-clause-ok
returns-clause-ok c =
    let new : List Cell = map cell_of c.add.new.slots.items in
    let name = c.in-Some.name.now in
    let to = node_of (cell_of c.args.slot) in
    on_ok_weaker c.add.result (λ h v e.
    let a = subst (λ (o : Option Node). Adds c.args.self.now c.args.parent name o new) e (subst (λ (cells : List Cell). Adds cells c.args.parent name to new) c.self.view_is h.adds) in
    hung_tree c.args.self.now new c.args.path.now c.args.parent name v c.requires.vacant c.in-Some.ensures a (sym (ap is_fitting e) ∙ c.requires.fits)) c.add.ensures.ok

pub returns-clause-err : goal.returns-clause-err
returns-clause-err c = on_err_weaker c.add.result (λ e. same_tree (map cell_of c.self.inside.slots.items) (map cell_of c.add.new.slots.items) e.cells ∙ ap tree_of c.self.view_is) c.add.ensures.err
