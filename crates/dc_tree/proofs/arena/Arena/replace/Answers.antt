use Rattle.std.proofs.Common.{sym, refl, subst, map, Some, List}
use Rattle.dc_attrs.specs.Trees.{File}
use Rattle.dc_tree.specs.Arena.{cell_of, Cell, node, link, IsFileNode}
use Rattle.dc_tree.specs.Edits.{Nodes}
use Rattle.dc_tree.proofs.Cells.{within_some}
use Rattle.dc_tree.proofs.Steps.{renoded_arena, file_put, file_kind}
use Rattle.dc_tree.proofs.Homing.{homes_same}
use Rattle.dc_tree.proofs.Valid.{whole}
use Rattle.dc_tree.proofs.arena.Arena.replace.Goals as goal

pub put_slot-requires : goal.put_slot-requires
put_slot-requires c =
    let k = (subst (λ (cells : List Cell). IsFileNode (node cells c.args.at)) (sym c.self.view_is) c.requires.file) in
    within_some c.self.inside.slots.items c.args.at (File k.0 k.1) k.2

pub invariant_of-self : goal.invariant_of-self
invariant_of-self c =
    let old : List Cell = map cell_of c.self.inside.slots.items in
    let new : List Cell = map cell_of c.put_slot.new.slots.items in
    let k = (subst (λ (cells : List Cell). IsFileNode (node cells c.args.at)) (sym c.self.view_is) c.requires.file) in
    let put = file_put old new c.args.at c.args.bytes c.args.attrs c.self.invariant.0 k c.put_slot.ensures in (
      renoded_arena old new c.args.at (File c.args.bytes c.args.attrs) c.self.invariant.0 (file_kind (node old c.args.at) c.args.bytes c.args.attrs k) c.requires.fits put,
      homes_same (link old) (link new) c.self.inside.homes.items c.self.inside.homes.items put.links refl c.self.invariant.1,
    )

pub returns-clause-node : goal.returns-clause-node
returns-clause-node c =
    let k = (subst (λ (cells : List Cell). IsFileNode (node cells c.args.at)) (sym c.self.view_is) c.requires.file) in
    subst (λ (cells : List Cell). Nodes cells c.args.at (Some (File c.args.bytes c.args.attrs)) (map cell_of c.put_slot.new.slots.items)) c.self.view_is (file_put (map cell_of c.self.inside.slots.items) (map cell_of c.put_slot.new.slots.items) c.args.at c.args.bytes c.args.attrs c.self.invariant.0 k c.put_slot.ensures)

pub returns-clause-whole : goal.returns-clause-whole
returns-clause-whole c =
    let old : List Cell = map cell_of c.self.inside.slots.items in
    let new : List Cell = map cell_of c.put_slot.new.slots.items in
    let k = (subst (λ (cells : List Cell). IsFileNode (node cells c.args.at)) (sym c.self.view_is) c.requires.file) in
    let put = file_put old new c.args.at c.args.bytes c.args.attrs c.self.invariant.0 k c.put_slot.ensures in
    whole new (renoded_arena old new c.args.at (File c.args.bytes c.args.attrs) c.self.invariant.0 (file_kind (node old c.args.at) c.args.bytes c.args.attrs k) c.requires.fits put)
