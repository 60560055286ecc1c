use Rattle.std.proofs.Common.{◌≡◌, true, sym, refl, subst, map, List, IsSome}
use Rattle.dc_attrs.specs.Fitting.{fits_at}
use Rattle.dc_tree.specs.Arena.{cell_of, Cell, node, link}
use Rattle.dc_tree.proofs.Steps.{some_of, dressed_arena}
use Rattle.dc_tree.proofs.Homing.{homes_same}
use Rattle.dc_tree.proofs.Valid.{whole}
use Rattle.dc_tree.proofs.arena.Arena.dress.Goals as goal

pub invariant_of-self : goal.invariant_of-self
invariant_of-self c =
    let old : List Cell = map cell_of c.self.inside.slots.items in
    let new : List Cell = map cell_of c.set_attrs_at.new.slots.items in
    let v = some_of (node (map cell_of c.self.inside.slots.items) c.args.at) (subst (λ (cells : List Cell). IsSome (node cells c.args.at)) (sym c.self.view_is) c.requires.some) in (
      dressed_arena old new c.args.at c.args.attrs v.0 c.self.invariant.0 v.1 (subst (λ (cells : List Cell). fits_at (node cells c.args.at) c.args.attrs ≡ true) (sym c.self.view_is) c.requires.fits) c.set_attrs_at.ensures,
      homes_same (link old) (link new) c.self.inside.homes.items c.self.inside.homes.items c.set_attrs_at.ensures.links refl c.self.invariant.1,
    )

pub returns-clause-whole : goal.returns-clause-whole
returns-clause-whole c =
    let old : List Cell = map cell_of c.self.inside.slots.items in
    let new : List Cell = map cell_of c.set_attrs_at.new.slots.items in
    let v = some_of (node (map cell_of c.self.inside.slots.items) c.args.at) (subst (λ (cells : List Cell). IsSome (node cells c.args.at)) (sym c.self.view_is) c.requires.some) in
    whole new (dressed_arena old new c.args.at c.args.attrs v.0 c.self.invariant.0 v.1 (subst (λ (cells : List Cell). fits_at (node cells c.args.at) c.args.attrs ≡ true) (sym c.self.view_is) c.requires.fits) c.set_attrs_at.ensures)
