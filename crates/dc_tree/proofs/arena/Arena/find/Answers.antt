use Rattle.std.proofs.Common.{◌∙◌, sym, ap, subst}
use Rattle.dc_tree.specs.Arena.{seen_way, node_way, IsArena}
use Rattle.dc_tree.proofs.Ways.{seen_by_way, node_by_way, way_reach, whole_way}
use Rattle.dc_tree.proofs.Valid.{is_tree, is_fitting_tree}
use Rattle.dc_tree.proofs.arena.Arena.find.Goals as goal

pub returns-clause-way : goal.returns-clause-way
returns-clause-way c =
    let cells = c.args.self.now in
    let p = c.args.path.now in
    let forest = subst IsArena c.self.view_is c.self.invariant.0 in
    let e = whole_way c.deref.result.now c.self.inside.slots.items cells p c.len.result c.walk.result c.walk.ensures c.deref.ensures.value c.len.ensures.count c.self.view_is in
    record {
      forest = forest;
      seen = seen_by_way cells p ∙ ap (seen_way cells) (sym e);
      node = node_by_way cells p forest ∙ ap (node_way cells) (sym e);
      at = λ k h. way_reach cells 0 p k (sym e ∙ h);
    }

pub returns-clause-sound : goal.returns-clause-sound
returns-clause-sound c =
    let forest = subst IsArena c.self.view_is c.self.invariant.0 in
    record { tree = is_tree c.args.self.now forest; fits = is_fitting_tree c.args.self.now forest }
