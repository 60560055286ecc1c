use Rattle.std.proofs.Common.{sym, subst, map, List}
use Rattle.std.proofs.lemmas.Result.{on_ok_weaker}
use Rattle.dc_tree.specs.Arena.{cell_of, Cell, node, IsFileNode}
use Rattle.dc_tree.proofs.Steps.{longer_arena}
use Rattle.dc_tree.proofs.Valid.{whole}
use Rattle.dc_tree.proofs.arena.Arena.append.Goals as goal

pub returns-clause-whole : goal.returns-clause-whole
returns-clause-whole c =
    let old : List Cell = map cell_of c.self.inside.slots.items in
    let new : List Cell = map cell_of c.append_at.new.slots.items in
    let k = subst (λ (cells : List Cell). IsFileNode (node cells c.args.at)) (sym c.self.view_is) c.requires in
    on_ok_weaker c.append_at.result (λ n. whole new (longer_arena old new c.args.at c.args.bytes.now c.self.invariant.0 k n)) c.append_at.ensures.ok
