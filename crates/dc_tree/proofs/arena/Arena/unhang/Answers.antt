use Rattle.std.proofs.Common.{◌∙◌, sym, ap, subst, ℕ, map, None, Option, List}
use Rattle.dc_attrs.specs.Trees.{Node}
use Rattle.dc_tree.specs.Arena.{cell_of, Cell, node, link}
use Rattle.dc_tree.specs.Edits.{Links}
use Rattle.dc_tree.proofs.Cells.{within_some}
use Rattle.dc_tree.proofs.Steps.{unhung_arena, unhung_tree}
use Rattle.dc_tree.proofs.Graph.{Link, was_link}
use Rattle.dc_tree.proofs.Homing.{homes_fewer}
use Rattle.dc_tree.proofs.Valid.{whole}
use Rattle.dc_tree.proofs.arena.Arena.unhang.Goals as goal

pub dismiss-requires : goal.dismiss-requires
dismiss-requires c =
    let t = c.requires.stands.there in
    within_some c.cut_link.new.slots.items c.args.child t.0 (ap (λ (n : ℕ → Option Node). n c.args.child) c.cut_link.ensures.nodes ∙ ap (λ (cells : List Cell). node cells c.args.child) c.self.view_is ∙ t.1)

pub invariant_of-self : goal.invariant_of-self
invariant_of-self c =
    let one : List Cell = map cell_of c.cut_link.new.slots.items in
    let two : List Cell = map cell_of c.dismiss.new.slots.items in
    let l = subst (λ (cells : List Cell). Links cells c.args.parent c.in-Some.name.now None one) c.self.view_is c.cut_link.ensures in
    let last : List Cell = map cell_of c.drain.new.slots.items in (
      c.drain.ensures.arena (unhung_arena c.args.self.now one two c.args.path.now c.args.parent c.args.child c.in-Some.name.now c.requires c.in-Some.ensures l c.dismiss.ensures.nodes),
      homes_fewer (link (map cell_of c.self.inside.slots.items)) (link last) c.self.inside.homes.items (λ k x d e. was_link (link (map cell_of c.self.inside.slots.items)) (link one) c.args.parent c.in-Some.name.now c.cut_link.ensures.set k x d (sym (ap (λ (g : Link). g k x) c.dismiss.ensures.nodes.links) ∙ c.drain.ensures.fewer k x d e)) c.self.invariant.1,
    )

pub returns-clause-tree : goal.returns-clause-tree
returns-clause-tree c =
    let one : List Cell = map cell_of c.cut_link.new.slots.items in
    let two : List Cell = map cell_of c.dismiss.new.slots.items in
    let l = subst (λ (cells : List Cell). Links cells c.args.parent c.in-Some.name.now None one) c.self.view_is c.cut_link.ensures in
    c.drain.ensures.tree (unhung_arena c.args.self.now one two c.args.path.now c.args.parent c.args.child c.in-Some.name.now c.requires c.in-Some.ensures l c.dismiss.ensures.nodes) ∙ unhung_tree c.args.self.now one two c.args.path.now c.args.parent c.args.child c.in-Some.name.now c.requires c.in-Some.ensures l c.dismiss.ensures.nodes

pub returns-in_default-clause-whole : goal.returns-in_default-clause-whole
returns-in_default-clause-whole c = whole c.args.self.now c.requires.stands.forest

pub returns-clause-whole : goal.returns-clause-whole
returns-clause-whole c =
    let one : List Cell = map cell_of c.cut_link.new.slots.items in
    let two : List Cell = map cell_of c.dismiss.new.slots.items in
    let last : List Cell = map cell_of c.drain.new.slots.items in
    let l = subst (λ (cells : List Cell). Links cells c.args.parent c.in-Some.name.now None one) c.self.view_is c.cut_link.ensures in
    whole last (c.drain.ensures.arena (unhung_arena c.args.self.now one two c.args.path.now c.args.parent c.args.child c.in-Some.name.now c.requires c.in-Some.ensures l c.dismiss.ensures.nodes))
