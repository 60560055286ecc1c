use Rattle.std.proofs.Common.{◌∙◌, refl, ap, subst, ℕ, map, Some, List}
use Rattle.dc_tree.specs.Arena.{cell_of, Cell, link}
use Rattle.dc_tree.specs.Edits.{Links}
use Rattle.dc_tree.proofs.Steps.{rehung_arena, rehung_homes, rehung_tree, taken_held}
use Rattle.dc_tree.specs.Homes.{AreHomes}
use Rattle.dc_tree.proofs.Homing.{homes_within, noted}
use Rattle.dc_tree.proofs.Valid.{whole}
use Rattle.dc_tree.proofs.arena.Arena.rehang.Goals as goal

pub set_home-requires : goal.set_home-requires
set_home-requires c =
    let cells : List Cell = map cell_of c.self.inside.slots.items in
    let held = taken_held c.args.self.now c.args.from.now c.args.held_by c.args.child c.in-Some.old_name.now c.requires.from c.in-Some.ensures in
    homes_within c.self.inside.homes.items c.args.child (record { parent = c.args.held_by; name = c.in-Some.old_name.now })
    (c.self.invariant.1 c.args.held_by c.in-Some.old_name.now c.args.child (ap (λ (cells : List Cell). link cells c.args.held_by c.in-Some.old_name.now) c.self.view_is ∙ held))

pub invariant_of-self-2 : goal.invariant_of-self-2
invariant_of-self-2 c =
    let one : List Cell = map cell_of c.add_link.new.slots.items in
    let two : List Cell = map cell_of c.cut_link.new.slots.items in
    let was = c.self.inside.homes.items in
    let now = c.set_home.new.homes.items in
    let l = subst (λ (cells : List Cell). Links cells c.args.parent c.in-Some-last.new_name.now (Some c.args.child) one) c.self.view_is (subst (λ (x : List ℕ). Links (map cell_of c.self.inside.slots.items) c.args.parent x (Some c.args.child) one) c.in_ok-name.ensures c.in_ok-add_link.ensures.ok) in
    let homes = subst (λ (cells : List Cell). AreHomes (link cells) was) c.self.view_is c.self.invariant.1 in
    let note = noted was was now c.args.parent c.in_ok-copy.field-0 c.in-Some-last.new_name.now c.args.child c.args.child (Some c.args.child) refl refl c.in_ok-copy.ensures refl c.set_home.ensures in (
      rehung_arena c.args.self.now one two c.args.from.now c.args.to.now c.args.held_by c.args.child c.args.parent c.in-Some.old_name.now c.in-Some-last.new_name.now c.requires.from c.requires.to c.in-Some.ensures c.in-Some-last.ensures c.requires.apart l c.cut_link.ensures,
      rehung_homes c.args.self.now one two c.args.from.now c.args.to.now c.args.held_by c.args.child c.args.parent c.in-Some.old_name.now c.in-Some-last.new_name.now c.requires.from c.requires.to c.in-Some.ensures c.in-Some-last.ensures c.requires.apart l c.cut_link.ensures was now homes note,
    )

pub returns-clause-ok : goal.returns-clause-ok
returns-clause-ok c =
    let one : List Cell = map cell_of c.add_link.new.slots.items in
    let two : List Cell = map cell_of c.cut_link.new.slots.items in
    let l = subst (λ (cells : List Cell). Links cells c.args.parent c.in-Some-last.new_name.now (Some c.args.child) one) c.self.view_is (subst (λ (x : List ℕ). Links (map cell_of c.self.inside.slots.items) c.args.parent x (Some c.args.child) one) c.in_ok-name.ensures c.in_ok-add_link.ensures.ok) in
    rehung_tree c.args.self.now one two c.args.from.now c.args.to.now c.args.held_by c.args.child c.args.parent c.in-Some.old_name.now c.in-Some-last.new_name.now c.requires.from c.requires.to c.in-Some.ensures c.in-Some-last.ensures c.requires.apart l c.cut_link.ensures

pub returns-clause-whole : goal.returns-clause-whole
returns-clause-whole c =
    let one : List Cell = map cell_of c.add_link.new.slots.items in
    let two : List Cell = map cell_of c.cut_link.new.slots.items in
    let l = subst (λ (cells : List Cell). Links cells c.args.parent c.in-Some-last.new_name.now (Some c.args.child) one) c.self.view_is (subst (λ (x : List ℕ). Links (map cell_of c.self.inside.slots.items) c.args.parent x (Some c.args.child) one) c.in_ok-name.ensures c.in_ok-add_link.ensures.ok) in
    whole two (rehung_arena c.args.self.now one two c.args.from.now c.args.to.now c.args.held_by c.args.child c.args.parent c.in-Some.old_name.now c.in-Some-last.new_name.now c.requires.from c.requires.to c.in-Some.ensures c.in-Some-last.ensures c.requires.apart l c.cut_link.ensures)
