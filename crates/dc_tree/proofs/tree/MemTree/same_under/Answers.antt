use Rattle.std.proofs.Common.{sym, ◌∙◌, subst, List}
use Rattle.dc_tree.specs.Arena.{Cell, tree_of}
use Rattle.dc_tree.specs.Same.{SameUnder, DiffersUnder}
use Rattle.dc_tree.proofs.Under.{same_slots, slots_differ, no_slots, first_slot, second_slot}
use Rattle.dc_tree.proofs.tree.MemTree.same_under.Goals as goal

pub returns-in-Some-Some-clause-same : goal.returns-in-Some-Some-clause-same
returns-in-Some-Some-clause-same c = λ h.
    subst (λ (cells : List Cell). SameUnder c.args.keep.now (tree_of cells) c.args.path.now (tree_of c.args.other.now) c.args.place.now) c.self.view_is
    (subst (λ (cells : List Cell). SameUnder c.args.keep.now (tree_of c.self.inside.arena) c.args.path.now (tree_of cells) c.args.place.now) c.other.view_is
    (same_slots c.args.keep.now c.self.inside.arena c.other.inside.arena c.args.path.now c.args.place.now c.in-Some-Some.at c.in-Some-Some.there
    (sym c.slot_of.ensures.slot ∙ c.in-Some-Some.is-0) (sym c.slot_of-2.ensures.slot ∙ c.in-Some-Some.is-1) (c.same_from.ensures.yes h)))

pub returns-in-Some-Some-clause-differs : goal.returns-in-Some-Some-clause-differs
returns-in-Some-Some-clause-differs c = λ h.
    let here = sym c.slot_of.ensures.slot ∙ c.in-Some-Some.is-0 in
    subst (λ (cells : List Cell). DiffersUnder c.args.keep.now (tree_of cells) c.args.path.now (tree_of c.args.other.now) c.args.place.now) c.self.view_is
    (subst (λ (cells : List Cell). DiffersUnder c.args.keep.now (tree_of c.self.inside.arena) c.args.path.now (tree_of cells) c.args.place.now) c.other.view_is
    (slots_differ c.args.keep.now c.self.inside.arena c.other.inside.arena c.args.path.now c.args.place.now c.in-Some-Some.at c.in-Some-Some.there
    here (sym c.slot_of-2.ensures.slot ∙ c.in-Some-Some.is-1) (c.same_from.ensures.no h c.args.path.now here)))

pub returns-in-Some-None-clause-differs : goal.returns-in-Some-None-clause-differs
returns-in-Some-None-clause-differs c = λ _.
    subst (λ (cells : List Cell). DiffersUnder c.args.keep.now (tree_of cells) c.args.path.now (tree_of c.args.other.now) c.args.place.now) c.self.view_is
    (subst (λ (cells : List Cell). DiffersUnder c.args.keep.now (tree_of c.self.inside.arena) c.args.path.now (tree_of cells) c.args.place.now) c.other.view_is
    (first_slot c.args.keep.now c.self.inside.arena c.other.inside.arena c.args.path.now c.args.place.now c.in-Some-None.field-0-0 c.slot_of.ensures.arena
    (sym c.slot_of.ensures.slot ∙ c.in-Some-None.is-0) (sym c.slot_of-2.ensures.slot ∙ c.in-Some-None.is-1)))

pub returns-in-None-Some-clause-differs : goal.returns-in-None-Some-clause-differs
returns-in-None-Some-clause-differs c = λ _.
    subst (λ (cells : List Cell). DiffersUnder c.args.keep.now (tree_of cells) c.args.path.now (tree_of c.args.other.now) c.args.place.now) c.self.view_is
    (subst (λ (cells : List Cell). DiffersUnder c.args.keep.now (tree_of c.self.inside.arena) c.args.path.now (tree_of cells) c.args.place.now) c.other.view_is
    (second_slot c.args.keep.now c.self.inside.arena c.other.inside.arena c.args.path.now c.args.place.now c.in-None-Some.field-0-1 c.slot_of-2.ensures.arena
    (sym c.slot_of.ensures.slot ∙ c.in-None-Some.is-0) (sym c.slot_of-2.ensures.slot ∙ c.in-None-Some.is-1)))

pub returns-in-None-None-clause-same : goal.returns-in-None-None-clause-same
returns-in-None-None-clause-same c = λ _.
    subst (λ (cells : List Cell). SameUnder c.args.keep.now (tree_of cells) c.args.path.now (tree_of c.args.other.now) c.args.place.now) c.self.view_is
    (subst (λ (cells : List Cell). SameUnder c.args.keep.now (tree_of c.self.inside.arena) c.args.path.now (tree_of cells) c.args.place.now) c.other.view_is
    (no_slots c.args.keep.now c.self.inside.arena c.other.inside.arena c.args.path.now c.args.place.now
    (sym c.slot_of.ensures.slot ∙ c.in-None-None.is-0) (sym c.slot_of-2.ensures.slot ∙ c.in-None-None.is-1)))
