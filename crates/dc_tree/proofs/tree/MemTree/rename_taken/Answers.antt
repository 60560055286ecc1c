use Rattle.std.proofs.Common.{◌≡◌, ap, subst, List, Some, None}
use Rattle.dc_attrs.specs.declared.refusals.TreeError.TheVariants as tree_error
use Rattle.dc_attrs.specs.Refusals.{refused_in, refused_onto}
use Rattle.dc_tree.specs.Arena.{Cell, tree_of}
use Rattle.dc_tree.proofs.Refusing.{refused_yes, refused_no, apart_from}
use Rattle.dc_tree.proofs.tree.MemTree.rename_taken.Goals as goal

pub returns-then-into-clause-answers : goal.returns-then-into-clause-answers
returns-then-into-clause-answers c = λ _.
    subst (λ (cells : List Cell). refused_onto (tree_of cells) c.args.from.now c.args.to.now ≡ Some tree_error.IntoItself) c.self.view_is
    (refused_yes (tree_of c.self.inside.arena) c.args.from.now c.args.to.now _ c.in-Vacant.ensures.absent c.starts_with-into.ensures c.if-into.true)

pub rehang-requires-clause-apart : goal.rehang-requires-clause-apart
rehang-requires-clause-apart c = apart_from c.args.from.now c.args.to.now _ c.starts_with-into.ensures c.if-into.false

pub returns-in_ok-rehang-in-Vacant-clause-answers : goal.returns-in_ok-rehang-in-Vacant-clause-answers
returns-in_ok-rehang-in-Vacant-clause-answers c =
    subst (λ (cells : List Cell). refused_onto (tree_of cells) c.args.from.now c.args.to.now ≡ None) c.self.view_is
    (refused_no (tree_of c.self.inside.arena) c.args.from.now c.args.to.now _ None c.in-Vacant.ensures.absent c.starts_with-into.ensures c.if-into.false (ap refused_in c.in-Vacant.ensures.under.front))

pub returns-then-into-2-clause-answers : goal.returns-then-into-2-clause-answers
returns-then-into-2-clause-answers c = λ _.
    subst (λ (cells : List Cell). refused_onto (tree_of cells) c.args.from.now c.args.to.now ≡ Some tree_error.IntoItself) c.self.view_is
    (refused_yes (tree_of c.self.inside.arena) c.args.from.now c.args.to.now _ c.in-Refused.ensures.absent.absent c.starts_with-into.ensures c.if-into-2.true)

pub returns-else-into-2-clause-answers : goal.returns-else-into-2-clause-answers
returns-else-into-2-clause-answers c = λ _.
    subst (λ (cells : List Cell). refused_onto (tree_of cells) c.args.from.now c.args.to.now ≡ Some c.in-Refused.error) c.self.view_is
    (refused_no (tree_of c.self.inside.arena) c.args.from.now c.args.to.now _ (Some c.in-Refused.error) c.in-Refused.ensures.absent.absent c.starts_with-into.ensures c.if-into-2.false c.in-Refused.ensures.front)
