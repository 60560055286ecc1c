use Rattle.std.proofs.Common.{◌∙◌, ap, List}
use Rattle.dc_attrs.specs.Trees.{updated, with_attrs}
use Rattle.dc_tree.specs.Arena.{Cell, tree_of}
use Rattle.dc_tree.proofs.Steps.{dressed_tree}
use Rattle.dc_tree.proofs.tree.MemTree.set_attrs.Goals as goal

pub returns-clause-ok : goal.returns-clause-ok
returns-clause-ok c =
    dressed_tree c.self.inside.arena c.dress.new.self c.in_ok-at.at c.args.attrs c.args.path.now c.in_ok-at.ensures.slot c.dress.ensures.node
    ∙ ap (λ (cells : List Cell). updated (tree_of cells) c.args.path.now (with_attrs c.args.attrs)) c.self.view_is
