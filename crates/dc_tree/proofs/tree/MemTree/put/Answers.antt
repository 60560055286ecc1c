use Rattle.std.proofs.Common.{◌∙◌, ap, List}
use Rattle.dc_attrs.specs.Trees.{File, with_node}
use Rattle.dc_tree.specs.Arena.{Cell, tree_of}
use Rattle.dc_tree.proofs.Steps.{renoded_tree}
use Rattle.dc_tree.proofs.tree.MemTree.put.Goals as goal

pub returns-in-File-clause-ok : goal.returns-in-File-clause-ok
returns-in-File-clause-ok c =
    renoded_tree c.self.inside.arena c.replace.new.self c.in-Taken.child (File c.args.bytes c.args.attrs) c.args.path.now c.in-Taken.ensures.stands c.replace.ensures.node
    ∙ ap (λ (cells : List Cell). with_node (tree_of cells) c.args.path.now (File c.args.bytes c.args.attrs)) c.self.view_is
