use Rattle.std.proofs.Common.{◌∙◌, ap, List}
use Rattle.dc_attrs.specs.Trees.{updated, appended}
use Rattle.dc_tree.specs.Arena.{Cell, node, tree_of}
use Rattle.dc_tree.proofs.Steps.{longer_tree, seen_file}
use Rattle.dc_tree.proofs.tree.MemTree.extend.Goals as goal

pub returns-in_ok-append-in-File-clause-ok : goal.returns-in_ok-append-in-File-clause-ok
returns-in_ok-append-in-File-clause-ok c =
    longer_tree c.self.inside.arena c.append.new.self c.in_ok-at.at c.args.bytes.now c.args.path.now c.in_ok-at.ensures.slot (seen_file (node c.self.inside.arena c.in_ok-at.at) c.in-File.length c.in-File.ensures) c.in_ok-append-in-File.ensures.ok
    ∙ ap (λ (cells : List Cell). updated (tree_of cells) c.args.path.now (appended c.args.bytes.now)) c.self.view_is
