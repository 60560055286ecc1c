use Rattle.std.proofs.Common.{subst, List}
use Rattle.dc_tree.specs.Arena.{Cell, tree_of}
use Rattle.dc_tree.specs.Children.{AreChildren}
use Rattle.dc_tree.proofs.Listing.{are_children}
use Rattle.dc_tree.proofs.tree.MemTree.children.Goals as goal

pub returns-in_ok-names_in-in-Dir-clause-ok : goal.returns-in_ok-names_in-in-Dir-clause-ok
returns-in_ok-names_in-in-Dir-clause-ok c =
    let s = c.in_ok-at.ensures.slot in
    let names = c.in_ok-names_in-in-Dir.field-0 in
    subst (λ (cells : List Cell). AreChildren (tree_of cells) c.args.path.now names) c.self.view_is (are_children c.self.inside.arena c.args.path.now c.in_ok-at.at names s.forest s.at c.in_ok-names_in-in-Dir.ensures)
