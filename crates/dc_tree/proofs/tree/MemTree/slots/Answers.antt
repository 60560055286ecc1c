use Rattle.std.proofs.Common.{subst}
use Rattle.dc_tree.specs.Arena.{IsArena}
use Rattle.dc_tree.proofs.Valid.{is_tree, is_fitting_tree}
use Rattle.dc_tree.proofs.tree.MemTree.slots.Goals as goal

pub returns-clause-tree : goal.returns-clause-tree
returns-clause-tree c = is_tree c.args.self.now (subst IsArena c.self.view_is c.self.invariant.0)

pub returns-clause-fits : goal.returns-clause-fits
returns-clause-fits c = is_fitting_tree c.args.self.now (subst IsArena c.self.view_is c.self.invariant.0)
