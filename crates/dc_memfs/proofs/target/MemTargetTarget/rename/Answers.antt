use Rattle.std.proofs.Common.{sym, subst, Some}
use Rattle.dc_attrs.specs.Trees.{moved}
use Rattle.dc_tree.specs.Arena.{tree_of}
use Rattle.dc_fs.specs.Answers.{Changes}
use Rattle.dc_memfs.specs.States.{TargetState}
use Rattle.dc_memfs.proofs.ChangeLemmas.{tells_change}
use Rattle.dc_memfs.proofs.target.MemTargetTarget.rename.Goals as goal

pub returns-in-Err-Fault-clause-tree : goal.returns-in-Err-Fault-clause-tree
returns-in-Err-Fault-clause-tree c =
    subst (λ (s : TargetState). Changes (λ t. moved t c.args.from.now c.args.to.now) (Some (tree_of c.args.self.now.tree)) (Some (tree_of s.tree)) c.moves-moved.result)
    (sym c.self.view_is) (tells_change _ _ _ _ _ _ c.moves-moved.ensures.change)
