use Rattle.std.proofs.Common.{◌≡◌}
use Rattle.dc_tree.specs.Arena.{tree_of}
use Rattle.dc_cli.specs.DrillSteps.{with_files}
use Rattle.dc_cli.proofs.drills.add_files.Given as goal

-- the files so far are put
abbrev pub invariant-loop-number : goal.invariant-loop-number
invariant-loop-number l = tree_of l.tree ≡ with_files l.seed l.number (tree_of l.fn.tree)
