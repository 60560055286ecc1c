use Rattle.std.proofs.Common.{◌≡◌, map}
use Rattle.std.specs.List.{range_with_len}
use Rattle.dc_tree.specs.Arena.{tree_of}
use Rattle.dc_cli.specs.Drills.{dir_path}
use Rattle.dc_cli.specs.DrillSteps.{with_dirs}
use Rattle.dc_cli.proofs.drills.add_dirs.Given as goal

-- the directories so far are made
abbrev pub invariant-loop-number : goal.invariant-loop-number
invariant-loop-number l = record {
  paths : l.dirs ≡ map dir_path (range_with_len 0 l.number);
  tree : tree_of l.tree ≡ with_dirs l.number (tree_of l.fn.tree);
}
