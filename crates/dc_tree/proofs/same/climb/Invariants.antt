use Rattle.std.proofs.Common.{ℕ, ◌-◌, map}
use Rattle.dc_path.specs.Paths.{Names}
use Rattle.dc_tree.specs.Arena.{cell_of}
use Rattle.dc_tree.specs.Walking.{Stands}
use Rattle.dc_tree.proofs.Climbing.{Climbed}
use Rattle.dc_tree.proofs.same.climb.Given as goal

abbrev pub invariant-loop-up : goal.invariant-loop-up
invariant-loop-up l =
    (i j : ℕ) (r : Names) → Stands (map cell_of l.first) i (map cell_of l.second) j r l.at → Climbed (map cell_of l.first) (map cell_of l.second) i j r (record { here = l.here; there = l.there; depth = l.at.depth - l.up })
