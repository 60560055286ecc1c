use Rattle.std.proofs.Common.{◌≡◌, take}
use Rattle.dc_tree.proofs.homes.copy_homes.Given as goal

abbrev pub invariant-loop-home : goal.invariant-loop-home
invariant-loop-home l = l.copy.items ≡ take l.home-index l.homes
