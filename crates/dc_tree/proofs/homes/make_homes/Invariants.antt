use Rattle.std.proofs.Common.{◌≡◌, ◌≤◌, length}
use Rattle.dc_tree.specs.Homes.{home_at}
use Rattle.dc_tree.proofs.homes.make_homes.Given as goal

abbrev pub invariant-loop : goal.invariant-loop
invariant-loop l = (home_at l.homes.items ≡ home_at l.fn.homes.items) × (l.counter ≤ length l.homes.items)
