-- What is known of the loop that deals the records out.
use Rattle.std.proofs.Common.{◌≡◌, map}
use Rattle.dc_split.specs.Bundles.{numbers, leaving}
use Rattle.dc_split.proofs.by_count.dynamic.Given as goal

-- the records so far stand at their places
abbrev pub invariant-loop-number : goal.invariant-loop-number
invariant-loop-number l = l.bundles.items ≡ map (leaving l.number l.places) (numbers l.places)
