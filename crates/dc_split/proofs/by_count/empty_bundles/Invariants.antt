-- What is known of the loop that makes the bundles.
use Rattle.std.proofs.Common.{◌≡◌, [], map}
use Rattle.dc_split.specs.Bundles.{numbers}
use Rattle.dc_split.proofs.by_count.empty_bundles.Given as goal

-- the bundles so far
abbrev pub invariant-loop-place : goal.invariant-loop-place
invariant-loop-place l = l.bundles.items ≡ map (λ _. []) (numbers l._place)
