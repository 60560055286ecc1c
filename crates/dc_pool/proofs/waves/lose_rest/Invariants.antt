use Rattle.std.proofs.Common.{◌≡◌, ◌++◌, ◌-◌, length, drop}
use Rattle.dc_split.specs.Bundles.{flatten}
use Rattle.dc_pool.specs.Waves.{with_lost}
use Rattle.dc_pool.proofs.waves.lose_rest.Given as goal

abbrev pub invariant-loop-at : goal.invariant-loop-at
invariant-loop-at g l = record {
  same : l.wave ≡ with_lost l.wave.lost l.initial.wave;
  lost : l.wave.lost ++ flatten (drop l.at l.bundles) ≡ l.initial.wave.lost ++ flatten (drop l.given l.bundles);
}

abbrev pub decreases-loop-at : goal.decreases-loop-at
decreases-loop-at g l = length l.bundles - l.at
