-- What is known of the loop over the records after the first.
use Rattle.std.proofs.Common.{◌≡◌, ◌≤◌, ◌<◌, ◌*◌, ◌^◌, ◌++◌, ◌∷◌, [], length}
use Rattle.dc_split.specs.Bundles.{AreFilledUpTo, size_of}
use Rattle.dc_split.proofs.by_size.uniform.Given as goal

-- the records so far are in bundles, of which the last is still open
abbrev pub invariant-loop-number : goal.invariant-loop-number
invariant-loop-number l = record {
  filled : AreFilledUpTo l.lengths l.limit l.number (l.bundles ++ l.bundle ∷ []);
  some : 0 < length l.bundle;
  size : l.size ≡ size_of l.lengths l.bundle;
  small : l.size ≤ l.number * 2 ^ 64;
}
