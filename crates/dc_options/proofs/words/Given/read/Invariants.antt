use Rattle.std.proofs.Common.{◌≡◌, drop}
use Rattle.dc_options.specs.Words.{heads}
use Rattle.dc_options.specs.Given.{given_by, given_after}
use Rattle.dc_options.proofs.words.Given.read.Given as goal

-- all words give what those that are left give behind what came so far
abbrev pub invariant-loop-place : goal.invariant-loop-place
invariant-loop-place l = given_by (heads 0 l.words) ≡ given_after l.given.flags l.given.paths (heads l.skip (drop l.place l.words))
