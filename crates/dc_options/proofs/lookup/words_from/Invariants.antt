use Rattle.std.proofs.Common.{◌≡◌, drop}
use Rattle.dc_options.specs.Given.{words_from}
use Rattle.dc_options.proofs.lookup.words_from.Given as goal

-- the option is among the words that are left, or not given
abbrev pub invariant-loop-place : goal.invariant-loop-place
invariant-loop-place l = words_from l.flag 0 l.words ≡ words_from l.flag l.skip (drop l.place l.words)
