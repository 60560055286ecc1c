use Rattle.std.proofs.Common.{◌≡◌, map, take, string_bytes}
use Rattle.distcp.proofs.folders.texts.Given as goal

-- the texts so far are these words
abbrev pub invariant-loop-word : goal.invariant-loop-word
invariant-loop-word l = l.texts ≡ map string_bytes (take l.word-index l.words)
