use Rattle.std.proofs.Common.{◌≡◌, map}
use Rattle.std.specs.List.{range_with_len}
use Rattle.dc_cli.specs.Drills.{file_byte}
use Rattle.dc_cli.proofs.drills.content.Given as goal

-- the bytes so far are made
abbrev pub invariant-loop-place : goal.invariant-loop-place
invariant-loop-place l = l.bytes.items ≡ map (file_byte l.seed l.number) (range_with_len 0 l.place)
