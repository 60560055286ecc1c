-- What is known of the loop over the parts.
use Rattle.std.proofs.Common.{◌≡◌, ◌≤◌, length, map, vec_len, vec_capacity}
use Rattle.dc_pieces.specs.Parts.{part_of}
use Rattle.dc_pieces.proofs.parts.unpacked.Given as goal

-- what the parts so far carried is put in, and there is room for all
abbrev pub invariant-loop-part : goal.invariant-loop-part
invariant-loop-part g l = record {
  made : l.whole.items ≡ map part_of l.yielded;
  long : vec_len l.whole ≡ length l.yielded;
  room : length l.fn.parts.items ≤ vec_capacity l.whole;
}
