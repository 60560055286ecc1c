-- What is known of the loop over the chunks.
use Rattle.std.proofs.Common.{◌≡◌, ◌++◌, map}
use Rattle.std.specs.List.{range_with_len}
use Rattle.dc_pieces.specs.Cutting.{chunk_at}
use Rattle.dc_pieces.proofs.cutting.add_chunks.Given as goal

-- the chunks so far are added
abbrev pub invariant-loop-place : goal.invariant-loop-place
invariant-loop-place l = l.pieces.items ≡ l.fn.pieces.items ++ map (chunk_at l.item l.size l.length) (range_with_len 0 l.place)
