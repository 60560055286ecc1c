-- What is known of the loop over the items.
use Rattle.std.proofs.Common.{◌≡◌, ◌≤◌, length, take}
use Rattle.dc_pieces.specs.Pieces.{most_pieces}
use Rattle.dc_pieces.specs.Cutting.{pieces_from}
use Rattle.dc_pieces.proofs.cutting.total.Given as goal

-- how many pieces the items so far have
abbrev pub invariant-loop-planned : goal.invariant-loop-planned
invariant-loop-planned l = record {
  total : l.total ≡ length (pieces_from l.blocks 0 (take l.planned-index l.items));
  few : l.total ≤ most_pieces;
}
