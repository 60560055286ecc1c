-- What is known of the loop over the items.
use Rattle.std.proofs.Common.{◌≡◌, take}
use Rattle.dc_pieces.specs.Cutting.{pieces_from}
use Rattle.dc_pieces.proofs.PlanLemmas.{AreBefore}
use Rattle.dc_pieces.proofs.cutting.pieces.Given as goal

-- the pieces of the items so far are made
abbrev pub invariant-loop-number : goal.invariant-loop-number
invariant-loop-number l = record {
  made : l.pieces.items ≡ pieces_from l.blocks 0 (take l.number l.items);
  before : AreBefore l.number l.pieces.items;
}
