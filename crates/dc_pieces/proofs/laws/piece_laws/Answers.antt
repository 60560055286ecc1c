-- The laws are proved of the definitions.
use Rattle.dc_pieces.proofs.LawProofs.{replaced_covered, extended_covered, cover_total, chunks_full, chunks_bytes, uncut_one}
use Rattle.dc_pieces.proofs.laws.piece_laws.Goals as goal

pub returns : goal.returns
returns c = record {
  replaced = replaced_covered;
  extended = extended_covered;
  total = cover_total;
  full = chunks_full;
  bytes = chunks_bytes;
  uncut = uncut_one;
}
