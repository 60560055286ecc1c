-- The pieces that a line is written of.
use Rattle.std.specs.Prelude.{ℕ, List, decimal}
use Rattle.hex.specs.Hex.{encode_lower}
use Rattle.dc_path.specs.Paths.{dotted_of, text_of}
use Rattle.dc_output.specs.declared.pieces.Piece.{Piece}
use Rattle.dc_output.specs.declared.pieces.Piece.TheVariants as piece

-- the text of a piece
abbrev pub piece_text : Piece → List ℕ
piece_text (piece.Text text) = text.now
piece_text (piece.Number n) = decimal n
piece_text (piece.Path path) = text_of path.now
piece_text (piece.Below path) = dotted_of path.now
piece_text (piece.Digest digest) = encode_lower digest.now
