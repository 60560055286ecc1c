-- How one item is cut, as the code works it out.
use Rattle.std.specs.Prelude.{ℕ, ◌<◌, ◌+◌, ◌^◌, List, [], ◌∷◌}
use Rattle.dc_pieces.specs.Cutting.{chunks}
use Rattle.dc_pieces.specs.declared.piece.Piece.{Piece}
use Rattle.dc_pieces.specs.declared.cutting.Cut.{Cut}
use Rattle.dc_pieces.specs.declared.cutting.Cut.TheVariants.{Nothing, One, Chunks}

-- the pieces of an item that is cut so
abbrev pub cut_pieces : ℕ → Cut → List Piece
cut_pieces item Nothing = []
cut_pieces item (One from length) = record { item = item; from = from; length = length } ∷ []
cut_pieces item (Chunks size length) = chunks item size length

-- what is copied ends within 64 bits, and chunks have bytes
abbrev pub FitsCut : Cut → Type 0
FitsCut Nothing = Unit {0}
FitsCut (One from length) = from + length < 2 ^ 64
FitsCut (Chunks size length) = (0 < size) × (length < 2 ^ 64)
