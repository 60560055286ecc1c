-- The pieces of a copy.
use Rattle.std.specs.Prelude.{◌≡◌, ℕ, ◌+◌, ◌≤◌, ◌^◌, Bool, true, nat_lt, nat_eq, ◌&&◌, ◌||◌, List, [], ◌∷◌, length}
use Rattle.std.specs.List.{list_all}
use Rattle.dc_pieces.specs.declared.piece.Piece.{Piece}

-- the most pieces of a copy
abbrev pub most_pieces : ℕ
most_pieces = 8388608

-- the next piece is of a later item, or begins where this one ends
abbrev pub leads_to : Piece → Piece → Bool
leads_to p q = nat_lt p.item q.item || (nat_eq p.item q.item && nat_eq (p.from + p.length) q.from)

-- each piece leads to the next
abbrev pub are_in_order : List Piece → Bool
are_in_order [] = true
are_in_order (p ∷ []) = true
are_in_order (p ∷ q ∷ ps) = leads_to p q && are_in_order (q ∷ ps)

-- its end is a number of 64 bits
abbrev pub ends_within : Piece → Bool
ends_within p = nat_lt (p.from + p.length) (2 ^ 64)

-- what the pieces of a copy always keep: they are in the order of items and ranges, few, and end within 64 bits
pub record ArePieces (ps : List Piece) : Type 0 where
  pub ordered : are_in_order ps ≡ true
  pub few : length ps ≤ most_pieces
  pub within : list_all ends_within ps ≡ true
