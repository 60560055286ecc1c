-- Items that the copy goes on without, since a piece of them was given up (Hadoop DistCp Guide, "-i").
use Rattle.std.specs.Prelude.{◌≡◌, ℕ, Bool, false, cond, nat_eq, ◌||◌, List, [], ◌∷◌, slice_get}
use Rattle.std.specs.Option.{option_map, option_map_or}
use Rattle.dc_decide.specs.Plans.{Decision, left_out}
use Rattle.dc_pieces.specs.declared.piece.Piece.{Piece}

-- the piece with this number is one of the item at this place
abbrev pub is_piece_of : List Piece → ℕ → ℕ → Bool
is_piece_of pieces item number = option_map_or (λ p. nat_eq p.item item) (slice_get pieces number) false

-- a piece of the item is among these
abbrev pub lacks_piece : List Piece → ℕ → List ℕ → Bool
lacks_piece pieces item [] = false
lacks_piece pieces item (number ∷ numbers) = is_piece_of pieces item number || lacks_piece pieces item numbers

-- the decision, left out where that is said
abbrev pub left_out_if : Bool → Decision → Decision
left_out_if lacks d = cond lacks (left_out d) d

-- the copy goes on without exactly those items, besides the ones that it went on without before
abbrev pub AreLeftOut : List Piece → List ℕ → List Decision → List Decision → Type 0
AreLeftOut pieces numbers old new = (n : ℕ) → slice_get new n ≡ option_map (left_out_if (lacks_piece pieces n numbers)) (slice_get old n)
