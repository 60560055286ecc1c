-- What the definitions say together.
use Rattle.std.specs.Prelude.{◌≡◌, ℕ, ◌+◌, ◌<◌, ◌≤◌, true, false, List, [], ◌∷◌, length, map, sum_by, slice_index, All}
use Rattle.dc_listing.specs.Entries.{fits_entry}
use Rattle.dc_decide.specs.Plans.{Decision, IsDecision}
use Rattle.dc_decide.specs.declared.action.Action.TheVariants as action
use Rattle.dc_pieces.specs.Cutting.{is_cut, chunk_size, pieces_of}
use Rattle.dc_pieces.specs.declared.piece.Piece.{Piece}

-- the bytes of a piece
abbrev pub bytes_of : Piece → ℕ
bytes_of p = p.length

-- the first piece begins here, each begins where the one before ends, and the last ends there
abbrev pub Cover : (from to : ℕ) → List Piece → Type 0
Cover from to [] = from ≡ to
Cover from to (p ∷ ps) = (p.from ≡ from) × Cover (from + p.length) to ps

-- an item that the copy goes on with
pub record IsCopied (d : Decision) : Type 0 where
  pub decision : IsDecision d
  pub entry : fits_entry d.item ≡ true
  pub on : d.out ≡ false

-- the pieces of a file that is replaced are ranges in a row, and together the whole file
abbrev pub ReplacedIsCovered : Type 0
ReplacedIsCovered = (blocks item : ℕ) (d : Decision) → IsCopied d → d.action ≡ action.Replace → Cover 0 d.item.length (pieces_of blocks item d)

-- the pieces of a file that is extended are together what follows from there
abbrev pub ExtendedIsCovered : Type 0
ExtendedIsCovered = (blocks item from : ℕ) (d : Decision) → IsCopied d → d.action ≡ action.Extend from → Cover from d.item.length (pieces_of blocks item d)

-- ranges in a row have as many bytes together as lie between their begin and their end
abbrev pub CoverIsTotal : Type 0
CoverIsTotal = (from to : ℕ) (ps : List Piece) → Cover from to ps → from + sum_by bytes_of ps ≡ to

-- where a file is cut, each piece but the last has so many blocks
abbrev pub ChunksAreFull : Type 0
ChunksAreFull = (blocks item place : ℕ) (d : Decision) → IsCopied d → d.action ≡ action.Replace →
    is_cut blocks d.item.attrs.block_size d.item.length ≡ true → place + 1 < length (pieces_of blocks item d) →
    slice_index (map bytes_of (pieces_of blocks item d)) place ≡ chunk_size blocks d.item.attrs.block_size

-- and none is empty, nor has more
abbrev pub ChunksHaveBytes : Type 0
ChunksHaveBytes = (blocks item : ℕ) (d : Decision) → IsCopied d → d.action ≡ action.Replace →
    is_cut blocks d.item.attrs.block_size d.item.length ≡ true →
    All (λ p. (0 < bytes_of p) × (bytes_of p ≤ chunk_size blocks d.item.attrs.block_size)) (pieces_of blocks item d)

-- where a file is not cut, it is one piece
abbrev pub UncutIsOne : Type 0
UncutIsOne = (blocks item : ℕ) (d : Decision) → IsCopied d → d.action ≡ action.Replace →
    is_cut blocks d.item.attrs.block_size d.item.length ≡ false → length (pieces_of blocks item d) ≡ 1
