-- Which pieces a plan has (Hadoop DistCp Guide, "-blocksperchunk"; how they are numbered is own).
use Rattle.std.specs.Prelude.{ℕ, ◌+◌, ◌-◌, ◌*◌, Bool, cond, nat_le, nat_lt, ◌&&◌, min, List, [], ◌∷◌, ◌++◌, map}
use Rattle.std.specs.Int.{div_ceil}
use Rattle.std.specs.List.{range_with_len}
use Rattle.dc_listing.specs.Entries.{Entry}
use Rattle.dc_decide.specs.Plans.{Decision, Decisions}
use Rattle.dc_decide.specs.declared.action.Action.{Action}
use Rattle.dc_decide.specs.declared.action.Action.TheVariants as action
use Rattle.dc_pieces.specs.declared.piece.Piece.{Piece}

-- a file is cut where it has more blocks than a piece may have; 0 cuts nothing
abbrev pub is_cut : (blocks block_size long : ℕ) → Bool
is_cut blocks block_size long = nat_le 1 blocks && nat_lt blocks (div_ceil long block_size)

-- the bytes of each piece but the last of a file that is cut
abbrev pub chunk_size : (blocks block_size : ℕ) → ℕ
chunk_size blocks block_size = blocks * block_size

-- the piece at a place among the pieces of this size of a file, counted from 0; the last has what is left
abbrev pub chunk_at : (item size long place : ℕ) → Piece
chunk_at item size long place = record { item = item; from = place * size; length = min size (long - place * size) }

-- all pieces of this size of a file
abbrev pub chunks : (item size long : ℕ) → List Piece
chunks item size long = map (chunk_at item size long) (range_with_len 0 (div_ceil long size))

-- the bytes of an item from a place up to its end, as one piece
abbrev pub piece_to_end : (item from long : ℕ) → Piece
piece_to_end item from long = record { item = item; from = from; length = long - from }

-- the pieces of a file of which all bytes are copied
abbrev pub file_pieces : (blocks item block_size long : ℕ) → List Piece
file_pieces blocks item block_size long =
    cond (is_cut blocks block_size long) (chunks item (chunk_size blocks block_size) long) (piece_to_end item 0 long ∷ [])

-- the pieces of an item with an action
abbrev pub pieces_by : (blocks item : ℕ) → Entry → Action → List Piece
pieces_by blocks item entry action.Folder = []
pieces_by blocks item entry action.Skip = []
pieces_by blocks item entry action.Replace = file_pieces blocks item entry.attrs.block_size entry.length
pieces_by blocks item entry (action.Extend from) = piece_to_end item from entry.length ∷ []

-- the pieces of an item, which has none where the copy goes on without it
abbrev pub pieces_of : (blocks item : ℕ) → Decision → List Piece
pieces_of blocks item d = cond d.out [] (pieces_by blocks item d.item d.action)

-- the pieces of items that are numbered from here on, item after item
abbrev pub pieces_from : (blocks item : ℕ) → List Decision → List Piece
pieces_from blocks item [] = []
pieces_from blocks item (d ∷ ds) = pieces_of blocks item d ++ pieces_from blocks (item + 1) ds

-- the pieces of a plan
abbrev pub plan_pieces : (blocks : ℕ) → Decisions → List Piece
plan_pieces blocks plan = pieces_from blocks 0 plan.items
