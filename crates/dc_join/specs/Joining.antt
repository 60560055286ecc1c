-- The parts of files, joined in the order of their ranges (Hadoop DistCp, `CopyCommitter.concatFileChunks`).
use Rattle.std.specs.Prelude.{◌≡◌, ℕ, ◌+◌, Bool, true, false, cond, ◌&&◌, nat_le, List, [], ◌∷◌, map, Option, Some, None, slice_get, IsPermutation}
use Rattle.std.specs.List.{flat_map}
use Rattle.std.specs.List.Sorted.{IsNonDecreasingBy}
use Rattle.std.specs.Option.{option_and_then, option_map_or}
use Rattle.dc_decide.specs.Plans.{Decisions}
use Rattle.dc_commit.specs.Landing.{is_landing}
use Rattle.dc_commit.specs.declared.landing.Ready.{Ready}
use Rattle.dc_pieces.specs.Parts.{number_of}
use Rattle.dc_pieces.specs.declared.piece.Piece.{Piece}
use Rattle.dc_pieces.specs.declared.parts.Part.{Part}

-- the item at this place is a file that the copy goes on with and writes
abbrev pub lands_at : Decisions → ℕ → Bool
lands_at plan item = option_map_or is_landing (slice_get plan.items item) false

-- the item of a piece, where it lands
abbrev pub landing_item : Decisions → Piece → Option ℕ
landing_item plan p = cond (lands_at plan p.item) (Some p.item) None

-- the item of the piece with this number, where it lands
abbrev pub item_for : Decisions → List Piece → ℕ → Option ℕ
item_for plan pieces number = option_and_then (landing_item plan) (slice_get pieces number)

-- each number is greater than the one before, and the first is at least this
abbrev pub rises_from : ℕ → List ℕ → Bool
rises_from least [] = true
rises_from least (n ∷ ns) = nat_le least n && rises_from (n + 1) ns

-- what a piece of an item became
pub record Bit (P : Type 0) : Type 0 where
  pub item : ℕ
  pub part : P

module _ {P : Type 0} where
  abbrev pub bit_of : ℕ → P → Bit P
  bit_of item part = record { item = item; part = part }

  -- the bits of a file that is ready
  abbrev pub bits_of : Ready P → List (Bit P)
  bits_of file = map (bit_of file.item) file.parts

  -- a part is a bit of its item, where that lands, and else nothing
  abbrev pub bit_for : Decisions → List Piece → Part P → List (Bit P)
  bit_for plan pieces x = option_map_or (λ item. bit_of item x.part ∷ []) (item_for plan pieces x.piece) []

  -- the item of a file that is ready
  abbrev pub ready_item : Ready P → ℕ
  ready_item file = file.item

  -- the parts of files one after the other are those that were given and whose items land, in the order of their pieces, and the
  -- items rise: so each file has all its parts, in the order of their ranges
  pub record AreJoined (plan : Decisions) (pieces : List Piece) (parts : List (Part P)) (files : List (Ready P)) : Type 0 where
    pub sorted : List (Part P)
    pub same : IsPermutation parts sorted
    pub ordered : IsNonDecreasingBy number_of sorted
    pub joined : flat_map bits_of files ≡ flat_map (bit_for plan pieces) sorted
    pub apart : rises_from 0 (map ready_item files) ≡ true
