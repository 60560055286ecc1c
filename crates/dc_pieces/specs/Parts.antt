-- The parts of a file, of which each is what one piece of it became.
use Rattle.std.specs.Prelude.{◌≡◌, ℕ, ◌+◌, cond, nat_eq, List, [], ◌∷◌, map, IsPermutation}
use Rattle.dc_pieces.specs.declared.piece.Piece.{Piece}
use Rattle.dc_pieces.specs.declared.parts.Part.{Part}
use Rattle.dc_pieces.specs.declared.parts.PartsError.{PartsError}
use Rattle.dc_pieces.specs.declared.parts.PartsError.TheVariants.{Lacking, Memory}

-- the numbers of an item's pieces, where the pieces are numbered from here on
abbrev pub numbers_from : (item number : ℕ) → List Piece → List ℕ
numbers_from item number [] = []
numbers_from item number (p ∷ ps) = cond (nat_eq p.item item) (number ∷ numbers_from item (number + 1) ps) (numbers_from item (number + 1) ps)

-- the numbers of an item's pieces: their places in the list, counted from 0
abbrev pub numbers_of : List Piece → ℕ → List ℕ
numbers_of pieces item = numbers_from item 0 pieces

module _ {P : Type 0} where
  -- the number of the piece that became it
  abbrev pub number_of : Part P → ℕ
  number_of part = part.piece

  -- what the piece became
  abbrev pub part_of : Part P → P
  part_of part = part.part

  -- each piece of the item stands in the parts once, and no other piece does
  abbrev pub StandOnce : List Piece → ℕ → List (Part P) → Type 0
  StandOnce pieces item parts = IsPermutation (map number_of parts) (numbers_of pieces item)

  -- what the pieces of the item became, in the order of their numbers
  pub record IsWhole (pieces : List Piece) (item : ℕ) (parts : List (Part P)) (whole : List P) : Type 0 where
    pub sorted : List (Part P)
    pub same : IsPermutation parts sorted
    pub numbers : map number_of sorted ≡ numbers_of pieces item
    pub parts_in_order : whole ≡ map part_of sorted

  -- the error says that pieces are lacking, or others stand there
  abbrev pub IsLacking : PartsError P → Type 0
  IsLacking (Lacking parts) = Unit {0}
  IsLacking (Memory parts) = ⊥

  -- the parts that are handed back
  abbrev pub parts_back : PartsError P → List (Part P)
  parts_back (Lacking parts) = parts
  parts_back (Memory parts) = parts
