-- Joined files, item by item, where each piece of what lands has one part.
use Rattle.std.specs.Prelude.{◌≡◌, ◌==◌, ℕ, ◌+◌, ◌≤◌, Bool, true, cond, List, [], ◌∷◌, length, map, count_by}
use Rattle.std.specs.List.{filter}
use Rattle.dc_decide.specs.Plans.{Decision, Decisions}
use Rattle.dc_commit.specs.Landing.{is_landing}
use Rattle.dc_commit.specs.declared.landing.Ready.{Ready}
use Rattle.dc_pieces.specs.Parts.{number_of, numbers_of, part_of}
use Rattle.dc_pieces.specs.declared.piece.Piece.{Piece}
use Rattle.dc_pieces.specs.declared.parts.Part.{Part}
use Rattle.dc_join.specs.Joining.{lands_at}
use Rattle.dc_join.specs.Leaving.{is_piece_of}

-- the places of the items that land, where they are numbered from here on
abbrev pub landing_from : ℕ → List Decision → List ℕ
landing_from n [] = []
landing_from n (d ∷ ds) = cond (is_landing d) (n ∷ landing_from (n + 1) ds) (landing_from (n + 1) ds)

-- the places of the items that land
abbrev pub landing_places : Decisions → List ℕ
landing_places plan = landing_from 0 plan.items

-- each item that lands has a piece
abbrev pub HavePieces : Decisions → List Piece → Type 0
HavePieces plan pieces = (item : ℕ) → lands_at plan item ≡ true → 1 ≤ length (numbers_of pieces item)

module _ {P : Type 0} where
  -- the part is one of this item
  abbrev pub is_own : List Piece → ℕ → Part P → Bool
  is_own pieces item x = is_piece_of pieces item x.piece

  -- each piece of an item that lands has one part
  abbrev pub HavePartsOnce : Decisions → List Piece → List (Part P) → Type 0
  HavePartsOnce plan pieces parts = (item number : ℕ) → lands_at plan item ≡ true → is_piece_of pieces item number ≡ true → count_by (λ x. x.piece == number) parts ≡ 1

  -- of parts in order, the file has those of its item: one of each piece, in the order of the pieces
  pub record HasOwnParts (pieces : List Piece) (sorted : List (Part P)) (file : Ready P) : Type 0 where
    pub parts : file.parts ≡ map part_of (filter (is_own pieces file.item) sorted)
    pub numbers : map number_of (filter (is_own pieces file.item) sorted) ≡ numbers_of pieces file.item
