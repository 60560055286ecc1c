-- Files that are joined of what workers hand in.
use Rattle.std.specs.Prelude.{◌≡◌, ℕ, ◌+◌, ◌-◌, ◌<◌, Bool, true, List, length, map, Option, Some}
use Rattle.std.specs.List.{All, filter, list_all, sum_by}
use Rattle.std.specs.Option.{option_map}
use Rattle.dc_attrs.specs.Trees.{Tree, bytes_of}
use Rattle.dc_listing.specs.Entries.{fits_entry}
use Rattle.dc_decide.specs.Plans.{Decision, Decisions, IsDecision}
use Rattle.dc_pieces.specs.Cutting.{plan_pieces}
use Rattle.dc_pieces.specs.declared.parts.Part.{Part}
use Rattle.dc_pieces.specs.declared.piece.Piece.{Piece}
use Rattle.dc_split.specs.Bundles.{once_below, times}
use Rattle.dc_crew.specs.Advances.{AreRight}
use Rattle.dc_crew.specs.Jobs.{job_of}
use Rattle.dc_crew.specs.States.{parts_of}
use Rattle.dc_commit.specs.Landing.{is_landing, is_ready, is_written, landing_of}
use Rattle.dc_commit.specs.declared.landing.Ready.{Ready}
use Rattle.dc_join.specs.Joining.{AreJoined, ready_item}
use Rattle.dc_join.specs.Leaving.{AreLeftOut}
use Rattle.dc_join.specs.Whole.{landing_places}
use Rattle.dc_result.specs.Commits.{AreLandings}
use Rattle.dc_result.specs.Effects.{first_byte}

-- what planned items always keep
pub record IsKept (d : Decision) : Type 0 where
  pub decision : IsDecision d
  pub entry : fits_entry d.item ≡ true

-- an item that is written stands in the source, with as many bytes as are listed
abbrev pub StandsIn : Tree → Decision → Type 0
StandsIn s d = is_written d.action ≡ true → option_map length (bytes_of (s d.item.from)) ≡ Some d.item.length

-- how many bytes of an item are copied
abbrev pub copied_bytes : Decision → ℕ
copied_bytes d = d.item.length - first_byte d.action

module _ {P : Type 0} where
  -- how many bytes the parts of a file have
  abbrev pub size_with : (P → ℕ) → Ready P → ℕ
  size_with size file = sum_by size file.parts

  -- the pieces of a plan, so cut, had one part each, which is right for it, or were given up; the items of these were left out of
  -- the plan that the files are joined by
  pub record AreHandedIn (content : P → Option (List ℕ)) (size : P → ℕ) (tree : Option Tree) (tells : Bool) (blocks : ℕ) (old new : Decisions) (parts : List (Part P)) (given_up : List ℕ) (files : List (Ready P)) : Type 0 where
    pub kept : All IsKept old.items
    pub right : AreRight (job_of tree tells old.items (plan_pieces blocks old)) content size parts
    pub once : (p : ℕ) → parts_of p parts + times p given_up ≡ once_below (length (plan_pieces blocks old)) p
    pub left : AreLeftOut (plan_pieces blocks old) given_up old.items new.items
    pub joined : AreJoined new (plan_pieces blocks old) parts files
    pub ready : list_all (is_ready new) files ≡ true

-- each piece of a plan is of one of its items
abbrev pub PiecesHaveItems : Type 0
PiecesHaveItems = (blocks : ℕ) (plan : Decisions) → All (λ (p : Piece). p.item < length plan.items) (plan_pieces blocks plan)

-- the files are the items that land, each once, in the order of the plan
abbrev pub JoinedFilesAreLanding : Type 0 → Type 0
JoinedFilesAreLanding P = (content : P → Option (List ℕ)) (size : P → ℕ) (tree : Option Tree) (tells : Bool) (blocks : ℕ) (old new : Decisions) (parts : List (Part P)) (given_up : List ℕ) (files : List (Ready P))
    → AreHandedIn content size tree tells blocks old new parts given_up files → map ready_item files ≡ landing_places new

-- whatever is told, the parts of each have as many bytes as are copied of the item
abbrev pub JoinedFilesAreSized : Type 0 → Type 0
JoinedFilesAreSized P = (content : P → Option (List ℕ)) (size : P → ℕ) (tree : Option Tree) (tells : Bool) (blocks : ℕ) (old new : Decisions) (parts : List (Part P)) (given_up : List ℕ) (files : List (Ready P))
    → AreHandedIn content size tree tells blocks old new parts given_up files → map (size_with size) files ≡ map copied_bytes (filter is_landing new.items)

-- where the bytes are told, each lands with those of the source from the first on that is copied
abbrev pub JoinedFilesLand : Type 0 → Type 0
JoinedFilesLand P = (content : P → Option (List ℕ)) (size : P → ℕ) (s : Tree) (blocks : ℕ) (old new : Decisions) (parts : List (Part P)) (given_up : List ℕ) (files : List (Ready P))
    → AreHandedIn content size (Some s) true blocks old new parts given_up files → All (StandsIn s) old.items → AreLandings s new (map (landing_of content size new) files)
