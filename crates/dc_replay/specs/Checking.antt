-- What a report and a tree must meet so that the report can be replayed (HDFS-7535).
-- R is the report, P its plan, A the tree, st the name of the stage.
use Rattle.std.specs.Prelude.{ℕ, ◌≡◌, ◌⊎◌, List, [], ◌∷◌, ◌++◌, Bool, true, false, cond, not, ◌||◌, Option, Some, None, is_some}
use Rattle.std.specs.List.{filter, list_any}
use Rattle.dc_attrs.specs.Trees.{IsDirAt, Tree, IsThere}
use Rattle.dc_path.specs.Names.{same_name}
use Rattle.dc_path.specs.Paths.{Names, same_path}
use Rattle.dc_report.specs.Carrying.{Carry, Has, Place, Plan, carries_of, is_made, moved, place, plan}
use Rattle.dc_report.specs.Writing.{paths_of}
use Rattle.dc_replay.specs.Arrivals.{source}
use Rattle.dc_report.specs.declared.entries.Entry.{Entry}
use Rattle.dc_report.specs.declared.entries.Entry.TheVariants.{Created, Deleted, Modified, Renamed}
use Rattle.dc_report.specs.Landings.{is_at}

-- the path has a first name, which is not that of the stage
pub record IsOff (st : List ℕ) (p : Names) : Type 0 where
  pub first : List ℕ
  pub rest : Names
  pub path : p ≡ first ∷ rest
  pub other : same_name st first ≡ false

-- where the report leads a path; none where what stood there is deleted
abbrev pub where_to : List Entry → Names → Option Names
where_to R p = moved (carries_of R) p

-- a directory is moved to q
abbrev pub IsMovedDir : List Entry → Tree → Names → Type 0
IsMovedDir R A q = (p : Names) × IsDirAt A p × (where_to R p ≡ Some q)

-- nothing that stands is moved to q
abbrev pub NoneMovedTo : List Entry → Tree → Names → Type 0
NoneMovedTo R A q = (p : Names) → IsThere A p → where_to R p ≡ Some q → ⊥

-- q is a parent of a new path that is to be made
abbrev pub is_to_be_made : List Entry → Names → Bool
is_to_be_made R q = is_made (plan R) (plan R).news q

-- the tests that a tree must pass, in the words of the paths that the report leads from and to
pub record Passes (st : List ℕ) (R : List Entry) (A : Tree) : Type 0 where
  -- the stage is free
  pub stage : A (st ∷ []) ≡ None
  -- no path that is deleted, renamed or new is the root or in the stage
  pub deleted_off : (p : Names) → Has R (Deleted p) → IsOff st p
  pub renamed_off : (a b : Names) → Has R (Renamed a b) → IsOff st a × IsOff st b
  -- what the report deletes, changes or renames stands
  pub deleted : (p : Names) → Has R (Deleted p) → IsThere A p
  pub modified : (x : List ℕ) (p : Names) → Has R (Modified (x ∷ p)) → IsThere A (x ∷ p)
  pub renamed : (a b : Names) → Has R (Renamed a b) → IsThere A a
  -- what is created is created in a directory, which is not deleted
  pub created : (d : Names) (x : List ℕ) → Has R (Created (d ++ x ∷ [])) → IsDirAt A d × ((q : Names) × (where_to R d ≡ Some q))
  -- nothing else is moved to a new path
  pub own : (a b p : Names) → Has R (Renamed a b) → IsThere A p → where_to R p ≡ Some b → p ≡ a
  -- the parent of a new path is the root, or a directory is moved there, or it is to be made
  pub parent : (a d : Names) (x : List ℕ) → Has R (Renamed a (d ++ x ∷ [])) → (d ≡ []) ⊎ (IsMovedDir R A d ⊎ (is_to_be_made R d ≡ true))
  -- nothing is moved to the place of something created
  pub places : (c q : Names) → Has R (Created c) → place (carries_of R) c ≡ Some q → NoneMovedTo R A q
  -- nothing is moved to a parent that is to be made
  pub made : (q : Names) → is_to_be_made R q ≡ true → NoneMovedTo R A q

-- ---- the same by looks at one path each
-- the renamed items but this one
abbrev pub others : Place → List Place → List Place
others n ns = filter (λ m. not (same_path m.new n.new)) ns

-- the path that is looked at for q: the one that may be moved there, where it is
abbrev pub look : List Carry → List Place → Names → Option Names
look cs ns q = let p = source ns q in cond (is_at (moved cs p) q) (Some p) None

-- what the looks see
pub record Looked (P : Plan) (A : Tree) : Type 0 where
  -- at the path that is looked at for a new path, the other items left out, nothing stands but the item itself
  pub own : (n : Place) (p : Names) → Has P.news n → look P.carries (others n P.news) n.new ≡ Some p → IsThere A p → p ≡ n.old
  -- the parent of a new path is the root, or a directory stands at the path that is looked at, or it is to be made
  pub parent : (n : Place) (d : Names) (x : List ℕ) → Has P.news n → n.new ≡ d ++ x ∷ []
      → (d ≡ []) ⊎ (((p : Names) × IsDirAt A p × (look P.carries P.news d ≡ Some p)) ⊎ (is_made P P.news d ≡ true))
  -- nothing stands at the path that is looked at for a place
  pub places : (q p : Names) → list_any (λ c. same_path c q) P.places ≡ true → look P.carries P.news q ≡ Some p → IsThere A p → ⊥
  -- nor at the path that is looked at for a parent to be made
  pub made : (q p : Names) → is_made P P.news q ≡ true → look P.carries P.news q ≡ Some p → IsThere A p → ⊥

-- the stage is free, and no path that is deleted, renamed or new is the root or in the stage
pub record IsStageFree (st : List ℕ) (R : List Entry) (A : Tree) : Type 0 where
  pub stage : A (st ∷ []) ≡ None
  pub deleted : (p : Names) → Has R (Deleted p) → IsOff st p
  pub renamed : (a b : Names) → Has R (Renamed a b) → IsOff st a × IsOff st b

-- ---- the test of the stage
-- the path begins with the name
abbrev pub begins_with : List ℕ → Names → Bool
begins_with name [] = false
begins_with name (x ∷ p) = same_name name x

-- nothing stands at the stage, and no path of the report begins with its name
abbrev pub is_stage_free : List ℕ → List Entry → Tree → Bool
is_stage_free st R A = not (is_some (A (st ∷ [])) || list_any (λ entry. list_any (begins_with st) (paths_of entry)) R)

-- the same in words
pub record IsStageUnused (st : List ℕ) (R : List Entry) (A : Tree) : Type 0 where
  pub stage : A (st ∷ []) ≡ None
  pub unnamed : (entry : Entry) (rest : Names) → Has R entry → Has (paths_of entry) (st ∷ rest) → ⊥
