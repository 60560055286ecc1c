-- What a report says, in words: where it leads paths, and what is new under its places (HDFS-7535).
use Rattle.std.specs.Prelude.{◌≡◌, ◌⊎◌, ◌↔◌, ◌≤◌, ℕ, List, [], ◌∷◌, ◌++◌, length, true, Some, None}
use Rattle.dc_path.specs.Paths.{Names}
use Rattle.dc_replay.specs.Checking.{is_to_be_made, where_to}
use Rattle.dc_replay.specs.Truth.{is_listed}
use Rattle.dc_report.specs.Apart.{HasOld, IsReport}
use Rattle.dc_report.specs.Carrying.{Has, carries_of, is_fresh, place, plan, then_rest}
use Rattle.dc_report.specs.declared.entries.Entry.{Entry}
use Rattle.dc_report.specs.declared.entries.Entry.TheVariants.{Created, Deleted, Modified, Renamed}

-- of the fronts of p that are deleted or renamed none is longer than a
abbrev pub IsLongestOld : List Entry → Names → Names → Type 0
IsLongestOld R a p = (b rest : Names) → HasOld R b → p ≡ b ++ rest → length b ≤ length a

-- a path goes by the longest of its fronts that is deleted or renamed
pub record LeadsByLongest (R : List Entry) : Type 0 where
  -- a path stays where no front of it is deleted or renamed
  pub stays : (p : Names) → ((a rest : Names) → HasOld R a → p ≡ a ++ rest → ⊥) → where_to R p ≡ Some p
  -- what is under a deleted path goes nowhere
  pub deleted : (a rest : Names) → Has R (Deleted a) → IsLongestOld R a (a ++ rest) → where_to R (a ++ rest) ≡ None
  -- what is under a renamed path goes along
  pub renamed : (a b rest : Names) → Has R (Renamed a b) → IsLongestOld R a (a ++ rest) → where_to R (a ++ rest) ≡ Some (b ++ rest)
  -- what is created goes where its parent goes
  pub placed : (d : Names) (x : List ℕ) → place (carries_of R) (d ++ x ∷ []) ≡ then_rest (where_to R d) (x ∷ [])

-- the place of something created is a front of q, and no new path below that place is one
pub record IsBelowPlace (R : List Entry) (q : Names) : Type 0 where
  pub created : Names
  pub top : Names
  pub rest : Names
  pub has : Has R (Created created)
  pub goes : place (carries_of R) created ≡ Some top
  pub path : q ≡ top ++ rest
  pub alone : (a s t : Names) (x : List ℕ) → Has R (Renamed a (top ++ x ∷ s)) → q ≡ (top ++ x ∷ s) ++ t → ⊥

-- the path is above a new path, and stands below a place with no new path between
pub record IsParentToMake (R : List Entry) (q : Names) : Type 0 where
  pub below : IsBelowPlace R q
  pub old : Names
  pub name : List ℕ
  pub rest : Names
  pub has : Has R (Renamed old (q ++ name ∷ rest))

-- something modified, other than the root, goes to the path
pub record TakesModified (R : List Entry) (q : Names) : Type 0 where
  pub name : List ℕ
  pub rest : Names
  pub has : Has R (Modified (name ∷ rest))
  pub goes : where_to R (name ∷ rest) ≡ Some q

-- what a report says, in words
pub record Means (R : List Entry) : Type 0 where
  -- where it leads a path
  pub leads : LeadsByLongest R
  -- what is fresh is what stands below a place
  pub fresh : (q : Names) → (is_fresh (plan R) q ≡ true) ↔ IsBelowPlace R q
  -- which parents are to be made
  pub made : (q : Names) → (is_to_be_made R q ≡ true) ↔ IsParentToMake R q
  -- what is listed: what stands below a place, and where what is modified goes
  pub listed : (q : Names) → (is_listed R q ≡ true) ↔ (IsBelowPlace R q ⊎ TakesModified R q)

abbrev pub WordsMean : Type 0
WordsMean = (R : List Entry) → IsReport R → Means R
