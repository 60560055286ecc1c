-- When a report tells how one tree became another, and what a copy with it lists
-- (HDFS Snapshots, "Get Snapshots Difference Report"; HDFS-7535).
-- R is the report, O the earlier and N the later tree.
use Rattle.std.specs.Prelude.{ℕ, ◌≡◌, List, [], ◌∷◌, ◌++◌, Bool, true, false, cond, ◌||◌, Option, Some, None}
use Rattle.std.specs.List.{list_any}
use Rattle.std.specs.Option.{option_or}
use Rattle.dc_attrs.specs.Trees.{IsDirAt, Node, Tree, is_dir, IsThere}
use Rattle.dc_path.specs.Paths.{Names, has_name}
use Rattle.dc_report.specs.Carrying.{Has, carries_of, is_fresh, place, plan}
use Rattle.dc_replay.specs.Checking.{NoneMovedTo, where_to}
use Rattle.dc_report.specs.declared.entries.Entry.{Entry}
use Rattle.dc_report.specs.declared.entries.Entry.TheVariants.{Created, Deleted, Modified, Renamed}
use Rattle.dc_report.specs.Landings.{is_at}

-- the report tells how O became N, but for bytes and attributes
pub record IsTrueOf (R : List Entry) (O N : Tree) : Type 0 where
  -- what it deletes, changes or renames stood
  pub deleted : (p : Names) → Has R (Deleted p) → IsThere O p
  pub modified : (x : List ℕ) (p : Names) → Has R (Modified (x ∷ p)) → IsThere O (x ∷ p)
  pub renamed : (a b : Names) → Has R (Renamed a b) → IsThere O a
  -- no two paths went to one
  pub apart : (p q r : Names) → IsThere O p → IsThere O q → where_to R p ≡ Some r → where_to R q ≡ Some r → p ≡ q
  -- what went to a path stands there, as a file or a directory as before
  pub leads : (p q : Names) (x : Node) → O p ≡ Some x → where_to R p ≡ Some q → (y : Node) × (N q ≡ Some y) × (is_dir x ≡ is_dir y)
  -- what was created was created in a directory that was not deleted
  pub created : (d : Names) (x : List ℕ) → Has R (Created (d ++ x ∷ [])) → IsDirAt O d × ((q : Names) × (where_to R d ≡ Some q))
  -- it stands at its place, to which nothing went
  pub places : (c q : Names) → Has R (Created c) → place (carries_of R) c ≡ Some q → IsThere N q × NoneMovedTo R O q
  -- what stands where nothing went is below a place
  pub fresh : (q : Names) → IsThere N q → NoneMovedTo R O q → is_fresh (plan R) q ≡ true

-- ---- hidden paths
-- the tree without hidden paths
abbrev pub plain : List ℕ → Tree → Tree
plain snap T p = cond (has_name snap p) None (T p)

-- no path that the report deletes, renames or creates is hidden
pub record HasNoHidden (snap : List ℕ) (R : List Entry) : Type 0 where
  pub deleted : (p : Names) → Has R (Deleted p) → has_name snap p ≡ false
  pub renamed : (a b : Names) → Has R (Renamed a b) → (has_name snap a ≡ false) × (has_name snap b ≡ false)
  pub created : (c : Names) → Has R (Created c) → has_name snap c ≡ false

-- whether a directory stands, where something stands
abbrev pub kind : Option Node → Option Bool
kind None = None
kind (Some x) = Some (is_dir x)

-- without hidden paths A has the paths and kinds of O
abbrev pub HasSameKinds : List ℕ → Tree → Tree → Type 0
HasSameKinds snap A O = (p : Names) → kind (plain snap A p) ≡ kind (O p)

-- ---- the later snapshot
-- what is neither modified nor the root keeps its bytes and attributes
abbrev pub KeepsNodes : List Entry → Tree → Tree → Type 0
KeepsNodes R O N = (p q : Names) (x : Node) → (Has R (Modified p) → ⊥) → (p ≡ [] → ⊥) → O p ≡ Some x → where_to R p ≡ Some q → N q ≡ Some x

-- something modified goes to the path; the root that is modified is passed over
abbrev pub takes_modified : List Entry → Names → Entry → Bool
takes_modified R q (Deleted p) = false
takes_modified R q (Renamed a b) = false
takes_modified R q (Created c) = false
takes_modified R q (Modified []) = false
takes_modified R q (Modified (x ∷ p)) = is_at (where_to R (x ∷ p)) q

-- what a copy with the report lists: what is new, and where what is modified goes
abbrev pub is_listed : List Entry → Names → Bool
is_listed R q = is_fresh (plan R) q || list_any (takes_modified R q) R

-- the tree with what is listed and stands in the later snapshot copied from there
abbrev pub with_listed : List Entry → Tree → Tree → Tree
with_listed R N X q = cond (is_listed R q) (option_or (N q) (X q)) (X q)

-- What the listing with a report looks for in the later tree stands there: where what is modified goes, and the places of
-- what is created.
pub record IsListable (R : List Entry) (N : Tree) : Type 0 where
  pub modified : (x : List ℕ) (p q : Names) → Has R (Modified (x ∷ p)) → where_to R (x ∷ p) ≡ Some q → IsThere N q
  pub created : (c q : Names) → Has R (Created c) → place (carries_of R) c ≡ Some q → IsThere N q

-- a test that tells which nodes count as the same: no file counts as a directory
pub record IsLikeness (like : Node → Node → Bool) : Type 0 where
  pub same : (x : Node) → like x x ≡ true
  pub kinds : (x y : Node) → like x y ≡ true → is_dir x ≡ is_dir y

-- nothing at both, or nodes that count as the same
abbrev pub are_alike : (Node → Node → Bool) → Option Node → Option Node → Bool
are_alike like None None = true
are_alike like None (Some y) = false
are_alike like (Some x) None = false
are_alike like (Some x) (Some y) = like x y

-- without hidden paths two trees are the same at each path but the root
abbrev pub AreAlike : (Node → Node → Bool) → List ℕ → Tree → Tree → Type 0
AreAlike like snap A B = (p : Names) → (p ≡ [] → ⊥) → are_alike like (plain snap A p) (plain snap B p) ≡ true

-- Y is what a copy with the report may make of X. Hidden paths and the root are left open. Where N has what is listed, Y has
-- what counts as the same, and at every other path what X has.
pub record IsCopied (like : Node → Node → Bool) (snap : List ℕ) (R : List Entry) (N X Y : Tree) : Type 0 where
  -- what is not listed is as it was
  pub off : (q : Names) → (q ≡ [] → ⊥) → has_name snap q ≡ false → is_listed R q ≡ false → Y q ≡ X q
  -- and so is what N does not have
  pub absent : (q : Names) → (q ≡ [] → ⊥) → has_name snap q ≡ false → N q ≡ None → Y q ≡ X q
  -- what is listed counts as what N has
  pub listed : (q : Names) (x : Node) → (q ≡ [] → ⊥) → has_name snap q ≡ false → is_listed R q ≡ true → N q ≡ Some x → are_alike like (Y q) (Some x) ≡ true
