-- What holds when a commit begins, so that no tree refuses one of its steps.
use Rattle.std.specs.Prelude.{◌≡◌, ◌⊎◌, ℕ, Bool, true, false, List, [], ◌∷◌, ◌++◌, Option, Some, None}
use Rattle.std.specs.Option.{option_map_or}
use Rattle.dc_path.specs.Paths.{Names, is_above}
use Rattle.dc_attrs.specs.Trees.{Node, IsDirAt, is_dir}
use Rattle.dc_listing.specs.Listed.{Origin}
use Rattle.dc_result.specs.Jobs.{Job, in_run}
use Rattle.dc_result.specs.Result.{is_base}

-- no file stands there
abbrev pub is_no_file : Option Node → Bool
is_no_file None = true
is_no_file (Some n) = is_dir n

-- a directory is listed there and copied
abbrev pub copies_dir : Job → Names → Bool
copies_dir job rel = option_map_or (λ origin. is_dir origin.node) (in_run job rel) false

-- the base, where that is made, a listed directory that is copied, or a directory that the target has
abbrev pub HasDir : Job → Names → Type 0
HasDir job rel = (is_base job rel ≡ true) ⊎ ((copies_dir job rel ≡ true) ⊎ IsDirAt job.before (job.base ++ rel))

-- on the way to the target no file stands; the parent of the base is on that way or a directory
pub record HasRoom (job : Job) : Type 0 where
  pub way : (q : Names) → is_above q job.target ≡ true → is_no_file (job.before q) ≡ true
  pub above : (q : Names) (x : List ℕ) → job.base ≡ q ++ x ∷ [] → (is_above q job.target ≡ true) ⊎ IsDirAt job.before q

-- what holds before the first phase: there is room for the copy, at the root path no directory is copied, and what is copied
-- has a directory above it
pub record Begins (job : Job) : Type 0 where
  pub room : HasRoom job
  pub root : copies_dir job [] ≡ false
  pub parents : (q : Names) (x : List ℕ) (origin : Origin) → in_run job (q ++ x ∷ []) ≡ Some origin → HasDir job q
