-- What -delete removes, by the places of a plan's items (Hadoop DistCp, `CopyCommitter.deleteMissing`).
use Rattle.std.specs.Prelude.{◌≡◌, ◌↔◌, true, false, List, [], ◌++◌}
use Rattle.std.specs.List.{list_any}
use Rattle.dc_path.specs.Found.{has_path}
use Rattle.dc_path.specs.Order.{is_ascending}
use Rattle.dc_path.specs.Paths.{Names, is_root, same_path}
use Rattle.dc_attrs.specs.Trees.{IsThere, is_hidden}
use Rattle.dc_decide.specs.Plans.{Decisions}
use Rattle.dc_commit.specs.Settings.{place_of}
use Rattle.dc_missing.specs.Missing.{covers}
use Rattle.dc_result.specs.Commits.{AreRemovals, IsPlanOf, are_apart}
use Rattle.dc_result.specs.Jobs.{Job}

-- no item has its place at or under this path from the base, and nothing hidden stands there
pub record IsMissing (job : Job) (plan : Decisions) (q : Names) : Type 0 where
  pub unplaced : (rest : Names) → list_any (λ d. same_path (place_of plan.base d) (plan.base ++ (q ++ rest))) plan.items ≡ false
  pub unhidden : (rest : Names) → IsThere job.before (job.base ++ (q ++ rest)) → is_hidden (q ++ rest) ≡ false

-- paths below the base, in order and none under another, that stand, and that cover what is missing of all that stands there
pub record CoverMissing (job : Job) (plan : Decisions) (paths : List Names) : Type 0 where
  pub ascending : is_ascending paths ≡ true
  pub apart : are_apart paths ≡ true
  pub below : (p : Names) → has_path paths p ≡ true → (q : Names) × (p ≡ job.base ++ q) × (is_root q ≡ false)
  pub stood : (p : Names) → has_path paths p ≡ true → IsThere job.before p
  pub missing : (q : Names) → is_root q ≡ false → IsThere job.before (job.base ++ q) → (covers paths (job.base ++ q) ≡ true) ↔ IsMissing job plan q

-- with -delete these are the paths that go
abbrev pub MissingGoes : Type 0
MissingGoes = (job : Job) (plan : Decisions) (paths : List Names) → job.settings.delete ≡ true → IsPlanOf job plan → CoverMissing job plan paths → AreRemovals job paths

-- without it none goes
abbrev pub NoneGoes : Type 0
NoneGoes = (job : Job) → job.settings.delete ≡ false → AreRemovals job []
