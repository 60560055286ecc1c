-- What a run knows before it changes the target: the copy that options and both trees define, its plan, and the paths that go
-- (Hadoop DistCp, `CopyMapper` and `CopyCommitter`).
use Rattle.std.specs.Prelude.{◌≡◌, ◌↔◌, ℕ, Bool, true, false, List, [], ◌++◌, map, IfSome, slice_get, Ok}
use Rattle.std.specs.List.{All, list_all}
use Rattle.std.specs.Option.{option_map_or}
use Rattle.dc_path.specs.Found.{found, has_path}
use Rattle.dc_path.specs.Order.{is_ascending}
use Rattle.dc_path.specs.Paths.{Names}
use Rattle.dc_attrs.specs.Trees.{Tree, IsTree, IsThere}
use Rattle.dc_options.specs.Settings.{Settings}
use Rattle.dc_listing.specs.Entries.{Entry, rel_of}
use Rattle.dc_listing.specs.Listed.{rules_of}
use Rattle.dc_listing.specs.Walking.{is_below}
use Rattle.dc_decide.specs.Plans.{Decision, Decisions, item_rel, left_out_at}
use Rattle.dc_missing.specs.Missing.{Goes, are_apart, covers, is_place, leads_below}
use Rattle.dc_plan.specs.Planning.{IsDecidedOn, IsOutByClash, clashes_in, item_of}
use Rattle.dc_result.specs.Atomic.{IsAtomic}
use Rattle.dc_result.specs.Begins.{Begins}
use Rattle.dc_result.specs.Commits.{AreRemovals, IsPlanOf}
use Rattle.dc_result.specs.Jobs.{IsJob, Job, listed}
use Rattle.dc_engine.specs.Surveys.{Asked, IsSurveyed, before_listing}
use Rattle.dc_engine.specs.Targets.{base_of}

-- ---- the plan
-- The copy goes on without an item where it clashes, and besides only without files, as of those that could not be read. What
-- it goes on with is decided by both trees.
pub record IsSettled (o : Settings) (base : Names) (s t : Tree) (d : Decision) : Type 0 where
  pub clashing : clashes_in t base d.item ≡ true → d.out ≡ true
  pub besides : d.out ≡ true → d.item.dir ≡ true → clashes_in t base d.item ≡ true
  pub decision : IsDecidedOn o base s t d

-- the plan has these entries, in path order, under the base that the options give
pub record IsPlanFor (o : Settings) (s t : Tree) (entries : List Entry) (plan : Decisions) : Type 0 where
  pub base : plan.base ≡ base_of o
  pub items : map item_of plan.items ≡ entries
  pub ascending : is_ascending (map rel_of entries) ≡ true
  pub each : All (IsSettled o plan.base s t) plan.items

-- ---- the paths that go
-- these are the paths that a walk of the target finds to be missing from the plan
pub record AreMissing (t : Tree) (plan : Decisions) (paths : List Names) : Type 0 where
  pub ascending : is_ascending paths ≡ true
  pub apart : are_apart paths ≡ true
  pub below : list_all (leads_below plan.base) paths ≡ true
  pub stand : (p : Names) → has_path paths p ≡ true → IsThere t p
  pub goes : (q : Names) → is_below q ≡ true → IsThere t (plan.base ++ q) → (covers paths (plan.base ++ q) ≡ true) ↔ Goes t (is_place plan) plan.base q

-- with -delete they are removed, and without it none is
pub record AreToGo (o : Settings) (t : Tree) (plan : Decisions) (paths : List Names) : Type 0 where
  pub missing : o.delete ≡ true → AreMissing t plan paths
  pub none : o.delete ≡ false → paths ≡ []

-- ---- the copy
-- the plan has an item at this path that the copy goes on without
abbrev pub is_out : Decisions → Names → Bool
is_out plan rel = option_map_or (λ d. d.out) (found item_rel plan.items rel) false

-- what the roots list in the source, with what the options ask for, but for what the plan goes on without
abbrev pub job_of : Settings → Tree → Tree → Asked → Decisions → Job
job_of o s t asked plan = record {
  settings = o;
  listing = listed (rules_of asked.lines []) s asked.roots;
  out = is_out plan;
  before = t;
  target = o.target;
  base = plan.base;
}

-- For what follows a survey: nothing is refused, this is the copy, and the plan and the paths are those of it. No tree
-- refuses a step of it; with `-atomic` it goes under a work path, and else under the target itself.
pub record IsReady (o : Settings) (s t : Tree) (plan : Decisions) (paths : List Names) (job : Job) : Type 0 where
  pub asked : Asked
  pub allowed : before_listing o s t ≡ Ok asked
  pub job_is : job ≡ job_of o s t asked plan
  pub copy : IsJob s job
  pub planned : IsPlanOf job plan
  pub begins : Begins job
  pub removes : AreRemovals job paths
  pub atomic : o.atomic ≡ true → IsAtomic job
  pub plain : o.atomic ≡ false → job.base ≡ job.target

-- ---- the laws
-- the decisions on what is listed are a plan of it
abbrev pub DecisionsArePlans : Type 0
DecisionsArePlans = (o : Settings) (s t : Tree) (entries : List Entry) (plan : Decisions) → plan.base ≡ base_of o → map item_of plan.items ≡ entries → is_ascending (map rel_of entries) ≡ true
    → All (IsOutByClash t plan.base) plan.items → All (IsDecidedOn o plan.base s t) plan.items → IsPlanFor o s t entries plan

-- and so they are where the copy goes on without a file more
abbrev pub FilesMayBeLeft : Type 0
FilesMayBeLeft = (o : Settings) (s t : Tree) (entries : List Entry) (plan : Decisions) (place : ℕ) → IfSome (slice_get plan.items place) (λ d. d.item.dir ≡ false)
    → IsPlanFor o s t entries plan → IsPlanFor o s t entries (record { base = plan.base; items = left_out_at place plan.items })

-- what is missing from a plan is missing from each that has the same items
abbrev pub SameItemsLack : Type 0
SameItemsLack = (t : Tree) (old new : Decisions) (paths : List Names) → old.base ≡ new.base → map item_of old.items ≡ map item_of new.items → AreMissing t old paths → AreMissing t new paths

-- a plan of what a survey lists is ready to be carried out
abbrev pub PlansAreReady : Type 0
PlansAreReady = (o : Settings) (s t : Tree) (entries : List Entry) (plan : Decisions) (paths : List Names) → IsTree s → IsTree t
    → (found : IsSurveyed o s t entries) → IsPlanFor o s t entries plan → AreToGo o t plan paths → IsReady o s t plan paths (job_of o s t found.asked plan)
