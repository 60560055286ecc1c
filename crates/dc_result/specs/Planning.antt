-- A copy whose items are what roots list, each decided on (Hadoop DistCp, `SimpleCopyListing` and `CopyMapper`).
use Rattle.std.specs.Prelude.{◌≡◌, ◌≤◌, true, false, List, [], ◌∷◌, map, length, ◌++◌, Some, Ok}
use Rattle.std.specs.List.{All}
use Rattle.dc_path.specs.Order.{is_ascending}
use Rattle.dc_path.specs.Paths.{Names}
use Rattle.dc_attrs.specs.Trees.{Tree, IsTree, is_dir, is_dir_node, seen}
use Rattle.dc_attrs.specs.declared.shown.Seen.{Seen}
use Rattle.dc_options.specs.Settings.{Settings}
use Rattle.dc_listing.specs.Listed.{Rules, Origin, AreListed, all_listed}
use Rattle.dc_listing.specs.Roots.{roots_of}
use Rattle.dc_listing.specs.declared.item.Root.{Root}
use Rattle.dc_decide.specs.Deciding.{clashes, decided}
use Rattle.dc_decide.specs.Plans.{Decision, Decisions, item_rel}
use Rattle.dc_result.specs.Begins.{Begins, HasRoom}
use Rattle.dc_plan.specs.Planning.{item_of}
use Rattle.dc_result.specs.Commits.{IsPlanOf}
use Rattle.dc_result.specs.Jobs.{IsBaseFor, IsJob, Job, listed, old_at}

-- the copy goes on without the item, or it does not clash and is as was decided over what the target has at its place
pub record IsDecided (job : Job) (d : Decision) : Type 0 where
  pub out : d.out ≡ job.out d.item.rel
  pub decision : d.out ≡ false → (origin : Origin) → job.listing d.item.rel ≡ Some origin → d ≡ decided job.settings d.item.rel origin (old_at job d.item.rel)
  pub unclashed : d.out ≡ false → clashes d.item.dir (seen job.before (job.base ++ d.item.rel)) ≡ false

-- the items of the plan are what the roots list in the source, in path order, and each is decided on
pub record IsListedCopy (rules : Rules) (s : Tree) (roots : List Root) (job : Job) (plan : Decisions) : Type 0 where
  pub listing : job.listing ≡ listed rules s roots
  pub under : plan.base ≡ job.base
  pub ascending : is_ascending (map item_rel plan.items) ≡ true
  pub entries : AreListed (all_listed rules s roots) (map item_of plan.items)
  pub each : All (IsDecided job) plan.items
  pub tree : IsTree job.before
  pub place : IsBaseFor job.target job.base

-- then the copy is one that a commit can make, by this plan
abbrev pub ListedCopiesAreJobs : Type 0
ListedCopiesAreJobs = (rules : Rules) (s : Tree) (roots : List Root) (job : Job) (plan : Decisions) → IsListedCopy rules s roots job plan → IsJob s job × IsPlanOf job plan

-- ---- what is above what is listed
-- roots as options place them: each is put at the root path or by one name, and at the root path a file only where it is alone
pub record AreRoots (s : Tree) (roots : List Root) : Type 0 where
  pub tree : IsTree s
  pub short : (before behind : List Root) (root : Root) → roots ≡ before ++ root ∷ behind → length root.prefix ≤ 1
  pub alone : (before behind : List Root) (root : Root) → roots ≡ before ++ root ∷ behind → root.prefix ≡ [] → is_dir_node (s root.source) ≡ false → roots ≡ root ∷ []

-- the roots list no path twice, and the copy goes on without a listed directory only where that clashes
pub record GoesOn (rules : Rules) (s : Tree) (roots : List Root) (job : Job) : Type 0 where
  pub roots_are : AreRoots s roots
  pub once : (rel : Names) → length (all_listed rules s roots rel) ≤ 1
  pub clashing : (rel : Names) (origin : Origin) → job.listing rel ≡ Some origin → is_dir origin.node ≡ true → job.out rel ≡ true → clashes true (seen job.before (job.base ++ rel)) ≡ true

-- then no tree refuses a step of a commit that has room for it
abbrev pub ListedCopiesBegin : Type 0
ListedCopiesBegin = (rules : Rules) (s : Tree) (roots : List Root) (job : Job) → job.listing ≡ listed rules s roots → IsJob s job → HasRoom job → GoesOn rules s roots job → Begins job

-- the roots that options give are so placed
abbrev pub RootsArePlaced : Type 0
RootsArePlaced = (settings : Settings) (target : Seen) (s : Tree) (sources : List Names) (roots : List Root) → IsTree s → roots_of settings target s sources ≡ Ok roots → AreRoots s roots
