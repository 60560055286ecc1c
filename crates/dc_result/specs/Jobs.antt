-- A copy that is to be made (Hadoop DistCp, `DistCpContext`): its options, what is listed, and where that goes.
use Rattle.std.specs.Prelude.{◌≡◌, ◌⊎◌, Bool, false, cond, not, List, ◌++◌, Option, Some, None, slice_get}
use Rattle.std.specs.Option.{option_map_or}
use Rattle.dc_path.specs.Paths.{Names, is_under}
use Rattle.dc_attrs.specs.Trees.{Node, Tree, IsTree, is_dir, seen}
use Rattle.dc_options.specs.Settings.{Settings}
use Rattle.dc_listing.specs.Listed.{Rules, Origin, all_listed}
use Rattle.dc_listing.specs.declared.item.Root.{Root}
use Rattle.dc_decide.specs.Deciding.{clashes}

-- what is listed at each path under the target
abbrev pub Listing : Type 0
Listing = Names → Option Origin

-- the first that roots list there, which is all where no path is listed twice
abbrev pub listed : Rules → Tree → List Root → Listing
listed rules s roots rel = slice_get (all_listed rules s roots rel) 0

-- a copy: its options, what is listed, the listed paths that it goes on without, the target's tree before it, the target
-- path, and the path under which the items go, which is another one with `-atomic`
pub record Job : Type 0 where
  pub settings : Settings
  pub listing : Listing
  pub out : Names → Bool
  pub before : Tree
  pub target : Names
  pub base : Names

-- the same copy, but that the items go under the target path itself
abbrev pub at_target : Job → Job
at_target job = record job { base = job.target }

-- what is listed there and copied
abbrev pub in_run : Job → Listing
in_run job rel = cond (job.out rel) None (job.listing rel)

-- what the target has before the copy at the place of a path under the base
abbrev pub old_at : Job → Names → Option Node
old_at job rel = job.before (job.base ++ rel)

-- a file is listed there
abbrev pub lists_file : Job → Names → Bool
lists_file job rel = option_map_or (λ origin. not (is_dir origin.node)) (job.listing rel) false

-- what is listed stands in the source as it is listed
abbrev pub IsShownIn : Tree → Listing → Type 0
IsShownIn s listing = (rel : Names) (origin : Origin) → listing rel ≡ Some origin → s origin.from ≡ Some origin.node

-- the items go under the target path, or, with `-atomic`, under one that is no front of it
abbrev pub IsBaseFor : Names → Names → Type 0
IsBaseFor target base = (target ≡ base) ⊎ (is_under base target ≡ false)

-- a copy as the decisions leave it: both trees are trees, what is listed stands in the source, and nothing of it clashes
pub record IsJob (s : Tree) (job : Job) : Type 0 where
  pub tree : IsTree job.before
  pub shown : IsShownIn s job.listing
  pub unclashed : (rel : Names) (origin : Origin) → in_run job rel ≡ Some origin → clashes (is_dir origin.node) (seen job.before (job.base ++ rel)) ≡ false
  pub place : IsBaseFor job.target job.base
