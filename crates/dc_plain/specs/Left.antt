-- What a plain copy leaves on an empty target (Hadoop DistCp, `CopyMapper` and `CopyCommitter`), by what is copied alone.
use Rattle.std.specs.Prelude.{◌≡◌, true, cond, List, [], ◌∷◌, ◌++◌, map, length, Option, Some, None}
use Rattle.std.specs.List.{sum_by}
use Rattle.std.specs.Option.{option_map}
use Rattle.dc_path.specs.Found.{found, has_path}
use Rattle.dc_path.specs.Order.{is_ascending}
use Rattle.dc_path.specs.Paths.{Names, cut, at_cut, is_above}
use Rattle.dc_attrs.specs.Attributes.{default_dir, default_file}
use Rattle.dc_attrs.specs.Trees.{Node, Dir, File, Tree, is_dir_node}
use Rattle.dc_fs.specs.Views.{View}
use Rattle.dc_fs.specs.declared.target.Landed.{Landed}
use Rattle.dc_fs.specs.declared.target.Mode.TheVariants as mode_of
use Rattle.dc_engine.specs.declared.outcome.Counts.{Counts}
use Rattle.dc_plain.specs.Plain.{copied_from}

-- ---- the tree
-- a directory, or a file with the same bytes, as it is where it is new
abbrev pub anew : Node → Node
anew (Dir a) = Dir default_dir
anew (File bytes a) = File bytes default_file

-- the target directory, and below it what is copied
abbrev pub left_below : Tree → Names → Tree
left_below s source [] = Some (Dir default_dir)
left_below s source (x ∷ rest) = option_map anew (copied_from s source (x ∷ rest))

-- the directories above the target, and nothing else beside it
abbrev pub left : Tree → Names → Names → Tree
left s source target p = at_cut (cut target p) (cond (is_above p target) (Some (Dir default_dir)) None) (left_below s source)

-- ---- what has landed
-- a file lands with all its bytes
abbrev pub landing_at : Names → Option Node → Option Landed
landing_at place None = None
landing_at place (Some (Dir a)) = None
landing_at place (Some (File bytes a)) = Some (record { path = place; mode = mode_of.Replace; bytes = length bytes })

-- each file that is copied has landed once, at its place, in path order, and nothing else has
pub record AreLandings (s : Tree) (source target : Names) (landings : List Landed) : Type 0 where
  pub ascending : is_ascending (map (λ (one : Landed). one.path) landings) ≡ true
  pub each : (p : Names) → found (λ (one : Landed). one.path) landings p ≡ at_cut (cut target p) None (λ rel. landing_at (target ++ rel) (copied_from s source rel))

-- the directories that are copied, each once, in path order
pub record AreFolders (s : Tree) (source : Names) (folders : List Names) : Type 0 where
  pub ascending : is_ascending folders ≡ true
  pub each : (rel : Names) → has_path folders rel ≡ is_dir_node (copied_from s source rel)

-- ---- the counters
-- what is counted (Hadoop DistCp, `CopyMapper.Counter`): the files that landed, the directories, and the bytes; nothing was skipped,
-- and nothing failed
abbrev pub counts_of : List Landed → List Names → Counts
counts_of landings folders = record {
  copied = length landings;
  dirs = length folders;
  skipped = 0;
  failed = 0;
  bytes_copied = sum_by (λ (one : Landed). one.bytes) landings;
  bytes_skipped = 0;
}

-- the counters are those of what lands and of the directories that are copied
pub record AreCountsOf (s : Tree) (source target : Names) (counts : Counts) : Type 0 where
  pub landings : List Landed
  pub land : AreLandings s source target landings
  pub folders : List Names
  pub made : AreFolders s source folders
  pub are : counts ≡ counts_of landings folders

-- ---- the whole
-- the target's tree is what a plain copy leaves, the counters are exact, and what lands has landed, and nothing else
pub record IsDone (s : Tree) (source target : Names) (counts : Counts) (old new : View) : Type 0 where
  pub tree : new.tree ≡ Some (left s source target)
  pub counted : AreCountsOf s source target counts
  pub landed : new.rest.landed ≡ old.rest.landed ++ counted.landings
