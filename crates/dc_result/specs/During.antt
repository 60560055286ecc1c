-- What a commit may leave where it ends early (Hadoop DistCp, `CopyCommitter`, for the order of its phases).
use Rattle.std.specs.Prelude.{◌≡◌, ℕ, Bool, true, false, cond, not, if◌then◌else◌, List, [], ◌∷◌, ◌++◌, map, take, reverse, Option, Some, None, unwrap_or}
use Rattle.std.specs.Option.{option_and_then, option_map, option_map_or}
use Rattle.dc_path.specs.Found.{has_path}
use Rattle.dc_path.specs.Order.{is_ascending}
use Rattle.dc_path.specs.Paths.{Names, at_cut, cut, front_of}
use Rattle.dc_attrs.specs.Trees.{Node, Dir, File, Tree, attrs_of, bytes_of, is_dir, made}
use Rattle.dc_fs.specs.declared.target.Landed.{Landed}
use Rattle.dc_decide.specs.Deciding.{action_of}
use Rattle.dc_decide.specs.declared.action.Action.{Action}
use Rattle.dc_commit.specs.Landing.{land_step}
use Rattle.dc_commit.specs.Making.{make_steps, ways}
use Rattle.dc_commit.specs.Removals.{remove_steps}
use Rattle.dc_commit.specs.Settings.{attrs_under, dir_steps, file_steps}
use Rattle.dc_commit.specs.Steps.{after}
use Rattle.dc_result.specs.Begins.{copies_dir}
use Rattle.dc_result.specs.Commits.{AreRemovals, Commit, dirs_made, files_landed, files_set, missing_gone}
use Rattle.dc_missing.specs.Missing.{covers}
use Rattle.dc_result.specs.Effects.{AreEffects}
use Rattle.dc_result.specs.Jobs.{Job, in_run, lists_file, old_at}
use Rattle.dc_result.specs.Result.{Goes, bytes_after, copied}

-- ---- the elements of the phases
-- a file is listed there and copied
abbrev pub copies_file : Job → Names → Bool
copies_file job rel = option_map_or (λ origin. not (is_dir origin.node)) (in_run job rel) false

-- the places of the listed directories and files that are copied, what lands, and the paths that are removed
pub record Elements : Type 0 where
  pub folders : List Names
  pub files : List Names
  pub effects : List Landed
  pub removals : List Names

-- each list has in path order what the copy defines
pub record AreElements (job : Job) (e : Elements) : Type 0 where
  pub folders_ascend : is_ascending e.folders ≡ true
  pub folders : (p : Names) → has_path e.folders p ≡ at_cut (cut job.base p) false (copies_dir job)
  pub files_ascend : is_ascending e.files ≡ true
  pub files : (p : Names) → has_path e.files p ≡ at_cut (cut job.base p) false (copies_file job)
  pub effects : AreEffects job e.effects
  pub removals : AreRemovals job e.removals

-- the directories in the order in which they are made: on the way to the target, the base, unless a file is listed at the
-- root path, and the listed ones
abbrev pub dirs_of : Job → Elements → List Names
dirs_of job e = ways (front_of job.target) ++ (cond (lists_file job []) [] (job.base ∷ []) ++ e.folders)

-- the places of the files that land
abbrev pub landed_of : Elements → List Names
landed_of e = map (λ (landed : Landed). landed.path) e.effects

-- ---- points of a commit
-- a phase, after so many of its elements
pub data Point : Type 0 where
  Making : (count : ℕ) → Point
  Landing : (count : ℕ) → Point
  SettingFiles : (count : ℕ) → Point
  Removing : (count : ℕ) → Point
  SettingDirs : (count : ℕ) → Point

-- the tree there
abbrev pub tree_at : Job → Commit → Point → Tree
tree_at job commit (Making k) = after (take k (make_steps job.target commit.plan)) job.before
tree_at job commit (Landing k) = after (take k (map land_step commit.landings)) (dirs_made job commit)
tree_at job commit (SettingFiles k) = after (take k (file_steps job.settings.keep commit.plan)) (files_landed job commit)
tree_at job commit (Removing k) = after (take k (remove_steps commit.paths)) (files_set job commit)
tree_at job commit (SettingDirs k) = after (take k (dir_steps job.settings.keep commit.plan)) (missing_gone job commit)

-- how far a copy has come: the directories that are made, the files that have landed, the places at which attributes are set,
-- and the paths that are removed
pub record Progress : Type 0 where
  pub made_at : List Names
  pub landed_at : List Names
  pub set_at : List Names
  pub removed : List Names

abbrev pub progress : Job → Elements → Point → Progress
progress job e (Making k) = record { made_at = take k (dirs_of job e); landed_at = []; set_at = []; removed = [] }
progress job e (Landing k) = record { made_at = dirs_of job e; landed_at = take k (landed_of e); set_at = []; removed = [] }
progress job e (SettingFiles k) = record { made_at = dirs_of job e; landed_at = landed_of e; set_at = take k e.files; removed = [] }
progress job e (Removing k) = record { made_at = dirs_of job e; landed_at = landed_of e; set_at = e.files; removed = take k e.removals }
progress job e (SettingDirs k) = record { made_at = dirs_of job e; landed_at = landed_of e; set_at = take k (reverse e.folders) ++ e.files; removed = e.removals }

-- ---- trees on the way to the result
-- a listed file once it has landed: its bytes, with the target's attributes, or the defaults of what is new or replaced
abbrev pub landed_node : Node → Option Node → Action → Option Node
landed_node (Dir a) old act = old
landed_node (File b a) old act = Some (File (bytes_after act b (unwrap_or (bytes_of old) [])) (attrs_under act (attrs_of old)))

-- what has landed at a path under the base
abbrev pub file_at : Job → Names → Option Node
file_at job rel = option_and_then (λ origin. landed_node origin.node (old_at job rel) (action_of job.settings origin.node (old_at job rel))) (in_run job rel)

-- what stands there at the end
abbrev pub copied_at : Job → Names → Option Node
copied_at job rel = option_map (λ origin. copied job.settings origin.node (old_at job rel)) (in_run job rel)

-- What has been removed is gone. Where attributes are set, the result of what is listed there stands, and where a file has
-- landed, that file. A directory that has been made stands, and elsewhere is what stood before.
abbrev pub partly : Job → Progress → Tree
partly job done p =
    if covers done.removed p then None else
    if has_path done.set_at p then at_cut (cut job.base p) None (copied_at job) else
    if has_path done.landed_at p then at_cut (cut job.base p) None (file_at job) else
    if has_path done.made_at p then made (job.before p) else job.before p

-- ---- what is spared
-- nothing that is copied has its place there, and the path does not go
abbrev pub IsAside : Job → Names → Type 0
IsAside job p = (rel : Names) → p ≡ job.base ++ rel → (in_run job rel ≡ None) × (Goes job rel → ⊥)
