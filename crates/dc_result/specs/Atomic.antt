-- A copy that is made under a work path and then moved to the target (Hadoop DistCp Guide, `-atomic`).
use Rattle.std.specs.Prelude.{◌≡◌, ◌⊎◌, true, false, [], ◌++◌, None, is_some}
use Rattle.dc_path.specs.Paths.{Names, is_under}
use Rattle.dc_attrs.specs.Trees.{Tree}
use Rattle.dc_result.specs.Jobs.{Job, in_run, lists_file}

-- nothing stands at the path or under it
abbrev pub IsEmptyAt : Tree → Names → Type 0
IsEmptyAt t p = (rest : Names) → t (p ++ rest) ≡ None

-- the items go under a work path, which is no front of the target, and nothing stands at either of them
pub record IsAtomic (job : Job) : Type 0 where
  pub target_free : IsEmptyAt job.before job.target
  pub work_free : IsEmptyAt job.before job.base
  pub apart : is_under job.base job.target ≡ false

-- something is made at the work path: the file that is listed at the root path, or else a directory
abbrev pub HasWork : Job → Type 0
HasWork job = (is_some (in_run job []) ≡ true) ⊎ (lists_file job [] ≡ false)
