-- The tree that a drill copies, one change after the other.
use Rattle.std.specs.Prelude.{ℕ, zero, suc, [], ◌∷◌, codes, None}
use Rattle.dc_path.specs.Paths.{Names}
use Rattle.dc_attrs.specs.Attributes.{default_file, default_dir}
use Rattle.dc_attrs.specs.Trees.{Dir, File, Tree, with_node}
use Rattle.dc_cli.specs.Drills.{drill_source, dir_path, file_path, file_bytes}

-- a tree with a default directory at a path
abbrev pub with_dir : Names → Tree → Tree
with_dir path t = with_node t path (Dir default_dir)

-- the directory that is copied and those above it, and nothing else
abbrev pub way_tree : Tree
way_tree = with_dir drill_source (with_dir (codes "src" ∷ codes ".snapshot" ∷ []) (with_dir (codes "src" ∷ []) (with_dir [] (λ _. None))))

-- a tree with the directories of the numbers below a count
abbrev pub with_dirs : ℕ → Tree → Tree
with_dirs zero t = t
with_dirs (suc number) t = with_dir (dir_path number) (with_dirs number t)

-- a tree with the files of the numbers below a count
abbrev pub with_files : ℕ → ℕ → Tree → Tree
with_files seed zero t = t
with_files seed (suc number) t = with_node (with_files seed number t) (file_path number) (File (file_bytes seed number) default_file)
