-- Attributes that fit what has them: a file has replicas and blocks, a directory has none (HDFS, `FileStatus`).
use Rattle.std.specs.Prelude.{◌≡◌, ℕ, Bool, true, List, IsTrue, Option, Some, None}
use Rattle.dc_path.specs.Paths.{Names}
use Rattle.dc_attrs.specs.Attributes.{Attributes, fits_file, fits_dir}
use Rattle.dc_attrs.specs.Trees.{Node, Dir, File, Tree, with_attrs}

-- what stands, if anything does, has attributes that fit it
abbrev pub is_fitting : Option Node → Bool
is_fitting None = true
is_fitting (Some (Dir a)) = fits_dir a
is_fitting (Some (File b a)) = fits_file a

-- these attributes fit what stands, if anything does
abbrev pub fits_at : Option Node → Attributes → Bool
fits_at o attrs = is_fitting (with_attrs attrs o)

-- each directory of the tree has attributes of a directory, each file those of a file
pub record HasFittingAttrs (t : Tree) : Type 0 where
  pub dirs : (p : Names) (a : Attributes) → t p ≡ Some (Dir a) → IsTrue (fits_dir a)
  pub files : (p : Names) (b : List ℕ) (a : Attributes) → t p ≡ Some (File b a) → IsTrue (fits_file a)
