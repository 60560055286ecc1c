-- What is listed.
use Rattle.std.specs.Prelude.{ℕ, Bool, cond, ◌++◌}
use Rattle.dc_path.specs.Paths.{Names, fits}
use Rattle.dc_attrs.specs.Attributes.{Attributes, fits_file, fits_dir}
use Rattle.dc_attrs.specs.Trees.{Node}
use Rattle.dc_fs.specs.Looks.{status_of}
use Rattle.dc_fs.specs.declared.store.Status.{Status}

-- a directory or a file that is listed: its path under the target, its path in the source, its length and its attributes
pub record Entry : Type 0 where
  pub rel : Names
  pub from : Names
  pub dir : Bool
  pub length : ℕ
  pub attrs : Attributes

abbrev pub rel_of : Entry → Names
rel_of entry = entry.rel

abbrev pub from_of : Entry → Names
from_of entry = entry.from

-- the attributes fit the kind
abbrev pub fits_entry : Entry → Bool
fits_entry entry = cond entry.dir (fits_dir entry.attrs) (fits_file entry.attrs)

-- what a look at the path in the source shows, listed
abbrev pub entry_with : Names → Names → Status → Entry
entry_with rel from status = record { rel = rel; from = from; dir = status.dir; length = status.length; attrs = status.attrs }

-- what stands there, listed
abbrev pub entry_of : Names → Names → Node → Entry
entry_of rel from node = entry_with rel from (status_of node)

-- its place under the base is within the limits of a path
abbrev pub fits_under : Names → Entry → Bool
fits_under base entry = fits (base ++ entry.rel)
