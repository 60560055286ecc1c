-- A plain copy (Hadoop DistCp Guide, "Basic Usage"): a directory of the source to a path of an empty target, by the defaults.
use Rattle.std.specs.Prelude.{◌≡◌, ◌⊎◌, ◌≤◌, ℕ, true, false, cond, ◌||◌, List, [], ◌∷◌, ◌++◌, length, None}
use Rattle.std.specs.Option.{is_some}
use Rattle.dc_path.specs.Found.{has_path}
use Rattle.dc_path.specs.Paths.{Names, fits, is_root}
use Rattle.dc_attrs.specs.Keeping.{kept_by}
use Rattle.dc_attrs.specs.Trees.{Tree, IsTree, IsDirAt, is_hidden}
use Rattle.dc_options.specs.Settings.{Settings}
use Rattle.dc_options.specs.declared.settings.SyncBy.TheVariants as sync
use Rattle.dc_options.specs.declared.settings.Strategy.TheVariants as strategy
use Rattle.dc_listing.specs.Walks.{max_items}
use Rattle.dc_engine.specs.Surveys.{Asked}
use Rattle.dc_engine.specs.declared.outcome.Outcome.{Outcome}
use Rattle.dc_engine.specs.declared.outcome.Outcome.TheVariants as outcome
use Rattle.dc_engine.specs.declared.outcome.TooManyOf.TheVariants as too_many

-- the options of a copy from one path to another, where no words but the paths are given
abbrev pub plain : Names → Names → Settings
plain source target = record {
  ignore = false;
  keep = kept_by [];
  maps = 20;
  update = false;
  overwrite = false;
  append = false;
  delete = false;
  skip_crc = false;
  atomic = false;
  tmp = None;
  sync = sync.None;
  list = None;
  filters = None;
  kills = None;
  strategy = strategy.Uniform;
  blocks = 0;
  buffer = 8192;
  sources = source ∷ [];
  target = target;
}

-- what is to be listed: the directory, put at the target path itself
abbrev pub asked_for : Names → Names → Asked
asked_for source target = record {
  sources = source ∷ [];
  lines = [];
  roots = record { source = source; prefix = [] } ∷ [];
  base = target;
}

-- a directory stands at the source path, and the target path is neither the root nor hidden
pub record IsPlain (s : Tree) (source target : Names) : Type 0 where
  pub tree : IsTree s
  pub dir : IsDirAt s source
  pub within : fits source ≡ true
  pub below : is_root target ≡ false
  pub shown : is_hidden target ≡ false

-- what is copied, by its path below the directory (Hadoop DistCp, `SimpleCopyListing`): what stands there and is not hidden, but
-- not the directory itself
abbrev pub copied_from : Tree → Names → Tree
copied_from s source rel = cond (is_root rel || is_hidden rel) None (s (source ++ rel))

-- what is copied is within the limits: its paths in the source and under the target, and their number
pub record IsListable (s : Tree) (source target : Names) : Type 0 where
  pub from : (rel : Names) → is_some (copied_from s source rel) ≡ true → fits (source ++ rel) ≡ true
  pub to : (rel : Names) → is_some (copied_from s source rel) ≡ true → fits (target ++ rel) ≡ true
  pub rels : List Names
  pub all : (rel : Names) → is_some (copied_from s source rel) ≡ true → has_path rels rel ≡ true
  pub few : length rels ≤ max_items

-- a refusal by a limit: too many are listed, a path is too long, or there are too many pieces
abbrev pub IsLimit : Outcome → Type 0
IsLimit e = (e ≡ outcome.TooMany too_many.Items) ⊎ ((e ≡ outcome.TooMany too_many.Pieces) ⊎ ((parent : Names) × (name : List ℕ) × (e ≡ outcome.TooLong parent name)))
