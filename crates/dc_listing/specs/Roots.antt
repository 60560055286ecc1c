-- Where each source is read, and where it is put under the target (Hadoop DistCp Guide, "Update and Overwrite"; HDFS-7535 and HDFS-9820 for snapshots).
use Rattle.std.specs.Prelude.{◌≡◌, ℕ, Bool, true, false, cond, ◌&&◌, ◌||◌, List, [], ◌∷◌, ◌++◌, length, nat_eq, Option, Some, None, Result, Ok, Err, ⊤}
use Rattle.dc_path.specs.Paths.{Names, is_root, same_path}
use Rattle.dc_attrs.specs.Trees.{Tree, snapshot, seen}
use Rattle.dc_attrs.specs.declared.shown.Seen.{Seen}
use Rattle.dc_attrs.specs.declared.shown.Seen.TheVariants as seen_as
use Rattle.dc_options.specs.Settings.{Settings}
use Rattle.dc_options.specs.declared.settings.SyncBy.{SyncBy}
use Rattle.dc_options.specs.declared.settings.SyncBy.TheVariants as sync
use Rattle.dc_listing.specs.Errors.{stepped}
use Rattle.dc_listing.specs.declared.item.ListError.{ListError}
use Rattle.dc_listing.specs.declared.item.ListError.TheVariants as list_error
use Rattle.dc_listing.specs.declared.item.Root.{Root}

-- nothing stands there
abbrev pub is_absent : Seen → Bool
is_absent seen_as.Missing = true
is_absent seen_as.NotDir = true
is_absent seen_as.Dir = false
is_absent (seen_as.File n) = false

-- a file stands there
abbrev pub is_file : Seen → Bool
is_file seen_as.Missing = false
is_file seen_as.NotDir = false
is_file seen_as.Dir = false
is_file (seen_as.File n) = true

-- what decides where sources are put: whether they are put anew on what the target has, whether there is one alone, and what
-- stands at the target
pub record Placing : Type 0 where
  pub anew : Bool
  pub only : Bool
  pub target : Seen

-- the source is itself put at the target path, by what stands at the source
abbrev pub is_put_on : Placing → Seen → Bool
is_put_on p seen_as.Dir = p.anew || (p.only && is_absent p.target)
is_put_on p (seen_as.File n) = p.only && (is_absent p.target || is_file p.target)
is_put_on p seen_as.Missing = false
is_put_on p seen_as.NotDir = false

-- the last name alone; the path `/` has none
abbrev pub last_of : Names → Names
last_of [] = []
last_of (x ∷ []) = x ∷ []
last_of (x ∷ y ∷ path) = last_of (y ∷ path)

-- the relative path of a source: the root path, or its last name
abbrev pub prefix_of : Placing → Seen → Names → Names
prefix_of p shown source = cond (is_put_on p shown) [] (last_of source)

-- the snapshot at which sources are read, where there is one
abbrev pub snapshot_in : SyncBy → Option (List ℕ)
snapshot_in sync.None = None
snapshot_in (sync.Diff from to) = Some to
snapshot_in (sync.Rdiff newer older) = Some older

-- a relative path is the root path, or the last name of the path
abbrev pub is_at_prefix : Names → Names → Bool
is_at_prefix path prefix = is_root prefix || same_path prefix (last_of path)

abbrev pub is_well_put : Root → Bool
is_well_put root = is_at_prefix root.source root.prefix

-- the root of a source that is there
abbrev pub plain_root : Placing → Tree → Names → Result Root ListError
plain_root p s source = cond (is_absent (seen s source)) (Err (list_error.NoSource source)) (Ok (record { source = source; prefix = prefix_of p (seen s source) source }))

-- the root of a snapshot that is a directory
abbrev pub dir_root : Names → Seen → Result Root ListError
dir_root path seen_as.Dir = Ok (record { source = path; prefix = [] })
dir_root path (seen_as.File n) = Err (list_error.NoSource path)
dir_root path seen_as.Missing = Err (list_error.NoSource path)
dir_root path seen_as.NotDir = Err (list_error.NoSource path)

-- an answer from what was answered before
abbrev pub and_then : {A B E : Type 0} → Result A E → (A → Result B E) → Result B E
and_then (Ok x) f = f x
and_then (Err e) f = Err e

-- the path of a source's snapshot (HDFS Snapshots, "Snapshot Paths"), where it is within the limits
abbrev pub snapshot_path : Names → List ℕ → Result Names ListError
snapshot_path source name = and_then (stepped source snapshot) (λ dir. stepped dir name)

-- where a source is read: as it is, or at its snapshot
abbrev pub read_at : Option (List ℕ) → Names → Names
read_at None source = source
read_at (Some name) source = (source ++ snapshot ∷ []) ++ name ∷ []

abbrev pub source_of : Root → Names
source_of root = root.source

-- the root of a source, by the snapshot at which it is read
abbrev pub root_at : Placing → Tree → Option (List ℕ) → Names → Result Root ListError
root_at p s None source = plain_root p s source
root_at p s (Some name) source = and_then (snapshot_path source name) (λ path. dir_root path (seen s path))

-- the roots of these sources, or the first refusal
abbrev pub roots_at : Placing → Tree → Option (List ℕ) → List Names → Result (List Root) ListError
roots_at p s at [] = Ok []
roots_at p s at (source ∷ sources) = and_then (root_at p s at source) (λ root. and_then (roots_at p s at sources) (λ roots. Ok (root ∷ roots)))

-- how options and the target place sources
abbrev pub placing_of : Settings → List Names → Seen → Placing
placing_of settings sources target = record { anew = settings.update || settings.overwrite; only = nat_eq (length sources) 1; target = target }

-- the roots of the sources, as options and what stands at the target have it
abbrev pub roots_of : Settings → Seen → Tree → List Names → Result (List Root) ListError
roots_of settings target s sources = roots_at (placing_of settings sources target) s (snapshot_in settings.sync) sources

-- What was answered is what was expected, but for faults and want of memory.
abbrev pub RootAnswers : {A : Type 0} → Result A ListError → Result A ListError → Type 0
RootAnswers (Ok x) expected = expected ≡ Ok x
RootAnswers (Err list_error.Fault) expected = ⊤
RootAnswers (Err list_error.Memory) expected = ⊤
RootAnswers (Err e) expected = expected ≡ Err e
