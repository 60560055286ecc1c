-- What a commit is given, and the trees that its phases leave (Hadoop DistCp, `CopyCommitter`).
use Rattle.std.specs.Prelude.{◌≡◌, ℕ, ◌-◌, Bool, true, not, ◌&&◌, List, [], ◌∷◌, ◌++◌, map, drop, Option}
use Rattle.std.specs.List.{filter, list_all}
use Rattle.std.specs.Option.{option_map}
use Rattle.dc_path.specs.Found.{found, has_path}
use Rattle.dc_path.specs.Order.{is_ascending}
use Rattle.dc_path.specs.Paths.{Names, is_under}
use Rattle.dc_attrs.specs.Trees.{Tree, IsThere, bytes_of}
use Rattle.dc_fs.specs.Temporaries.{all_told}
use Rattle.dc_fs.specs.declared.target.Mode.{Mode}
use Rattle.dc_listing.specs.Listed.{entry_at}
use Rattle.dc_decide.specs.Deciding.{decided}
use Rattle.dc_decide.specs.Plans.{Decision, Decisions, item_rel}
use Rattle.dc_missing.specs.Missing.{covers}
use Rattle.dc_plan.specs.Planning.{item_of}
use Rattle.dc_commit.specs.Landing.{Landing, is_landing, land_step, landing_mode}
use Rattle.dc_commit.specs.Making.{make_steps}
use Rattle.dc_commit.specs.Removals.{remove_steps}
use Rattle.dc_commit.specs.Settings.{dir_steps, file_steps, place_of}
use Rattle.dc_commit.specs.Steps.{after}
use Rattle.dc_result.specs.Effects.{first_byte}
use Rattle.dc_result.specs.Jobs.{Job, in_run, old_at}
use Rattle.dc_result.specs.Result.{Goes}

-- what a commit is given: the plan, the files that land, and the paths that are removed
pub record Commit : Type 0 where
  pub plan : Decisions
  pub landings : List Landing
  pub paths : List Names

-- ---- the plan
-- the copy goes on with the item
abbrev pub is_in : Decision → Bool
is_in d = not d.out

-- the items are what is listed, in path order, and each that the copy goes on with is decided on over what the target has
-- at its place
pub record IsPlanOf (job : Job) (plan : Decisions) : Type 0 where
  pub under : plan.base ≡ job.base
  pub ascending : is_ascending (map item_rel plan.items) ≡ true
  pub entries : (rel : Names) → option_map item_of (found item_rel plan.items rel) ≡ option_map (entry_at rel) (job.listing rel)
  pub decisions : (rel : Names) → found item_rel (filter is_in plan.items) rel ≡ option_map (λ origin. decided job.settings rel origin (old_at job rel)) (in_run job rel)

-- ---- the files that land
-- a file as it lands, its parts joined: its bytes, where they are told, and how many they are said to be
pub record WholeFile : Type 0 where
  pub place : Names
  pub mode : Mode
  pub content : Option (List ℕ)
  pub bytes : ℕ

abbrev pub whole_of : Landing → WholeFile
whole_of landing = record { place = landing.place; mode = landing.mode; content = all_told landing.parts; bytes = landing.bytes }

-- an item as it is to land, with the bytes that the source has from there on
abbrev pub whole_from : Tree → Names → Decision → WholeFile
whole_from s base d = record {
  place = place_of base d;
  mode = landing_mode d.action;
  content = option_map (drop (first_byte d.action)) (bytes_of (s d.item.from));
  bytes = d.item.length - first_byte d.action;
}

-- the items that are written land, in their order, each with the source's bytes
abbrev pub AreLandings : Tree → Decisions → List Landing → Type 0
AreLandings s plan landings = map whole_of landings ≡ map (whole_from s plan.base) (filter is_landing plan.items)

-- ---- the paths that are removed
-- no path is a front of a later one
abbrev pub are_apart : List Names → Bool
are_apart [] = true
are_apart (p ∷ paths) = list_all (λ q. not (is_under p q)) paths && are_apart paths

-- these paths, in order and none under another, are those that go, with all that is under them
pub record AreRemovals (job : Job) (paths : List Names) : Type 0 where
  pub ascending : is_ascending paths ≡ true
  pub apart : are_apart paths ≡ true
  pub inside : list_all (is_under job.base) paths ≡ true
  pub stood : (p : Names) → has_path paths p ≡ true → IsThere job.before p
  pub goes : (rel : Names) → covers paths (job.base ++ rel) ≡ true → Goes job rel
  pub all : (rel : Names) → IsThere job.before (job.base ++ rel) → Goes job rel → covers paths (job.base ++ rel) ≡ true

-- ---- the phases
-- a commit is given what the copy needs of it
pub record IsCommit (s : Tree) (job : Job) (commit : Commit) : Type 0 where
  pub planned : IsPlanOf job commit.plan
  pub lands : AreLandings s commit.plan commit.landings
  pub removes : AreRemovals job commit.paths

-- the trees that the phases leave, one after the other
abbrev pub dirs_made : Job → Commit → Tree
dirs_made job commit = after (make_steps job.target commit.plan) job.before

abbrev pub files_landed : Job → Commit → Tree
files_landed job commit = after (map land_step commit.landings) (dirs_made job commit)

abbrev pub files_set : Job → Commit → Tree
files_set job commit = after (file_steps job.settings.keep commit.plan) (files_landed job commit)

abbrev pub missing_gone : Job → Commit → Tree
missing_gone job commit = after (remove_steps commit.paths) (files_set job commit)

abbrev pub dirs_set : Job → Commit → Tree
dirs_set job commit = after (dir_steps job.settings.keep commit.plan) (missing_gone job commit)
