-- A run from its first look to its answer (Hadoop DistCp, `DistCp.execute`): what it leaves where it commits, why it is refused, and
-- what it leaves where it ends early.
use Rattle.std.specs.Prelude.{◌≡◌, ◌⊎◌, ℕ, ◌+◌, ◌*◌, ◌≤◌, Bool, true, false, not, ⊤, List, [], ◌++◌, length, map, take, Option, Some, IsSomeAnd, Result, Ok, Err, All}
use Rattle.std.specs.List.{filter, sum_by}
use Rattle.std.specs.Option.{option_map_or}
use Rattle.dc_path.specs.Found.{has_path}
use Rattle.dc_path.specs.Order.{is_ascending}
use Rattle.dc_path.specs.Paths.{Names}
use Rattle.dc_attrs.specs.Trees.{Tree, is_dir, seen}
use Rattle.dc_fs.specs.Views.{View}
use Rattle.dc_fs.specs.declared.target.Landed.{Landed}
use Rattle.dc_options.specs.Settings.{Settings}
use Rattle.dc_listing.specs.Entries.{Entry, rel_of}
use Rattle.dc_listing.specs.Listed.{rules_of}
use Rattle.dc_decide.specs.Deciding.{action_of, clashes}
use Rattle.dc_decide.specs.Plans.{Decisions}
use Rattle.dc_pieces.specs.Cutting.{plan_pieces}
use Rattle.dc_pieces.specs.Pieces.{most_pieces}
use Rattle.dc_commit.specs.Landing.{is_written}
use Rattle.dc_crew.specs.Slots.{RoseTogether}
use Rattle.dc_result.specs.Begins.{copies_dir}
use Rattle.dc_result.specs.During.{Making, Landing as AtLanding, SettingFiles, Removing, SettingDirs, Elements, AreElements, Point, partly, progress}
use Rattle.dc_result.specs.Effects.{AreEffects}
use Rattle.dc_result.specs.Jobs.{Job, in_run, listed, old_at}
use Rattle.dc_result.specs.Result.{IsBuilt, IsResult}
use Rattle.dc_plan.specs.Planning.{IsAsked, IsDecidedOn, IsOutByClash, item_of}
use Rattle.dc_engine.specs.Begun.{AreToGo}
use Rattle.dc_engine.specs.Counting.{is_skip}
use Rattle.dc_engine.specs.Settling.{EndsByClash, EndsPlanned, HasWalked, IsPlanned}
use Rattle.dc_engine.specs.Surveys.{Asked, IsSurveyed, LacksListing, before_listing}
use Rattle.dc_engine.specs.Targets.{base_of}
use Rattle.dc_engine.specs.declared.outcome.Counts.{Counts}
use Rattle.dc_engine.specs.declared.outcome.Outcome.{Outcome}
use Rattle.dc_engine.specs.declared.outcome.Outcome.TheVariants as outcome
use Rattle.dc_engine.specs.declared.outcome.Run.{Run}
use Rattle.dc_engine.specs.declared.outcome.Phase.{Phase}
use Rattle.dc_engine.specs.declared.outcome.Phase.TheVariants as phase_of

-- ---- kinds of outcomes
-- all steps are done, but for what the copy goes on without
abbrev pub commits : Outcome → Bool
commits outcome.Committed = true
commits (outcome.CommittedWithout paths) = true
commits (outcome.BadOption error) = false
commits (outcome.NoFile path) = false
commits (outcome.TooBig path) = false
commits (outcome.BadList line) = false
commits (outcome.BadPattern line) = false
commits (outcome.BigPattern line) = false
commits (outcome.BadPlan line) = false
commits (outcome.BadReport line) = false
commits (outcome.NoReport path) = false
commits (outcome.NoSource path) = false
commits (outcome.BadTarget kind) = false
commits (outcome.Duplicate rel first second) = false
commits (outcome.TooMany what) = false
commits (outcome.TooLong parent name) = false
commits (outcome.Clash path) = false
commits (outcome.NotAtBegin path) = false
commits (outcome.StageExists path) = false
commits (outcome.ReportFalse path) = false
commits (outcome.WorkExists path) = false
commits outcome.SourceFault = false
commits (outcome.TargetFault phase done) = false
commits (outcome.CopyFailed path) = false
commits (outcome.Differs path expected found) = false
commits (outcome.Changed path) = false
commits (outcome.Uncertain path) = false
commits outcome.Memory = false
commits outcome.Unbuilt = false

-- the paths that a run says it went on without
abbrev pub without : Outcome → List Names
without outcome.Committed = []
without (outcome.CommittedWithout paths) = paths
without (outcome.BadOption error) = []
without (outcome.NoFile path) = []
without (outcome.TooBig path) = []
without (outcome.BadList line) = []
without (outcome.BadPattern line) = []
without (outcome.BigPattern line) = []
without (outcome.BadPlan line) = []
without (outcome.BadReport line) = []
without (outcome.NoReport path) = []
without (outcome.NoSource path) = []
without (outcome.BadTarget kind) = []
without (outcome.Duplicate rel first second) = []
without (outcome.TooMany what) = []
without (outcome.TooLong parent name) = []
without (outcome.Clash path) = []
without (outcome.NotAtBegin path) = []
without (outcome.StageExists path) = []
without (outcome.ReportFalse path) = []
without (outcome.WorkExists path) = []
without outcome.SourceFault = []
without (outcome.TargetFault phase done) = []
without (outcome.CopyFailed path) = []
without (outcome.Differs path expected found) = []
without (outcome.Changed path) = []
without (outcome.Uncertain path) = []
without outcome.Memory = []
without outcome.Unbuilt = []

-- whether the last move was made is not known
abbrev pub is_unknown : Outcome → Bool
is_unknown outcome.Committed = false
is_unknown (outcome.CommittedWithout paths) = false
is_unknown (outcome.BadOption error) = false
is_unknown (outcome.NoFile path) = false
is_unknown (outcome.TooBig path) = false
is_unknown (outcome.BadList line) = false
is_unknown (outcome.BadPattern line) = false
is_unknown (outcome.BigPattern line) = false
is_unknown (outcome.BadPlan line) = false
is_unknown (outcome.BadReport line) = false
is_unknown (outcome.NoReport path) = false
is_unknown (outcome.NoSource path) = false
is_unknown (outcome.BadTarget kind) = false
is_unknown (outcome.Duplicate rel first second) = false
is_unknown (outcome.TooMany what) = false
is_unknown (outcome.TooLong parent name) = false
is_unknown (outcome.Clash path) = false
is_unknown (outcome.NotAtBegin path) = false
is_unknown (outcome.StageExists path) = false
is_unknown (outcome.ReportFalse path) = false
is_unknown (outcome.WorkExists path) = false
is_unknown outcome.SourceFault = false
is_unknown (outcome.TargetFault phase done) = false
is_unknown (outcome.CopyFailed path) = false
is_unknown (outcome.Differs path expected found) = false
is_unknown (outcome.Changed path) = false
is_unknown (outcome.Uncertain path) = true
is_unknown outcome.Memory = false
is_unknown outcome.Unbuilt = false

-- a fact of the phase in which the target failed, and of how many of its elements were done
abbrev pub IfTargetFault : Outcome → (Phase → ℕ → Type 0) → Type 0
IfTargetFault outcome.Committed P = ⊤
IfTargetFault (outcome.CommittedWithout paths) P = ⊤
IfTargetFault (outcome.BadOption error) P = ⊤
IfTargetFault (outcome.NoFile path) P = ⊤
IfTargetFault (outcome.TooBig path) P = ⊤
IfTargetFault (outcome.BadList line) P = ⊤
IfTargetFault (outcome.BadPattern line) P = ⊤
IfTargetFault (outcome.BigPattern line) P = ⊤
IfTargetFault (outcome.BadPlan line) P = ⊤
IfTargetFault (outcome.BadReport line) P = ⊤
IfTargetFault (outcome.NoReport path) P = ⊤
IfTargetFault (outcome.NoSource path) P = ⊤
IfTargetFault (outcome.BadTarget kind) P = ⊤
IfTargetFault (outcome.Duplicate rel first second) P = ⊤
IfTargetFault (outcome.TooMany what) P = ⊤
IfTargetFault (outcome.TooLong parent name) P = ⊤
IfTargetFault (outcome.Clash path) P = ⊤
IfTargetFault (outcome.NotAtBegin path) P = ⊤
IfTargetFault (outcome.StageExists path) P = ⊤
IfTargetFault (outcome.ReportFalse path) P = ⊤
IfTargetFault (outcome.WorkExists path) P = ⊤
IfTargetFault outcome.SourceFault P = ⊤
IfTargetFault (outcome.TargetFault phase done) P = P phase done
IfTargetFault (outcome.CopyFailed path) P = ⊤
IfTargetFault (outcome.Differs path expected found) P = ⊤
IfTargetFault (outcome.Changed path) P = ⊤
IfTargetFault (outcome.Uncertain path) P = ⊤
IfTargetFault outcome.Memory P = ⊤
IfTargetFault outcome.Unbuilt P = ⊤

-- ---- the copy
-- what the roots list in the source, with what the options ask for, but for what the copy goes on without
abbrev pub copy_of : Settings → Tree → Tree → Asked → (Names → Bool) → Job
copy_of o s t asked out = record {
  settings = o;
  listing = listed (rules_of asked.lines []) s asked.roots;
  out = out;
  before = t;
  target = o.target;
  base = base_of o;
}

-- what is listed there clashes with what the target has at its place
abbrev pub clashes_at : Job → Names → Bool
clashes_at job rel = option_map_or (λ origin. clashes (is_dir origin.node) (seen job.before (job.base ++ rel))) (job.listing rel) false

-- a file is listed there that is not skipped
abbrev pub is_written_at : Job → Names → Bool
is_written_at job rel = option_map_or (λ origin. is_written (action_of job.settings origin.node (old_at job rel))) (job.listing rel) false

-- nothing that comes after a plan of what is listed refuses the copy: the walk for `-delete` comes to its end, and there are not too
-- many pieces
pub record IsAllowed (o : Settings) (s t : Tree) (entries : List Entry) : Type 0 where
  pub plan : Decisions
  pub planned : IsPlanned o (base_of o) entries (Some s) (Some t) plan
  pub walked : HasWalked o (Some t) plan.base
  pub few : length (plan_pieces o.blocks plan) ≤ most_pieces

-- The copy that options and both trees define, where nothing refuses it, over all that is listed, once each and in path order. With `-i` it goes on
-- without what clashes, and maybe without files that are not skipped; else without nothing.
pub record IsCopy (o : Settings) (s t : Tree) (entries : List Entry) (job : Job) : Type 0 where
  pub surveyed : IsSurveyed o s t entries
  pub ascending : is_ascending (map rel_of entries) ≡ true
  pub allowed : IsAllowed o s t entries
  pub job_is : job ≡ copy_of o s t surveyed.asked job.out
  pub asked : o.ignore ≡ false → (rel : Names) → job.out rel ≡ false
  pub clashing : (rel : Names) → clashes_at job rel ≡ true → job.out rel ≡ true
  pub spared : (rel : Names) → job.out rel ≡ true → (clashes_at job rel ≡ true) ⊎ (is_written_at job rel ≡ true)

-- a file is listed there that the copy of options and trees is to write
pub record IsToCopy (o : Settings) (s t : Tree) (path : Names) : Type 0 where
  pub entries : List Entry
  pub job : Job
  pub copy : IsCopy o s t entries job
  pub written : is_written_at job path ≡ true

-- ---- the counters
-- a file is listed there that is copied, and is left as the target has it
abbrev pub is_skipped_at : Job → Names → Bool
is_skipped_at job rel = option_map_or (λ origin. is_skip (action_of job.settings origin.node (old_at job rel))) (in_run job rel) false

abbrev pub skipped_in : Job → List Entry → List Entry
skipped_in job entries = filter (λ entry. is_skipped_at job entry.rel) entries

-- the six counters (Hadoop DistCp, `CopyMapper.Counter`): of what landed, of what is listed, and of what the copy went on without
pub record AreCounts (job : Job) (entries : List Entry) (landed : List Landed) (paths : List Names) (counts : Counts) : Type 0 where
  pub copied : counts.copied ≡ length landed
  pub bytes_copied : counts.bytes_copied ≡ sum_by (λ (one : Landed). one.bytes) landed
  pub dirs : counts.dirs ≡ length (filter (λ (entry : Entry). copies_dir job entry.rel) entries)
  pub skipped : counts.skipped ≡ length (skipped_in job entries)
  pub bytes_skipped : counts.bytes_skipped ≡ sum_by (λ (entry : Entry). entry.length) (skipped_in job entries)
  pub failed : counts.failed ≡ length paths

-- ---- a run that commits
-- of these paths, those at which nothing clashes
abbrev pub unclashed : Job → List Names → List Names
unclashed job paths = filter (λ path. not (clashes_at job path)) paths

-- The copy is made, without these paths, which are told in path order: its result stands, each listed file that is not skipped
-- has landed once and nothing else has, and the counters are exact. For each file besides what clashes that it went on without,
-- forks and desks failed four times. Where neither store ever fails, it went on without exactly what clashes.
pub record HasCopied (o : Settings) (s t : Tree) (paths : List Names) (counts : Counts) (source source_now target target_now : View) : Type 0 where
  pub entries : List Entry
  pub job : Job
  pub copy : IsCopy o s t entries job
  pub ordered : is_ascending paths ≡ true
  pub out : (rel : Names) → job.out rel ≡ has_path paths rel
  pub result : IsResult job target_now.tree
  pub effects : List Landed
  pub defined : AreEffects job effects
  pub landed : target_now.rest.landed ≡ target.rest.landed ++ effects
  pub counted : AreCounts job entries effects paths counts
  pub failures : RoseTogether source.rest source_now.rest target.rest target_now.rest (4 * length (unclashed job paths))
  pub spared : source.steady ≡ true → target.steady ≡ true → (rel : Names) → job.out rel ≡ clashes_at job rel

-- ---- a run that is refused
-- all is listed, in path order, and then an item clashes, or the walk for `-delete` stops, or there are too many pieces
pub record IsRefusedLater (o : Settings) (s t : Tree) (e : Outcome) : Type 0 where
  pub entries : List Entry
  pub surveyed : IsSurveyed o s t entries
  pub ascending : is_ascending (map rel_of entries) ≡ true
  pub ends : EndsByClash o (base_of o) entries (Some t) e ⊎ EndsPlanned o (base_of o) entries (Some s) (Some t) e

-- the first refusal: before the listing, of the listing, or later
abbrev pub IsRefused : Settings → Tree → Tree → Outcome → Type 0
IsRefused o s t e = (before_listing o s t ≡ Err e) ⊎ (LacksListing o s t e ⊎ IsRefusedLater o s t e)

-- ---- a run that ends early
-- at each path the tree is that of this point of the copy
abbrev pub IsAt : Job → Point → Option Tree → Type 0
IsAt job point new = (e : Elements) × AreElements job e × IsSomeAnd new (λ t. (p : Names) → t p ≡ partly job (progress job e point) p)

-- so many of the elements of a phase are done, or one more
abbrev pub ComesTo : Job → (ℕ → Point) → ℕ → Option Tree → Type 0
ComesTo job at done new = IsAt job (at done) new ⊎ IsAt job (at (done + 1)) new

-- the tree that a run may leave in a phase of its commit after so many of its elements (Hadoop DistCp, `CopyCommitter`, for the order
-- of phases)
abbrev pub During : Job → Phase → ℕ → Option Tree → Type 0
During job phase_of.Check done new = ⊥
During job phase_of.Replay done new = ⊥
During job phase_of.Decide done new = ⊥
During job phase_of.Copy done new = ⊥
During job phase_of.Dirs done new = ComesTo job Making done new
During job phase_of.Land done new = IsAt job (AtLanding done) new
During job phase_of.Sweep done new = IsAt job (SettingFiles 0) new
During job phase_of.FileAttrs done new = ComesTo job SettingFiles done new
During job phase_of.Delete done new = ComesTo job Removing done new
During job phase_of.DirAttrs done new = ComesTo job SettingDirs done new
During job phase_of.Move done new = IsBuilt job new

-- what of the effects of the copy has landed then
abbrev pub landed_in : Phase → ℕ → List Landed → List Landed
landed_in phase_of.Check done effects = []
landed_in phase_of.Replay done effects = []
landed_in phase_of.Decide done effects = []
landed_in phase_of.Copy done effects = []
landed_in phase_of.Dirs done effects = []
landed_in phase_of.Land done effects = take done effects
landed_in phase_of.Sweep done effects = effects
landed_in phase_of.FileAttrs done effects = effects
landed_in phase_of.Delete done effects = effects
landed_in phase_of.DirAttrs done effects = effects
landed_in phase_of.Move done effects = effects

-- a commit has begun, and ends in the phase and after as many elements as the outcome tells, where it tells them
pub record HasBegun (o : Settings) (s t : Tree) (e : Outcome) (target target_now : View) : Type 0 where
  pub entries : List Entry
  pub job : Job
  pub copy : IsCopy o s t entries job
  pub phase : Phase
  pub done : ℕ
  pub told : IfTargetFault e (λ named count. (named ≡ phase) × (count ≡ done))
  pub tree : During job phase done target_now.tree
  pub effects : List Landed
  pub defined : AreEffects job effects
  pub landed : target_now.rest.landed ≡ target.rest.landed ++ landed_in phase done effects

-- the target's tree is not changed in the phase
abbrev pub is_look : Phase → Bool
is_look phase_of.Check = true
is_look phase_of.Replay = false
is_look phase_of.Decide = true
is_look phase_of.Copy = true
is_look phase_of.Dirs = false
is_look phase_of.Land = false
is_look phase_of.Sweep = false
is_look phase_of.FileAttrs = false
is_look phase_of.Delete = false
is_look phase_of.DirAttrs = false
is_look phase_of.Move = false

-- nothing has changed at the target and nothing has landed; the target has failed, if at all, where it was only looked at
pub record HasNotBegun (e : Outcome) (target target_now : View) : Type 0 where
  pub tree : target_now.tree ≡ target.tree
  pub landed : target_now.rest.landed ≡ target.rest.landed
  pub told : IfTargetFault e (λ phase done. (is_look phase ≡ true) × (done ≡ 0))

-- a run that neither commits nor is uncertain has not begun, or has come to some point
abbrev pub EndsEarly : Settings → Tree → Tree → Outcome → View → View → Type 0
EndsEarly o s t e target target_now = HasNotBegun e target target_now ⊎ HasBegun o s t e target target_now

-- where the answer of the last move is not known, all is built under the work path or stands at the target, and all has landed
pub record IsBuiltOrMoved (o : Settings) (s t : Tree) (target target_now : View) : Type 0 where
  pub entries : List Entry
  pub job : Job
  pub copy : IsCopy o s t entries job
  pub tree : IsBuilt job target_now.tree ⊎ IsResult job target_now.tree
  pub effects : List Landed
  pub defined : AreEffects job effects
  pub landed : target_now.rest.landed ≡ target.rest.landed ++ effects

-- all at and under the target path is as it was
abbrev pub IsAsBefore : Settings → Tree → View → Type 0
IsAsBefore o t target_now = IsSomeAnd target_now.tree (λ now. (rest : Names) → now (o.target ++ rest) ≡ t (o.target ++ rest))

-- ---- what the parts of a run find together
-- all is settled between these trees: what is listed is decided on, the copy goes on without what clashes, these paths go, and nothing
-- refuses the copy
pub record IsPrepared (o : Settings) (s t : Tree) (entries : List Entry) (plan : Decisions) (paths : List Names) : Type 0 where
  pub surveyed : IsSurveyed o s t entries
  pub ascending : is_ascending (map rel_of entries) ≡ true
  pub under : plan.base ≡ base_of o
  pub items : map item_of plan.items ≡ entries
  pub asked : All (IsAsked o) plan.items
  pub out : All (IsOutByClash t plan.base) plan.items
  pub decides : All (IsDecidedOn o plan.base s t) plan.items
  pub going : AreToGo o t plan paths
  pub walked : HasWalked o (Some t) plan.base
  pub few : length (plan_pieces o.blocks plan) ≤ most_pieces

-- it does not commit: it ends early, or it is not known whether the last move was made; with `-atomic` the target is else as it was
pub record IsStopped (o : Settings) (s t : Tree) (e : Outcome) (target target_now : View) : Type 0 where
  pub early : is_unknown e ≡ false → EndsEarly o s t e target target_now
  pub unknown : is_unknown e ≡ true → IsBuiltOrMoved o s t target target_now
  pub spared : o.atomic ≡ true → is_unknown e ≡ false → IsAsBefore o t target_now

-- it commits, and the copy is made; or it does not
abbrev pub Ends : Settings → Tree → Tree → Result Run Outcome → View → View → View → View → Type 0
Ends o s t (Ok run) source source_now target target_now = (commits run.outcome ≡ true) × HasCopied o s t (without run.outcome) run.counts source source_now target target_now
Ends o s t (Err e) source source_now target target_now = (commits e ≡ false) × IsStopped o s t e target target_now
