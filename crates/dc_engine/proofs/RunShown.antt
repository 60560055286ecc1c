-- What is listed stands in the source, so that no store that tells its tree denies it, and no digests of it differ; and a file that
-- the plan writes is listed.
use Rattle.std.proofs.Common.{◌≡◌, inl, ℕ, Bool, true, false, cond, List, [], ◌∷◌, map, Option, Some, None, IfSome, IsSomeAnd, slice_get, refl, sym, ◌∙◌, ap, subst}
use Rattle.std.proofs.lemmas.List.Elements.{All-nil, All-cons, All-contains, All-head, All-tail}
use Rattle.std.proofs.lemmas.Option.{none-some, same_Some, slice_get-map}
use Rattle.std.specs.List.{All}
use Rattle.std.specs.Option.{is_some, option_map}
use Rattle.dc_path.specs.Found.{found}
use Rattle.dc_path.specs.Order.{is_ascending}
use Rattle.dc_path.specs.Paths.{Names, same_path}
use Rattle.dc_attrs.specs.Trees.{Tree, IsTree}
use Rattle.dc_fs.specs.Views.{BothTrees, View}
use Rattle.dc_options.specs.Settings.{Settings}
use Rattle.dc_listing.specs.Entries.{Entry, entry_of, rel_of}
use Rattle.dc_listing.specs.Listed.{Origin, all_listed, entries_at, entry_at, rules_of}
use Rattle.dc_listing.specs.Walks.{IsShown}
use Rattle.dc_decide.specs.Plans.{Decision, Decisions, item_rel}
use Rattle.dc_plan.specs.Planning.{item_of}
use Rattle.dc_commit.specs.Landing.{is_landing}
use Rattle.dc_commit.specs.declared.steps.StepError.{StepError}
use Rattle.dc_commit.specs.declared.steps.StepError.TheVariants as step_error
use Rattle.dc_result.specs.Commits.{Commit}
use Rattle.dc_result.specs.During.{Making, SettingFiles, Removing, SettingDirs, Point}
use Rattle.dc_result.specs.Jobs.{Job, listed}
use Rattle.dc_result.proofs.Planning.{found_at, listed_shown}
use Rattle.dc_engine.specs.Begun.{job_of}
use Rattle.dc_engine.specs.Committing.{AtFile, AtStep, EndsAt, outcome_of_commit, outcome_of_step}
use Rattle.dc_engine.specs.Copying.{AreShown, IfChanged, IfDiffers, IsKeptOrLeft, IsToWrite, LeavesFiles}
use Rattle.dc_engine.specs.Outcomes.{is_changed}
use Rattle.dc_engine.specs.Running.{IsPrepared, IsToCopy, is_written_at}
use Rattle.dc_engine.specs.Settling.{MayDeny}
use Rattle.dc_engine.specs.Surveys.{IsSurveyed}
use Rattle.dc_engine.specs.declared.committing.AdjustError.TheVariants as adjust_error
use Rattle.dc_engine.specs.declared.committing.BuildError.TheVariants as build_error
use Rattle.dc_engine.specs.declared.committing.CommitError.{CommitError}
use Rattle.dc_engine.specs.declared.committing.CommitError.TheVariants as commit_error
use Rattle.dc_engine.specs.declared.committing.MoveError.TheVariants as move_error
use Rattle.dc_engine.specs.declared.outcome.Outcome.{Outcome}
use Rattle.dc_engine.specs.declared.outcome.Outcome.TheVariants as outcome
use Rattle.dc_engine.specs.declared.outcome.Phase.{Phase}
use Rattle.dc_engine.specs.declared.outcome.Phase.TheVariants as phase_of
use Rattle.dc_engine.proofs.PlanLemmas.{each_found}
use Rattle.dc_engine.proofs.RunLemmas.{copy_is, first_ready, left_written}

-- ---- what is listed
first_at : (entries : List Entry) (rel : Names) → slice_get (entries_at entries rel) 0 ≡ found rel_of entries rel
first_at [] rel = refl
first_at (e ∷ es) rel = by (same_path e.rel rel) (first_at es rel)
  where
    by : (b : Bool) → slice_get (entries_at es rel) 0 ≡ found rel_of es rel → slice_get (cond b (e ∷ entries_at es rel) (entries_at es rel)) 0 ≡ cond b (Some e) (found rel_of es rel)
    by true ih = refl
    by false ih = ih

module _ (o : Settings) (s t : Tree) (entries : List Entry) (survey : IsSurveyed o s t entries) where
  found_is : (rel : Names) → found rel_of entries rel ≡ option_map (entry_at rel) (listed (rules_of survey.asked.lines []) s survey.asked.roots rel)
  found_is rel =
      sym (first_at entries rel)
      ∙ ap (λ (es : List Entry). slice_get es 0) (survey.lists.are rel)
      ∙ slice_get-map (entry_at rel) (all_listed (rules_of survey.asked.lines []) s survey.asked.roots rel) 0

  entry_shown : (rel : Names) (entry : Entry) → found rel_of entries rel ≡ Some entry → IsShown s entry
  entry_shown rel entry e = by (listed (rules_of survey.asked.lines []) s survey.asked.roots rel) refl (sym e ∙ found_is rel)
    where
      by : (x : Option Origin) → listed (rules_of survey.asked.lines []) s survey.asked.roots rel ≡ x → Some entry ≡ option_map (entry_at rel) x → IsShown s entry
      by None h k = absurd (none-some entry (sym k))
      by (Some origin) h k =
          let same = same_Some entry (entry_at rel origin) k in
          record {
            node = origin.node;
            stands = ap (λ (x : Entry). s x.from) same ∙ listed_shown (rules_of survey.asked.lines []) s survey.asked.roots rel origin h;
            is = same ∙ sym (ap (λ (x : Entry). entry_of x.rel x.from origin.node) same);
          }

  pub entries_shown : is_ascending (map rel_of entries) ≡ true → All (IsShown s) entries
  entries_shown ascending = each_found (IsShown s) rel_of entries ascending entry_shown

shown_items : (s : Tree) (ds : List Decision) → All (IsShown s) (map item_of ds) → AreShown s ds
shown_items s [] a = All-nil (λ (d : Decision). IsShown s d.item)
shown_items s (d ∷ ds) a = All-cons (λ (x : Decision). IsShown s x.item) d ds (All-head (IsShown s) d.item (map item_of ds) a) (shown_items s ds (All-tail (IsShown s) d.item (map item_of ds) a))

pub items_shown : (o : Settings) (s t : Tree) (entries : List Entry) (plan : Decisions) (paths : List Names) → IsPrepared o s t entries plan paths → AreShown s plan.items
items_shown o s t entries plan paths p = shown_items s plan.items (subst (All (IsShown s)) (sym p.items) (entries_shown o s t entries p.surveyed p.ascending))

-- ---- outcomes
-- no store denies what it showed, and no digests differ
abbrev pub TellsTrue : Outcome → Type 0
TellsTrue e = (is_changed e ≡ false) × IfDiffers e (λ path expected found. ⊥)

step_true : (job : Job) (commit : Commit) (at : ℕ → Point) (new : Option Tree) (e : StepError) (phase : Phase) → AtStep job commit at new e → TellsTrue (outcome_of_step e phase)
step_true job commit at new (step_error.Fault k) phase h = (refl, tt)
step_true job commit at new (step_error.Memory k) phase h = (refl, tt)
step_true job commit at new (step_error.Changed path) phase h = absurd h

land_true : (job : Job) (commit : Commit) (old new : View) (e : StepError) → AtFile job commit old new e → TellsTrue (outcome_of_step e phase_of.Land)
land_true job commit old new (step_error.Fault k) h = (refl, tt)
land_true job commit old new (step_error.Memory k) h = (refl, tt)
land_true job commit old new (step_error.Changed path) h = absurd h

-- of a commit
pub none_denied : (job : Job) (commit : Commit) (old new : View) (e : CommitError) → EndsAt job commit old new e → TellsTrue (outcome_of_commit e)
none_denied job commit old new (commit_error.Build (build_error.Dirs e)) h = step_true job commit Making new.tree e phase_of.Dirs h.0
none_denied job commit old new (commit_error.Build (build_error.Land e)) h = land_true job commit old new e h
none_denied job commit old new (commit_error.Build build_error.Sweep) h = (refl, tt)
none_denied job commit old new (commit_error.Adjust (adjust_error.FileAttrs e)) h = step_true job commit SettingFiles new.tree e phase_of.FileAttrs h.0
none_denied job commit old new (commit_error.Adjust (adjust_error.Delete e)) h = step_true job commit Removing new.tree e phase_of.Delete h.0
none_denied job commit old new (commit_error.Adjust (adjust_error.DirAttrs e)) h = step_true job commit SettingDirs new.tree e phase_of.DirAttrs h.0
none_denied job commit old new (commit_error.Move move_error.NotMoved) h = (refl, tt)
none_denied job commit old new (commit_error.Move (move_error.Uncertain path)) h = (refl, tt)
none_denied job commit old new (commit_error.Move (move_error.Changed path)) h = absurd h.0
none_denied job commit old new (commit_error.Move move_error.Memory) h = (refl, tt)

-- of a copy in which nothing is ready
unchanged : (e : Outcome) (F : Type 0) → IfChanged e (λ path. F) → (F → ⊥) → is_changed e ≡ false
unchanged (outcome.Changed path) F h denies = absurd (denies h)
unchanged e F h denies = refl

no_differ : (e : Outcome) → IfDiffers e (λ path expected found. true ≡ false) → IfDiffers e (λ path expected found. ⊥)
no_differ (outcome.Differs path expected found) h = absurd (cc)
no_differ e h = tt

pub copy_sure : (source target : Option Tree) (o : Settings) (plan : Decisions) (paths : List Names) (e : Outcome) → IfDiffers e (λ path expected found. is_some target ≡ false)
    → IfChanged e (λ path. IfSome source (λ s. IsTree s → AreShown s plan.items → ⊥))
    → BothTrees source target (λ s t. (entries : List Entry) → IsPrepared o s t entries plan paths → TellsTrue e)
copy_sure None target o plan paths e differ changed = tt
copy_sure (Some s) None o plan paths e differ changed = λ v. tt
copy_sure (Some s) (Some t) o plan paths e differ changed = λ v w entries p. (
  unchanged e (IsTree s → AreShown s plan.items → ⊥) changed (λ denied. denied v (items_shown o s t entries plan paths p)),
  no_differ e differ,
)

-- of a settling
pub settle_sure : (source target : Option Tree) (o : Settings) (entries : List Entry) → is_ascending (map rel_of entries) ≡ true → BothTrees source target (λ s t. IsSurveyed o s t entries) → MayDeny entries source target
    → BothTrees source target (λ s t. ⊥)
settle_sure None target o entries ascending survey may = tt
settle_sure (Some s) None o entries ascending survey may = λ v. tt
settle_sure (Some s) (Some t) o entries ascending survey may = λ v w. may v w (entries_shown o s t entries (survey v w) ascending)

-- ---- a file that the plan writes
left_none : (plan : Decisions) → LeavesFiles plan plan
left_none plan = record { base = refl; len = refl; each = λ n d e. subst (λ (x : Option Decision). IsSomeAnd x (IsKeptOrLeft d)) (sym e) (inl refl) }

-- is listed, and is to be copied
pub to_write_is : (o : Settings) (s t : Tree) (entries : List Entry) (plan : Decisions) (paths : List Names) → IsPrepared o s t entries plan paths → IsTree s → IsTree t → (path : Names) → IsToWrite plan path → IsToCopy o s t path
to_write_is o s t entries plan paths p source target path w =
    let left = left_none plan in
    let job = job_of o s t p.surveyed.asked plan in
    let all = each_found (λ d. is_landing d ≡ true → is_written_at job d.item.rel ≡ true) item_rel plan.items (first_ready o s t entries plan plan paths p source target left).planned.ascending
    (λ rel d e l. ap (is_written_at job) (found_at item_rel plan.items rel d e) ∙ left_written o s t entries plan plan paths p source target left rel d e l) in
    record {
      entries = entries;
      job = job;
      copy = copy_is o s t entries plan plan paths p source target left (λ off. refl);
      written = ap (is_written_at job) w.named ∙ All-contains (λ d. is_landing d ≡ true → is_written_at job d.item.rel ≡ true) plan.items w.decision all w.listed w.written;
    }
