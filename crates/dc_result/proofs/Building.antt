-- The phases of a commit, one after the other, build what the copy defines.
use Rattle.std.proofs.Common.{◌≡◌, ℕ, List, [], ◌∷◌, Bool, true, false, cond, not, ◌&&◌, ◌||◌, Option, Some, None, map, filter, drop, is_some, refl, ◌∙◌, ap}
use Rattle.std.specs.Option.{is_none, option_map}
use Rattle.dc_path.specs.Found.{found, has_path}
use Rattle.dc_path.specs.Order.{is_ascending}
use Rattle.dc_path.specs.Paths.{Names, cut}
use Rattle.dc_path.proofs.FoundLemmas.{kept}
use Rattle.dc_attrs.specs.Attributes.{Attributes, default_file}
use Rattle.dc_attrs.specs.Keeping.{Kept, overlay}
use Rattle.dc_attrs.specs.Trees.{Node, Dir, File, Tree, bytes_of, is_dir, made, seen_node, updated, with_attrs}
use Rattle.dc_fs.specs.Answers.{refused_land}
use Rattle.dc_options.specs.Settings.{Settings}
use Rattle.dc_listing.specs.Listed.{Origin}
use Rattle.dc_decide.specs.Deciding.{action_over, clashes, decided}
use Rattle.dc_decide.specs.Plans.{Decision, item_rel}
use Rattle.dc_decide.specs.declared.action.Action.{Action}
use Rattle.dc_decide.specs.declared.action.Action.TheVariants as action
use Rattle.dc_commit.specs.Landing.{Landing, is_landing, is_written, land_step, landed_as, landing_mode}
use Rattle.dc_commit.specs.Settings.{attrs_under, final_attrs, is_dir_item, is_file_item, place_of, set_step}
use Rattle.dc_commit.specs.Steps.{Step, after}
use Rattle.dc_result.specs.Commits.{Commit, AreLandings, WholeFile, dirs_made, dirs_set, files_landed, files_set, is_in, missing_gone, whole_from, whole_of}
use Rattle.dc_missing.specs.Missing.{covers}
use Rattle.dc_result.specs.Effects.{first_byte}
use Rattle.dc_result.specs.Jobs.{Job}
use Rattle.dc_result.specs.Result.{attrs_after, bytes_after, copied, result_on}
use Rattle.dc_result.proofs.Folds.{applied, back_at, found_part, found_place, makes_at, part_ascends, removes_at, steps_at}
use Rattle.dc_result.proofs.Places.{dir_places, makes_are}

-- ---- the phases as changes at the places of items
-- the source's bytes land
abbrev pub landing : Tree → Decision → Option Node → Option Node
landing s d = landed_as (landing_mode d.action) (option_map (drop (first_byte d.action)) (bytes_of (s d.item.from)))

-- attributes are set
abbrev pub setting : Kept → Decision → Option Node → Option Node
setting keep d = with_attrs (final_attrs keep d)

-- an item lands
abbrev pub file_step : Tree → Names → Decision → Step
file_step s base d = record {
  place = place_of base d;
  may = λ t. is_none (refused_land (landing_mode d.action) t (place_of base d));
  change = λ t. updated t (place_of base d) (landing s d);
}

abbrev whole_step : WholeFile → Step
whole_step file = record {
  place = file.place;
  may = λ t. is_none (refused_land file.mode t file.place);
  change = λ t. updated t file.place (landed_as file.mode file.content);
}

each_whole : (landings : List Landing) → map land_step landings ≡ map whole_step (map whole_of landings)
each_whole [] = refl
each_whole (landing ∷ landings) = ap (λ (steps : List Step). land_step landing ∷ steps) (each_whole landings)

each_file : (s : Tree) (base : Names) (ds : List Decision) → map whole_step (map (whole_from s base) ds) ≡ map (file_step s base) ds
each_file s base [] = refl
each_file s base (d ∷ ds) = ap (λ (steps : List Step). file_step s base d ∷ steps) (each_file s base ds)

-- the files that land are the plan's, each with the source's bytes
pub lands_are : (s : Tree) (base : Names) (items : List Decision) (landings : List Landing) → AreLandings s (record { base = base; items = items }) landings → map land_step landings ≡ map (file_step s base) (filter is_landing items)
lands_are s base items landings are = each_whole landings ∙ ap (map whole_step) are ∙ each_file s base (filter is_landing items)

-- ---- the phases at one path
-- what a commit is given, of a plan under the base with these items
abbrev pub commit_of : Job → List Decision → List Landing → List Names → Commit
commit_of job items landings paths = record { plan = record { base = job.base; items = items }; landings = landings; paths = paths }

module _ (s : Tree) (job : Job) (items : List Decision) (landings : List Landing) (paths : List Names) (a : is_ascending (map item_rel items) ≡ true) (lands : AreLandings s (record { base = job.base; items = items }) landings) (q : Names) where
  pub dirs_at : dirs_made job (commit_of job items landings paths) q ≡ cond (has_path (dir_places job.target job.base items) q) (made (job.before q)) (job.before q)
  dirs_at = ap (λ (steps : List Step). after steps job.before q) (makes_are job.target job.base items) ∙ makes_at (dir_places job.target job.base items) job.before q

  pub landed_at : files_landed job (commit_of job items landings paths) q ≡ applied (landing s) (found (place_of job.base) (filter is_landing items) q) (dirs_made job (commit_of job items landings paths) q)
  landed_at =
      ap (λ (steps : List Step). after steps (dirs_made job (commit_of job items landings paths)) q) (lands_are s job.base items landings lands)
      ∙ steps_at (place_of job.base) (file_step s job.base) (landing s) (λ d t. refl) (filter is_landing items) (dirs_made job (commit_of job items landings paths)) q (part_ascends job.base is_landing items a)

  pub set_at : files_set job (commit_of job items landings paths) q ≡ applied (setting job.settings.keep) (found (place_of job.base) (filter is_file_item items) q) (files_landed job (commit_of job items landings paths) q)
  set_at = steps_at (place_of job.base) (set_step job.settings.keep job.base) (setting job.settings.keep) (λ d t. refl) (filter is_file_item items) (files_landed job (commit_of job items landings paths)) q (part_ascends job.base is_file_item items a)

  pub gone_at : missing_gone job (commit_of job items landings paths) q ≡ cond (covers paths q) None (files_set job (commit_of job items landings paths) q)
  gone_at = removes_at paths (files_set job (commit_of job items landings paths)) q

  pub done_at : dirs_set job (commit_of job items landings paths) q ≡ applied (setting job.settings.keep) (found (place_of job.base) (filter is_dir_item items) q) (missing_gone job (commit_of job items landings paths) q)
  done_at = back_at (place_of job.base) (set_step job.settings.keep job.base) (setting job.settings.keep) (λ d t. refl) (filter is_dir_item items) (missing_gone job (commit_of job items landings paths)) q (part_ascends job.base is_dir_item items a)

  -- all of them, one after the other
  pub phases_at : dirs_set job (commit_of job items landings paths) q ≡
      applied (setting job.settings.keep) (found (place_of job.base) (filter is_dir_item items) q)
      (cond (covers paths q) None
      (applied (setting job.settings.keep) (found (place_of job.base) (filter is_file_item items) q)
      (applied (landing s) (found (place_of job.base) (filter is_landing items) q)
      (cond (has_path (dir_places job.target job.base items) q) (made (job.before q)) (job.before q)))))
  phases_at =
      done_at
      ∙ ap (applied (setting job.settings.keep) (found (place_of job.base) (filter is_dir_item items) q))
      (gone_at
      ∙ ap (cond (covers paths q) None)
      (set_at
      ∙ ap (applied (setting job.settings.keep) (found (place_of job.base) (filter is_file_item items) q))
      (landed_at
      ∙ ap (applied (landing s) (found (place_of job.base) (filter is_landing items) q)) dirs_at)))

-- ---- at a path under the base
-- what all phases make there of an item that the copy goes on with
abbrev pub phases_on : Kept → Tree → Bool → Bool → Option Decision → Option Node → Option Node
phases_on keep s base gone item old =
    applied (setting keep) (kept (λ d. d.item.dir) item)
    (cond gone None
    (applied (setting keep) (kept (λ d. not d.item.dir) item)
    (applied (landing s) (kept (λ d. is_written d.action) item)
    (cond (base || is_some (kept (λ d. d.item.dir) item)) (made old) old))))

pub found_in : (test : Decision → Bool) (base : Names) (items : List Decision) (q r : Names) → is_ascending (map item_rel items) ≡ true → cut base q ≡ Some r → found (place_of base) (filter (λ d. not d.out && test d) items) q ≡ kept test (found item_rel (filter is_in items) r)
found_in test base items q r a e = found_place base (filter (λ d. not d.out && test d) items) q r e ∙ found_part test items r a

-- a file over a file, by what was decided
by_action : (keep : Kept) (b : List ℕ) (a c : Attributes) (d : List ℕ) (act : Action)
    → with_attrs (overlay keep a (attrs_under act (Some c))) (cond (is_written act) (landed_as (landing_mode act) (Some (drop (first_byte act) b)) (Some (File d c))) (Some (File d c)))
    ≡ Some (File (bytes_after act b d) (attrs_after keep act a (Some (File d c))))
by_action keep b a c d action.Folder = refl
by_action keep b a c d action.Skip = refl
by_action keep b a c d action.Replace = refl
by_action keep b a c d (action.Extend n) = refl

pub if_written : (s : Tree) (d : Decision) (w : Bool) (old : Option Node) → applied (landing s) (cond w (Some d) None) old ≡ cond w (landing s d old) old
if_written s d true old = refl
if_written s d false old = refl

file_over : (o : Settings) (s : Tree) (r w : Names) (b d : List ℕ) (a c : Attributes) → s w ≡ Some (File b a)
    → with_attrs (final_attrs o.keep (decided o r (record { from = w; node = File b a }) (Some (File d c))))
    (applied (landing s) (cond (is_written (action_over o b a d c)) (Some (decided o r (record { from = w; node = File b a }) (Some (File d c)))) None) (Some (File d c)))
    ≡ Some (copied o (File b a) (Some (File d c)))
file_over o s r w b d a c f =
    ap (with_attrs (final_attrs o.keep (decided o r (record { from = w; node = File b a }) (Some (File d c)))))
    (if_written s (decided o r (record { from = w; node = File b a }) (Some (File d c))) (is_written (action_over o b a d c)) (Some (File d c))
    ∙ ap (λ (n : Option Node). cond (is_written (action_over o b a d c)) (landed_as (landing_mode (action_over o b a d c)) (option_map (drop (first_byte (action_over o b a d c))) (bytes_of n)) (Some (File d c))) (Some (File d c))) f)
    ∙ by_action o.keep b a c d (action_over o b a d c)

pub at_listed : (o : Settings) (s : Tree) (r w : Names) (n : Node) (old : Option Node) (base : Bool) → s w ≡ Some n → clashes (is_dir n) (seen_node old) ≡ false
    → phases_on o.keep s base false (Some (decided o r (record { from = w; node = n }) old)) old ≡ Some (copied o n old)
at_listed o s r w (Dir a) None true f k = refl
at_listed o s r w (Dir a) None false f k = refl
at_listed o s r w (Dir a) (Some (Dir c)) true f k = refl
at_listed o s r w (Dir a) (Some (Dir c)) false f k = refl
at_listed o s r w (Dir a) (Some (File d c)) base f k = let no : true ≡ false = k in cc
at_listed o s r w (File b a) None base f k =
    ap (λ (n : Option Node). with_attrs (overlay o.keep a default_file) (landed_as (landing_mode action.Replace) (option_map (drop 0) (bytes_of n)) (cond (base || false) (made None) None))) f
at_listed o s r w (File b a) (Some (Dir c)) base f k = let no : true ≡ false = k in cc
at_listed o s r w (File b a) (Some (File d c)) true f k = file_over o s r w b d a c f
at_listed o s r w (File b a) (Some (File d c)) false f k = file_over o s r w b d a c f

at_unlisted : (o : Settings) (s : Tree) (old : Option Node) (base gone : Bool) → (base ≡ true → gone ≡ false) → phases_on o.keep s base gone None old ≡ result_on o None base gone old
at_unlisted o s old true true h = let e : true ≡ false = h refl in cc
at_unlisted o s old true false h = refl
at_unlisted o s old false true h = refl
at_unlisted o s old false false h = refl

-- the phases make the result at a path under the base
pub at_path : (o : Settings) (s : Tree) (r : Names) (origin : Option Origin) (old : Option Node) (base gone : Bool)
    → ((z : Origin) → origin ≡ Some z → (s z.from ≡ Some z.node) × (clashes (is_dir z.node) (seen_node old) ≡ false) × (gone ≡ false)) → (base ≡ true → gone ≡ false)
    → phases_on o.keep s base gone (option_map (λ z. decided o r z old) origin) old ≡ result_on o origin base gone old
at_path o s r None old base gone h k = at_unlisted o s old base gone k
at_path o s r (Some z) old base gone h k = ap (λ b. phases_on o.keep s base b (Some (decided o r z old)) old) (h z refl).2 ∙ at_listed o s r z.from z.node old base (h z refl).0 (h z refl).1
