-- At each point of a commit the tree is as far as the elements tell that are done.
use Rattle.std.proofs.Common.{◌≡◌, if◌then◌else◌, ℕ, ◌-◌, List, [], ◌∷◌, ◌++◌, Bool, true, false, cond, not, ◌&&◌, ◌||◌, Option, Some, None, map, filter, reverse, take, drop, length, is_some, refl, sym, ◌∙◌, ap}
use Rattle.std.proofs.lemmas.Bool.{or_right}
use Rattle.std.proofs.lemmas.List.{take-map}
use Rattle.std.proofs.lemmas.List.Folds.{list_any-append}
use Rattle.std.specs.Option.{option_and_then, option_map, option_map_or}
use Rattle.dc_path.specs.Found.{found, has_path}
use Rattle.dc_path.specs.Order.{is_ascending}
use Rattle.dc_path.specs.Paths.{Names, at_cut, cut, front_of, is_above, is_root, same_path}
use Rattle.dc_path.proofs.FoundLemmas.{kept}
use Rattle.dc_path.proofs.PathLemmas.{cut-append}
use Rattle.dc_attrs.specs.Attributes.{Attributes}
use Rattle.dc_attrs.specs.Trees.{Node, Dir, File, Tree, bytes_of, is_dir, made, seen_node}
use Rattle.dc_fs.specs.declared.target.Landed.{Landed}
use Rattle.dc_options.specs.Settings.{Settings}
use Rattle.dc_listing.specs.Listed.{Origin}
use Rattle.dc_decide.specs.Deciding.{action_of, action_over, clashes, decided}
use Rattle.dc_decide.specs.Plans.{Decision}
use Rattle.dc_decide.specs.declared.action.Action.{Action}
use Rattle.dc_decide.specs.declared.action.Action.TheVariants as action
use Rattle.dc_fs.specs.declared.target.Mode.TheVariants as mode_of
use Rattle.dc_commit.specs.Landing.{Landing, is_landing, is_written, landed_as, landing_mode}
use Rattle.dc_commit.specs.Making.{make_step, ways}
use Rattle.dc_commit.specs.Removals.{remove_step}
use Rattle.dc_commit.specs.Settings.{is_dir_item, is_file_item, place_of, set_step}
use Rattle.dc_commit.specs.Steps.{Step, after}
use Rattle.dc_result.specs.Commits.{IsCommit, dirs_made, files_landed, files_set, missing_gone}
use Rattle.dc_missing.specs.Missing.{covers}
use Rattle.dc_result.specs.During.{AreElements, Elements, Making, Landing as AtLanding, SettingFiles, Removing, SettingDirs, Point, copied_at, copies_file, dirs_of, file_at, landed_node, landed_of, partly, progress, tree_at}
use Rattle.dc_result.specs.Effects.{effect_at, effect_of, effect_on, effects, first_byte}
use Rattle.dc_result.specs.Jobs.{Job, IsJob, in_run, old_at}
use Rattle.dc_result.specs.Result.{copied}
use Rattle.dc_result.proofs.Allowed.{written_file}
use Rattle.dc_result.proofs.Beginning.{Placed, dir_is, file_place, placed, action_is}
use Rattle.dc_result.proofs.Building.{at_listed, commit_of, dirs_at, file_step, found_in, gone_at, landed_at, landing, lands_are, setting}
use Rattle.dc_result.proofs.Built.{listed_stays, run_listed, unclashed_node}
use Rattle.dc_result.proofs.Effecting.{effects_are}
use Rattle.dc_result.proofs.Folds.{applied, back_at, found_off, has_found, makes_at, part_ascends, removes_at, steps_at}
use Rattle.dc_result.proofs.Parts.{drop_ascends, drop_found, has_reverse, last_ones, take_ascends, take_found}
use Rattle.dc_result.proofs.Places.{base_places, dir_places, makes_are, places_are, root_file}

-- ---- one item, over what the target had
-- a file as it lands
lands_as : (s : Tree) (from : Names) (b d : List ℕ) (a c : Attributes) (act : Action) → s from ≡ Some (File b a) → is_written act ≡ true
    → landed_as (landing_mode act) (option_map (drop (first_byte act)) (bytes_of (s from))) (Some (File d c)) ≡ landed_node (File b a) (Some (File d c)) act
lands_as s from b d a c action.Folder e h = absurd (cc)
lands_as s from b d a c action.Skip e h = absurd (cc)
lands_as s from b d a c action.Replace e h = ap (λ (n : Option Node). landed_as mode_of.Replace (option_map (drop 0) (bytes_of n)) (Some (File d c))) e
lands_as s from b d a c (action.Extend n) e h = ap (λ (o : Option Node). landed_as mode_of.Extend (option_map (drop n) (bytes_of o)) (Some (File d c))) e

pub lands_node : (o : Settings) (s : Tree) (from : Names) (n : Node) (old : Option Node) → s from ≡ Some n → clashes (is_dir n) (seen_node old) ≡ false → is_written (action_of o n old) ≡ true
    → landed_as (landing_mode (action_of o n old)) (option_map (drop (first_byte (action_of o n old))) (bytes_of (s from))) old ≡ landed_node n old (action_of o n old)
lands_node o s from (Dir a) old e k h = absurd (cc)
lands_node o s from (File b a) None e k h = ap (λ (n : Option Node). landed_as mode_of.Replace (option_map (drop 0) (bytes_of n)) None) e
lands_node o s from (File b a) (Some (Dir c)) e k h = let f : true ≡ false = k in absurd (cc)
lands_node o s from (File b a) (Some (File d c)) e k h = lands_as s from b d a c (action_over o b a d c) e h

-- a file once its attributes are set
pub sets_file : (o : Settings) (s : Tree) (r w : Names) (n : Node) (old : Option Node) → s w ≡ Some n → is_dir n ≡ false → clashes (is_dir n) (seen_node old) ≡ false
    → setting o.keep (decided o r (record { from = w; node = n }) old) (applied (landing s) (kept (λ d. is_written d.action) (Some (decided o r (record { from = w; node = n }) old))) old) ≡ Some (copied o n old)
sets_file o s r w (Dir a) old e h k = absurd (cc)
sets_file o s r w (File b a) old e h k = at_listed o s r w (File b a) old false e k

-- a directory once its attributes are set
pub sets_dir : (o : Settings) (s : Tree) (r w : Names) (n : Node) (old : Option Node) → s w ≡ Some n → is_dir n ≡ true → clashes (is_dir n) (seen_node old) ≡ false
    → setting o.keep (decided o r (record { from = w; node = n }) old) (made old) ≡ Some (copied o n old)
sets_dir o s r w (Dir a) old e h k = at_listed o s r w (Dir a) old true e k
sets_dir o s r w (File b a) old e h k = absurd (cc)

-- ---- the elements of a commit
abbrev pub elements_of : Job → List Decision → List Names → Elements
elements_of job items paths = record {
  folders = map (place_of job.base) (filter is_dir_item items);
  files = map (place_of job.base) (filter is_file_item items);
  effects = effects (record { base = job.base; items = items });
  removals = paths;
}

effect_places : (base : Names) (ds : List Decision) → map (λ (one : Landed). one.path) (map (effect_of base) ds) ≡ map (place_of base) ds
effect_places base [] = refl
effect_places base (d ∷ ds) = ap (λ (ps : List Names). place_of base d ∷ ps) (effect_places base ds)

kept_kind : (job : Job) (rel : Names) (test : Bool → Bool) (o : Option Origin) → is_some (kept (λ d. test d.item.dir) (option_map (λ z. decided job.settings rel z (old_at job rel)) o)) ≡ option_map_or (λ origin. test (is_dir origin.node)) o false
kept_kind job rel test None = refl
kept_kind job rel test (Some z) = node rel z.from z.node (old_at job rel)
  where
    either : (b : Bool) (d : Decision) → is_some (cond b (Some d) None) ≡ b
    either true d = refl
    either false d = refl

    node : (rel from : Names) (n : Node) (old : Option Node) → is_some (kept (λ d. test d.item.dir) (Some (decided job.settings rel (record { from = from; node = n }) old))) ≡ test (is_dir n)
    node rel from (Dir a) old = either (test true) (decided job.settings rel (record { from = from; node = Dir a }) old)
    node rel from (File b a) old = either (test false) (decided job.settings rel (record { from = from; node = File b a }) old)

module _ (s : Tree) (job : Job) (items : List Decision) (landings : List Landing) (paths : List Names) (is : IsJob s job) (c : IsCommit s job (commit_of job items landings paths)) where
  -- ---- what the elements are
  part_places : (test : Bool → Bool) (p : Names) → has_path (map (place_of job.base) (filter (λ d. not d.out && test d.item.dir) items)) p
      ≡ at_cut (cut job.base p) false (λ rel. option_map_or (λ origin. test (is_dir origin.node)) (in_run job rel) false)
  part_places test p = has_found (place_of job.base) (filter (λ d. not d.out && test d.item.dir) items) p ∙ by (cut job.base p) refl
    where
      by : (o : Option Names) → cut job.base p ≡ o → is_some (found (place_of job.base) (filter (λ d. not d.out && test d.item.dir) items) p)
          ≡ at_cut o false (λ rel. option_map_or (λ origin. test (is_dir origin.node)) (in_run job rel) false)
      by None e = ap is_some (found_off job.base (filter (λ d. not d.out && test d.item.dir) items) p e)
      by (Some r) e =
          ap is_some (found_in (λ d. test d.item.dir) job.base items p r c.planned.ascending e ∙ ap (kept (λ d. test d.item.dir)) (c.planned.decisions r))
          ∙ kept_kind job r test (in_run job r)

  pub elements_are : AreElements job (elements_of job items paths)
  elements_are = record {
    folders_ascend = part_ascends job.base is_dir_item items c.planned.ascending;
    folders = part_places (λ b. b);
    files_ascend = part_ascends job.base is_file_item items c.planned.ascending;
    files = part_places (λ b. not b);
    effects = effects_are job (record { base = job.base; items = items }) c.planned;
    removals = c.removes;
  }

  dirs_are : dirs_of job (elements_of job items paths) ≡ dir_places job.target job.base items
  dirs_are = ap (λ b. ways (front_of job.target) ++ (cond b [] (job.base ∷ []) ++ map (place_of job.base) (filter is_dir_item items))) (sym (root_file job (record { base = job.base; items = items }) c.planned))

  lands_at : landed_of (elements_of job items paths) ≡ map (place_of job.base) (filter is_landing items)
  lands_at = effect_places job.base (filter is_landing items)

  -- ---- directories
  making : (k : ℕ) (q : Names) → tree_at job (commit_of job items landings paths) (Making k) q ≡ partly job (progress job (elements_of job items paths) (Making k)) q
  making k q =
      ap (λ (steps : List Step). after steps job.before q) (ap (take k) (makes_are job.target job.base items) ∙ take-map make_step k (dir_places job.target job.base items))
      ∙ makes_at (take k (dir_places job.target job.base items)) job.before q
      ∙ ap (λ (ps : List Names). cond (has_path (take k ps) q) (made (job.before q)) (job.before q)) (sym dirs_are)

  dirs_partly : (q : Names) → dirs_made job (commit_of job items landings paths) q ≡ cond (has_path (dirs_of job (elements_of job items paths)) q) (made (job.before q)) (job.before q)
  dirs_partly q = dirs_at s job items landings paths c.planned.ascending c.lands q ∙ ap (λ (ps : List Names). cond (has_path ps q) (made (job.before q)) (job.before q)) (sym dirs_are)

  -- ---- files that land
  at_base : {X : Type 0} (p rel : Names) (other : X) (f : Names → X) → p ≡ job.base ++ rel → f rel ≡ at_cut (cut job.base p) other f
  at_base p rel other f e = sym (ap (λ o. at_cut o other f) (ap (cut job.base) e ∙ cut-append job.base rel))

  file_dirs : (rel : Names) (origin : Origin) → in_run job rel ≡ Some origin → is_dir origin.node ≡ false → dirs_made job (commit_of job items landings paths) (job.base ++ rel) ≡ old_at job rel
  file_dirs rel origin run h =
      dirs_at s job items landings paths c.planned.ascending c.lands (job.base ++ rel)
      ∙ ap (λ b. cond b (made (old_at job rel)) (old_at job rel)) (file_place s job items is c.planned rel origin run h)

  -- one that has landed
  lands_here : (q : Names) (d : Decision) → found (place_of job.base) (filter is_landing items) q ≡ Some d → landing s d (dirs_made job (commit_of job items landings paths) q) ≡ at_cut (cut job.base q) None (file_at job)
  lands_here q d h =
      let k = placed s job items is c.planned (λ d. is_written d.action) q d h in
      let z = k.0.origin in
      let rel = k.0.rel in
      let written = ap is_written (sym (action_is job q d k.0)) ∙ k.1 in
      ap (λ (e : Decision). landing s e (dirs_made job (commit_of job items landings paths) q)) k.0.decision
      ∙ ap (landing s (decided job.settings rel z (old_at job rel))) (ap (dirs_made job (commit_of job items landings paths)) k.0.path ∙ file_dirs rel z k.0.run (written_file job.settings z.node (old_at job rel) written))
      ∙ lands_node job.settings s z.from z.node (old_at job rel) (is.shown rel z (run_listed job rel z k.0.run)) (unclashed_node s job rel z is k.0.run) written
      ∙ ap (λ o. option_and_then (λ (origin : Origin). landed_node origin.node (old_at job rel) (action_of job.settings origin.node (old_at job rel))) o) (sym k.0.run)
      ∙ at_base q rel None (file_at job) k.0.path

  -- some of them
  landing_part : (part : List Decision) (q : Names) → is_ascending (map (place_of job.base) part) ≡ true → ((d : Decision) → found (place_of job.base) part q ≡ Some d → found (place_of job.base) (filter is_landing items) q ≡ Some d)
      → after (map (file_step s job.base) part) (dirs_made job (commit_of job items landings paths)) q
      ≡ cond (has_path (map (place_of job.base) part) q) (at_cut (cut job.base q) None (file_at job)) (cond (has_path (dirs_of job (elements_of job items paths)) q) (made (job.before q)) (job.before q))
  landing_part part q a whole =
      steps_at (place_of job.base) (file_step s job.base) (landing s) (λ d t. refl) part (dirs_made job (commit_of job items landings paths)) q a
      ∙ by (found (place_of job.base) part q) whole
      ∙ ap (λ b. cond b (at_cut (cut job.base q) None (file_at job)) (cond (has_path (dirs_of job (elements_of job items paths)) q) (made (job.before q)) (job.before q))) (sym (has_found (place_of job.base) part q))
    where
      by : (o : Option Decision) → ((d : Decision) → o ≡ Some d → found (place_of job.base) (filter is_landing items) q ≡ Some d) → applied (landing s) o (dirs_made job (commit_of job items landings paths) q)
          ≡ cond (is_some o) (at_cut (cut job.base q) None (file_at job)) (cond (has_path (dirs_of job (elements_of job items paths)) q) (made (job.before q)) (job.before q))
      by None h = dirs_partly q
      by (Some d) h = lands_here q d (h d refl)

  landing_some : (k : ℕ) (q : Names) → tree_at job (commit_of job items landings paths) (AtLanding k) q ≡ partly job (progress job (elements_of job items paths) (AtLanding k)) q
  landing_some k q =
      ap (λ (steps : List Step). after steps (dirs_made job (commit_of job items landings paths)) q)
      (ap (take k) (lands_are s job.base items landings c.lands) ∙ take-map (file_step s job.base) k (filter is_landing items))
      ∙ landing_part (take k (filter is_landing items)) q (take_ascends (place_of job.base) k (filter is_landing items) (part_ascends job.base is_landing items c.planned.ascending))
      (λ d h. take_found (place_of job.base) k (filter is_landing items) q d h)
      ∙ ap (λ (ps : List Names). cond (has_path ps q) (at_cut (cut job.base q) None (file_at job)) (cond (has_path (dirs_of job (elements_of job items paths)) q) (made (job.before q)) (job.before q)))
      (sym (ap (take k) lands_at ∙ take-map (place_of job.base) k (filter is_landing items)))

  landed_all : (q : Names) → files_landed job (commit_of job items landings paths) q
      ≡ cond (has_path (landed_of (elements_of job items paths)) q) (at_cut (cut job.base q) None (file_at job)) (cond (has_path (dirs_of job (elements_of job items paths)) q) (made (job.before q)) (job.before q))
  landed_all q =
      ap (λ (steps : List Step). after steps (dirs_made job (commit_of job items landings paths)) q) (lands_are s job.base items landings c.lands)
      ∙ landing_part (filter is_landing items) q (part_ascends job.base is_landing items c.planned.ascending) (λ d h. h)
      ∙ ap (λ (ps : List Names). cond (has_path ps q) (at_cut (cut job.base q) None (file_at job)) (cond (has_path (dirs_of job (elements_of job items paths)) q) (made (job.before q)) (job.before q))) (sym lands_at)

  -- ---- attributes of files
  sets_here : (q : Names) (d : Decision) → found (place_of job.base) (filter is_file_item items) q ≡ Some d → setting job.settings.keep d (files_landed job (commit_of job items landings paths) q) ≡ at_cut (cut job.base q) None (copied_at job)
  sets_here q d h =
      let k = placed s job items is c.planned (λ d. not d.item.dir) q d h in
      let z = k.0.origin in
      let rel = k.0.rel in
      let file : is_dir z.node ≡ false = sym (dir_is job q d k.0) ∙ file_item d.item.dir k.1 in
      ap (λ (e : Decision). setting job.settings.keep e (files_landed job (commit_of job items landings paths) q)) k.0.decision
      ∙ ap (setting job.settings.keep (decided job.settings rel z (old_at job rel)))
      (ap (files_landed job (commit_of job items landings paths)) k.0.path
      ∙ landed_at s job items landings paths c.planned.ascending c.lands (job.base ++ rel)
      ∙ ap (λ o. applied (landing s) o (dirs_made job (commit_of job items landings paths) (job.base ++ rel)))
      (found_in (λ d. is_written d.action) job.base items (job.base ++ rel) rel c.planned.ascending (cut-append job.base rel)
      ∙ ap (kept (λ d. is_written d.action)) (c.planned.decisions rel ∙ ap (option_map (λ z. decided job.settings rel z (old_at job rel))) k.0.run))
      ∙ ap (applied (landing s) (kept (λ d. is_written d.action) (Some (decided job.settings rel z (old_at job rel))))) (file_dirs rel z k.0.run file))
      ∙ sets_file job.settings s rel z.from z.node (old_at job rel) (is.shown rel z (run_listed job rel z k.0.run)) file (unclashed_node s job rel z is k.0.run)
      ∙ ap (option_map (λ (origin : Origin). copied job.settings origin.node (old_at job rel))) (sym k.0.run)
      ∙ at_base q rel None (copied_at job) k.0.path
    where
      file_item : (b : Bool) → not b ≡ true → b ≡ false
      file_item true e = absurd (cc)
      file_item false e = refl

  -- some of them
  setting_part : (part : List Decision) (q : Names) → is_ascending (map (place_of job.base) part) ≡ true → ((d : Decision) → found (place_of job.base) part q ≡ Some d → found (place_of job.base) (filter is_file_item items) q ≡ Some d)
      → after (map (set_step job.settings.keep job.base) part) (files_landed job (commit_of job items landings paths)) q
      ≡ cond (has_path (map (place_of job.base) part) q) (at_cut (cut job.base q) None (copied_at job)) (partly job (record { made_at = dirs_of job (elements_of job items paths); landed_at = landed_of (elements_of job items paths); set_at = []; removed = [] }) q)
  setting_part part q a whole =
      steps_at (place_of job.base) (set_step job.settings.keep job.base) (setting job.settings.keep) (λ d t. refl) part (files_landed job (commit_of job items landings paths)) q a
      ∙ by (found (place_of job.base) part q) whole
      ∙ ap (λ b. cond b (at_cut (cut job.base q) None (copied_at job)) (partly job (record { made_at = dirs_of job (elements_of job items paths); landed_at = landed_of (elements_of job items paths); set_at = []; removed = [] }) q)) (sym (has_found (place_of job.base) part q))
    where
      by : (o : Option Decision) → ((d : Decision) → o ≡ Some d → found (place_of job.base) (filter is_file_item items) q ≡ Some d) → applied (setting job.settings.keep) o (files_landed job (commit_of job items landings paths) q)
          ≡ cond (is_some o) (at_cut (cut job.base q) None (copied_at job)) (partly job (record { made_at = dirs_of job (elements_of job items paths); landed_at = landed_of (elements_of job items paths); set_at = []; removed = [] }) q)
      by None h = landed_all q
      by (Some d) h = sets_here q d (h d refl)

  setting_some : (k : ℕ) (q : Names) → tree_at job (commit_of job items landings paths) (SettingFiles k) q ≡ partly job (progress job (elements_of job items paths) (SettingFiles k)) q
  setting_some k q =
      ap (λ (steps : List Step). after steps (files_landed job (commit_of job items landings paths)) q) (take-map (set_step job.settings.keep job.base) k (filter is_file_item items))
      ∙ setting_part (take k (filter is_file_item items)) q (take_ascends (place_of job.base) k (filter is_file_item items) (part_ascends job.base is_file_item items c.planned.ascending))
      (λ d h. take_found (place_of job.base) k (filter is_file_item items) q d h)
      ∙ ap (λ (ps : List Names). partly job (record { made_at = dirs_of job (elements_of job items paths); landed_at = landed_of (elements_of job items paths); set_at = ps; removed = [] }) q) (sym (take-map (place_of job.base) k (filter is_file_item items)))

  set_all : (q : Names) → files_set job (commit_of job items landings paths) q ≡ partly job (record { made_at = dirs_of job (elements_of job items paths); landed_at = landed_of (elements_of job items paths); set_at = map (place_of job.base) (filter is_file_item items); removed = [] }) q
  set_all q = setting_part (filter is_file_item items) q (part_ascends job.base is_file_item items c.planned.ascending) (λ d h. h)

  -- ---- paths that are removed
  removing : (k : ℕ) (q : Names) → tree_at job (commit_of job items landings paths) (Removing k) q ≡ partly job (progress job (elements_of job items paths) (Removing k)) q
  removing k q =
      ap (λ (steps : List Step). after steps (files_set job (commit_of job items landings paths)) q) (take-map remove_step k paths)
      ∙ removes_at (take k paths) (files_set job (commit_of job items landings paths)) q
      ∙ ap (cond (covers (take k paths) q) None) (set_all q)

  gone_all : (q : Names) → missing_gone job (commit_of job items landings paths) q ≡ partly job (record { made_at = dirs_of job (elements_of job items paths); landed_at = landed_of (elements_of job items paths); set_at = map (place_of job.base) (filter is_file_item items); removed = paths }) q
  gone_all q = gone_at s job items landings paths c.planned.ascending c.lands q ∙ ap (cond (covers paths q) None) (set_all q)

  -- ---- attributes of directories
  -- where a directory is listed, no file is, and one was made
  no_file : (q rel : Names) (origin : Origin) → q ≡ job.base ++ rel → in_run job rel ≡ Some origin → is_dir origin.node ≡ true → has_path (map (place_of job.base) (filter is_file_item items)) q ≡ false
  no_file q rel origin e run h = part_places (λ b. not b) q ∙ sym (at_base q rel false (copies_file job) e) ∙ ap (λ o. option_map_or (λ (z : Origin). not (is_dir z.node)) o false) run ∙ ap not h

  no_effect : (p : Names) (n : Node) (act : Action) → is_dir n ≡ true → effect_on p n act ≡ None
  no_effect p (Dir a) act h = refl
  no_effect p (File b a) act h = absurd (cc)

  none_landed : (q rel : Names) (origin : Origin) → q ≡ job.base ++ rel → in_run job rel ≡ Some origin → is_dir origin.node ≡ true → has_path (landed_of (elements_of job items paths)) q ≡ false
  none_landed q rel origin e run h =
      has_found (λ (one : Landed). one.path) (effects (record { base = job.base; items = items })) q
      ∙ ap is_some (elements_are.effects.each q ∙ sym (at_base q rel None (effect_at job) e)
      ∙ ap (option_and_then (λ (z : Origin). effect_on (job.base ++ rel) z.node (action_of job.settings z.node (old_at job rel)))) run
      ∙ no_effect (job.base ++ rel) origin.node (action_of job.settings origin.node (old_at job rel)) h)

  one_made : (q : Names) (d : Decision) → found (place_of job.base) (filter is_dir_item items) q ≡ Some d → has_path (dirs_of job (elements_of job items paths)) q ≡ true
  one_made q d h = ap (λ (ps : List Names). has_path ps q) dirs_are ∙ places_are job.target job.base items q
      ∙ or_right (not (is_root q) && is_above q job.target) _ (or_right (has_path (base_places job.base items) q) _ (ap is_some h))

  folder_stays : (q : Names) (d : Decision) (k : Placed job q d) → covers paths q ≡ false
  folder_stays q d k = ap (covers paths) k.path ∙ listed_stays job paths k.rel k.origin c.removes (run_listed job k.rel k.origin k.run)

  -- the place of a listed directory, before its attributes are set
  folder_before : (q : Names) (d : Decision) → found (place_of job.base) (filter is_dir_item items) q ≡ Some d → missing_gone job (commit_of job items landings paths) q ≡ made (job.before q)
  folder_before q d h =
      let k = placed s job items is c.planned (λ d. d.item.dir) q d h in
      let dir : is_dir k.0.origin.node ≡ true = sym (dir_is job q d k.0) ∙ k.1 in
      gone_all q
      ∙ ap (λ b. if b then None else partly job (record { made_at = dirs_of job (elements_of job items paths); landed_at = landed_of (elements_of job items paths); set_at = map (place_of job.base) (filter is_file_item items); removed = [] }) q)
      (folder_stays q d k.0)
      ∙ ap (λ b. if b then at_cut (cut job.base q) None (copied_at job) else partly job (record { made_at = dirs_of job (elements_of job items paths); landed_at = landed_of (elements_of job items paths); set_at = []; removed = [] }) q)
      (no_file q k.0.rel k.0.origin k.0.path k.0.run dir)
      ∙ ap (λ b. if b then at_cut (cut job.base q) None (file_at job) else partly job (record { made_at = dirs_of job (elements_of job items paths); landed_at = []; set_at = []; removed = [] }) q)
      (none_landed q k.0.rel k.0.origin k.0.path k.0.run dir)
      ∙ ap (λ b. if b then made (job.before q) else job.before q) (one_made q d h)

  sets_folder : (q : Names) (d : Decision) → found (place_of job.base) (filter is_dir_item items) q ≡ Some d → setting job.settings.keep d (missing_gone job (commit_of job items landings paths) q) ≡ at_cut (cut job.base q) None (copied_at job)
  sets_folder q d h =
      let k = placed s job items is c.planned (λ d. d.item.dir) q d h in
      let z = k.0.origin in
      let rel = k.0.rel in
      ap (setting job.settings.keep d) (folder_before q d h ∙ ap (λ (p : Names). made (job.before p)) k.0.path)
      ∙ ap (λ (e : Decision). setting job.settings.keep e (made (old_at job rel))) k.0.decision
      ∙ sets_dir job.settings s rel z.from z.node (old_at job rel) (is.shown rel z (run_listed job rel z k.0.run)) (sym (dir_is job q d k.0) ∙ k.1) (unclashed_node s job rel z is k.0.run)
      ∙ ap (option_map (λ (origin : Origin). copied job.settings origin.node (old_at job rel))) (sym k.0.run)
      ∙ at_base q rel None (copied_at job) k.0.path

  folders_part : (part : List Decision) (set : List Names) (q : Names) → is_ascending (map (place_of job.base) part) ≡ true → ((d : Decision) → found (place_of job.base) part q ≡ Some d → found (place_of job.base) (filter is_dir_item items) q ≡ Some d)
      → has_path set q ≡ has_path (map (place_of job.base) part) q
      → after (reverse (map (set_step job.settings.keep job.base) part)) (missing_gone job (commit_of job items landings paths)) q
      ≡ partly job (record { made_at = dirs_of job (elements_of job items paths); landed_at = landed_of (elements_of job items paths); set_at = set ++ map (place_of job.base) (filter is_file_item items); removed = paths }) q
  folders_part part set q a whole same =
      back_at (place_of job.base) (set_step job.settings.keep job.base) (setting job.settings.keep) (λ d t. refl) part (missing_gone job (commit_of job items landings paths)) q a
      ∙ by (found (place_of job.base) part q) whole
      ∙ ap (λ b. if covers paths q then None else if b then at_cut (cut job.base q) None (copied_at job) else partly job (record { made_at = dirs_of job (elements_of job items paths); landed_at = landed_of (elements_of job items paths); set_at = []; removed = [] }) q)
      (sym (list_any-append (λ p. same_path p q) set (map (place_of job.base) (filter is_file_item items)) ∙ ap (λ b. b || has_path (map (place_of job.base) (filter is_file_item items)) q) (same ∙ has_found (place_of job.base) part q)))
    where
      by : (o : Option Decision) → ((d : Decision) → o ≡ Some d → found (place_of job.base) (filter is_dir_item items) q ≡ Some d) → applied (setting job.settings.keep) o (missing_gone job (commit_of job items landings paths) q)
          ≡ (if covers paths q then None else if is_some o || has_path (map (place_of job.base) (filter is_file_item items)) q then at_cut (cut job.base q) None (copied_at job) else partly job (record { made_at = dirs_of job (elements_of job items paths); landed_at = landed_of (elements_of job items paths); set_at = []; removed = [] }) q)
      by None h = gone_all q
      by (Some d) h =
          sets_folder q d (h d refl)
          ∙ ap (λ b. if b then None else at_cut (cut job.base q) None (copied_at job)) (sym (folder_stays q d (placed s job items is c.planned (λ d. d.item.dir) q d (h d refl)).0))

  setting_dirs : (k : ℕ) (q : Names) → tree_at job (commit_of job items landings paths) (SettingDirs k) q ≡ partly job (progress job (elements_of job items paths) (SettingDirs k)) q
  setting_dirs k q =
      ap (λ (steps : List Step). after steps (missing_gone job (commit_of job items landings paths)) q) (last_ones (set_step job.settings.keep job.base) (filter is_dir_item items) k)
      ∙ folders_part (drop (length (filter is_dir_item items) - k) (filter is_dir_item items)) (take k (reverse (map (place_of job.base) (filter is_dir_item items)))) q
      (drop_ascends (place_of job.base) (length (filter is_dir_item items) - k) (filter is_dir_item items) (part_ascends job.base is_dir_item items c.planned.ascending))
      (λ d h. drop_found (place_of job.base) (length (filter is_dir_item items) - k) (filter is_dir_item items) q d (part_ascends job.base is_dir_item items c.planned.ascending) h)
      (ap (λ (ps : List Names). has_path ps q) (last_ones (place_of job.base) (filter is_dir_item items) k) ∙ has_reverse (map (place_of job.base) (drop (length (filter is_dir_item items) - k) (filter is_dir_item items))) q)

  -- ---- at each point
  pub trees_at : (point : Point) (q : Names) → tree_at job (commit_of job items landings paths) point q ≡ partly job (progress job (elements_of job items paths) point) q
  trees_at (Making k) q = making k q
  trees_at (AtLanding k) q = landing_some k q
  trees_at (SettingFiles k) q = setting_some k q
  trees_at (Removing k) q = removing k q
  trees_at (SettingDirs k) q = setting_dirs k q
