-- No tree refuses a step of a commit: each phase on the tree that those before it leave.
use Rattle.std.proofs.Common.{◌≡◌, ◌⊎◌, inl, inr, ⊎_elim, ℕ, List, [], ◌∷◌, ◌++◌, Bool, true, false, cond, not, ◌&&◌, ◌||◌, Option, Some, None, map, filter, drop, is_some, refl, sym, ◌∙◌, ap, subst, append-nil}
use Rattle.std.proofs.lemmas.Bool.{or_right}
use Rattle.std.specs.Cmp.{first_so, second_so}
use Rattle.std.specs.List.{list_all}
use Rattle.std.specs.Option.{is_none, option_map, option_or}
use Rattle.dc_path.specs.Found.{found, has_path}
use Rattle.dc_path.specs.Paths.{Names, cut, front_of, is_above, is_root, is_under, same_path}
use Rattle.dc_path.proofs.FoundLemmas.{kept}
use Rattle.dc_path.proofs.PathLemmas.{append-cut, cut-append, same_path-true, some_rest}
use Rattle.dc_attrs.specs.Refusals.{refused_at, refused_root}
use Rattle.dc_attrs.specs.Trees.{Node, Dir, File, Tree, IsTree, bytes_of, is_dir, is_dir_node, made, seen, seen_node, without}
use Rattle.dc_attrs.proofs.TreeChanges.{clear_valid}
use Rattle.dc_attrs.proofs.TreeLemmas.{seen_from-there}
use Rattle.dc_fs.specs.declared.target.Mode.{Mode}
use Rattle.dc_fs.specs.declared.target.Mode.TheVariants as mode_of
use Rattle.dc_options.specs.Settings.{Settings}
use Rattle.dc_listing.specs.Listed.{Origin}
use Rattle.dc_decide.specs.Deciding.{action_of, action_over, clashes, decided}
use Rattle.dc_decide.specs.Plans.{Decision}
use Rattle.dc_decide.specs.declared.action.Action.{Action}
use Rattle.dc_commit.specs.Landing.{Landing, is_landing, is_written, land_step, landed_as, landing_mode}
use Rattle.dc_commit.specs.Making.{make_steps, ways}
use Rattle.dc_commit.specs.Removals.{remove_steps}
use Rattle.dc_commit.specs.Settings.{dir_steps, file_steps, is_dir_item, is_file_item, is_kind, place_of}
use Rattle.dc_commit.specs.Steps.{Step, after, allows}
use Rattle.dc_result.specs.Begins.{Begins}
use Rattle.dc_result.specs.Commits.{IsCommit, dirs_made, dirs_set, files_landed, files_set, missing_gone}
use Rattle.dc_missing.specs.Missing.{covers}
use Rattle.dc_missing.proofs.UnderLemmas.{all_of}
use Rattle.dc_result.specs.Effects.{first_byte}
use Rattle.dc_result.specs.Jobs.{Job, IsJob, in_run, old_at}
use Rattle.dc_result.proofs.Beginning.{action_is, dir_is, file_place, front_had, place_is, placed, early}
use Rattle.dc_result.proofs.Building.{commit_of, dirs_at, file_step, found_in, gone_at, if_written, landed_at, landing, lands_are}
use Rattle.dc_result.proofs.Built.{listed_stays, run_listed, unclashed_node}
use Rattle.dc_result.proofs.Effecting.{all_found}
use Rattle.dc_result.proofs.Folds.{applied, part_ascends}
use Rattle.dc_result.proofs.KindLemmas.{dir_shown, is_file_node, made_dir, made_here, same_tree}
use Rattle.dc_result.proofs.Landing.{CanLand, Lands, all_land, each_lands, landed_file}
use Rattle.dc_result.proofs.Making.{Makes, passes}
use Rattle.dc_result.proofs.Places.{base_places, dir_places, makes_are, places_are, way_at}
use Rattle.dc_result.proofs.Setting.{backs_allowed, backs_same, is_shown_at, may_remove, not_so, removes_allowed, sets_allowed, sets_same}
use Rattle.dc_result.proofs.Beginning.{makes_all, places_free}

-- ---- an item that lands
pub written_file : (o : Settings) (n : Node) (old : Option Node) → is_written (action_of o n old) ≡ true → is_dir n ≡ false
written_file o (Dir a) old h = absurd (cc)
written_file o (File b a) old h = refl

no_dir : (n : Node) (o : Option Node) → is_dir n ≡ false → clashes (is_dir n) (seen_node o) ≡ false → is_dir_node o ≡ false
no_dir (Dir a) o h k = absurd (cc)
no_dir (File b a) None h k = refl
no_dir (File b a) (Some (Dir c)) h k = let f : true ≡ false = k in absurd (cc)
no_dir (File b a) (Some (File d c)) h k = refl

-- bytes are added only where a file stands
extends_file : (o : Settings) (n : Node) (old : Option Node) → is_dir n ≡ false → landing_mode (action_of o n old) ≡ mode_of.Extend → is_file_node old ≡ true
extends_file o (Dir a) old h e = absurd (cc)
extends_file o (File b a) None h e = absurd (cc)
extends_file o (File b a) (Some (Dir c)) h e = absurd (cc)
extends_file o (File b a) (Some (File d c)) h e = refl

-- a file is there once it has landed, or stays
over_file : (s : Tree) (from : Names) (b d : List ℕ) (act : Action) (o : Option Node) → is_file_node o ≡ true → is_file_node (cond (is_written act) (landed_as (landing_mode act) (option_map (drop (first_byte act)) (bytes_of (s from))) o) o) ≡ true
over_file s from b d act o h = by (is_written act)
  where
    by : (w : Bool) → is_file_node (cond w (landed_as (landing_mode act) (option_map (drop (first_byte act)) (bytes_of (s from))) o) o) ≡ true
    by true = landed_file (landing_mode act) (option_map (drop (first_byte act)) (bytes_of (s from))) o h
    by false = h

lands_file : (o : Settings) (s : Tree) (from : Names) (n : Node) (old : Option Node) → is_dir n ≡ false → clashes (is_dir n) (seen_node old) ≡ false → s from ≡ Some n
    → is_file_node (cond (is_written (action_of o n old)) (landed_as (landing_mode (action_of o n old)) (option_map (drop (first_byte (action_of o n old))) (bytes_of (s from))) old) old) ≡ true
lands_file o s from (Dir a) old h k e = absurd (cc)
lands_file o s from (File b a) None h k e = ap (λ (n : Option Node). is_file_node (landed_as mode_of.Replace (option_map (drop 0) (bytes_of n)) None)) e
lands_file o s from (File b a) (Some (Dir c)) h k e = let f : true ≡ false = k in absurd (cc)
lands_file o s from (File b a) (Some (File d c)) h k e = over_file s from b d (action_over o b a d c) (Some (File d c)) refl

file_kind : (t : Tree) (p : Names) (o : Option Node) → IsTree t → t p ≡ o → is_file_node o ≡ true → is_kind false (seen t p) ≡ true
file_kind t p None v e h = absurd (cc)
file_kind t p (Some (Dir a)) v e h = absurd (cc)
file_kind t p (Some (File b a)) v e h = ap (is_kind false) (seen_from-there t [] p (File b a) v e)

same_dir : (o u : Option Node) → seen_node u ≡ seen_node o → is_dir_node o ≡ true → is_dir_node u ≡ true
same_dir None u e h = absurd (cc)
same_dir (Some (Dir a)) None e h = absurd (cc)
same_dir (Some (Dir a)) (Some (Dir c)) e h = refl
same_dir (Some (Dir a)) (Some (File b c)) e h = absurd (cc)
same_dir (Some (File b a)) u e h = absurd (cc)

-- ---- a path that is removed
-- a path of the list is covered
pub covers_own : (ps : List Names) (q : Names) → has_path ps q ≡ true → covers ps q ≡ true
covers_own [] q h = absurd (cc)
covers_own (p ∷ ps) q h = by (same_path p q) refl (covers_own ps q) h
  where
    itself : same_path p q ≡ true → is_under p q ≡ true
    itself e = ap (λ (r : Names). is_some (cut p r)) (sym (same_path-true p q e)) ∙ ap (λ (r : Names). is_some (cut p r)) (sym (append-nil p)) ∙ ap is_some (cut-append p [])

    by : (b : Bool) → same_path p q ≡ b → (has_path ps q ≡ true → covers ps q ≡ true) → (b || has_path ps q) ≡ true → (is_under p q || covers ps q) ≡ true
    by true e ih k = ap (λ c. c || covers ps q) (itself e)
    by false e ih k = or_right (is_under p q) (covers ps q) (ih k)

made_some : (b : Bool) (o : Option Node) → is_some o ≡ true → is_some (cond b (made o) o) ≡ true
made_some true None h = refl
made_some true (Some n) h = refl
made_some false o h = h

landed_some : (mode : Mode) (bytes : Option (List ℕ)) (o : Option Node) → is_some o ≡ true → is_some (landed_as mode bytes o) ≡ true
landed_some mode None o h = h
landed_some mode_of.Replace (Some b) o h = refl
landed_some mode_of.Extend (Some b) None h = h
landed_some mode_of.Extend (Some b) (Some (Dir a)) h = refl
landed_some mode_of.Extend (Some b) (Some (File d a)) h = refl

applied_some : (s : Tree) (item : Option Decision) (o : Option Node) → is_some o ≡ true → is_some (applied (landing s) item o) ≡ true
applied_some s None o h = h
applied_some s (Some d) o h = landed_some (landing_mode d.action) (option_map (drop (first_byte d.action)) (bytes_of (s d.item.from))) o h

same_some : (o u : Option Node) → seen_node u ≡ seen_node o → is_some o ≡ true → is_some u ≡ true
same_some None u e h = absurd (cc)
same_some (Some (Dir a)) None e h = absurd (cc)
same_some (Some (File b a)) None e h = absurd (cc)
same_some (Some m) (Some n) e h = refl

root_off : (p : Names) → is_root p ≡ false → cut p [] ≡ None
root_off [] h = absurd (cc)
root_off (x ∷ p) h = refl

root_allows : (p : Names) → is_root p ≡ false → refused_root p ≡ None
root_allows [] h = absurd (cc)
root_allows (x ∷ p) h = refl

pub shown_allows : (t : Tree) (p : Names) (o : Option Node) → IsTree t → t p ≡ o → is_some o ≡ true → refused_at (seen t p) ≡ None
shown_allows t p None v e h = absurd (cc)
shown_allows t p (Some (Dir a)) v e h = ap refused_at (seen_from-there t [] p (Dir a) v e)
shown_allows t p (Some (File b a)) v e h = ap refused_at (seen_from-there t [] p (File b a) v e)

pub below_root : (base rel : Names) → is_root rel ≡ false → is_root (base ++ rel) ≡ false
below_root [] rel h = h
below_root (x ∷ base) rel h = refl

removed_tree : (ps : List Names) (t : Tree) → IsTree t → list_all (λ p. not (is_root p)) ps ≡ true → IsTree (after (remove_steps ps) t)
removed_tree [] t v a = v
removed_tree (p ∷ ps) t v a = removed_tree ps (without t p) (clear_valid t p v (root_off p (not_so (is_root p) (first_so _ _ a)))) (second_so _ _ a)

-- ---- the phases of a commit
module _ (s : Tree) (job : Job) (items : List Decision) (landings : List Landing) (paths : List Names) (is : IsJob s job) (c : IsCommit s job (commit_of job items landings paths)) (begins : Begins job) where
  makes : Makes (dir_places job.target job.base items) job.before
  makes = makes_all s job items is c.planned begins

  pub dirs_allowed : allows (make_steps job.target (record { base = job.base; items = items })) job.before ≡ true
  dirs_allowed = ap (λ (steps : List Step). allows steps job.before) (makes_are job.target job.base items) ∙ makes.allowed

  dirs_tree : IsTree (dirs_made job (commit_of job items landings paths))
  dirs_tree = subst (λ (steps : List Step). IsTree (after steps job.before)) (sym (makes_are job.target job.base items)) makes.tree

  -- ---- directories
  had_dir : (rel : Names) (origin : Origin) → in_run job rel ≡ Some origin → (q : Names) → (has_path (dir_places job.target job.base items) q ≡ true) ⊎ (is_dir_node (job.before q) ≡ true) → is_dir_node (dirs_made job (commit_of job items landings paths) q) ≡ true
  had_dir rel origin run q h =
      ap is_dir_node (dirs_at s job items landings paths c.planned.ascending c.lands q)
      ∙ ⊎_elim
      (λ e. ap (λ b. is_dir_node (cond b (made (job.before q)) (job.before q))) e ∙ made_here (job.before q) (places_free s job items is c.planned begins rel origin run q e))
      (λ e. made_dir (has_path (dir_places job.target job.base items) q) (job.before q) e) h

  had_early : (q : Names) → early job items q ≡ true → (has_path (dir_places job.target job.base items) q ≡ true) ⊎ (is_dir_node (job.before q) ≡ true)
  had_early q h = split (has_path (base_places job.base items) q) (has_path (ways (front_of job.target)) q) (is_dir_node (job.before q)) (is_some (found (place_of job.base) (filter is_dir_item items) q)) h
      (places_are job.target job.base items q ∙ ap (λ b. b || (has_path (base_places job.base items) q || is_some (found (place_of job.base) (filter is_dir_item items) q))) (sym (way_at job.target q)))
    where
      split : (b w d f : Bool) → (b || (w || d)) ≡ true → has_path (dir_places job.target job.base items) q ≡ (w || (b || f)) → (has_path (dir_places job.target job.base items) q ≡ true) ⊎ (d ≡ true)
      split true true d f e k = inl k
      split true false d f e k = inl k
      split false true d f e k = inl k
      split false false d f e k = inr e

  folder_had : (q : Names) → is_some (found (place_of job.base) (filter is_dir_item items) q) ≡ true → has_path (dir_places job.target job.base items) q ≡ true
  folder_had q h = places_are job.target job.base items q
      ∙ or_right (not (is_root q) && is_above q job.target) _ (or_right (has_path (base_places job.base items) q) _ h)

  front_dir : (rel : Names) (origin : Origin) → in_run job rel ≡ Some origin → is_dir_node (dirs_made job (commit_of job items landings paths) (front_of (job.base ++ rel))) ≡ true
  front_dir rel origin run = ⊎_elim
      (λ e. had_dir rel origin run (front_of (job.base ++ rel)) (had_early (front_of (job.base ++ rel)) e))
      (λ e. had_dir rel origin run (front_of (job.base ++ rel)) (inl (folder_had (front_of (job.base ++ rel)) e)))
      (front_had s job items is c.planned begins rel origin run)

  -- where a file is copied all is as before
  dirs_same : (rel : Names) (origin : Origin) → in_run job rel ≡ Some origin → is_dir origin.node ≡ false → dirs_made job (commit_of job items landings paths) (job.base ++ rel) ≡ old_at job rel
  dirs_same rel origin run h =
      dirs_at s job items landings paths c.planned.ascending c.lands (job.base ++ rel)
      ∙ ap (λ b. cond b (made (old_at job rel)) (old_at job rel)) (file_place s job items is c.planned rel origin run h)

  -- ---- files that land
  can_land : (p : Names) (d : Decision) → found (place_of job.base) (filter is_landing items) p ≡ Some d → CanLand (landing_mode d.action) (dirs_made job (commit_of job items landings paths)) (place_of job.base d)
  can_land p d h =
      let k = placed s job items is c.planned (λ d. is_written d.action) p d h in
      let z = k.0.origin in
      let file = written_file job.settings z.node (old_at job k.0.rel) (ap is_written (sym (action_is job p d k.0)) ∙ k.1) in
      let same = dirs_same k.0.rel z k.0.run file in
      subst (CanLand (landing_mode d.action) (dirs_made job (commit_of job items landings paths))) (sym (place_is job p d k.0 ∙ k.0.path)) (record {
        free = ap is_dir_node same ∙ no_dir z.node (old_at job k.0.rel) file (unclashed_node s job k.0.rel z is k.0.run);
        front = front_dir k.0.rel z k.0.run;
        more = λ e. ap is_file_node same ∙ extends_file job.settings z.node (old_at job k.0.rel) file (ap landing_mode (sym (action_is job p d k.0)) ∙ e);
      })

  lands : Lands s job.base (filter is_landing items) (dirs_made job (commit_of job items landings paths))
  lands = all_land s job.base (filter is_landing items) (dirs_made job (commit_of job items landings paths)) dirs_tree
      (each_lands job.base (dirs_made job (commit_of job items landings paths)) (filter is_landing items) (part_ascends job.base is_landing items c.planned.ascending) can_land)

  pub landings_allowed : allows (map land_step landings) (dirs_made job (commit_of job items landings paths)) ≡ true
  landings_allowed = ap (λ (steps : List Step). allows steps (dirs_made job (commit_of job items landings paths))) (lands_are s job.base items landings c.lands) ∙ lands.allowed

  files_are : after (map (file_step s job.base) (filter is_landing items)) (dirs_made job (commit_of job items landings paths)) ≡ files_landed job (commit_of job items landings paths)
  files_are = ap (λ (steps : List Step). after steps (dirs_made job (commit_of job items landings paths))) (sym (lands_are s job.base items landings c.lands))

  landed_tree : IsTree (files_landed job (commit_of job items landings paths))
  landed_tree = subst IsTree files_are lands.tree

  landed_dir : (q : Names) → is_dir_node (dirs_made job (commit_of job items landings paths) q) ≡ true → is_dir_node (files_landed job (commit_of job items landings paths) q) ≡ true
  landed_dir q h = ap (λ (t : Tree). is_dir_node (t q)) (sym files_are) ∙ lands.dirs q h

  -- ---- attributes of files
  file_here : (rel : Names) (origin : Origin) → in_run job rel ≡ Some origin → is_dir origin.node ≡ false → is_file_node (files_landed job (commit_of job items landings paths) (job.base ++ rel)) ≡ true
  file_here rel origin run h =
      ap is_file_node
      (landed_at s job items landings paths c.planned.ascending c.lands (job.base ++ rel)
      ∙ ap (λ o. applied (landing s) o (dirs_made job (commit_of job items landings paths) (job.base ++ rel)))
      (found_in (λ d. is_written d.action) job.base items (job.base ++ rel) rel c.planned.ascending (cut-append job.base rel)
      ∙ ap (kept (λ d. is_written d.action)) (c.planned.decisions rel ∙ ap (option_map (λ z. decided job.settings rel z (old_at job rel))) run))
      ∙ if_written s (decided job.settings rel origin (old_at job rel)) (is_written (action_of job.settings origin.node (old_at job rel))) (dirs_made job (commit_of job items landings paths) (job.base ++ rel))
      ∙ ap (λ o. cond (is_written (action_of job.settings origin.node (old_at job rel))) (landing s (decided job.settings rel origin (old_at job rel)) o) o) (dirs_same rel origin run h))
      ∙ lands_file job.settings s origin.from origin.node (old_at job rel) h (unclashed_node s job rel origin is run) (is.shown rel origin (run_listed job rel origin run))

  file_shown : (p : Names) (d : Decision) → found (place_of job.base) (filter is_file_item items) p ≡ Some d → is_shown_at job.base (files_landed job (commit_of job items landings paths)) d ≡ true
  file_shown p d h =
      let k = placed s job items is c.planned (λ d. not d.item.dir) p d h in
      let file = not_so d.item.dir k.1 in
      ap (λ b. is_kind b (seen (files_landed job (commit_of job items landings paths)) (place_of job.base d))) file
      ∙ ap (λ (q : Names). is_kind false (seen (files_landed job (commit_of job items landings paths)) q)) (place_is job p d k.0 ∙ k.0.path)
      ∙ file_kind (files_landed job (commit_of job items landings paths)) (job.base ++ k.0.rel) _ landed_tree refl (file_here k.0.rel k.0.origin k.0.run (sym (dir_is job p d k.0) ∙ file))

  pub files_allowed : allows (file_steps job.settings.keep (record { base = job.base; items = items })) (files_landed job (commit_of job items landings paths)) ≡ true
  files_allowed = sets_allowed job.settings.keep job.base (filter is_file_item items) (files_landed job (commit_of job items landings paths))
      (all_found (place_of job.base) (is_shown_at job.base (files_landed job (commit_of job items landings paths))) (filter is_file_item items) (part_ascends job.base is_file_item items c.planned.ascending) file_shown)

  set_same : (q : Names) → seen_node (files_set job (commit_of job items landings paths) q) ≡ seen_node (files_landed job (commit_of job items landings paths) q)
  set_same q = sets_same job.settings.keep job.base (filter is_file_item items) (files_landed job (commit_of job items landings paths)) q

  set_tree : IsTree (files_set job (commit_of job items landings paths))
  set_tree = same_tree (files_landed job (commit_of job items landings paths)) (files_set job (commit_of job items landings paths)) set_same landed_tree

  -- ---- paths that are removed
  -- what stood before stands until then
  pub still_there : (q : Names) → is_some (job.before q) ≡ true → is_some (files_set job (commit_of job items landings paths) q) ≡ true
  still_there q h = same_some (files_landed job (commit_of job items landings paths) q) (files_set job (commit_of job items landings paths) q) (set_same q)
      (ap is_some (landed_at s job items landings paths c.planned.ascending c.lands q)
      ∙ applied_some s (found (place_of job.base) (filter is_landing items) q) (dirs_made job (commit_of job items landings paths) q)
      (ap is_some (dirs_at s job items landings paths c.planned.ascending c.lands q) ∙ made_some (has_path (dir_places job.target job.base items) q) (job.before q) h))

  removed_below : (q : Names) → has_path paths q ≡ true → is_root q ≡ false
  removed_below q h =
      let r = some_rest (cut job.base q) (passes (is_under job.base) paths q c.removes.inside h) in
      let e = append-cut job.base q r.0 r.1 in
      ap is_root e ∙ below_root job.base r.0 (c.removes.goes r.0 (ap (covers paths) (sym e) ∙ covers_own paths q h)).below

  pub removals_allowed : allows (remove_steps paths) (files_set job (commit_of job items landings paths)) ≡ true
  removals_allowed = removes_allowed paths (files_set job (commit_of job items landings paths)) c.removes.apart
      (all_of (may_remove (files_set job (commit_of job items landings paths))) paths
      (λ q h. ap (λ o. is_none (option_or o (refused_at (seen (files_set job (commit_of job items landings paths)) q)))) (root_allows q (removed_below q h))
      ∙ ap is_none (shown_allows (files_set job (commit_of job items landings paths)) q _ set_tree refl (still_there q (ap is_some (c.removes.stood q h).1)))))

  gone_tree : IsTree (missing_gone job (commit_of job items landings paths))
  gone_tree = removed_tree paths (files_set job (commit_of job items landings paths)) set_tree (all_of (λ p. not (is_root p)) paths (λ q h. ap not (removed_below q h)))

  -- ---- attributes of directories
  folder_still : (p : Names) (d : Decision) → found (place_of job.base) (filter is_dir_item items) p ≡ Some d → is_dir_node (missing_gone job (commit_of job items landings paths) p) ≡ true
  folder_still p d h =
      let k = placed s job items is c.planned (λ d. d.item.dir) p d h in
      ap is_dir_node (gone_at s job items landings paths c.planned.ascending c.lands p
      ∙ ap (λ b. cond b None (files_set job (commit_of job items landings paths) p)) (ap (covers paths) k.0.path ∙ listed_stays job paths k.0.rel k.0.origin c.removes (run_listed job k.0.rel k.0.origin k.0.run)))
      ∙ same_dir (files_landed job (commit_of job items landings paths) p) (files_set job (commit_of job items landings paths) p) (set_same p)
      (landed_dir p (had_dir k.0.rel k.0.origin k.0.run p (inl (folder_had p (ap is_some h)))))

  folder_shown : (p : Names) (d : Decision) → found (place_of job.base) (filter is_dir_item items) p ≡ Some d → is_shown_at job.base (missing_gone job (commit_of job items landings paths)) d ≡ true
  folder_shown p d h =
      let k = placed s job items is c.planned (λ d. d.item.dir) p d h in
      ap (λ b. is_kind b (seen (missing_gone job (commit_of job items landings paths)) (place_of job.base d))) k.1
      ∙ ap (λ (q : Names). is_kind true (seen (missing_gone job (commit_of job items landings paths)) q)) (place_is job p d k.0)
      ∙ ap (is_kind true) (dir_shown (missing_gone job (commit_of job items landings paths)) p gone_tree (folder_still p d h))

  pub folders_allowed : allows (dir_steps job.settings.keep (record { base = job.base; items = items })) (missing_gone job (commit_of job items landings paths)) ≡ true
  folders_allowed = backs_allowed job.settings.keep job.base (filter is_dir_item items) (missing_gone job (commit_of job items landings paths))
      (all_found (place_of job.base) (is_shown_at job.base (missing_gone job (commit_of job items landings paths))) (filter is_dir_item items) (part_ascends job.base is_dir_item items c.planned.ascending) folder_shown)

  pub done_tree : IsTree (dirs_set job (commit_of job items landings paths))
  done_tree = same_tree (missing_gone job (commit_of job items landings paths)) (dirs_set job (commit_of job items landings paths))
      (λ q. backs_same job.settings.keep job.base (filter is_dir_item items) (missing_gone job (commit_of job items landings paths)) q) gone_tree
