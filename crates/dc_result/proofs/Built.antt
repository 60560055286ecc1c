-- The phases of a commit, one after the other, leave what the copy defines.
use Rattle.std.proofs.Common.{◌≡◌, ⊎_elim, List, [], ◌∷◌, ◌++◌, Bool, true, false, cond, not, ◌&&◌, ◌||◌, Option, Some, None, map, filter, is_some, refl, sym, ◌∙◌, ap, subst, arith, append-nil, append_assoc, length, length-append, IsTrue, rules}
use Rattle.std.proofs.lemmas.Bool.{and_right, false_from_ne_true}
use Rattle.std.proofs.Math.Bool.{or-false}
use Rattle.std.specs.Cmp.{first_so, second_so}
use Rattle.std.specs.List.{list_all}
use Rattle.dc_path.specs.Found.{found, has_path}
use Rattle.dc_path.specs.Order.{is_ascending}
use Rattle.dc_path.specs.Paths.{Names, cut, at_cut, is_above, is_root, is_under}
use Rattle.dc_path.proofs.FoundLemmas.{kept}
use Rattle.dc_path.proofs.Fronts.{above_shorter}
use Rattle.dc_path.proofs.PathLemmas.{append-cut, cut-append, cut_under, some_rest}
use Rattle.dc_path.proofs.PathOrder.{is_above-by_cut, is_rest}
use Rattle.dc_attrs.specs.Keeping.{Kept}
use Rattle.dc_attrs.specs.Trees.{Node, Tree, IsDirAt, IsTree, is_dir, made, seen, seen_node}
use Rattle.dc_attrs.proofs.TreeLemmas.{seen_from-there}
use Rattle.dc_listing.specs.Listed.{Origin}
use Rattle.dc_decide.specs.Deciding.{clashes}
use Rattle.dc_decide.specs.Plans.{Decision, item_rel}
use Rattle.dc_commit.specs.Landing.{Landing, is_landing, is_written}
use Rattle.dc_commit.specs.Making.{has_root_file}
use Rattle.dc_commit.specs.Settings.{is_dir_item, is_file_item, place_of}
use Rattle.dc_result.specs.Commits.{Commit, AreRemovals, IsCommit, dirs_set, is_in}
use Rattle.dc_missing.specs.Missing.{covers}
use Rattle.dc_result.specs.Jobs.{Job, IsBaseFor, IsJob, in_run, old_at}
use Rattle.dc_result.specs.Result.{AreGone, IsBuilt, built, is_base, result_on}
use Rattle.dc_result.proofs.Building.{at_path, commit_of, found_in, landing, phases_at, phases_on, setting}
use Rattle.dc_result.proofs.Folds.{applied, found_off}
use Rattle.dc_result.proofs.Places.{base_at, base_off, base_places, dir_places, places_are, root_file}

-- ---- facts of the copy
pub run_listed : (job : Job) (r : Names) (z : Origin) → in_run job r ≡ Some z → job.listing r ≡ Some z
run_listed job r z h = by (job.out r) h
  where
    by : (b : Bool) → cond b None (job.listing r) ≡ Some z → job.listing r ≡ Some z
    by true h = absurd (cc)
    by false h = h

-- what does not clash with what is seen does not clash with what stands
node_clash : (t : Tree) (p : Names) (dir : Bool) (o : Option Node) → IsTree t → t p ≡ o → clashes dir (seen t p) ≡ false → clashes dir (seen_node o) ≡ false
node_clash t p dir None v e h = refl
node_clash t p dir (Some n) v e h = ap (clashes dir) (sym (seen_from-there t [] p n v e)) ∙ h

pub unclashed_node : (s : Tree) (job : Job) (r : Names) (z : Origin) → IsJob s job → in_run job r ≡ Some z → clashes (is_dir z.node) (seen_node (old_at job r)) ≡ false
unclashed_node s job r z is h = node_clash job.before (job.base ++ r) (is_dir z.node) (old_at job r) is.tree refl (is.unclashed r z h)

-- ---- facts of what is removed
pub listed_stays : (job : Job) (paths : List Names) (r : Names) (z : Origin) → AreRemovals job paths → job.listing r ≡ Some z → covers paths (job.base ++ r) ≡ false
listed_stays job paths r z gone h = false_from_ne_true (covers paths (job.base ++ r)) (λ c. let f : Some z ≡ None = sym h ∙ ap job.listing (sym (append-nil r)) ∙ (gone.goes r c).unlisted [] in cc)

pub root_stays : (job : Job) (paths : List Names) (r : Names) → AreRemovals job paths → is_root r ≡ true → covers paths (job.base ++ r) ≡ false
root_stays job paths r gone h = false_from_ne_true (covers paths (job.base ++ r)) (λ c. let f : true ≡ false = sym h ∙ (gone.goes r c).below in cc)

under_off : (base p q : Names) → is_under base p ≡ true → cut base q ≡ None → is_under p q ≡ false
under_off base p q h e =
    let r = some_rest (cut base p) h in
    ap (λ (f : Names). is_under f q) (append-cut base p r.0 r.1) ∙ ap is_some (cut_under base r.0 q ∙ ap (λ o. at_cut o None (cut r.0)) e)

-- what is removed is under the base
pub covers_off : (base : Names) (paths : List Names) (q : Names) → list_all (is_under base) paths ≡ true → cut base q ≡ None → covers paths q ≡ false
covers_off base [] q h e = refl
covers_off base (p ∷ paths) q h e =
    ap (λ b. b || covers paths q) (under_off base p q (first_so _ _ h) e) ∙ covers_off base paths q (second_so _ _ h) e

-- ---- places of directories
-- no front of the target is at the base or under it
pub not_above : (target base q r : Names) → IsBaseFor target base → cut base q ≡ Some r → is_above q target ≡ false
not_above target base q r b e = ⊎_elim
    (λ same. let k : length q ≡ length (base ++ r) = ap length (append-cut base q r e) in above_shorter q target (omega (arith, k, length-append base r, ap length same)))
    (λ off. is_above-by_cut q target ∙ apart (cut q target) refl off) b
  where
    apart : (c : Option Names) → cut q target ≡ c → is_under base target ≡ false → is_rest c ≡ false
    apart None f off = refl
    apart (Some u) f off =
        let k : target ≡ base ++ (r ++ u) = append-cut q target u f ∙ ap (λ (p : Names). p ++ u) (append-cut base q r e) ∙ append_assoc base r u in
        let no : true ≡ false = sym (ap is_some (ap (cut base) k ∙ cut-append base (r ++ u))) ∙ off in absurd (cc)

pub places_below : (job : Job) (items : List Decision) (q r : Names) → IsBaseFor job.target job.base → is_ascending (map item_rel items) ≡ true → cut job.base q ≡ Some r
    → has_path (dir_places job.target job.base items) q ≡ ((is_root r && not (has_root_file items)) || is_some (kept (λ d. d.item.dir) (found item_rel (filter is_in items) r)))
places_below job items q r b a e =
    places_are job.target job.base items q
    ∙ ap (λ c. c || (has_path (base_places job.base items) q || is_some (found (place_of job.base) (filter is_dir_item items) q))) (and_right (not (is_root q)) (is_above q job.target) (not_above job.target job.base q r b e))
    ∙ ap (λ c. c || is_some (found (place_of job.base) (filter is_dir_item items) q)) (base_at job.base items q r e)
    ∙ ap (λ o. (is_root r && not (has_root_file items)) || is_some o) (found_in (λ d. d.item.dir) job.base items q r a e)

pub places_off : (job : Job) (items : List Decision) (q : Names) → cut job.base q ≡ None → has_path (dir_places job.target job.base items) q ≡ (not (is_root q) && is_above q job.target)
places_off job items q e =
    places_are job.target job.base items q
    ∙ ap (λ b. (not (is_root q) && is_above q job.target) || (b || is_some (found (place_of job.base) (filter is_dir_item items) q))) (base_off job.base items q e)
    ∙ ap (λ o. (not (is_root q) && is_above q job.target) || (false || is_some o)) (found_off job.base (filter is_dir_item items) q e)
    ∙ or-false (not (is_root q) && is_above q job.target)

-- ---- the theorem
-- the root of a tree is there, and is not made
root_made : (x : Tree) (q : Names) (b : Bool) → IsDirAt x [] → cond (not (is_root q) && b) (made (x q)) (x q) ≡ cond b (made (x q)) (x q)
root_made x [] true v = v.1 ∙ sym (ap made v.1)
root_made x [] false v = refl
root_made x (y ∷ q) b v = refl

-- with a plan under the base itself
built_at : (s : Tree) (job : Job) (items : List Decision) (landings : List Landing) (paths : List Names) → IsJob s job → IsCommit s job (commit_of job items landings paths)
    → (q : Names) → dirs_set job (commit_of job items landings paths) q ≡ built job (λ rel. covers paths (job.base ++ rel)) q
built_at s job items landings paths is c q = phases_at s job items landings paths c.planned.ascending c.lands q ∙ split (cut job.base q) refl
  where
    keep : Kept
    keep = job.settings.keep

    folders : Option Decision
    folders = found (place_of job.base) (filter is_dir_item items) q

    files : Option Decision
    files = found (place_of job.base) (filter is_file_item items) q

    lands : Option Decision
    lands = found (place_of job.base) (filter is_landing items) q

    split : (o : Option Names) → cut job.base q ≡ o → applied (setting keep) folders (cond (covers paths q) None (applied (setting keep) files (applied (landing s) lands (cond (has_path (dir_places job.target job.base items) q) (made (job.before q)) (job.before q)))))
        ≡ at_cut o (cond (is_above q job.target) (made (job.before q)) (job.before q)) (λ rel. result_on job.settings (in_run job rel) (is_base job rel) (covers paths (job.base ++ rel)) (job.before q))
    split None e =
        ap (λ o. applied (setting keep) o (cond (covers paths q) None (applied (setting keep) files (applied (landing s) lands (cond (has_path (dir_places job.target job.base items) q) (made (job.before q)) (job.before q)))))) (found_off job.base (filter is_dir_item items) q e)
        ∙ ap (λ b. cond b None (applied (setting keep) files (applied (landing s) lands (cond (has_path (dir_places job.target job.base items) q) (made (job.before q)) (job.before q))))) (covers_off job.base paths q c.removes.inside e)
        ∙ ap (λ o. applied (setting keep) o (applied (landing s) lands (cond (has_path (dir_places job.target job.base items) q) (made (job.before q)) (job.before q)))) (found_off job.base (filter is_file_item items) q e)
        ∙ ap (λ o. applied (landing s) o (cond (has_path (dir_places job.target job.base items) q) (made (job.before q)) (job.before q))) (found_off job.base (filter is_landing items) q e)
        ∙ ap (λ b. cond b (made (job.before q)) (job.before q)) (places_off job items q e)
        ∙ root_made job.before q (is_above q job.target) is.tree.root
    split (Some r) e =
        ap (λ o. applied (setting keep) o (cond (covers paths q) None (applied (setting keep) files (applied (landing s) lands (cond (has_path (dir_places job.target job.base items) q) (made (job.before q)) (job.before q)))))) (found_in (λ d. d.item.dir) job.base items q r c.planned.ascending e)
        ∙ ap (λ o. applied (setting keep) (kept (λ d. d.item.dir) here) (cond (covers paths q) None (applied (setting keep) o (applied (landing s) lands (cond (has_path (dir_places job.target job.base items) q) (made (job.before q)) (job.before q)))))) (found_in (λ d. not d.item.dir) job.base items q r c.planned.ascending e)
        ∙ ap (λ o. applied (setting keep) (kept (λ d. d.item.dir) here) (cond (covers paths q) None (applied (setting keep) (kept (λ d. not d.item.dir) here) (applied (landing s) o (cond (has_path (dir_places job.target job.base items) q) (made (job.before q)) (job.before q)))))) (found_in (λ d. is_written d.action) job.base items q r c.planned.ascending e)
        ∙ ap (λ b. applied (setting keep) (kept (λ d. d.item.dir) here) (cond (covers paths q) None (applied (setting keep) (kept (λ d. not d.item.dir) here) (applied (landing s) (kept (λ d. is_written d.action) here) (cond b (made (job.before q)) (job.before q)))))) (places_below job items q r is.place c.planned.ascending e)
        ∙ ap (λ b. phases_on keep s (is_root r && not b) (covers paths q) here (job.before q)) (root_file job (record { base = job.base; items = items }) c.planned)
        ∙ ap (λ (p : Names). phases_on keep s (is_base job r) (covers paths p) here (job.before p)) (append-cut job.base q r e)
        ∙ ap (λ o. phases_on keep s (is_base job r) (covers paths (job.base ++ r)) o (old_at job r)) (c.planned.decisions r)
        ∙ at_path job.settings s r (in_run job r) (old_at job r) (is_base job r) (covers paths (job.base ++ r))
        (λ z h. (is.shown r z (run_listed job r z h), unclashed_node s job r z is h, listed_stays job paths r z c.removes (run_listed job r z h)))
        (λ h. root_stays job paths r c.removes (first_so _ _ h))
        ∙ ap (λ (p : Names). result_on job.settings (in_run job r) (is_base job r) (covers paths (job.base ++ r)) (job.before p)) (sym (append-cut job.base q r e))
      where
        here : Option Decision
        here = found item_rel (filter is_in items) r

-- a plan whose base is that of the copy
pub under_base : (job : Job) (commit : Commit) → commit.plan.base ≡ job.base → commit ≡ commit_of job commit.plan.items commit.landings commit.paths
under_base job commit e = ap (λ (base : Names). record { plan = record { base = base; items = commit.plan.items }; landings = commit.landings; paths = commit.paths }) e

pub phases_build : (s : Tree) (job : Job) (commit : Commit) → IsJob s job → IsCommit s job commit → (q : Names) → dirs_set job commit q ≡ built job (λ rel. covers commit.paths (job.base ++ rel)) q
phases_build s job commit is c q =
    let e = under_base job commit c.planned.under in
    ap (λ (k : Commit). dirs_set job k q) e ∙ built_at s job commit.plan.items commit.landings commit.paths is (subst (IsCommit s job) e c) q

-- ---- what goes is what is removed
true_is : (b : Bool) → IsTrue b → b ≡ true
true_is true h = refl
true_is false h = search rules

is_true : (b : Bool) → b ≡ true → IsTrue b
is_true b h = search rules

pub removals_go : (job : Job) (paths : List Names) → AreRemovals job paths → AreGone job (λ rel. covers paths (job.base ++ rel))
removals_go job paths gone rel there = ((λ c. gone.goes rel (true_is _ c)), (λ g. is_true _ (gone.all rel there g)))

pub built_is : (s : Tree) (job : Job) (commit : Commit) → IsJob s job → IsCommit s job commit → IsBuilt job (Some (dirs_set job commit))
built_is s job commit is c = ((λ rel. covers commit.paths (job.base ++ rel)), removals_go job commit.paths c.removes, phases_build s job commit is c)
