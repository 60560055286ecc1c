-- What a run counts of a copy, and what it tells of what it went on without.
use Rattle.std.proofs.Common.{◌≡◌, inl, inr, ℕ, ◌+◌, ◌-◌, ◌*◌, ◌<◌, ◌≤◌, Bool, true, false, cond, not, ◌&&◌, List, [], ◌∷◌, ◌++◌, map, filter, length, sum_by, Option, Some, None, Ok, refl, sym, ◌∙◌, ap, ap₂, subst, arith}
use Rattle.std.proofs.lemmas.List.{length-map}
use Rattle.std.proofs.lemmas.List.Elements.{All-head, All-tail}
use Rattle.std.proofs.lemmas.List.Folds.{fold-map}
use Rattle.std.proofs.lemmas.Option.{none-some, same_Some}
use Rattle.std.specs.List.{All, AllZip}
use Rattle.std.specs.Option.{is_some, option_map, option_map_or}
use Rattle.dc_path.specs.Found.{found, has_path}
use Rattle.dc_path.specs.Order.{is_ascending}
use Rattle.dc_path.specs.Paths.{Names}
use Rattle.dc_path.proofs.FoundLemmas.{ascending-filter, found-filter, kept}
use Rattle.dc_attrs.specs.Trees.{Tree, IsTree, is_dir}
use Rattle.dc_fs.specs.Views.{View}
use Rattle.dc_fs.specs.declared.target.Landed.{Landed}
use Rattle.dc_options.specs.Settings.{Settings}
use Rattle.dc_listing.specs.Entries.{Entry}
use Rattle.dc_listing.specs.Listed.{Origin}
use Rattle.dc_decide.specs.Deciding.{action_of, decided}
use Rattle.dc_decide.specs.Plans.{Decision, Decisions, item_rel}
use Rattle.dc_plan.specs.Planning.{item_of}
use Rattle.dc_commit.specs.Settings.{is_dir_item}
use Rattle.dc_crew.specs.Slots.{RoseTogether}
use Rattle.dc_pool.specs.Counts.{last}
use Rattle.dc_result.specs.Begins.{copies_dir}
use Rattle.dc_result.specs.Commits.{Commit, IsPlanOf}
use Rattle.dc_result.specs.Effects.{AreEffects, effects}
use Rattle.dc_result.specs.Jobs.{Job, in_run, old_at}
use Rattle.dc_result.proofs.Folds.{has_found}
use Rattle.dc_result.proofs.Places.{file_node}
use Rattle.dc_result.proofs.Planning.{found_at}
use Rattle.dc_engine.specs.Begun.{is_out as is_out_at, job_of}
use Rattle.dc_engine.specs.Committing.{IsDue}
use Rattle.dc_engine.specs.Copying.{IsKeptOrLeft, LeavesFiles}
use Rattle.dc_engine.specs.Counting.{bytes_copied_of, bytes_skipped_of, copied_of, dirs_of, failed_of, is_out, is_skip, is_skipped, paths_out, skipped_of}
use Rattle.dc_engine.specs.Running.{AreCounts, HasCopied, IsPrepared, clashes_at, is_skipped_at, unclashed}
use Rattle.dc_engine.specs.declared.outcome.Counts.{Counts}
use Rattle.dc_engine.proofs.CountLemmas.{bytes_are_effects, copied_are_effects, failed_are_told}
use Rattle.dc_engine.proofs.PlanLemmas.{each_found}
use Rattle.dc_engine.proofs.RunLemmas.{copy_is, first_ready, item_kept, items_kept, left_ready, only_clashes, out_clashes, pairs_left, run_is}

-- ---- tests of items
-- where a test of items agrees with one of their entries, both pass the same
passed : (test : Decision → Bool) (pass : Entry → Bool) (ds : List Decision) → All (λ d. test d ≡ pass d.item) ds → map item_of (filter test ds) ≡ filter pass (map item_of ds)
passed test pass [] a = refl
passed test pass (d ∷ ds) a =
    by (test d) (pass d.item) (All-head (λ x. test x ≡ pass x.item) d ds a) (passed test pass ds (All-tail (λ x. test x ≡ pass x.item) d ds a))
  where
    by : (b c : Bool) → b ≡ c → map item_of (filter test ds) ≡ filter pass (map item_of ds) → map item_of (cond b (d ∷ filter test ds) (filter test ds)) ≡ cond c (d.item ∷ filter pass (map item_of ds)) (filter pass (map item_of ds))
    by true true e ih = ap (λ (es : List Entry). d.item ∷ es) ih
    by true false e ih = absurd (cc)
    by false true e ih = absurd (cc)
    by false false e ih = ih

-- so they have as many
as_many : (test : Decision → Bool) (pass : Entry → Bool) (ds : List Decision) (entries : List Entry) → map item_of ds ≡ entries → All (λ d. test d ≡ pass d.item) ds → length (filter test ds) ≡ length (filter pass entries)
as_many test pass ds entries items a = sym (length-map (filter test ds) item_of) ∙ ap length (passed test pass ds a) ∙ ap (λ (es : List Entry). length (filter pass es)) items

-- and the same sums
same_sum : (f : Entry → ℕ) (test : Decision → Bool) (pass : Entry → Bool) (ds : List Decision) (entries : List Entry) → map item_of ds ≡ entries → All (λ d. test d ≡ pass d.item) ds
    → sum_by (λ (d : Decision). f d.item) (filter test ds) ≡ sum_by f (filter pass entries)
same_sum f test pass ds entries items a =
    sym (fold-map (λ (sum : ℕ) (entry : Entry). sum + f entry) item_of 0 (filter test ds))
    ∙ ap (sum_by f) (passed test pass ds a)
    ∙ ap (λ (es : List Entry). sum_by f (filter pass es)) items

module _ (job : Job) (plan : Decisions) (planned : IsPlanOf job plan) where
  -- a test of what the copy goes on with, by what is listed there
  by_run : (f : Decision → Bool) (g : Names → Origin → Bool) → ((rel : Names) (origin : Origin) → f (decided job.settings rel origin (old_at job rel)) ≡ g rel origin)
      → (rel : Names) (d : Decision) → found item_rel plan.items rel ≡ Some d → (not d.out && f d) ≡ option_map_or (g d.item.rel) (in_run job d.item.rel) false
  by_run f g same rel d e =
      by d.out (in_run job rel) (run_is job plan planned rel d e)
      ∙ ap (λ (r : Names). option_map_or (g r) (in_run job r) false) (sym (found_at item_rel plan.items rel d e))
    where
      by : (out : Bool) (o : Option Origin) → cond (not out) (Some d) None ≡ option_map (λ (origin : Origin). decided job.settings rel origin (old_at job rel)) o → (not out && f d) ≡ option_map_or (g rel) o false
      by true None h = refl
      by true (Some origin) h = absurd (none-some (decided job.settings rel origin (old_at job rel)) h)
      by false None h = absurd (none-some d (sym h))
      by false (Some origin) h = ap f (same_Some d (decided job.settings rel origin (old_at job rel)) h) ∙ same rel origin

  dirs_agree : All (λ d. is_dir_item d ≡ copies_dir job d.item.rel) plan.items
  dirs_agree =
      each_found (λ d. is_dir_item d ≡ copies_dir job d.item.rel) item_rel plan.items planned.ascending
      (by_run (λ d. d.item.dir) (λ rel origin. is_dir origin.node) (λ rel origin. file_node rel origin.from origin.node))

  skips_agree : All (λ d. is_skipped d ≡ is_skipped_at job d.item.rel) plan.items
  skips_agree =
      each_found (λ d. is_skipped d ≡ is_skipped_at job d.item.rel) item_rel plan.items planned.ascending
      (by_run (λ d. is_skip d.action) (λ rel origin. is_skip (action_of job.settings origin.node (old_at job rel))) (λ rel origin. refl))

  -- the counters of the plan are those of the copy
  pub are_counts : (entries : List Entry) (paths : List Names) (counts : Counts) → map item_of plan.items ≡ entries → counts.copied ≡ copied_of plan.items → counts.dirs ≡ dirs_of plan.items
      → counts.skipped ≡ skipped_of plan.items → counts.failed ≡ failed_of plan.items → counts.bytes_copied ≡ bytes_copied_of plan.items → counts.bytes_skipped ≡ bytes_skipped_of plan.items
      → paths ≡ paths_out plan.items → AreCounts job entries (effects plan) paths counts
  are_counts entries paths counts items copied dirs skipped failed bytes_copied bytes_skipped told = record {
    copied = copied ∙ copied_are_effects plan;
    bytes_copied = bytes_copied ∙ bytes_are_effects plan;
    dirs = dirs ∙ as_many is_dir_item (λ entry. copies_dir job entry.rel) plan.items entries items dirs_agree;
    skipped = skipped ∙ as_many is_skipped (λ entry. is_skipped_at job entry.rel) plan.items entries items skips_agree;
    bytes_skipped = bytes_skipped ∙ same_sum (λ entry. entry.length) is_skipped (λ entry. is_skipped_at job entry.rel) plan.items entries items skips_agree;
    failed = failed ∙ failed_are_told plan.items ∙ ap length (sym told);
  }

-- ---- what is told
-- the paths are exactly those that the plan goes on without
pub paths_are_out : (plan : Decisions) (q : Names) → is_ascending (map item_rel plan.items) ≡ true → is_out_at plan q ≡ has_path (paths_out plan.items) q
paths_are_out plan q a = by (found item_rel plan.items q) ∙ sym (has_found item_rel (filter is_out plan.items) q ∙ ap is_some (found-filter item_rel is_out plan.items q a))
  where
    one : (b : Bool) (d : Decision) → b ≡ is_some (cond b (Some d) None)
    one true d = refl
    one false d = refl

    by : (x : Option Decision) → option_map_or (λ (d : Decision). d.out) x false ≡ is_some (kept is_out x)
    by None = refl
    by (Some d) = one d.out d

-- of the items that are left out, those at which nothing clashes are the ones that were not left out before
module _ (clash : Names → Bool) where
  abbrev calm : List Names → List Names
  calm paths = filter (λ path. not (clash path)) paths

  one_more : (d e : Decision) (ds es : List Decision) → IsKeptOrLeft d e → d.out ≡ clash d.item.rel → length (calm (paths_out es)) + failed_of ds ≡ failed_of es
      → length (calm (paths_out (e ∷ es))) + failed_of (d ∷ ds) ≡ failed_of (e ∷ es)
  one_more d e ds es k c ih = by d.out e.out refl refl
    where
      stays : IsKeptOrLeft d e → d.out ≡ true → e.out ≡ true
      stays (inl same) h = ap (λ (x : Decision). x.out) same ∙ h
      stays (inr left) h = ap (λ (x : Decision). x.out) left.1

      here : clash e.item.rel ≡ d.out
      here = ap (λ (i : Entry). clash i.rel) (item_kept d e k) ∙ sym c

      by : (b x : Bool) → d.out ≡ b → e.out ≡ x
          → length (calm (map item_rel (cond x (e ∷ filter is_out es) (filter is_out es)))) + length (cond b (d ∷ filter is_out ds) (filter is_out ds)) ≡ length (cond x (e ∷ filter is_out es) (filter is_out es))
      by true true f g =
          let n : length (calm (item_rel e ∷ paths_out es)) ≡ length (calm (paths_out es)) = ap (λ (y : Bool). length (cond (not y) (item_rel e ∷ calm (paths_out es)) (calm (paths_out es)))) (here ∙ f) in omega (arith, ih, n)
      by true false f g = let no : true ≡ false = sym (stays k f) ∙ g in absurd (cc)
      by false true f g =
          let n : length (calm (item_rel e ∷ paths_out es)) ≡ length (item_rel e ∷ calm (paths_out es)) = ap (λ (y : Bool). length (cond (not y) (item_rel e ∷ calm (paths_out es)) (calm (paths_out es)))) (here ∙ f) in omega (arith, ih, n)
      by false false f g = ih

  all_more : (old new : List Decision) → AllZip IsKeptOrLeft old new → All (λ d. d.out ≡ clash d.item.rel) old → length (calm (paths_out new)) + failed_of old ≡ failed_of new
  all_more [] [] h a = omega arith
  all_more [] (e ∷ es) h a = absurd h
  all_more (d ∷ ds) [] h a = absurd h
  all_more (d ∷ ds) (e ∷ es) h a =
      one_more d e ds es h.0 (All-head (λ x. x.out ≡ clash x.item.rel) d ds a) (all_more ds es h.1 (All-tail (λ x. x.out ≡ clash x.item.rel) d ds a))

-- ---- the copy is made
module _ (o : Settings) (s t : Tree) (entries : List Entry) (old new : Decisions) (paths : List Names) (p : IsPrepared o s t entries old paths) (source : IsTree s) (target : IsTree t) (left : LeavesFiles old new) where
  abbrev job : Job
  job = job_of o s t p.surveyed.asked new

  out_agree : All (λ d. d.out ≡ clashes_at job d.item.rel) old.items
  out_agree =
      each_found (λ d. d.out ≡ clashes_at job d.item.rel) item_rel old.items (first_ready o s t entries old new paths p source target left).planned.ascending
      (λ rel d e. out_clashes o s t entries old new paths p source target left rel d e ∙ ap (clashes_at job) (sym (found_at item_rel old.items rel d e)))

  -- as many files are left out besides what clashes
  pub few_failed : failed_of new.items - failed_of old.items ≡ length (unclashed job (paths_out new.items))
  few_failed = let n = all_more (clashes_at job) old.items new.items (pairs_left old new left) out_agree in omega (arith, n)

  pub copied_from : {X : Type 0} (x : X) (commit : Commit) (out : List Names) (counts : Counts) (from from_now older ready newer : View) → (o.ignore ≡ false → new ≡ old) → (from.steady ≡ true → older.steady ≡ true → new ≡ old) → commit.plan ≡ new
      → IsDue job commit ready newer (Ok x) → ready.rest.landed ≡ older.rest.landed
      → counts.copied ≡ copied_of new.items → counts.dirs ≡ dirs_of new.items → counts.skipped ≡ skipped_of new.items → counts.failed ≡ failed_of new.items
      → counts.bytes_copied ≡ bytes_copied_of new.items → counts.bytes_skipped ≡ bytes_skipped_of new.items → out ≡ paths_out new.items
      → RoseTogether from.rest from_now.rest older.rest ready.rest (4 * (failed_of new.items - failed_of old.items)) → newer.rest.desk_faults ≡ ready.rest.desk_faults
      → HasCopied o s t out counts from from_now older newer
  copied_from x commit out counts from from_now older ready newer whole unfailed is due landed copied dirs skipped failed bytes_copied bytes_skipped told rose desks =
      let r = left_ready o s t entries old new paths p source target left in
      record {
        entries = entries;
        job = job;
        copy = copy_is o s t entries old new paths p source target left whole;
        ordered = ap is_ascending told ∙ ascending-filter item_rel is_out new.items r.planned.ascending;
        out = λ rel. paths_are_out new rel r.planned.ascending ∙ ap (λ (ps : List Names). has_path ps rel) (sym told);
        result = due.result.result;
        effects = effects new;
        defined = subst (λ (plan : Decisions). AreEffects job (effects plan)) is due.defined;
        landed = due.result.landed ∙ ap₂ (λ (xs ys : List Landed). xs ++ ys) landed (ap effects is);
        counted = are_counts job new r.planned entries out counts (items_kept old.items new.items (pairs_left old new left) ∙ p.items) copied dirs skipped failed bytes_copied bytes_skipped told;
        failures = λ forks below.
            let n : 4 * (failed_of new.items - failed_of old.items) ≡ 4 * length (unclashed job out) = ap (λ (k : ℕ). 4 * k) (few_failed ∙ ap (λ (ps : List Names). length (unclashed job ps)) (sym told)) in
            subst (λ (k : ℕ). from.rest.fork_faults + older.rest.desk_faults + k ≤ from_now.rest.fork_faults + newer.rest.desk_faults) n
            (subst (λ (k : ℕ). from.rest.fork_faults + older.rest.desk_faults + 4 * (failed_of new.items - failed_of old.items) ≤ from_now.rest.fork_faults + k) (sym desks)
            (rose forks (subst (λ (k : ℕ). k < last) desks below)));
        spared = λ source_steady target_steady. only_clashes o s t entries old new paths p source target left (unfailed source_steady target_steady);
      }
