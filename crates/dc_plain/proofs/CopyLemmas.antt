-- What a plain copy leaves where it is made.
use Rattle.std.proofs.Common.{◌≡◌, Bool, true, false, cond, ◌||◌, List, [], ◌∷◌, ◌++◌, map, length, filter, sum_by, Option, Some, None, refl, sym, ap, ◌∙◌, subst}
use Rattle.std.proofs.lemmas.List.{length-map}
use Rattle.std.specs.Option.{option_map, option_map_or}
use Rattle.dc_path.specs.Found.{has_path}
use Rattle.dc_path.specs.Paths.{Names}
use Rattle.dc_path.proofs.PathLemmas.{same_path-refl}
use Rattle.dc_attrs.specs.Trees.{Node, Dir, File, Tree, bare}
use Rattle.dc_fs.specs.Views.{View}
use Rattle.dc_listing.specs.Entries.{Entry, rel_of}
use Rattle.dc_listing.specs.Listed.{Origin, AreListed, all_listed}
use Rattle.dc_decide.specs.Deciding.{action_of}
use Rattle.dc_result.specs.Effects.{AreEffects}
use Rattle.dc_result.specs.Jobs.{Job}
use Rattle.dc_result.specs.Result.{IsResult}
use Rattle.dc_engine.specs.Counting.{is_skip}
use Rattle.dc_engine.specs.Running.{AreCounts, HasCopied, IsCopy, copy_of, is_skipped_at, skipped_in}
use Rattle.dc_engine.specs.Surveys.{Asked}
use Rattle.dc_engine.specs.declared.outcome.Counts.{Counts}
use Rattle.dc_plain.specs.Plain.{IsPlain, copied_from, plain}
use Rattle.dc_plain.specs.Left.{AreCountsOf, AreLandings, IsDone, counts_of}
use Rattle.dc_plain.specs.Laws.{CopiesAreWhole}
use Rattle.dc_plain.proofs.FolderLemmas.{folders_are, folders_of}
use Rattle.dc_plain.proofs.LeftLemmas.{in_run_is, landings_are, nothing_there, plain_job, result_is}
use Rattle.dc_plain.proofs.ListLemmas.{no_rules, root_of}
use Rattle.dc_plain.proofs.RefusalLemmas.{asked_is, survey_is}

-- ---- lists
-- a list that has no path is empty
no_paths : (paths : List Names) → ((q : Names) → has_path paths q ≡ false) → paths ≡ []
no_paths [] h = refl
no_paths (x ∷ xs) h = let no : true ≡ false = sym (ap (λ b. b || has_path xs x) (same_path-refl x)) ∙ h x in absurd (cc)

-- nothing passes a test that nothing passes
none_pass : {A : Type 0} (test : A → Bool) (xs : List A) → ((x : A) → test x ≡ false) → filter test xs ≡ []
none_pass test [] h = refl
none_pass test (x ∷ xs) h = ap (λ b. cond b (x ∷ filter test xs) (filter test xs)) (h x) ∙ none_pass test xs h

-- ---- counters are one where each of them is
same_counts : (one other : Counts) → one.copied ≡ other.copied → one.dirs ≡ other.dirs → one.skipped ≡ other.skipped → one.failed ≡ other.failed
    → one.bytes_copied ≡ other.bytes_copied → one.bytes_skipped ≡ other.bytes_skipped → one ≡ other
same_counts one other copied dirs skipped failed bytes_copied bytes_skipped = λ i. record {
  copied = copied i;
  dirs = dirs i;
  skipped = skipped i;
  failed = failed i;
  bytes_copied = bytes_copied i;
  bytes_skipped = bytes_skipped i;
}

-- ---- nothing is skipped where nothing was
skip_by : (source target from : Names) (o old : Option Node) → old ≡ None
    → option_map_or (λ (origin : Origin). is_skip (action_of (plain source target) origin.node old)) (option_map (λ node. record { from = from; node = node }) o) false ≡ false
skip_by source target from None old e = refl
skip_by source target from (Some (Dir a)) old e = refl
skip_by source target from (Some (File bytes a)) old e = ap (λ before. is_skip (action_of (plain source target) (File bytes a) before)) e

module _ (s : Tree) (source target : Names) (p : IsPlain s source target) where
  -- ---- the counters
  module _ (out : Names → Bool) (whole : (rel : Names) → out rel ≡ false) where
    never_skipped : (rel : Names) → is_skipped_at (plain_job s source target out) rel ≡ false
    never_skipped rel =
        ap (λ (o : Option Origin). option_map_or (λ (origin : Origin). is_skip (action_of (plain source target) origin.node (bare (target ++ rel)))) o false) (in_run_is s source target p out whole rel)
        ∙ skip_by source target (source ++ rel) (copied_from s source rel) (bare (target ++ rel)) (nothing_there target rel p.below)

    none_skipped : (entries : List Entry) → skipped_in (plain_job s source target out) entries ≡ []
    none_skipped entries = none_pass (λ (entry : Entry). is_skipped_at (plain_job s source target out) entry.rel) entries (λ entry. never_skipped entry.rel)

  -- ---- the copy
  job_is : (entries : List Entry) (job : Job) → IsCopy (plain source target) s bare entries job → job ≡ plain_job s source target job.out
  job_is entries job copy = copy.job_is ∙ ap (λ (asked : Asked). copy_of (plain source target) s bare asked job.out) (asked_is s source target p copy.surveyed.asked copy.surveyed.allowed)

  module _ (paths : List Names) (counts : Counts) (from from_now old new : View) (h : HasCopied (plain source target) s bare paths counts from from_now old new) where
    whole : (rel : Names) → h.job.out rel ≡ false
    whole rel = h.copy.asked refl rel

    none_out : paths ≡ []
    none_out = no_paths paths (λ rel. sym (h.out rel) ∙ whole rel)

    same : h.job ≡ plain_job s source target h.job.out
    same = job_is h.entries h.job h.copy

    counted : AreCounts (plain_job s source target h.job.out) h.entries h.effects paths counts
    counted = subst (λ (job : Job). AreCounts job h.entries h.effects paths counts) same h.counted

    skipped : skipped_in (plain_job s source target h.job.out) h.entries ≡ []
    skipped = none_skipped h.job.out whole h.entries

    are : AreListed (all_listed no_rules s (root_of source ∷ [])) h.entries
    are = survey_is s source target p h.entries h.copy.surveyed

    abbrev folders : List Entry
    folders = folders_of s source target p h.job.out whole h.entries are h.copy.ascending

    lands : AreLandings s source target h.effects
    lands = landings_are s source target p h.job.out whole h.effects (subst (λ (job : Job). AreEffects job h.effects) same h.defined)

    are_counts : AreCountsOf s source target counts
    are_counts = record {
      landings = h.effects;
      land = lands;
      folders = map rel_of folders;
      made = folders_are s source target p h.job.out whole h.entries are h.copy.ascending;
      are = same_counts counts (counts_of h.effects (map rel_of folders))
          counted.copied (counted.dirs ∙ sym (length-map folders rel_of)) (counted.skipped ∙ ap length skipped) (counted.failed ∙ ap length none_out)
          counted.bytes_copied (counted.bytes_skipped ∙ ap (sum_by (λ (entry : Entry). entry.length)) skipped);
    }

    done : IsDone s source target counts old new
    unfolding are_counts
    done = record {
      tree = result_is s source target p h.job.out whole new.tree (subst (λ (job : Job). IsResult job new.tree) same h.result);
      counted = are_counts;
      landed = h.landed;
    }

-- ---- the law
pub copies_are_whole : CopiesAreWhole
copies_are_whole s source target paths counts from from_now old new p h = (none_out s source target p paths counts from from_now old new h, done s source target p paths counts from from_now old new h)
