-- A plan from which files were left out is the plan of a copy, and what is ready is the commit of that.
use Rattle.std.proofs.Common.{◌≡◌, ◌⊎◌, inl, inr, ℕ, suc, ◌≤◌, Bool, true, false, cond, not, List, [], ◌∷◌, ◌++◌, map, length, Option, Some, None, IsSomeAnd, slice_get, refl, sym, ◌∙◌, ap, ap₂, subst, arith}
use Rattle.std.proofs.lemmas.Bool.{not-true}
use Rattle.std.proofs.lemmas.List.Elements.{All-nil, All-cons, All-head, All-tail}
use Rattle.std.proofs.lemmas.Option.{none-some, same_Some}
use Rattle.std.specs.Cmp.{first_so, second_so}
use Rattle.std.specs.List.{All, AllZip, list_all}
use Rattle.std.specs.Option.{is_some, option_map, option_map_or}
use Rattle.dc_path.specs.Found.{found}
use Rattle.dc_path.specs.Order.{is_ascending}
use Rattle.dc_path.specs.Paths.{Names, same_path}
use Rattle.dc_path.proofs.FoundLemmas.{found-filter, kept}
use Rattle.dc_attrs.specs.Trees.{Node, Dir, File, Tree, IsTree, bytes_of, is_dir, seen}
use Rattle.dc_fs.specs.Views.{BothTrees}
use Rattle.dc_options.specs.Settings.{Settings}
use Rattle.dc_listing.specs.Entries.{Entry, rel_of}
use Rattle.dc_listing.specs.Listed.{Origin, entry_at}
use Rattle.dc_decide.specs.Deciding.{Obeys, action_of, clashes, decided}
use Rattle.dc_decide.specs.Plans.{Decision, Decisions, item_rel}
use Rattle.dc_decide.specs.declared.action.Action.TheVariants as action
use Rattle.dc_pieces.specs.Cutting.{plan_pieces}
use Rattle.dc_pieces.specs.Pieces.{most_pieces}
use Rattle.dc_plan.specs.Planning.{IsAsked, IsDecidedOn, IsOutByClash, clashes_in, item_of}
use Rattle.dc_commit.specs.Landing.{is_landing, is_ready, is_written}
use Rattle.dc_commit.specs.declared.landing.Ready.{Ready}
use Rattle.dc_crew.specs.Jobs as crew
use Rattle.dc_ready.specs.Laws.{IsKept, StandsIn}
use Rattle.dc_ready.proofs.Lawful.{joined_land}
use Rattle.dc_result.specs.Commits.{IsPlanOf, is_in}
use Rattle.dc_result.specs.Jobs.{Job, in_run, old_at}
use Rattle.dc_result.proofs.Built.{run_listed}
use Rattle.dc_result.proofs.Places.{file_node}
use Rattle.dc_result.proofs.Planning.{found_at, found_each}
use Rattle.dc_engine.specs.Begun.{IsPlanFor, IsReady, IsSettled, is_out, job_of}
use Rattle.dc_engine.specs.Committing.{IsCommitOf, task_of}
use Rattle.dc_engine.specs.Copying.{AreCopied, IsKeptOrLeft, LeavesFiles}
use Rattle.dc_engine.specs.Running.{IsAllowed, IsCopy, IsPrepared, clashes_at, is_written_at}
use Rattle.dc_engine.specs.Settling.{AreDeletes, HasWalked, IsPlanned}
use Rattle.dc_engine.specs.Surveys.{IsSurveyed}
use Rattle.dc_engine.specs.Targets.{base_of}
use Rattle.dc_engine.proofs.BegunLemmas.{plans_are_ready}
use Rattle.dc_engine.proofs.MissingLemmas.{still_to_go}
use Rattle.dc_engine.proofs.PlanLemmas.{decisions_are_plans, each_found}

-- ---- what is settled
-- by what a survey and a settling answer
pub prepared_told : (source target : Option Tree) (o : Settings) (base : Names) (entries : List Entry) (plan : Decisions) (paths : List Names) → base ≡ base_of o → is_ascending (map rel_of entries) ≡ true
    → BothTrees source target (λ s t. IsSurveyed o s t entries) → IsPlanned o base entries source target plan → AreDeletes o target plan paths
    → HasWalked o target plan.base → length (plan_pieces o.blocks plan) ≤ most_pieces → BothTrees source target (λ s t. IsPrepared o s t entries plan paths)
prepared_told None target o base entries plan paths given ascending survey planned deletes walked few = tt
prepared_told (Some s) None o base entries plan paths given ascending survey planned deletes walked few = λ v. tt
prepared_told (Some s) (Some t) o base entries plan paths given ascending survey planned deletes walked few = λ v w. record {
  surveyed = survey v w;
  ascending = ascending;
  under = planned.under ∙ given;
  items = planned.entries;
  asked = planned.asked;
  out = subst (λ (b : Names). All (IsOutByClash t b) plan.items) (sym planned.under) planned.out;
  decides = subst (λ (b : Names). All (IsDecidedOn o b s t) plan.items) (sym planned.under) planned.decides;
  going = record {
    missing = λ e.
        let m = deletes.asked e in
        record { ascending = m.ascending; apart = m.apart; below = m.below; stand = m.stand w; goes = m.goes w };
    none = deletes.unasked;
  };
  walked = walked;
  few = few;
}

-- ---- files that are left out
-- item by item
item_by_item : (old new : List Decision) → length new ≡ length old → ((n : ℕ) (d : Decision) → slice_get old n ≡ Some d → IsSomeAnd (slice_get new n) (IsKeptOrLeft d)) → AllZip IsKeptOrLeft old new
item_by_item [] [] len each = tt
item_by_item [] (e ∷ es) len each = let no : ⊥ = omega (arith, len) in absurd no
item_by_item (d ∷ ds) [] len each = absurd (each 0 d refl)
item_by_item (d ∷ ds) (e ∷ es) len each = (each 0 d refl, item_by_item ds es (omega (arith, len)) (λ n x h. each (suc n) x h))

pub pairs_left : (old new : Decisions) → LeavesFiles old new → AllZip IsKeptOrLeft old.items new.items
pairs_left old new left = item_by_item old.items new.items left.len left.each

pub item_kept : (d e : Decision) → IsKeptOrLeft d e → e.item ≡ d.item
item_kept d e (inl k) = ap item_of k
item_kept d e (inr k) = ap item_of k.1

pub items_kept : (old new : List Decision) → AllZip IsKeptOrLeft old new → map item_of new ≡ map item_of old
items_kept [] [] h = refl
items_kept [] (e ∷ es) h = absurd h
items_kept (d ∷ ds) [] h = absurd h
items_kept (d ∷ ds) (e ∷ es) h = ap₂ (λ (x : Entry) (xs : List Entry). x ∷ xs) (item_kept d e h.0) (items_kept ds es h.1)

-- what is written is a file
lands_file : (o : Settings) (d : Decision) → IsAsked o d → is_landing d ≡ true → d.item.dir ≡ false
lands_file o d a l = by d.item.dir (a.obeys (not-true d.out (first_so _ _ l)))
  where
    by : (dir : Bool) → Obeys o dir (is_some d.before) d.action → dir ≡ false
    by true k = let no : true ≡ false = sym (second_so (not d.out) (is_written d.action) l) ∙ ap is_written k.settled in absurd (cc)
    by false k = refl

module _ (o : Settings) (base : Names) (s t : Tree) where
  one_settled : (d e : Decision) → IsAsked o d → IsSettled o base s t d → IsKeptOrLeft d e → IsSettled o base s t e
  one_settled d e a k (inl same) = subst (IsSettled o base s t) (sym same) k
  one_settled d e a k (inr left) = subst (IsSettled o base s t) (sym left.1) (record {
    clashing = λ h. refl;
    besides = λ h dir. let no : true ≡ false = sym dir ∙ lands_file o d a left.0 in absurd (cc);
    decision = λ h. let no : true ≡ false = h in absurd (cc);
  })

  all_settled : (old new : List Decision) → All (IsAsked o) old → All (IsSettled o base s t) old → AllZip IsKeptOrLeft old new → All (IsSettled o base s t) new
  all_settled [] [] a k h = All-nil (IsSettled o base s t)
  all_settled [] (e ∷ es) a k h = absurd h
  all_settled (d ∷ ds) [] a k h = absurd h
  all_settled (d ∷ ds) (e ∷ es) a k h =
      All-cons (IsSettled o base s t) e es
      (one_settled d e (All-head (IsAsked o) d ds a) (All-head (IsSettled o base s t) d ds k) h.0)
      (all_settled ds es (All-tail (IsAsked o) d ds a) (All-tail (IsSettled o base s t) d ds k) h.1)

-- the plan stays one of what is listed
pub plans_left : (o : Settings) (s t : Tree) (entries : List Entry) (old new : Decisions) → All (IsAsked o) old.items → LeavesFiles old new → IsPlanFor o s t entries old → IsPlanFor o s t entries new
plans_left o s t entries old new a left p = record {
  base = left.base ∙ p.base;
  items = items_kept old.items new.items (pairs_left old new left) ∙ p.items;
  ascending = p.ascending;
  each = subst (λ (b : Names). All (IsSettled o b s t) new.items) (sym left.base) (all_settled o old.base s t old.items new.items a p.each (pairs_left old new left));
}

-- what is found after files were left out was found before
found_before : (old new : List Decision) (rel : Names) (e : Decision) → AllZip IsKeptOrLeft old new → found item_rel new rel ≡ Some e → (d : Decision) × (found item_rel old rel ≡ Some d) × IsKeptOrLeft d e
found_before [] [] rel e h f = absurd (none-some e f)
found_before [] (y ∷ ys) rel e h f = absurd h
found_before (x ∷ xs) [] rel e h f = absurd h
found_before (x ∷ xs) (y ∷ ys) rel e h f =
    by (same_path x.item.rel rel) (sym (ap (λ (i : Entry). cond (same_path i.rel rel) (Some y) (found item_rel ys rel)) (item_kept x y h.0)) ∙ f) (found_before xs ys rel e h.1)
  where
    by : (b : Bool) → cond b (Some y) (found item_rel ys rel) ≡ Some e → (found item_rel ys rel ≡ Some e → (d : Decision) × (found item_rel xs rel ≡ Some d) × IsKeptOrLeft d e)
        → (d : Decision) × (cond b (Some x) (found item_rel xs rel) ≡ Some d) × IsKeptOrLeft d e
    by true k ih = (x, refl, subst (IsKeptOrLeft x) (same_Some y e k) h.0)
    by false k ih = ih k

-- ---- the plan of a copy
module _ (job : Job) (plan : Decisions) (planned : IsPlanOf job plan) where
  -- what the plan has at a path is what is listed there
  pub listed_at : (rel : Names) (d : Decision) → found item_rel plan.items rel ≡ Some d → (origin : Origin) × (job.listing rel ≡ Some origin) × (d.item ≡ entry_at rel origin)
  listed_at rel d e = by (job.listing rel) refl (ap (option_map item_of) (sym e) ∙ planned.entries rel)
    where
      by : (x : Option Origin) → job.listing rel ≡ x → Some d.item ≡ option_map (entry_at rel) x → (origin : Origin) × (job.listing rel ≡ Some origin) × (d.item ≡ entry_at rel origin)
      by None h k = absurd (none-some d.item (sym k))
      by (Some origin) h k = (origin, h, same_Some d.item (entry_at rel origin) k)

  -- what is listed has a decision
  pub decided_for : (rel : Names) (origin : Origin) → job.listing rel ≡ Some origin → (d : Decision) × (found item_rel plan.items rel ≡ Some d)
  decided_for rel origin h = by (found item_rel plan.items rel) refl (planned.entries rel ∙ ap (option_map (entry_at rel)) h)
    where
      by : (x : Option Decision) → found item_rel plan.items rel ≡ x → option_map item_of x ≡ Some (entry_at rel origin) → (d : Decision) × (found item_rel plan.items rel ≡ Some d)
      by None e k = absurd (none-some (entry_at rel origin) k)
      by (Some d) e k = (d, e)

  -- it clashes as its item does
  pub clash_is : (rel : Names) (d : Decision) → found item_rel plan.items rel ≡ Some d → clashes_at job rel ≡ clashes_in job.before plan.base d.item
  clash_is rel d e =
      let l = listed_at rel d e in
      ap (λ (x : Option Origin). option_map_or (λ (origin : Origin). clashes (is_dir origin.node) (seen job.before (job.base ++ rel))) x false) l.1
      ∙ ap (λ b. clashes b (seen job.before (job.base ++ rel))) (sym (ap (λ (i : Entry). i.dir) l.2 ∙ file_node rel l.0.from l.0.node))
      ∙ ap (λ (b : Names). clashes d.item.dir (seen job.before (b ++ rel))) (sym planned.under)
      ∙ ap (λ (r : Names). clashes d.item.dir (seen job.before (plan.base ++ r))) (sym (found_at item_rel plan.items rel d e))

  -- what the copy goes on with is in the plan as it was decided
  pub run_is : (rel : Names) (d : Decision) → found item_rel plan.items rel ≡ Some d → cond (not d.out) (Some d) None ≡ option_map (λ (origin : Origin). decided job.settings rel origin (old_at job rel)) (in_run job rel)
  run_is rel d e = sym (ap (kept is_in) e) ∙ sym (found-filter item_rel is_in plan.items rel planned.ascending) ∙ planned.decisions rel

  pub decided_at : (rel : Names) (d : Decision) → found item_rel plan.items rel ≡ Some d → d.out ≡ false → (origin : Origin) × (in_run job rel ≡ Some origin) × (d ≡ decided job.settings rel origin (old_at job rel))
  decided_at rel d e h = by (in_run job rel) refl (ap (λ b. cond (not b) (Some d) None) (sym h) ∙ run_is rel d e)
    where
      by : (x : Option Origin) → in_run job rel ≡ x → Some d ≡ option_map (λ (origin : Origin). decided job.settings rel origin (old_at job rel)) x
          → (origin : Origin) × (in_run job rel ≡ Some origin) × (d ≡ decided job.settings rel origin (old_at job rel))
      by None k q = absurd (none-some d (sym q))
      by (Some origin) k q = (origin, k, same_Some d (decided job.settings rel origin (old_at job rel)) q)

-- ---- what is written stands in the source
written_stands : (o : Settings) (s : Tree) (rel from : Names) (node : Node) (old : Option Node) → s from ≡ Some node → is_written (action_of o node old) ≡ true
    → option_map length (bytes_of (s from)) ≡ Some (entry_at rel (record { from = from; node = node })).length
written_stands o s rel from (Dir a) old h w = let no : false ≡ true = w in absurd (cc)
written_stands o s rel from (File b a) old h w = ap (λ (x : Option Node). option_map length (bytes_of x)) h

-- an item with which nothing is to be done is not written
idle : (dir : Bool) → is_written (cond dir action.Folder action.Skip) ≡ false
idle true = refl
idle false = refl

-- ---- a copy from what is settled on
module _ (o : Settings) (s t : Tree) (entries : List Entry) (old new : Decisions) (paths : List Names) (p : IsPrepared o s t entries old paths) (source : IsTree s) (target : IsTree t) (left : LeavesFiles old new) where
  abbrev first : Job
  first = job_of o s t p.surveyed.asked old

  abbrev job : Job
  job = job_of o s t p.surveyed.asked new

  pub first_plan : IsPlanFor o s t entries old
  first_plan = decisions_are_plans o s t entries old p.under p.items p.ascending p.out p.decides

  pub first_ready : IsReady o s t old paths first
  first_ready = plans_are_ready o s t entries old paths source target p.surveyed first_plan p.going

  pub left_plan : IsPlanFor o s t entries new
  left_plan = plans_left o s t entries old new p.asked left first_plan

  pub left_ready : IsReady o s t new paths job
  left_ready =
      plans_are_ready o s t entries new paths source target p.surveyed left_plan
      (still_to_go o t old new paths (sym left.base) (sym (items_kept old.items new.items (pairs_left old new left))) p.going)

  -- ---- what it goes on without
  out_at : (rel : Names) (d : Decision) → found item_rel new.items rel ≡ Some d → job.out rel ≡ d.out
  out_at rel d e = ap (λ (x : Option Decision). option_map_or (λ (y : Decision). y.out) x false) e

  out_found : (rel : Names) → job.out rel ≡ true → (d : Decision) × (found item_rel new.items rel ≡ Some d) × (d.out ≡ true)
  out_found rel h = by (found item_rel new.items rel) refl h
    where
      by : (x : Option Decision) → found item_rel new.items rel ≡ x → option_map_or (λ (y : Decision). y.out) x false ≡ true → (d : Decision) × (found item_rel new.items rel ≡ Some d) × (d.out ≡ true)
      by None e k = let no : false ≡ true = k in absurd (cc)
      by (Some d) e k = (d, e, k)

  none_out : o.ignore ≡ false → new ≡ old → (rel : Names) → job.out rel ≡ false
  none_out off same rel = ap (λ (plan : Decisions). is_out plan rel) same ∙ by (found item_rel old.items rel) refl
    where
      by : (x : Option Decision) → found item_rel old.items rel ≡ x → option_map_or (λ (y : Decision). y.out) x false ≡ false
      by None e = refl
      by (Some d) e = (found_each (IsAsked o) item_rel old.items rel d p.asked e).allowed off

  clash_out : (rel : Names) → clashes_at job rel ≡ true → job.out rel ≡ true
  clash_out rel h = by (job.listing rel) refl h
    where
      by : (x : Option Origin) → job.listing rel ≡ x → option_map_or (λ (origin : Origin). clashes (is_dir origin.node) (seen t (new.base ++ rel))) x false ≡ true → job.out rel ≡ true
      by None e k = let no : false ≡ true = k in absurd (cc)
      by (Some origin) e k =
          let d = decided_for job new left_ready.planned rel origin e in
          out_at rel d.0 d.1 ∙ (found_each (IsSettled o new.base s t) item_rel new.items rel d.0 left_plan.each d.1).clashing (sym (clash_is job new left_ready.planned rel d.0 d.1) ∙ h)

  -- the clashes are those of the plan before files were left out
  pub clash_still : (rel : Names) → clashes_at job rel ≡ clashes_at first rel
  clash_still rel = ap (λ (b : Names). clashes_at (record first { base = b }) rel) left.base

  written_still : (rel : Names) → is_written_at job rel ≡ is_written_at first rel
  written_still rel = ap (λ (b : Names). is_written_at (record first { base = b }) rel) left.base

  pub out_clashes : (rel : Names) (d : Decision) → found item_rel old.items rel ≡ Some d → d.out ≡ clashes_at job rel
  out_clashes rel d e = found_each (IsOutByClash t old.base) item_rel old.items rel d p.out e ∙ sym (clash_is first old first_ready.planned rel d e) ∙ sym (clash_still rel)

  -- where no file was left out, it goes on without exactly what clashes
  pub only_clashes : new ≡ old → (rel : Names) → job.out rel ≡ clashes_at job rel
  only_clashes same rel = by (found item_rel old.items rel) refl
    where
      before : job.out rel ≡ first.out rel
      before = ap (λ (plan : Decisions). is_out plan rel) same

      calm : (x : Bool) → clashes_at job rel ≡ x → job.out rel ≡ false → job.out rel ≡ clashes_at job rel
      calm true e h = let no : false ≡ true = sym h ∙ clash_out rel e in absurd (cc)
      calm false e h = h ∙ sym e

      by : (x : Option Decision) → found item_rel old.items rel ≡ x → job.out rel ≡ clashes_at job rel
      by None e = calm (clashes_at job rel) refl (before ∙ ap (λ (x : Option Decision). option_map_or (λ (y : Decision). y.out) x false) e)
      by (Some d) e = before ∙ ap (λ (x : Option Decision). option_map_or (λ (y : Decision). y.out) x false) e ∙ out_clashes rel d e

  -- a file that is left out was to be written
  pub left_written : (rel : Names) (d : Decision) → found item_rel old.items rel ≡ Some d → is_landing d ≡ true → is_written_at job rel ≡ true
  left_written rel d e l =
      let k = decided_at first old first_ready.planned rel d e (not-true d.out (first_so _ _ l)) in
      written_still rel
      ∙ ap (λ (x : Option Origin). option_map_or (λ (origin : Origin). is_written (action_of o origin.node (old_at first rel))) x false) (run_listed first rel k.0 k.1)
      ∙ sym (ap (λ (x : Decision). is_written x.action) k.2)
      ∙ second_so _ _ l

  out_why : (rel : Names) → job.out rel ≡ true → (clashes_at job rel ≡ true) ⊎ (is_written_at job rel ≡ true)
  out_why rel h =
      let e = out_found rel h in
      let d = found_before old.items new.items rel e.0 (pairs_left old new left) e.1 in
      by d.0 d.1 e.0 e.2 d.2
    where
      by : (d : Decision) → found item_rel old.items rel ≡ Some d → (e : Decision) → e.out ≡ true → IsKeptOrLeft d e → (clashes_at job rel ≡ true) ⊎ (is_written_at job rel ≡ true)
      by d f e k (inl same) = inl (sym (out_clashes rel d f) ∙ ap (λ (x : Decision). x.out) (sym same) ∙ k)
      by d f e k (inr left) = inr (left_written rel d f left.0)

  allowed : IsAllowed o s t entries
  allowed = record {
    plan = old;
    planned = record {
      under = p.under;
      entries = p.items;
      asked = p.asked;
      out = subst (λ (b : Names). All (IsOutByClash t b) old.items) p.under p.out;
      decides = subst (λ (b : Names). All (IsDecidedOn o b s t) old.items) p.under p.decides;
    };
    walked = p.walked;
    few = p.few;
  }

  pub copy_is : (o.ignore ≡ false → new ≡ old) → IsCopy o s t entries job
  copy_is kept = record {
    surveyed = p.surveyed;
    ascending = p.ascending;
    allowed = allowed;
    job_is = ap (λ (b : Names). record job { base = b }) (left.base ∙ p.under);
    asked = λ off. none_out off (kept off);
    clashing = clash_out;
    spared = out_why;
  }

  -- ---- what is ready
  stands_at : (rel : Names) (d : Decision) → found item_rel old.items rel ≡ Some d → StandsIn s d
  stands_at rel d e w = by d.out refl
    where
      by : (b : Bool) → d.out ≡ b → option_map length (bytes_of (s d.item.from)) ≡ Some d.item.length
      by true h =
          let a = found_each (IsAsked o) item_rel old.items rel d p.asked e in
          let no : true ≡ false = sym w ∙ ap (λ (x : Decision). is_written x.action) (a.left_out h) ∙ idle d.item.dir in absurd (cc)
      by false h =
          let k = decided_at first old first_ready.planned rel d e h in
          let shown = first_ready.copy.shown rel k.0 (run_listed first rel k.0 k.1) in
          ap (λ (x : Decision). option_map length (bytes_of (s x.item.from))) k.2
          ∙ written_stands o s rel k.0.from k.0.node (old_at first rel) shown (sym (ap (λ (x : Decision). is_written x.action) k.2) ∙ w)
          ∙ sym (ap (λ (x : Decision). Some x.item.length) k.2)

  stand : All (StandsIn s) old.items
  stand = each_found (StandsIn s) item_rel old.items first_ready.planned.ascending stands_at

  pub commit_is : {P : Type 0} (content : P → Option (List ℕ)) (size : P → ℕ) (files : List (Ready P)) → All IsKept old.items
      → AreCopied (crew.job_of (Some s) true old.items (plan_pieces o.blocks old)) content size old new files → list_all (is_ready new) files ≡ true
      → IsCommitOf s job (task_of content size o o.target new files paths) (Some t)
  commit_is content size files kept copied ready = record {
    copy = left_ready.copy;
    begins = left_ready.begins;
    given = record {
      planned = left_ready.planned;
      lands = joined_land content size s o.blocks old new copied.parts copied.given_up files
          (record { kept = kept; right = copied.right; once = copied.once; left = copied.left; joined = copied.joined; ready = ready })
          stand;
      removes = left_ready.removes;
    };
    told = refl;
    place = refl;
    settings = refl;
    atomic = left_ready.atomic;
    direct = left_ready.plain;
  }
