-- What lands is what is listed and not skipped.
use Rattle.std.proofs.Common.{◌≡◌, ℕ, List, [], ◌∷◌, ◌++◌, Bool, true, false, cond, ◌&&◌, Option, Some, None, map, filter, drop, is_some, refl, sym, ◌∙◌, ap, subst}
use Rattle.std.proofs.lemmas.Bool.{and_from}
use Rattle.std.specs.Cmp.{second_so}
use Rattle.std.specs.List.{list_all}
use Rattle.std.specs.Option.{option_map, option_and_then}
use Rattle.dc_path.specs.Found.{found}
use Rattle.dc_path.specs.Order.{is_ascending}
use Rattle.dc_path.specs.Paths.{Names, cut, at_cut, same_path}
use Rattle.dc_path.proofs.FoundLemmas.{ascending-below, ascending-filter, found-below, found-not_below, found-once, kept}
use Rattle.dc_path.proofs.PathLemmas.{same_path-refl}
use Rattle.dc_attrs.specs.Trees.{Node, Dir, File, Tree, bytes_of}
use Rattle.dc_fs.specs.Temporaries.{all_told}
use Rattle.dc_fs.specs.declared.target.Landed.{Landed}
use Rattle.dc_listing.specs.Listed.{Origin}
use Rattle.dc_decide.specs.Deciding.{action_of, decided}
use Rattle.dc_decide.specs.Plans.{Decision, Decisions, item_rel}
use Rattle.dc_commit.specs.Landing.{Landing, is_landing, is_told, is_written, landed_of}
use Rattle.dc_result.specs.Commits.{AreLandings, IsPlanOf, WholeFile, whole_from, whole_of}
use Rattle.dc_result.specs.Effects.{AreEffects, effect_at, effect_of, effect_on, effects, first_byte}
use Rattle.dc_result.specs.Jobs.{Job, IsShownIn, in_run, old_at}
use Rattle.dc_result.proofs.Built.{run_listed}
use Rattle.dc_result.proofs.Folds.{found_part}

-- ---- what all items of a list in order pass
-- what is found behind an item
pub behind : {A : Type 0} (x y : A) (o : Option A) (b : Bool) → (b ≡ true → o ≡ None) → o ≡ Some y → cond b (Some x) o ≡ Some y
behind x y o true once e = let n : None ≡ Some y = sym (once refl) ∙ e in absurd (cc)
behind x y o false once e = e

-- what each item that is found passes, all items pass
pub all_found : {A : Type 0} (place : A → Names) (test : A → Bool) (xs : List A) → is_ascending (map place xs) ≡ true → ((q : Names) (x : A) → found place xs q ≡ Some x → test x ≡ true) → list_all test xs ≡ true
all_found place test [] a h = refl
all_found place test (x ∷ xs) a h = and_from (test x) (list_all test xs)
    (h (place x) x (ap (λ b. cond b (Some x) (found place xs (place x))) (same_path-refl (place x))))
    (all_found place test xs (second_so _ _ a) (λ q y e. h q y (behind x y (found place xs q) (same_path (place x) q) (found-once place x xs q a) e)))

-- ---- each effect, by what is listed
if_effect : (base : Names) (d : Decision) (b : Bool) → option_map (effect_of base) (cond b (Some d) None) ≡ cond b (Some (effect_of base d)) None
if_effect base d true = refl
if_effect base d false = refl

node_effect : (job : Job) (r from : Names) (n : Node) (old : Option Node)
    → option_map (effect_of job.base) (kept (λ d. is_written d.action) (Some (decided job.settings r (record { from = from; node = n }) old))) ≡ effect_on (job.base ++ r) n (action_of job.settings n old)
node_effect job r from (Dir a) old = refl
node_effect job r from (File b a) old = if_effect job.base (decided job.settings r (record { from = from; node = File b a }) old) (is_written (action_of job.settings (File b a) old))

origin_effect : (job : Job) (r : Names) (o : Option Origin)
    → option_map (effect_of job.base) (kept (λ d. is_written d.action) (option_map (λ z. decided job.settings r z (old_at job r)) o))
    ≡ option_and_then (λ z. effect_on (job.base ++ r) z.node (action_of job.settings z.node (old_at job r))) o
origin_effect job r None = refl
origin_effect job r (Some z) = node_effect job r z.from z.node (old_at job r)

-- what an item lands that the copy goes on with, by its path
pub lands_found : (job : Job) (plan : Decisions) (r : Names) → IsPlanOf job plan → found item_rel (filter is_landing plan.items) r ≡ kept (λ d. is_written d.action) (option_map (λ z. decided job.settings r z (old_at job r)) (in_run job r))
lands_found job plan r is = found_part (λ d. is_written d.action) plan.items r is.ascending ∙ ap (kept (λ d. is_written d.action)) (is.decisions r)

effects_under : (job : Job) (items : List Decision) → IsPlanOf job (record { base = job.base; items = items }) → AreEffects job (effects (record { base = job.base; items = items }))
effects_under job items is = record {
  ascending = ascending-below (λ (one : Landed). one.path) item_rel (effect_of job.base) job.base (λ d. refl) (filter is_landing items) ∙ ascending-filter item_rel is_landing items is.ascending;
  each = λ p. at p (cut job.base p) refl;
}
  where
    at : (p : Names) (c : Option Names) → cut job.base p ≡ c → found (λ (one : Landed). one.path) (map (effect_of job.base) (filter is_landing items)) p ≡ at_cut c None (effect_at job)
    at p None e = found-not_below (λ (one : Landed). one.path) item_rel (effect_of job.base) job.base (λ d. refl) (filter is_landing items) p e
    at p (Some r) e =
        found-below (λ (one : Landed). one.path) item_rel (effect_of job.base) job.base (λ d. refl) (filter is_landing items) p r e
        ∙ ap (option_map (effect_of job.base)) (lands_found job (record { base = job.base; items = items }) r is)
        ∙ origin_effect job r (in_run job r)

pub effects_are : (job : Job) (plan : Decisions) → IsPlanOf job plan → AreEffects job (effects plan)
effects_are job plan is =
    let e : plan ≡ record { base = job.base; items = plan.items } = ap (λ (base : Names). record { base = base; items = plan.items }) is.under in
    subst (λ (p : Decisions). AreEffects job (effects p)) (sym e) (effects_under job plan.items (subst (IsPlanOf job) e is))

-- ---- what is recorded, and what is told
abbrev whole_landed : WholeFile → Landed
whole_landed file = record { path = file.place; mode = file.mode; bytes = file.bytes }

each_landed : (landings : List Landing) → map landed_of landings ≡ map whole_landed (map whole_of landings)
each_landed [] = refl
each_landed (landing ∷ landings) = ap (λ (xs : List Landed). landed_of landing ∷ xs) (each_landed landings)

each_effect : (s : Tree) (base : Names) (ds : List Decision) → map whole_landed (map (whole_from s base) ds) ≡ map (effect_of base) ds
each_effect s base [] = refl
each_effect s base (d ∷ ds) = ap (λ (xs : List Landed). effect_of base d ∷ xs) (each_effect s base ds)

-- each item that is written is recorded once, as it has landed
pub landed_are : (s : Tree) (plan : Decisions) (landings : List Landing) → AreLandings s plan landings → map landed_of landings ≡ effects plan
landed_are s plan landings are = each_landed landings ∙ ap (map whole_landed) are ∙ each_effect s plan.base (filter is_landing plan.items)

each_told : (landings : List Landing) → list_all is_told landings ≡ list_all (λ (file : WholeFile). is_some file.content) (map whole_of landings)
each_told [] = refl
each_told (landing ∷ landings) = ap (λ b. is_some (all_told landing.parts) && b) (each_told landings)

each_content : (s : Tree) (base : Names) (ds : List Decision) → list_all (λ (file : WholeFile). is_some file.content) (map (whole_from s base) ds) ≡ list_all (λ d. is_some (whole_from s base d).content) ds
each_content s base [] = refl
each_content s base (d ∷ ds) = ap (λ b. is_some (whole_from s base d).content && b) (each_content s base ds)

written_told : (job : Job) (s : Tree) (r from : Names) (n : Node) (old : Option Node) (d : Decision) → s from ≡ Some n
    → kept (λ d. is_written d.action) (Some (decided job.settings r (record { from = from; node = n }) old)) ≡ Some d → is_some (bytes_of (s d.item.from)) ≡ true
written_told job s r from (Dir a) old d f h = absurd (cc)
written_told job s r from (File b a) old d f h = by (is_written (action_of job.settings (File b a) old)) h
  where
    by : (w : Bool) → cond w (Some (decided job.settings r (record { from = from; node = File b a }) old)) None ≡ Some d → is_some (bytes_of (s d.item.from)) ≡ true
    by true e =
        let k : decided job.settings r (record { from = from; node = File b a }) old ≡ d = cc in
        subst (λ (z : Decision). is_some (bytes_of (s z.item.from)) ≡ true) k (ap (λ o. is_some (bytes_of o)) f)
    by false e = absurd (cc)

file_told : (job : Job) (s : Tree) (r : Names) (d : Decision) (o : Option Origin) → ((z : Origin) → o ≡ Some z → s z.from ≡ Some z.node)
    → kept (λ d. is_written d.action) (option_map (λ z. decided job.settings r z (old_at job r)) o) ≡ Some d → is_some (bytes_of (s d.item.from)) ≡ true
file_told job s r d None shown h = absurd (cc)
file_told job s r d (Some z) shown h = written_told job s r z.from z.node (old_at job r) d (shown z refl) h

dropped_told : (n : ℕ) (o : Option (List ℕ)) → is_some (option_map (drop n) o) ≡ is_some o
dropped_told n None = refl
dropped_told n (Some b) = refl

-- a source that is told tells the bytes of all that lands
pub all_are_told : (s : Tree) (job : Job) (plan : Decisions) (landings : List Landing) → IsShownIn s job.listing → IsPlanOf job plan → AreLandings s plan landings → list_all is_told landings ≡ true
all_are_told s job plan landings shown is are =
    each_told landings ∙ ap (list_all (λ (file : WholeFile). is_some file.content)) are ∙ each_content s plan.base (filter is_landing plan.items)
    ∙ all_found item_rel (λ d. is_some (whole_from s plan.base d).content) (filter is_landing plan.items) (ascending-filter item_rel is_landing plan.items is.ascending)
    (λ r d h. dropped_told (first_byte d.action) (bytes_of (s d.item.from)) ∙ file_told job s r d (in_run job r) (λ z e. shown r z (run_listed job r z e)) (sym (lands_found job plan r is) ∙ h))
