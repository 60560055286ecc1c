-- What a plan of listed entries decides is the plan of a copy.
use Rattle.std.proofs.Common.{◌≡◌, ℕ, zero, suc, ◌≤◌, Bool, true, false, cond, List, [], ◌∷◌, ◌++◌, map, length, Option, Some, None, IfSome, slice_get, refl, sym, ◌∙◌, ap, subst, arith}
use Rattle.std.proofs.lemmas.List.{length-map}
use Rattle.std.proofs.lemmas.List.Elements.{All-nil, All-cons, All-head, All-tail}
use Rattle.std.specs.Cmp.{second_so}
use Rattle.std.specs.List.{All}
use Rattle.std.specs.Option.{option_map, option_map_or}
use Rattle.dc_path.specs.Found.{found}
use Rattle.dc_path.specs.Order.{is_ascending}
use Rattle.dc_path.specs.Paths.{Names, same_path}
use Rattle.dc_path.proofs.FoundLemmas.{found-once}
use Rattle.dc_path.proofs.PathLemmas.{same_path-refl}
use Rattle.dc_attrs.specs.Trees.{Tree, IsTree, is_dir, seen}
use Rattle.dc_options.specs.Settings.{Settings}
use Rattle.dc_listing.specs.Entries.{Entry, entry_of}
use Rattle.dc_listing.specs.Listed.{Origin, Rules, all_listed, entries_at, entry_at, rules_of}
use Rattle.dc_listing.specs.Walks.{IsShown}
use Rattle.dc_listing.specs.declared.item.Root.{Root}
use Rattle.dc_decide.specs.Deciding.{clashes, decided}
use Rattle.dc_decide.specs.Plans.{Decision, Decisions, item_rel, left_out, left_out_at}
use Rattle.dc_plan.specs.Planning.{IsDecidedOn, IsOutByClash, clashes_in, item_of}
use Rattle.dc_plan.proofs.PlanningLemmas.{ascending_still}
use Rattle.dc_result.specs.Jobs.{IsBaseFor, Job}
use Rattle.dc_result.specs.Planning.{GoesOn, IsDecided, IsListedCopy}
use Rattle.dc_result.proofs.Effecting.{behind}
use Rattle.dc_result.proofs.Places.{file_node}
use Rattle.dc_result.proofs.Planning.{entries_are, found_at, found_each, listed_shown}
use Rattle.dc_result.proofs.RootPlaces.{roots_are_placed}
use Rattle.dc_engine.specs.Begun.{DecisionsArePlans, FilesMayBeLeft, IsPlanFor, IsSettled, job_of}
use Rattle.dc_engine.specs.Surveys.{IsSurveyed}
use Rattle.dc_engine.proofs.RoomLemmas.{IsAsked, asked_passes, base_for}

-- ---- each decision
-- where clashes alone are left out
settled_all : (o : Settings) (base : Names) (s t : Tree) (ds : List Decision) → All (IsOutByClash t base) ds → All (IsDecidedOn o base s t) ds → All (IsSettled o base s t) ds
settled_all o base s t [] a b = All-nil (IsSettled o base s t)
settled_all o base s t (d ∷ ds) a b =
    let out : d.out ≡ clashes_in t base d.item = All-head (IsOutByClash t base) d ds a in
    All-cons (IsSettled o base s t) d ds
    (record { clashing = λ h. out ∙ h; besides = λ h k. sym out ∙ h; decision = All-head (IsDecidedOn o base s t) d ds b })
    (settled_all o base s t ds (All-tail (IsOutByClash t base) d ds a) (All-tail (IsDecidedOn o base s t) d ds b))

pub decisions_are_plans : DecisionsArePlans
decisions_are_plans o s t entries plan base items ascending out decides = record {
  base = base;
  items = items;
  ascending = ascending;
  each = settled_all o plan.base s t plan.items out decides;
}

-- a file more is left out
left_settled : (o : Settings) (base : Names) (s t : Tree) (place : ℕ) (ds : List Decision) → IfSome (slice_get ds place) (λ d. d.item.dir ≡ false) → All (IsSettled o base s t) ds → All (IsSettled o base s t) (left_out_at place ds)
left_settled o base s t place [] file a = a
left_settled o base s t zero (d ∷ ds) file a =
    All-cons (IsSettled o base s t) (left_out d) ds
    (record {
      clashing = λ h. refl;
      besides = λ h dir. let f : true ≡ false = sym dir ∙ file in absurd (cc);
      decision = λ h. let f : true ≡ false = h in absurd (cc);
    })
    (All-tail (IsSettled o base s t) d ds a)
left_settled o base s t (suc place) (d ∷ ds) file a =
    All-cons (IsSettled o base s t) d (left_out_at place ds) (All-head (IsSettled o base s t) d ds a) (left_settled o base s t place ds file (All-tail (IsSettled o base s t) d ds a))

pub left_items : (place : ℕ) (ds : List Decision) → map item_of (left_out_at place ds) ≡ map item_of ds
left_items place [] = refl
left_items zero (d ∷ ds) = refl
left_items (suc place) (d ∷ ds) = ap (λ (es : List Entry). d.item ∷ es) (left_items place ds)

pub files_may_be_left : FilesMayBeLeft
files_may_be_left o s t entries plan place file p = record {
  base = p.base;
  items = left_items place plan.items ∙ p.items;
  ascending = p.ascending;
  each = left_settled o plan.base s t place plan.items file p.each;
}

-- ---- items in order
-- what holds of each item that is found holds of all
pub each_found : {A : Type 0} (P : A → Type 0) (place : A → Names) (xs : List A) → is_ascending (map place xs) ≡ true → ((q : Names) (x : A) → found place xs q ≡ Some x → P x) → All P xs
each_found P place [] a h = All-nil P
each_found P place (x ∷ xs) a h =
    All-cons P x xs
    (h (place x) x (ap (λ b. cond b (Some x) (found place xs (place x))) (same_path-refl (place x))))
    (each_found P place xs (second_so _ _ a) (λ q y e. h q y (behind x y (found place xs q) (same_path (place x) q) (found-once place x xs q a) e)))

-- the one entry, where there is one
abbrev these : Option Entry → List Entry
these None = []
these (Some entry) = entry ∷ []

-- of items in order the entries at a path are the one that is found
entries_found : (ds : List Decision) (rel : Names) → is_ascending (map item_rel ds) ≡ true → entries_at (map item_of ds) rel ≡ these (option_map item_of (found item_rel ds rel))
entries_found [] rel a = refl
entries_found (d ∷ ds) rel a = by (same_path d.item.rel rel) refl (entries_found ds rel (second_so _ _ a))
  where
    by : (b : Bool) → same_path d.item.rel rel ≡ b → entries_at (map item_of ds) rel ≡ these (option_map item_of (found item_rel ds rel))
        → cond b (d.item ∷ entries_at (map item_of ds) rel) (entries_at (map item_of ds) rel) ≡ these (option_map item_of (cond b (Some d) (found item_rel ds rel)))
    by true e ih = ap (λ (es : List Entry). d.item ∷ es) (ih ∙ ap (λ o. these (option_map item_of o)) (found-once item_rel d ds rel a e))
    by false e ih = ih

these_few : (o : Option Entry) → length (these o) ≤ 1
these_few None = omega arith
these_few (Some entry) = omega arith

-- ---- the copy of a survey and a plan
module _ (o : Settings) (s t : Tree) (entries : List Entry) (plan : Decisions) (source : IsTree s) (target : IsTree t) (survey : IsSurveyed o s t entries) (p : IsPlanFor o s t entries plan) where
  abbrev rules : Rules
  rules = rules_of survey.asked.lines []

  abbrev roots : List Root
  roots = survey.asked.roots

  abbrev job : Job
  job = job_of o s t survey.asked plan

  pub asked : IsAsked o s t survey.asked
  asked = asked_passes o s t survey.asked survey.allowed

  ascends : is_ascending (map item_rel plan.items) ≡ true
  ascends = ascending_still plan.items entries p.items p.ascending

  are_listed : (rel : Names) → entries_at (map item_of plan.items) rel ≡ map (entry_at rel) (all_listed rules s roots rel)
  are_listed rel = ap (λ (es : List Entry). entries_at es rel) p.items ∙ survey.lists.are rel

  -- the item at a path is what is listed there
  item_is : (rel : Names) (d : Decision) (origin : Origin) → found item_rel plan.items rel ≡ Some d → job.listing rel ≡ Some origin → d.item ≡ entry_at rel origin
  item_is rel d origin e h =
      let same : Some d.item ≡ Some (entry_at rel origin) = ap (option_map item_of) (sym e) ∙ entries_are (all_listed rules s roots) plan.items rel are_listed ∙ ap (option_map (entry_at rel)) h in cc

  -- it stands in the source
  item_shown : (rel : Names) (d : Decision) (origin : Origin) → d.item.rel ≡ rel → d.item ≡ entry_at rel origin → job.listing rel ≡ Some origin → (shown : IsShown s d.item) × (record { from = d.item.from; node = shown.node } ≡ origin)
  item_shown rel d origin at same h =
      let from : d.item.from ≡ origin.from = ap (λ (e : Entry). e.from) same in (
        record {
          node = origin.node;
          stands = ap s from ∙ listed_shown rules s roots rel origin h;
          is = same ∙ ap (λ (r : Names). entry_of r origin.from origin.node) (sym at) ∙ ap (λ (f : Names). entry_of d.item.rel f origin.node) (sym from);
        },
        ap (λ (f : Names). record { from = f; node = origin.node }) from,
      )

  settled_at : (rel : Names) (d : Decision) → found item_rel plan.items rel ≡ Some d → IsSettled o plan.base s t d
  settled_at rel d e = found_each (IsSettled o plan.base s t) item_rel plan.items rel d p.each e

  unclashed_at : (d : Decision) (b : Bool) → clashes_in t plan.base d.item ≡ b → (clashes_in t plan.base d.item ≡ true → d.out ≡ true) → d.out ≡ false → b ≡ false
  unclashed_at d true e h k = sym (h e) ∙ k
  unclashed_at d false e h k = refl

  decided_at : (q : Names) (d : Decision) → found item_rel plan.items q ≡ Some d → IsDecided job d
  decided_at q d e =
      let at : found item_rel plan.items d.item.rel ≡ Some d = ap (found item_rel plan.items) (found_at item_rel plan.items q d e) ∙ e in
      let k = settled_at q d e in
      record {
        out = sym (ap (λ (x : Option Decision). option_map_or (λ (y : Decision). y.out) x false) at);
        decision = λ out origin h.
            let same = item_is d.item.rel d origin at h in
            let shown = item_shown d.item.rel d origin refl same h in
            k.decision out target shown.0 ∙ ap (λ (z : Origin). decided o d.item.rel z (t (plan.base ++ d.item.rel))) shown.1;
        unclashed = unclashed_at d (clashes_in t plan.base d.item) refl k.clashing;
      }

  -- the plan is that of what the roots list
  pub listed_copy : IsListedCopy rules s roots job plan
  listed_copy = record {
    listing = refl;
    under = refl;
    ascending = ascends;
    entries = are_listed;
    each = each_found (IsDecided job) item_rel plan.items ascends decided_at;
    tree = target;
    place = subst (IsBaseFor o.target) (sym p.base) (base_for o t target asked.target);
  }

  -- ---- what is left out
  once : (rel : Names) → length (all_listed rules s roots rel) ≤ 1
  once rel = subst (λ (n : ℕ). n ≤ 1)
      (ap length (sym (entries_found plan.items rel ascends)) ∙ ap length (are_listed rel) ∙ length-map (all_listed rules s roots rel) (entry_at rel))
      (these_few (option_map item_of (found item_rel plan.items rel)))

  out_found : (rel : Names) → job.out rel ≡ true → (d : Decision) × (found item_rel plan.items rel ≡ Some d) × (d.out ≡ true)
  out_found rel h = by (found item_rel plan.items rel) refl h
    where
      by : (x : Option Decision) → found item_rel plan.items rel ≡ x → option_map_or (λ (y : Decision). y.out) x false ≡ true → (d : Decision) × (found item_rel plan.items rel ≡ Some d) × (d.out ≡ true)
      by None e k = absurd (cc)
      by (Some d) e k = (d, e, k)

  -- a listed directory that is left out clashes
  left_clashes : (rel : Names) (origin : Origin) → job.listing rel ≡ Some origin → is_dir origin.node ≡ true → job.out rel ≡ true → clashes true (seen t (plan.base ++ rel)) ≡ true
  left_clashes rel origin h dir out =
      let d = out_found rel out in
      let same = item_is rel d.0 origin d.1 h in
      let is : d.0.item.dir ≡ true = ap (λ (e : Entry). e.dir) same ∙ file_node rel origin.from origin.node ∙ dir in
      ap (λ b. clashes b (seen t (plan.base ++ rel))) (sym is)
      ∙ ap (λ (r : Names). clashes d.0.item.dir (seen t (plan.base ++ r))) (sym (found_at item_rel plan.items rel d.0 d.1))
      ∙ (settled_at rel d.0 d.1).besides d.2 is

  pub goes_on : GoesOn rules s roots job
  goes_on = record {
    roots_are = roots_are_placed o (seen t o.target) s asked.sources roots source asked.roots;
    once = once;
    clashing = left_clashes;
  }
