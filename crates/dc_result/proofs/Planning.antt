-- What roots list, each item decided on, is a copy that a commit can make.
use Rattle.std.proofs.Common.{◌≡◌, List, [], ◌∷◌, ◌++◌, Bool, true, false, cond, not, Option, Some, None, map, slice_get, refl, sym, ◌∙◌, ap, subst}
use Rattle.std.proofs.lemmas.List.Elements.{All-head, All-tail}
use Rattle.std.specs.List.{All}
use Rattle.std.specs.Option.{option_map}
use Rattle.dc_path.specs.Found.{found}
use Rattle.dc_path.specs.Paths.{Names, at_cut, cut, same_path}
use Rattle.dc_path.proofs.FoundLemmas.{found-filter, kept}
use Rattle.dc_path.proofs.PathLemmas.{append-cut, same_path-true}
use Rattle.dc_attrs.specs.Trees.{Node, Tree, is_dir, seen}
use Rattle.dc_listing.specs.Entries.{Entry}
use Rattle.dc_listing.specs.Listed.{Origin, Rules, AreListed, all_listed, entries_at, entry_at, is_listed, listed_by, origins_of}
use Rattle.dc_listing.specs.declared.item.Root.{Root}
use Rattle.dc_decide.specs.Deciding.{clashes, decided}
use Rattle.dc_decide.specs.Plans.{Decision, Decisions, item_rel}
use Rattle.dc_plan.specs.Planning.{item_of}
use Rattle.dc_result.specs.Commits.{IsPlanOf, is_in}
use Rattle.dc_result.specs.Jobs.{IsJob, IsShownIn, Job, in_run, listed, old_at}
use Rattle.dc_result.specs.Planning.{IsDecided, IsListedCopy, ListedCopiesAreJobs}
use Rattle.dc_result.proofs.Places.{file_node}

-- ---- what roots list
-- what one root lists at a path
pub record FromRoot (rules : Rules) (s : Tree) (root : Root) (rel : Names) (z : Origin) : Type 0 where
  pub rest : Names
  pub path : rel ≡ root.prefix ++ rest
  pub from : z.from ≡ root.source ++ rest
  pub node : s (root.source ++ rest) ≡ Some z.node
  pub listed : is_listed rules s root rest ≡ true

origin_is : (from : Names) (o : Option Node) (b : Bool) (z : Origin) (more : List Origin) → origins_of from o b ≡ z ∷ more → (z.from ≡ from) × (o ≡ Some z.node) × (b ≡ true)
origin_is from None b z more h = absurd (cc)
origin_is from (Some n) true z more h = let k : record { from = from; node = n } ≡ z = cc in (sym (ap (λ (y : Origin). y.from) k), ap (λ (y : Origin). Some y.node) k, refl)
origin_is from (Some n) false z more h = absurd (cc)

pub from_root : (rules : Rules) (s : Tree) (root : Root) (rel : Names) (z : Origin) (more : List Origin) → listed_by rules s root rel ≡ z ∷ more → FromRoot rules s root rel z
from_root rules s root rel z more h = by (cut root.prefix rel) refl h
  where
    by : (o : Option Names) → cut root.prefix rel ≡ o → at_cut o [] (λ rest. origins_of (root.source ++ rest) (s (root.source ++ rest)) (is_listed rules s root rest)) ≡ z ∷ more → FromRoot rules s root rel z
    by None e k = absurd (cc)
    by (Some rest) e k =
        let is = origin_is (root.source ++ rest) (s (root.source ++ rest)) (is_listed rules s root rest) z more k in
        record { rest = rest; path = append-cut root.prefix rel rest e; from = is.0; node = is.1; listed = is.2 }

-- the first that is listed, and the root that lists it
pub record FirstRoot (rules : Rules) (s : Tree) (roots : List Root) (rel : Names) (z : Origin) : Type 0 where
  pub before : List Root
  pub root : Root
  pub behind : List Root
  pub roots_are : roots ≡ before ++ root ∷ behind
  pub is : FromRoot rules s root rel z

pub first_root : (rules : Rules) (s : Tree) (roots : List Root) (rel : Names) (z : Origin) → listed rules s roots rel ≡ Some z → FirstRoot rules s roots rel z
first_root rules s [] rel z h = absurd (cc)
first_root rules s (root ∷ roots) rel z h = by (listed_by rules s root rel) refl h (first_root rules s roots rel z)
  where
    by : (xs : List Origin) → listed_by rules s root rel ≡ xs → slice_get (xs ++ all_listed rules s roots rel) 0 ≡ Some z → (listed rules s roots rel ≡ Some z → FirstRoot rules s roots rel z) → FirstRoot rules s (root ∷ roots) rel z
    by [] e k ih = let f = ih k in record { before = root ∷ f.before; root = f.root; behind = f.behind; roots_are = ap (λ (rs : List Root). root ∷ rs) f.roots_are; is = f.is }
    by (y ∷ ys) e k ih =
        let same : y ≡ z = cc in
        record { before = []; root = root; behind = roots; roots_are = refl; is = from_root rules s root rel z ys (e ∙ ap (λ (x : Origin). x ∷ ys) same) }

-- what is listed stands in the source
pub listed_shown : (rules : Rules) (s : Tree) (roots : List Root) → IsShownIn s (listed rules s roots)
listed_shown rules s roots rel z h = let f = first_root rules s roots rel z h in ap s f.is.from ∙ f.is.node

-- ---- the first entry at a path
first_entry : (items : List Decision) (rel : Names) → slice_get (entries_at (map item_of items) rel) 0 ≡ option_map item_of (found item_rel items rel)
first_entry [] rel = refl
first_entry (d ∷ items) rel = by (same_path d.item.rel rel) (first_entry items rel)
  where
    by : (b : Bool) → slice_get (entries_at (map item_of items) rel) 0 ≡ option_map item_of (found item_rel items rel)
        → slice_get (cond b (d.item ∷ entries_at (map item_of items) rel) (entries_at (map item_of items) rel)) 0 ≡ option_map item_of (cond b (Some d) (found item_rel items rel))
    by true ih = refl
    by false ih = ih

first_mapped : (rel : Names) (zs : List Origin) → slice_get (map (entry_at rel) zs) 0 ≡ option_map (entry_at rel) (slice_get zs 0)
first_mapped rel [] = refl
first_mapped rel (z ∷ zs) = refl

pub entries_are : (all : Names → List Origin) (items : List Decision) (rel : Names) → AreListed all (map item_of items) → option_map item_of (found item_rel items rel) ≡ option_map (entry_at rel) (slice_get (all rel) 0)
entries_are all items rel are = sym (first_entry items rel) ∙ ap (λ (es : List Entry). slice_get es 0) (are rel) ∙ first_mapped rel (all rel)

-- ---- what was decided on each
pub found_each : {A : Type 0} (P : A → Type 0) (place : A → Names) (xs : List A) (q : Names) (x : A) → All P xs → found place xs q ≡ Some x → P x
found_each P place [] q x a h = absurd (cc)
found_each P place (y ∷ xs) q x a h = by (same_path (place y) q) (found_each P place xs q x (All-tail P y xs a)) h
  where
    by : (b : Bool) → (found place xs q ≡ Some x → P x) → cond b (Some y) (found place xs q) ≡ Some x → P x
    by true ih k = let same : y ≡ x = cc in subst P same (All-head P y xs a)
    by false ih k = ih k

pub found_at : {A : Type 0} (place : A → Names) (xs : List A) (q : Names) (x : A) → found place xs q ≡ Some x → place x ≡ q
found_at place [] q x h = absurd (cc)
found_at place (y ∷ xs) q x h = by (same_path (place y) q) refl (found_at place xs q x) h
  where
    by : (b : Bool) → same_path (place y) q ≡ b → (found place xs q ≡ Some x → place x ≡ q) → cond b (Some y) (found place xs q) ≡ Some x → place x ≡ q
    by true e ih k = let same : y ≡ x = cc in ap place (sym same) ∙ same_path-true (place y) q e
    by false e ih k = ih k

none_mapped : {A B : Type 0} (f : A → B) (o : Option A) → None ≡ option_map f o → o ≡ None
none_mapped f None h = refl
none_mapped f (Some x) h = absurd (cc)

some_mapped : {A B : Type 0} (f : A → B) (y : B) (o : Option A) → Some y ≡ option_map f o → (x : A) × (o ≡ Some x) × (y ≡ f x)
some_mapped f y None h = absurd (cc)
some_mapped f y (Some x) h = (x, refl, cc)

none_either : (b : Bool) (o : Option Origin) → o ≡ None → cond b None o ≡ None
none_either true o h = refl
none_either false o h = h

module _ (rules : Rules) (s : Tree) (roots : List Root) (job : Job) (plan : Decisions) (is : IsListedCopy rules s roots job plan) where
  entries_of : (rel : Names) → option_map item_of (found item_rel plan.items rel) ≡ option_map (entry_at rel) (job.listing rel)
  entries_of rel = entries_are (all_listed rules s roots) plan.items rel is.entries ∙ ap (λ (f : Names → Option Origin). option_map (entry_at rel) (f rel)) (sym is.listing)

  -- an item that is found, and what is listed there
  by_found : (rel : Names) (o : Option Decision) → found item_rel plan.items rel ≡ o → kept is_in o ≡ option_map (λ origin. decided job.settings rel origin (old_at job rel)) (in_run job rel)
  by_found rel None e =
      let none = none_mapped (entry_at rel) (job.listing rel) (sym (ap (option_map item_of) e) ∙ entries_of rel) in
      sym (ap (option_map (λ origin. decided job.settings rel origin (old_at job rel))) (none_either (job.out rel) (job.listing rel) none))
  by_found rel (Some d) e =
      let z = some_mapped (entry_at rel) d.item (job.listing rel) (sym (ap (option_map item_of) e) ∙ entries_of rel) in
      let k = found_each (IsDecided job) item_rel plan.items rel d is.each e in
      let at = found_at item_rel plan.items rel d e in
      by_out d.out refl z k at
    where
      by_out : (b : Bool) → d.out ≡ b → (z : Origin) × (job.listing rel ≡ Some z) × (d.item ≡ entry_at rel z) → IsDecided job d → item_rel d ≡ rel
          → cond (not d.out) (Some d) None ≡ option_map (λ origin. decided job.settings rel origin (old_at job rel)) (in_run job rel)
      by_out true f z k at =
          ap (λ b. cond (not b) (Some d) None) f
          ∙ sym (ap (λ b. option_map (λ origin. decided job.settings rel origin (old_at job rel)) (cond b None (job.listing rel))) (ap job.out (sym at) ∙ sym k.out ∙ f))
      by_out false f z k at =
          ap (λ b. cond (not b) (Some d) None) f
          ∙ ap Some (k.decision f z.0 (ap job.listing at ∙ z.1) ∙ ap (λ (r : Names). decided job.settings r z.0 (old_at job r)) at)
          ∙ sym (ap (λ b. option_map (λ origin. decided job.settings rel origin (old_at job rel)) (cond b None (job.listing rel))) (ap job.out (sym at) ∙ sym k.out ∙ f)
          ∙ ap (option_map (λ origin. decided job.settings rel origin (old_at job rel))) z.1)

  plan_is : IsPlanOf job plan
  plan_is = record {
    under = is.under;
    ascending = is.ascending;
    entries = entries_of;
    decisions = λ rel. found-filter item_rel is_in plan.items rel is.ascending ∙ by_found rel (found item_rel plan.items rel) refl;
  }

  -- what is copied does not clash
  listed_at : (rel : Names) (z : Origin) → in_run job rel ≡ Some z → (job.out rel ≡ false) × (job.listing rel ≡ Some z)
  listed_at rel z h = by (job.out rel) h
    where
      by : (b : Bool) → cond b None (job.listing rel) ≡ Some z → (b ≡ false) × (job.listing rel ≡ Some z)
      by true k = absurd (cc)
      by false k = (refl, k)

  some_entry : (rel : Names) (z : Origin) → job.listing rel ≡ Some z → (d : Decision) × (found item_rel plan.items rel ≡ Some d) × (entry_at rel z ≡ d.item)
  some_entry rel z h = by (found item_rel plan.items rel) (entries_of rel ∙ ap (option_map (entry_at rel)) h)
    where
      by : (o : Option Decision) → option_map item_of o ≡ Some (entry_at rel z) → (d : Decision) × (o ≡ Some d) × (entry_at rel z ≡ d.item)
      by None k = absurd (cc)
      by (Some d) k = let same : entry_at rel z ≡ d.item = cc in (d, refl, same)

  unclashed_at : (rel : Names) (z : Origin) → in_run job rel ≡ Some z → clashes (is_dir z.node) (seen job.before (job.base ++ rel)) ≡ false
  unclashed_at rel z h =
      let l = listed_at rel z h in
      let d = some_entry rel z l.1 in
      let k = found_each (IsDecided job) item_rel plan.items rel d.0 is.each d.1 in
      let at = found_at item_rel plan.items rel d.0 d.1 in
      ap (λ b. clashes b (seen job.before (job.base ++ rel))) (sym (file_node rel z.from z.node) ∙ ap (λ (e : Entry). e.dir) d.2)
      ∙ ap (λ (r : Names). clashes d.0.item.dir (seen job.before (job.base ++ r))) (sym at)
      ∙ k.unclashed (k.out ∙ ap job.out at ∙ l.0)

  job_is : IsJob s job
  job_is = record {
    tree = is.tree;
    shown = subst (IsShownIn s) (sym is.listing) (listed_shown rules s roots);
    unclashed = unclashed_at;
    place = is.place;
  }

pub listed_copies_are_jobs : ListedCopiesAreJobs
listed_copies_are_jobs rules s roots job plan is = (job_is rules s roots job plan is, plan_is rules s roots job plan is)
