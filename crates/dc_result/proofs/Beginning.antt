-- What holds when a commit begins: where directories are made, and where files may land.
use Rattle.std.proofs.Common.{◌≡◌, ◌⊎◌, inl, inr, ⊎_elim, List, [], ◌∷◌, ◌++◌, Bool, true, false, cond, not, ◌&&◌, ◌||◌, Option, Some, None, map, filter, is_some, refl, sym, ◌∙◌, ap, subst, append-nil, append_assoc}
use Rattle.std.proofs.lemmas.Bool.{and_from, or_right}
use Rattle.std.specs.Cmp.{second_so}
use Rattle.std.specs.Option.{option_map, option_map_or}
use Rattle.dc_path.specs.Found.{found, has_path}
use Rattle.dc_path.specs.Paths.{Names, cut, front_of, is_above, is_root, same_path}
use Rattle.dc_path.proofs.FoundLemmas.{kept}
use Rattle.dc_path.proofs.PathLemmas.{Last, empty, ended, append-cut, cut-append, front_of-append, last_case, same_path-refl, same_path-true}
use Rattle.dc_attrs.specs.Trees.{Node, Dir, File, Tree, IsDirAt, is_dir, is_dir_node, seen_node}
use Rattle.dc_attrs.proofs.TreeLemmas.{seen_from-there}
use Rattle.dc_listing.specs.Listed.{Origin, entry_at}
use Rattle.dc_decide.specs.Deciding.{action_of, clashes, decided}
use Rattle.dc_decide.specs.Plans.{Decision, item_rel}
use Rattle.dc_commit.specs.Making.{has_root_file, ways}
use Rattle.dc_commit.specs.Settings.{is_dir_item, place_of}
use Rattle.dc_result.specs.Begins.{Begins, copies_dir, is_no_file}
use Rattle.dc_result.specs.Commits.{IsPlanOf, is_in}
use Rattle.dc_result.specs.Jobs.{Job, IsJob, in_run, lists_file, old_at}
use Rattle.dc_result.specs.Result.{is_base}
use Rattle.dc_result.proofs.Building.{found_in}
use Rattle.dc_result.proofs.Built.{not_above, run_listed, unclashed_node}
use Rattle.dc_result.proofs.Folds.{found_off, has_found, part_ascends}
use Rattle.dc_result.proofs.KindLemmas.{parent_dir, stands_dir}
use Rattle.dc_result.proofs.ListedAbove.{below_file}
use Rattle.dc_result.proofs.Making.{Makes, all_made, fronted, fronted_append, fronted_ascending, made_last, ways_fronted}
use Rattle.dc_result.proofs.Places.{base_at, base_places, dir_places, file_node, places_are, root_file, way_at}

-- ---- what is found in a part of a plan
pub kept_some : {A : Type 0} (test : A → Bool) (o : Option A) (x : A) → kept test o ≡ Some x → (o ≡ Some x) × (test x ≡ true)
kept_some test None x h = absurd (cc)
kept_some test (Some z) x h = by (test z) refl h
  where
    by : (b : Bool) → test z ≡ b → cond b (Some z) None ≡ Some x → (Some z ≡ Some x) × (test x ≡ true)
    by true e f = (f, cc)
    by false e f = absurd (cc)

pub from_map : {A B : Type 0} (f : A → B) (o : Option A) (y : B) → option_map f o ≡ Some y → (x : A) × (o ≡ Some x) × (f x ≡ y)
from_map f None y h = absurd (cc)
from_map f (Some x) y h = (x, refl, cc)

-- an item that is copied: its path, what is listed there, and that it is as was decided
pub record Placed (job : Job) (p : Names) (d : Decision) : Type 0 where
  pub rel : Names
  pub origin : Origin
  pub path : p ≡ job.base ++ rel
  pub run : in_run job rel ≡ Some origin
  pub decision : d ≡ decided job.settings rel origin (old_at job rel)

pub place_is : (job : Job) (p : Names) (d : Decision) (k : Placed job p d) → place_of job.base d ≡ p
place_is job p d k = ap (place_of job.base) k.decision ∙ sym k.path

pub dir_is : (job : Job) (p : Names) (d : Decision) (k : Placed job p d) → d.item.dir ≡ is_dir k.origin.node
dir_is job p d k = ap (λ (e : Decision). e.item.dir) k.decision ∙ file_node k.rel k.origin.from k.origin.node

pub action_is : (job : Job) (p : Names) (d : Decision) (k : Placed job p d) → d.action ≡ action_of job.settings k.origin.node (old_at job k.rel)
action_is job p d k = ap (λ (e : Decision). e.action) k.decision

-- whether the item is a directory is whether one is listed
if_some : {A : Type 0} (b : Bool) (x : A) → is_some (cond b (Some x) None) ≡ b
if_some true x = refl
if_some false x = refl

dir_kept : (job : Job) (rel : Names) (o : Option Origin) → is_some (kept (λ d. d.item.dir) (option_map (λ z. decided job.settings rel z (old_at job rel)) o)) ≡ option_map_or (λ origin. is_dir origin.node) o false
dir_kept job rel None = refl
dir_kept job rel (Some z) = if_some (entry_at rel z).dir (decided job.settings rel z (old_at job rel)) ∙ file_node rel z.from z.node

-- ---- a copy and its plan
module _ (s : Tree) (job : Job) (items : List Decision) (is : IsJob s job) (planned : IsPlanOf job (record { base = job.base; items = items })) where
  -- an item that is found is one that is copied
  pub placed : (test : Decision → Bool) (p : Names) (d : Decision) → found (place_of job.base) (filter (λ d. not d.out && test d) items) p ≡ Some d → Placed job p d × (test d ≡ true)
  placed test p d h = by (cut job.base p) refl
    where
      by : (c : Option Names) → cut job.base p ≡ c → Placed job p d × (test d ≡ true)
      by None e = let f : None ≡ Some d = sym (found_off job.base (filter (λ d. not d.out && test d) items) p e) ∙ h in absurd (cc)
      by (Some r) e =
          let k = kept_some test (found item_rel (filter is_in items) r) d (sym (found_in test job.base items p r planned.ascending e) ∙ h) in
          let z = from_map (λ (origin : Origin). decided job.settings r origin (old_at job r)) (in_run job r) d (sym (planned.decisions r) ∙ k.0) in
          (record { rel = r; origin = z.0; path = append-cut job.base p r e; run = z.1; decision = sym z.2 }, k.1)

  -- a directory that is copied has its place
  folder_found : (rel : Names) → is_some (found (place_of job.base) (filter is_dir_item items) (job.base ++ rel)) ≡ copies_dir job rel
  folder_found rel =
      ap is_some (found_in (λ d. d.item.dir) job.base items (job.base ++ rel) rel planned.ascending (cut-append job.base rel))
      ∙ ap (λ o. is_some (kept (λ d. d.item.dir) o)) (planned.decisions rel)
      ∙ dir_kept job rel (in_run job rel)

  base_found : (rel : Names) → has_path (base_places job.base items) (job.base ++ rel) ≡ is_base job rel
  base_found rel = base_at job.base items (job.base ++ rel) rel (cut-append job.base rel) ∙ ap (λ b. is_root rel && not b) (root_file job (record { base = job.base; items = items }) planned)

  -- where a file is copied no directory is made
  root_listed : (rel : Names) (origin : Origin) → job.listing rel ≡ Some origin → is_dir origin.node ≡ false → is_base job rel ≡ false
  root_listed [] origin e h = ap (λ o. not (option_map_or (λ (z : Origin). not (is_dir z.node)) o false)) e ∙ ap (λ b. not (not b)) h
  root_listed (x ∷ rel) origin e h = refl

  pub file_place : (rel : Names) (origin : Origin) → in_run job rel ≡ Some origin → is_dir origin.node ≡ false → has_path (dir_places job.target job.base items) (job.base ++ rel) ≡ false
  file_place rel origin e h =
      places_are job.target job.base items (job.base ++ rel)
      ∙ ap (λ b. (not (is_root (job.base ++ rel)) && b) || (has_path (base_places job.base items) (job.base ++ rel) || is_some (found (place_of job.base) (filter is_dir_item items) (job.base ++ rel)))) (not_above job.target job.base (job.base ++ rel) rel is.place (cut-append job.base rel))
      ∙ none_of (not (is_root (job.base ++ rel))) _ _ (base_found rel ∙ root_listed rel origin (run_listed job rel origin e) h)
      (folder_found rel ∙ ap (λ o. option_map_or (λ (z : Origin). is_dir z.node) o false) e ∙ h)
    where
      none_of : (a b c : Bool) → b ≡ false → c ≡ false → ((a && false) || (b || c)) ≡ false
      none_of true b c e f = ap (λ x. x || c) e ∙ f
      none_of false b c e f = ap (λ x. x || c) e ∙ f

-- ---- as a commit begins
-- what is a directory, or is made one on the way to the target
abbrev pub first : Job → Names → Bool
first job q = has_path (ways (front_of job.target)) q || is_dir_node (job.before q)

-- the same, or the base
abbrev pub early : Job → List Decision → Names → Bool
early job items q = has_path (base_places job.base items) q || first job q

module _ (s : Tree) (job : Job) (items : List Decision) (is : IsJob s job) (planned : IsPlanOf job (record { base = job.base; items = items })) (begins : Begins job) where
  stood_first : (q : Names) → IsDirAt job.before q → first job q ≡ true
  stood_first q d = or_right (has_path (ways (front_of job.target)) q) (is_dir_node (job.before q)) (stands_dir job.before q d)

  way_first : (q : Names) → is_above q job.target ≡ true → first job q ≡ true
  way_first [] h = stood_first [] is.tree.root
  way_first (x ∷ q) h = ap (λ b. b || is_dir_node (job.before (x ∷ q))) (way_at job.target (x ∷ q) ∙ h)

  first_early : (q : Names) → first job q ≡ true → early job items q ≡ true
  first_early q h = or_right (has_path (base_places job.base items) q) (first job q) h

  base_front : (p : Names) → job.base ≡ p → first job (front_of p) ≡ true
  base_front p e = by (last_case p)
    where
      by : Last p → first job (front_of p) ≡ true
      by (empty n) = ap (λ (q : Names). first job (front_of q)) n ∙ stood_first [] is.tree.root
      by (ended f x n) =
          ap (λ (q : Names). first job (front_of q)) n ∙ ap (first job) (front_of-append f x)
          ∙ ⊎_elim (λ w. way_first f w) (λ d. stood_first f d) (begins.room.above f x (e ∙ n))

  -- above what is copied is a directory, or one is made
  pub front_had : (rel : Names) (origin : Origin) → in_run job rel ≡ Some origin → (early job items (front_of (job.base ++ rel)) ≡ true) ⊎ (is_some (found (place_of job.base) (filter is_dir_item items) (front_of (job.base ++ rel))) ≡ true)
  front_had rel origin run = by (last_case rel)
    where
      by : Last rel → (early job items (front_of (job.base ++ rel)) ≡ true) ⊎ (is_some (found (place_of job.base) (filter is_dir_item items) (front_of (job.base ++ rel))) ≡ true)
      by (empty n) = inl (first_early _ (base_front (job.base ++ rel) (sym (append-nil job.base) ∙ ap (λ (r : Names). job.base ++ r) (sym n))))
      by (ended f x n) =
          let at : front_of (job.base ++ rel) ≡ job.base ++ f = ap (λ (r : Names). front_of (job.base ++ r)) n ∙ ap front_of (sym (append_assoc job.base f (x ∷ []))) ∙ front_of-append (job.base ++ f) x in
          ⊎_elim
          (λ b. inl (ap (early job items) at ∙ ap (λ c. c || (has_path (ways (front_of job.target)) (job.base ++ f) || is_dir_node (job.before (job.base ++ f)))) (base_found s job items is planned f ∙ b)))
          (λ k. ⊎_elim
          (λ c. inr (ap (λ (q : Names). is_some (found (place_of job.base) (filter is_dir_item items) q)) at ∙ folder_found s job items is planned f ∙ c))
          (λ d. inl (ap (early job items) at ∙ first_early (job.base ++ f) (stood_first (job.base ++ f) d))) k)
          (begins.parents f x origin (ap (in_run job) (sym n) ∙ run))

  -- no file stands where a directory is made
  or_three : (a b c : Bool) → (a || (b || c)) ≡ true → (a ≡ true) ⊎ ((b ≡ true) ⊎ (c ≡ true))
  or_three true b c h = inl refl
  or_three false true c h = inr (inl refl)
  or_three false false c h = inr (inr h)

  some_found : (q : Names) → is_some (found (place_of job.base) (filter is_dir_item items) q) ≡ true → (d : Decision) × (found (place_of job.base) (filter is_dir_item items) q ≡ Some d)
  some_found q h = by (found (place_of job.base) (filter is_dir_item items) q) h
    where
      by : (o : Option Decision) → is_some o ≡ true → (d : Decision) × (o ≡ Some d)
      by None e = absurd (cc)
      by (Some d) e = (d, refl)

  dir_free : (dir : Bool) (o : Option Node) → clashes dir (seen_node o) ≡ false → dir ≡ true → is_no_file o ≡ true
  dir_free dir None h e = refl
  dir_free dir (Some (Dir a)) h e = refl
  dir_free dir (Some (File b a)) h e = sym h ∙ e

  folder_free : (q : Names) (d : Decision) → found (place_of job.base) (filter is_dir_item items) q ≡ Some d → is_no_file (job.before q) ≡ true
  folder_free q d h =
      let k = placed s job items is planned (λ d. d.item.dir) q d h in
      ap (λ (p : Names). is_no_file (job.before p)) k.0.path
      ∙ dir_free (is_dir k.0.origin.node) (old_at job k.0.rel) (unclashed_node s job k.0.rel k.0.origin is k.0.run) (sym (dir_is job q d k.0) ∙ k.1)

  -- where something is copied, and no file is listed at the root path, no file stands at the base
  base_open : (rel : Names) (origin : Origin) → in_run job rel ≡ Some origin → lists_file job [] ≡ false → is_no_file (job.before job.base) ≡ true
  base_open [] origin run none = by (is_dir origin.node) refl
    where
      by : (b : Bool) → is_dir origin.node ≡ b → is_no_file (job.before job.base) ≡ true
      by true e = let f : true ≡ false = sym (ap (λ o. option_map_or (λ (z : Origin). is_dir z.node) o false) run ∙ e) ∙ begins.root in absurd (cc)
      by false e = let f : true ≡ false = sym (ap (λ o. option_map_or (λ (z : Origin). not (is_dir z.node)) o false) (run_listed job [] origin run) ∙ ap not e) ∙ none in absurd (cc)
  base_open (x ∷ rel) origin run none = by (job.before job.base) refl
    where
      by : (o : Option Node) → job.before job.base ≡ o → is_no_file o ≡ true
      by None e = refl
      by (Some (Dir a)) e = refl
      by (Some (File b a)) e =
          let no = below_file job.before [] job.base x rel (ap (clashes true) (seen_from-there job.before [] job.base (File b a) is.tree e)) in
          let f : true ≡ false = sym (ap (clashes (is_dir origin.node)) no) ∙ is.unclashed (x ∷ rel) origin run in absurd (cc)

  -- a base that is to be made is no file
  abbrev IsOpen : Type 0
  IsOpen = has_root_file items ≡ false → is_no_file (job.before job.base) ≡ true

  open_by : (rel : Names) (origin : Origin) → in_run job rel ≡ Some origin → IsOpen
  open_by rel origin run e = base_open rel origin run (sym (root_file job (record { base = job.base; items = items }) planned) ∙ e)

  base_free : IsOpen → (q : Names) → has_path (base_places job.base items) q ≡ true → is_no_file (job.before q) ≡ true
  base_free free q h = by (has_root_file items) refl h
    where
      only : (b c : Bool) → (b || false) ≡ true → b ≡ true
      only true c e = refl
      only false c e = e

      by : (b : Bool) → has_root_file items ≡ b → has_path (cond b [] (job.base ∷ [])) q ≡ true → is_no_file (job.before q) ≡ true
      by true e k = absurd (cc)
      by false e k = ap (λ (p : Names). is_no_file (job.before p)) (sym (same_path-true job.base q (only (same_path job.base q) true k))) ∙ free e

  all_free : IsOpen → (q : Names) → has_path (dir_places job.target job.base items) q ≡ true → is_no_file (job.before q) ≡ true
  all_free free q h = ⊎_elim
      (λ a. begins.room.way q (second_so _ _ a))
      (λ k. ⊎_elim (λ b. base_free free q b) (λ c. let d = some_found q c in folder_free q d.0 d.1) k)
      (or_three _ _ _ (sym (places_are job.target job.base items q) ∙ h))

  pub places_free : (rel : Names) (origin : Origin) → in_run job rel ≡ Some origin → (q : Names) → has_path (dir_places job.target job.base items) q ≡ true → is_no_file (job.before q) ≡ true
  places_free rel origin run = all_free (open_by rel origin run)

  -- ---- the directories can be made
  base_part : (has : Names → Bool) (b : Bool) → has (front_of job.base) ≡ true → fronted has (cond b [] (job.base ∷ [])) ≡ true
  base_part has true h = refl
  base_part has false h = and_from (has (front_of job.base)) true h refl

  folder_front : (q : Names) → has_path (map (place_of job.base) (filter is_dir_item items)) q ≡ true
      → (early job items (front_of q) ≡ true) ⊎ (has_path (map (place_of job.base) (filter is_dir_item items)) (front_of q) ≡ true)
  folder_front q h =
      let d = some_found q (sym (has_found (place_of job.base) (filter is_dir_item items) q) ∙ h) in
      let k = placed s job items is planned (λ d. d.item.dir) q d.0 d.1 in
      ⊎_elim
      (λ e. inl (ap (λ (p : Names). early job items (front_of p)) k.0.path ∙ e))
      (λ e. inr (has_found (place_of job.base) (filter is_dir_item items) (front_of q) ∙ ap (λ (p : Names). is_some (found (place_of job.base) (filter is_dir_item items) (front_of p))) k.0.path ∙ e))
      (front_had k.0.rel k.0.origin k.0.run)

  all_fronted : fronted (λ q. is_dir_node (job.before q)) (dir_places job.target job.base items) ≡ true
  all_fronted = fronted_append (λ q. is_dir_node (job.before q)) (ways (front_of job.target)) (base_places job.base items ++ map (place_of job.base) (filter is_dir_item items))
      (ways_fronted (λ q. is_dir_node (job.before q)) (front_of job.target) (stands_dir job.before [] is.tree.root))
      (fronted_append (first job) (base_places job.base items) (map (place_of job.base) (filter is_dir_item items))
      (base_part (first job) (has_root_file items) (base_front job.base refl))
      (fronted_ascending (early job items) (map (place_of job.base) (filter is_dir_item items)) (first_early [] (stood_first [] is.tree.root)) (part_ascends job.base is_dir_item items planned.ascending) folder_front))

  -- where a file stands at a base that is to be made, nothing is copied, and the base counts as made
  folders_none : is_no_file (job.before job.base) ≡ false → has_root_file items ≡ false → filter is_dir_item items ≡ []
  folders_none file none = by (filter is_dir_item items) refl
    where
      by : (ds : List Decision) → filter is_dir_item items ≡ ds → ds ≡ []
      by [] e = refl
      by (d ∷ ds) e =
          let at : found (place_of job.base) (filter is_dir_item items) (place_of job.base d) ≡ Some d =
          ap (λ (xs : List Decision). found (place_of job.base) xs (place_of job.base d)) e
          ∙ ap (λ b. cond b (Some d) (found (place_of job.base) ds (place_of job.base d))) (same_path-refl (place_of job.base d)) in
          let k = placed s job items is planned (λ d. d.item.dir) (place_of job.base d) d at in
          let f : true ≡ false = sym (open_by k.0.rel k.0.origin k.0.run none) ∙ file in absurd (cc)

  base_parent : (p : Names) → job.base ≡ p → is_no_file (job.before job.base) ≡ false → is_dir_node (job.before (front_of p)) ≡ true
  base_parent p e file = by (last_case p) (job.before job.base) refl file
    where
      by : Last p → (o : Option Node) → job.before job.base ≡ o → is_no_file o ≡ false → is_dir_node (job.before (front_of p)) ≡ true
      by l None f h = absurd (cc)
      by (empty n) (Some m) f h =
          let g : true ≡ false = sym (stands_dir job.before [] is.tree.root) ∙ ap (λ (q : Names). is_dir_node (job.before q)) (sym (e ∙ n)) ∙ ap is_dir_node f ∙ h in absurd (cc)
      by (ended q x n) (Some m) f h =
          ap (λ (r : Names). is_dir_node (job.before (front_of r))) n ∙ ap (λ (r : Names). is_dir_node (job.before r)) (front_of-append q x)
          ∙ parent_dir job.before q x m is.tree (ap job.before (sym (e ∙ n)) ∙ f)

  makes_onto : is_no_file (job.before job.base) ≡ false → has_root_file items ≡ false → Makes (dir_places job.target job.base items) job.before
  makes_onto file none =
      let made_ways = all_made (ways (front_of job.target)) job.before (λ q. is_dir_node (job.before q)) is.tree (λ q h. h)
      (λ q h. begins.room.way q (second_so _ _ (sym (way_at job.target q) ∙ h)))
      (ways_fronted (λ q. is_dir_node (job.before q)) (front_of job.target) (stands_dir job.before [] is.tree.root)) in
      let places : dir_places job.target job.base items ≡ ways (front_of job.target) ++ job.base ∷ [] =
      ap (λ b. ways (front_of job.target) ++ (cond b [] (job.base ∷ []) ++ map (place_of job.base) (filter is_dir_item items))) none
      ∙ ap (λ (ds : List Decision). ways (front_of job.target) ++ (job.base ∷ map (place_of job.base) ds)) (folders_none file none) in
      subst (λ (ps : List Names). Makes ps job.before) (sym places) (made_last (ways (front_of job.target)) job.base job.before (base_parent job.base refl file) made_ways)

  pub makes_all : Makes (dir_places job.target job.base items) job.before
  makes_all = by (is_no_file (job.before job.base)) (has_root_file items) refl refl
    where
      open_made : IsOpen → Makes (dir_places job.target job.base items) job.before
      open_made free = all_made (dir_places job.target job.base items) job.before (λ q. is_dir_node (job.before q)) is.tree (λ q h. h) (all_free free) all_fronted

      by : (b c : Bool) → is_no_file (job.before job.base) ≡ b → has_root_file items ≡ c → Makes (dir_places job.target job.base items) job.before
      by true c e f = open_made (λ _. e)
      by false true e f = open_made (λ g. let h : true ≡ false = sym f ∙ g in absurd (cc))
      by false false e f = makes_onto e f
