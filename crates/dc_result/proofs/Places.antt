-- Where a copy makes directories.
use Rattle.std.proofs.Common.{◌≡◌, ℕ, List, [], ◌∷◌, ◌++◌, Bool, true, false, cond, not, ◌&&◌, ◌||◌, Option, Some, None, map, filter, is_some, refl, sym, ◌∙◌, ap, append-nil}
use Rattle.std.proofs.lemmas.Bool.{and_right}
use Rattle.std.proofs.Math.Bool.{or-false}
use Rattle.std.proofs.lemmas.List.{map-append}
use Rattle.std.proofs.lemmas.List.Folds.{list_any-append}
use Rattle.std.specs.Cmp.{second_so}
use Rattle.std.specs.List.{list_any}
use Rattle.std.specs.Option.{option_map, option_map_or}
use Rattle.dc_path.specs.Found.{found, has_path}
use Rattle.dc_path.specs.Names.{same_name}
use Rattle.dc_path.specs.Order.{is_ascending}
use Rattle.dc_path.specs.Paths.{Names, cut, front_of, is_above, is_root, same_path}
use Rattle.dc_path.proofs.FoundLemmas.{found-once}
use Rattle.dc_path.proofs.Fronts.{is_above-nil}
use Rattle.dc_path.proofs.PathLemmas.{ended_cons, front_of-append, same_name-flip, at_end, same_path-by_cut, same_path-not_below}
use Rattle.dc_attrs.specs.Trees.{Node, Dir, File, is_dir}
use Rattle.dc_listing.specs.Entries.{Entry}
use Rattle.dc_listing.specs.Listed.{Origin, entry_at}
use Rattle.dc_decide.specs.Plans.{Decision, Decisions, item_rel}
use Rattle.dc_commit.specs.Making.{has_root_file, make_item, make_step, make_steps, ways}
use Rattle.dc_commit.specs.Settings.{is_dir_item, place_of}
use Rattle.dc_commit.specs.Steps.{Step}
use Rattle.dc_plan.specs.Planning.{item_of}
use Rattle.dc_result.specs.Commits.{IsPlanOf}
use Rattle.dc_result.specs.Jobs.{Job, lists_file}
use Rattle.dc_result.proofs.Folds.{has_found}

-- ---- the way to the target
and_any : {A : Type 0} (b : Bool) (test : A → Bool) (xs : List A) → list_any (λ x. b && test x) xs ≡ (b && list_any test xs)
and_any b test [] = sym (and_right b false refl)
and_any true test (x ∷ xs) = ap (λ c. test x || c) (and_any true test xs)
and_any false test (x ∷ xs) = and_any false test xs

any_mapped : {A B : Type 0} (test : B → Bool) (f : A → B) (xs : List A) → list_any test (map f xs) ≡ list_any (λ x. test (f x)) xs
any_mapped test f [] = refl
any_mapped test f (x ∷ xs) = ap (λ c. test (f x) || c) (any_mapped test f xs)

root_above : (p : Names) (x : List ℕ) → is_above [] (p ++ x ∷ []) ≡ true
root_above [] x = refl
root_above (y ∷ p) x = refl

both_or : (a b c d : Bool) → (b || c) ≡ d → ((a && b) || (a && c)) ≡ (a && d)
both_or true b c d h = h
both_or false b c d h = refl

-- the front of a path is the root, or on its way
first_above : (p q : Names) (x : List ℕ) → has_path (ways p) q ≡ (not (is_root q) && is_above q (p ++ x ∷ [])) → (same_path [] q || has_path (ways p) q) ≡ is_above q (p ++ x ∷ [])
first_above p [] x ih = sym (root_above p x)
first_above p (y ∷ q) x ih = ih

ways_at : (p q : Names) (x : List ℕ) → has_path (ways p) q ≡ (not (is_root q) && is_above q (p ++ x ∷ []))
ways_at [] [] x = refl
ways_at [] (y ∷ q) x = sym (and_right (same_name y x) (is_above q []) (is_above-nil q))
ways_at (z ∷ p) [] x = any_mapped (λ w. same_path w []) (λ (way : Names). z ∷ way) (ways p) ∙ and_any false (λ w. false) (ways p)
ways_at (z ∷ p) (y ∷ q) x =
    ap (λ b. (same_name z y && same_path [] q) || b) (any_mapped (λ w. same_path w (y ∷ q)) (λ (way : Names). z ∷ way) (ways p) ∙ and_any (same_name z y) (λ w. same_path w q) (ways p))
    ∙ both_or (same_name z y) (same_path [] q) (has_path (ways p) q) (is_above q (p ++ x ∷ [])) (first_above p q x (ways_at p q x))
    ∙ ap (λ b. b && is_above q (p ++ x ∷ [])) (same_name-flip z y)

-- on the way to a path without it are its proper prefixes but the root
pub way_at : (d q : Names) → has_path (ways (front_of d)) q ≡ (not (is_root q) && is_above q d)
way_at [] q = sym (and_right (not (is_root q)) (is_above q []) (is_above-nil q))
way_at (y ∷ d) q =
    let k = ended_cons y d in
    ap (λ (p : Names). has_path (ways p) q) (ap front_of k.path ∙ front_of-append k.front k.name)
    ∙ ways_at k.front q k.name
    ∙ ap (λ (p : Names). not (is_root q) && is_above q p) (sym k.path)

-- ---- all places of directories
-- the base, unless a file goes there
abbrev pub base_places : Names → List Decision → List Names
base_places base items = cond (has_root_file items) [] (base ∷ [])

-- all directories, in the order in which they are made
abbrev pub dir_places : Names → Names → List Decision → List Names
dir_places target base items = ways (front_of target) ++ (base_places base items ++ map (place_of base) (filter is_dir_item items))

each_made : (base : Names) (ds : List Decision) → map (make_item base) ds ≡ map make_step (map (place_of base) ds)
each_made base [] = refl
each_made base (d ∷ ds) = ap (λ (steps : List Step). make_step (place_of base d) ∷ steps) (each_made base ds)

base_made : (base : Names) (b : Bool) → cond b [] (make_step base ∷ []) ≡ map make_step (cond b [] (base ∷ []))
base_made base true = refl
base_made base false = refl

pub makes_are : (target base : Names) (items : List Decision) → make_steps target (record { base = base; items = items }) ≡ map make_step (dir_places target base items)
makes_are target base items =
    ap (λ (steps : List Step). map make_step (ways (front_of target)) ++ steps)
    (ap (λ (steps : List Step). steps ++ map (make_item base) (filter is_dir_item items)) (base_made base (has_root_file items))
    ∙ ap (λ (steps : List Step). map make_step (base_places base items) ++ steps) (each_made base (filter is_dir_item items))
    ∙ sym (map-append make_step (base_places base items) (map (place_of base) (filter is_dir_item items))))
    ∙ sym (map-append make_step (ways (front_of target)) (base_places base items ++ map (place_of base) (filter is_dir_item items)))

-- ---- a place, by its three kinds
pub places_are : (target base : Names) (items : List Decision) (q : Names) → has_path (dir_places target base items) q ≡ ((not (is_root q) && is_above q target) || (has_path (base_places base items) q || is_some (found (place_of base) (filter is_dir_item items) q)))
places_are target base items q =
    list_any-append (λ p. same_path p q) (ways (front_of target)) (base_places base items ++ map (place_of base) (filter is_dir_item items))
    ∙ ap (λ b. b || has_path (base_places base items ++ map (place_of base) (filter is_dir_item items)) q) (way_at target q)
    ∙ ap (λ b. (not (is_root q) && is_above q target) || b)
    (list_any-append (λ p. same_path p q) (base_places base items) (map (place_of base) (filter is_dir_item items))
    ∙ ap (λ b. has_path (base_places base items) q || b) (has_found (place_of base) (filter is_dir_item items) q))

end_root : (r : Names) → at_end (Some r) ≡ is_root r
end_root [] = refl
end_root (x ∷ r) = refl

same_base : (base q r : Names) → cut base q ≡ Some r → same_path base q ≡ is_root r
same_base base q r e = same_path-by_cut base q ∙ ap at_end e ∙ end_root r

base_by : (b c : Bool) (base q : Names) → same_path base q ≡ c → has_path (cond b [] (base ∷ [])) q ≡ (c && not b)
base_by true c base q e = sym (and_right c false refl)
base_by false true base q e = ap (λ b. b || false) e
base_by false false base q e = ap (λ b. b || false) e

pub base_at : (base : Names) (items : List Decision) (q r : Names) → cut base q ≡ Some r → has_path (base_places base items) q ≡ (is_root r && not (has_root_file items))
base_at base items q r e = base_by (has_root_file items) (is_root r) base q (same_base base q r e)

pub base_off : (base : Names) (items : List Decision) (q : Names) → cut base q ≡ None → has_path (base_places base items) q ≡ false
base_off base items q e = base_by (has_root_file items) false base q (ap (λ (p : Names). same_path p q) (sym (append-nil base)) ∙ same_path-not_below base [] q e)

-- ---- a file at the root path
-- whether the item is a file
abbrev pub is_file_item : Option Decision → Bool
is_file_item o = option_map_or (λ d. not d.item.dir) o false

file_first : (d : Decision) (o : Option Decision) (b : Bool) → (b ≡ true → o ≡ None) → ((b && not d.item.dir) || is_file_item o) ≡ is_file_item (cond b (Some d) o)
file_first d o true once = ap (λ z. not d.item.dir || is_file_item z) (once refl) ∙ or-false (not d.item.dir)
file_first d o false once = refl

same_root : (r : Names) → is_root r ≡ same_path r []
same_root [] = refl
same_root (x ∷ r) = refl

pub root_file_found : (items : List Decision) → is_ascending (map item_rel items) ≡ true → has_root_file items ≡ is_file_item (found item_rel items [])
root_file_found [] a = refl
root_file_found (d ∷ items) a =
    ap (λ b. (is_root d.item.rel && not d.item.dir) || b) (root_file_found items (second_so _ _ a))
    ∙ ap (λ b. (b && not d.item.dir) || is_file_item (found item_rel items [])) (same_root d.item.rel)
    ∙ file_first d (found item_rel items []) (same_path d.item.rel []) (found-once item_rel d items [] a)

file_entries : (o : Option Decision) → is_file_item o ≡ option_map_or (λ (entry : Entry). not entry.dir) (option_map item_of o) false
file_entries None = refl
file_entries (Some d) = refl

pub file_node : (rel from : Names) (n : Node) → (entry_at rel (record { from = from; node = n })).dir ≡ is_dir n
file_node rel from (Dir a) = refl
file_node rel from (File b a) = refl

file_listed : (o : Option Origin) → option_map_or (λ (entry : Entry). not entry.dir) (option_map (entry_at []) o) false ≡ option_map_or (λ (origin : Origin). not (is_dir origin.node)) o false
file_listed None = refl
file_listed (Some origin) = ap not (file_node [] origin.from origin.node)

-- the plan has a file at the root path where one is listed there
pub root_file : (job : Job) (plan : Decisions) → IsPlanOf job plan → has_root_file plan.items ≡ lists_file job []
root_file job plan is =
    root_file_found plan.items is.ascending ∙ file_entries (found item_rel plan.items [])
    ∙ ap (λ o. option_map_or (λ (entry : Entry). not entry.dir) o false) (is.entries []) ∙ file_listed (job.listing [])
