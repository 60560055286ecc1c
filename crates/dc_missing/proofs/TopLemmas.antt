-- The list of what goes, by what a walk of the base has found.
use Rattle.std.proofs.Common.{◌≡◌, ◌⊎◌, inl, inr, ℕ, ◌+◌, ◌*◌, ◌≤◌, List, [], ◌∷◌, ◌++◌, length, map, Bool, true, false, not, Option, None, IfSome, Result, Ok, Err, IfOk, refl, sym, ◌∙◌, ap, subst, append_assoc, append-nil, arith}
use Rattle.std.proofs.lemmas.Bool.{and_from, or_cases, or_left, or_right}
use Rattle.std.specs.Cmp.{first_so, second_so}
use Rattle.std.specs.List.{list_all}
use Rattle.std.specs.Option.{is_some}
use Rattle.std.specs.Prelude.{◌↔◌}
use Rattle.dc_path.specs.Found.{has_path}
use Rattle.dc_path.specs.Order.{is_ascending}
use Rattle.dc_path.specs.Paths.{Names, same_path, cut, at_cut, is_under}
use Rattle.dc_path.proofs.PathLemmas.{cut-append, append-cut, some_rest, same_path-true, same_path-refl}
use Rattle.dc_attrs.specs.Trees.{Tree, IsTree, IsThere, is_hidden, seen}
use Rattle.dc_attrs.proofs.TreeLemmas.{there_is}
use Rattle.dc_decide.specs.Plans.{Decisions}
use Rattle.dc_fs.specs.Looks.{is_shown}
use Rattle.dc_listing.specs.Walking.{is_below}
use Rattle.dc_missing.specs.Errors.{shows_dir}
use Rattle.dc_missing.specs.Finding.{is_open, Adds, Finds, FindsPart, FindsList, IfTree}
use Rattle.dc_missing.specs.Limits.{max_paths}
use Rattle.dc_missing.specs.Missing.{Goes, covers, are_apart, is_place, is_visible, leads_below}
use Rattle.dc_missing.specs.Walks.{MeetsAll, WalksAll, Walks, Stops}
use Rattle.dc_missing.specs.declared.error.DeleteError.{DeleteError}
use Rattle.dc_missing.specs.declared.found.Found.{Found}
use Rattle.dc_missing.proofs.AddLemmas.{adds_none}
use Rattle.dc_missing.proofs.FindLemmas.{finds_none}
use Rattle.dc_missing.proofs.MeetLemmas.{meets_none, meets_as}
use Rattle.dc_missing.proofs.SeenLemmas.{nothing_under}
use Rattle.dc_missing.proofs.UnderLemmas.{apart_below, apart_ascends, covers_below, not_shown}
use Rattle.dc_missing.proofs.WalkLemmas.{tree_map, tree_given, stops_as, below_stop, open_below, met_open}

-- ---- from the walk of the base
pub list_is : (told : Option Tree) (plan : Decisions) (kept : Bool) (old new : Found) → old.gone.items ≡ [] → FindsPart told (is_place plan) plan.base is_open kept old new → FindsList told plan new.gone.items
list_is told plan kept old new e f = record {
  rests = f.rests;
  kept = kept;
  adds = subst (λ (ps : List Names). Adds (is_place plan) plan.base is_open f.rests ps new.gone.items) e f.adds;
  finds = f.finds;
}

pub list_walked : (told : Option Tree) (plan : Decisions) (kept : Bool) (old new : Found) (before now : ℕ) → old.met ≡ 0 → new.met ≤ max_paths → now + 3 * old.met ≤ before + 3 * new.met + 1 → FindsPart told (is_place plan) plan.base is_open kept old new → IfTree told (λ t. WalksAll t plan.base before (now + 1))
list_walked told plan kept old new before now e l h f = tree_map told (λ t. MeetsAll t plan.base is_open old.met new.met) (λ t. WalksAll t plan.base before (now + 1))
    (λ t v m. record { met = m.met; meets = meets_as t plan.base is_open is_below None m.met open_below (λ q i n b. met_open t plan.base q i n) m.meets; few = few m.met m.count; looks = looks m.met m.count }) f.meets
  where
    few : (met : List Names) → new.met ≡ old.met + length met → length met ≤ max_paths
    few met c = omega (arith, c, l)

    looks : (met : List Names) → new.met ≡ old.met + length met → now + 1 ≤ before + (2 + 3 * length met)
    looks met c = omega (arith, c, e, h)

pub list_stopped : (e : DeleteError) (told : Option Tree) (base : Names) (met : ℕ) → met ≡ 0 → IfTree told (λ t. Stops e t base is_open met) → IfTree told (λ t. Stops e t base is_below 0)
list_stopped e told base met z k = tree_map told (λ t. Stops e t base is_open 0) (λ t. Stops e t base is_below 0) (λ t v s. stops_as e t base base is_open is_below 0 0 (below_stop e t base 0) s) (subst (λ n. IfTree told (λ t. Stops e t base is_open n)) z k)

-- ---- where no directory stands at the base
nothing_there : (t : Tree) (base q : Names) → IsTree t → shows_dir (seen t base) ≡ false → is_below q ≡ true → IsThere t (base ++ q) → ⊥
nothing_there t base [] v h i s = cc
nothing_there t base (y ∷ q) v h i s = nothing_under t base y q v h s

pub empty_list : (told : Option Tree) (plan : Decisions) → IfSome told (λ t. false ≡ shows_dir (seen t plan.base)) → FindsList told plan []
empty_list told plan h = record {
  rests = [];
  kept = false;
  adds = adds_none (is_place plan) plan.base is_open [];
  finds = tree_map told (λ t. false ≡ shows_dir (seen t plan.base)) (λ t. Finds t (is_place plan) plan.base is_open false []) (λ t v g. finds_none t (is_place plan) plan.base is_open (λ q i s. nothing_there t plan.base q v (sym g) (open_below q i) s)) (tree_given told (λ t. false ≡ shows_dir (seen t plan.base)) h);
}

pub empty_walk : (told : Option Tree) (base : Names) (before now : ℕ) → now ≤ before + 1 → IfSome told (λ t. false ≡ shows_dir (seen t base)) → IfTree told (λ t. WalksAll t base before now)
empty_walk told base before now l h = tree_map told (λ t. false ≡ shows_dir (seen t base)) (λ t. WalksAll t base before now)
    (λ t v g. record { met = []; meets = meets_none t base is_below None (λ q i m b. nothing_there t base q v (sym g) i (there_is (t (base ++ q)) (first_so (is_some (t (base ++ q))) (not (is_hidden q)) m))); few = omega arith; looks = omega (arith, l) }) (tree_given told (λ t. false ≡ shows_dir (seen t base)) h)

-- one look before
pub walks_later : {A : Type 0} (r : Result A DeleteError) (told : Option Tree) (base : Names) (first before now : ℕ) → before ≤ first + 1 → IfTree told (λ t. Walks t base r before (now + 1)) → IfTree told (λ t. Walks t base r first now)
walks_later (Ok x) told base first before now l w = tree_map told (λ t. WalksAll t base before (now + 1)) (λ t. WalksAll t base first now)
    (λ t v k. record { met = k.met; meets = k.meets; few = k.few; looks = later (length k.met) k.looks }) w
  where
    later : (m : ℕ) → now + 1 ≤ before + (2 + 3 * m) → now ≤ first + (2 + 3 * m)
    later m h = omega (arith, h, l)
walks_later (Err e) told base first before now l w = w

-- ---- what the list is
pub list_apart : (told : Option Tree) (plan : Decisions) (paths : List Names) → FindsList told plan paths → are_apart paths ≡ true
list_apart told plan paths f = ap are_apart f.adds.is ∙ apart_below plan.base f.rests ∙ f.adds.apart

pub list_ascends : (told : Option Tree) (plan : Decisions) (paths : List Names) → FindsList told plan paths → is_ascending paths ≡ true
list_ascends told plan paths f = apart_ascends paths (list_apart told plan paths f)

lead : (base : Names) (rests : List Names) → list_all is_open rests ≡ true → ((q : Names) → has_path rests q ≡ true → is_hidden q ≡ false) → list_all (leads_below base) (map (λ q. base ++ q) rests) ≡ true
lead base [] i h = refl
lead base (r ∷ rests) i h =
    and_from _ _
    (ap (λ o. at_cut o false is_visible) (cut-append base r) ∙ visible r (first_so (is_open r) (list_all is_open rests) i) (h r (or_left (same_path r r) (has_path rests r) (same_path-refl r))))
    (lead base rests (second_so (is_open r) (list_all is_open rests) i) (λ q k. h q (or_right (same_path r q) (has_path rests q) k)))
  where
    visible : (q : Names) → is_open q ≡ true → is_hidden q ≡ false → is_visible q ≡ true
    visible [] o k = cc
    visible (y ∷ q) o k = ap not k

pub list_leads : (told : Option Tree) (plan : Decisions) (paths : List Names) → FindsList told plan paths → list_all (leads_below plan.base) paths ≡ true
list_leads told plan paths f = ap (list_all (leads_below plan.base)) f.adds.is ∙ lead plan.base f.rests f.adds.inside f.adds.shown

-- what is covered below the base
covered_is : (base : Names) (rests : List Names) (p : Names) → covers (map (λ q. base ++ q) rests) p ≡ true → (q : Names) × (p ≡ base ++ q) × (covers rests q ≡ true)
covered_is base [] p h = cc
covered_is base (r ∷ rests) p h = by (or_cases (is_under (base ++ r) p) (covers (map (λ q. base ++ q) rests) p) h) (covered_is base rests p)
  where
    by : (is_under (base ++ r) p ≡ true) ⊎ (covers (map (λ q. base ++ q) rests) p ≡ true) → (covers (map (λ q. base ++ q) rests) p ≡ true → (q : Names) × (p ≡ base ++ q) × (covers rests q ≡ true)) → (q : Names) × (p ≡ base ++ q) × (covers (r ∷ rests) q ≡ true)
    by (inl e) ih =
        let k = some_rest (cut (base ++ r) p) e in
        (r ++ k.0, append-cut (base ++ r) p k.0 k.1 ∙ append_assoc base r k.0, or_left (is_under r (r ++ k.0)) (covers rests (r ++ k.0)) (ap is_some (cut-append r k.0)))
    by (inr e) ih = let k = ih e in (k.0, k.1, or_right (is_under r k.0) (covers rests k.0) k.2)

pub list_unlisted : (told : Option Tree) (plan : Decisions) (paths : List Names) → FindsList told plan paths → (p : Names) → covers paths p ≡ true → is_place plan p ≡ false
list_unlisted told plan paths f p h = let k = covered_is plan.base f.rests p (ap (λ (ps : List Names). covers ps p) (sym f.adds.is) ∙ h) in ap (is_place plan) k.1 ∙ f.adds.unlisted k.0 k.2

-- each path stands
had : (base : Names) (rests : List Names) (p : Names) → has_path (map (λ q. base ++ q) rests) p ≡ true → (q : Names) × (p ≡ base ++ q) × (has_path rests q ≡ true)
had base [] p h = cc
had base (r ∷ rests) p h = by (or_cases (same_path (base ++ r) p) (has_path (map (λ q. base ++ q) rests) p) h) (had base rests p)
  where
    by : (same_path (base ++ r) p ≡ true) ⊎ (has_path (map (λ q. base ++ q) rests) p ≡ true) → (has_path (map (λ q. base ++ q) rests) p ≡ true → (q : Names) × (p ≡ base ++ q) × (has_path rests q ≡ true)) → (q : Names) × (p ≡ base ++ q) × (has_path (r ∷ rests) q ≡ true)
    by (inl e) ih = (r, sym (same_path-true (base ++ r) p e), or_left (same_path r r) (has_path rests r) (same_path-refl r))
    by (inr e) ih = let k = ih e in (k.0, k.1, or_right (same_path r k.0) (has_path rests k.0) k.2)

pub list_stands : (told : Option Tree) (plan : Decisions) (paths : List Names) → FindsList told plan paths → IfTree told (λ t. (p : Names) → has_path paths p ≡ true → IsThere t p)
list_stands told plan paths f = tree_map told (λ t. Finds t (is_place plan) plan.base is_open f.kept f.rests) (λ t. (p : Names) → has_path paths p ≡ true → IsThere t p)
    (λ t v g p h. let k = had plan.base f.rests p (ap (λ (ps : List Names). has_path ps p) (sym f.adds.is) ∙ h) in subst (λ (q : Names). IsThere t q) (sym k.1) (g.goes k.0 k.2).0) f.finds

-- they cover exactly what goes
goes_below : (t : Tree) (listed : Names → Bool) (dir q more : Names) → Goes t listed dir q → Goes t listed dir (q ++ more)
goes_below t listed dir q more g = record {
  unlisted = λ rest. ap (λ (p : Names). listed (dir ++ p)) (append_assoc q more rest) ∙ g.unlisted (more ++ rest);
  unhidden = λ rest. subst (λ (p : Names). IsThere t (dir ++ p) → is_hidden p ≡ false) (sym (append_assoc q more rest)) (g.unhidden (more ++ rest));
}

covered_goes : (t : Tree) (listed : Names → Bool) (dir : Names) (rests : List Names) (q : Names) → ((r : Names) → has_path rests r ≡ true → Goes t listed dir r) → covers rests q ≡ true → Goes t listed dir q
covered_goes t listed dir [] q g h = cc
covered_goes t listed dir (r ∷ rests) q g h = by (or_cases (is_under r q) (covers rests q) h) (covered_goes t listed dir rests q (λ p k. g p (or_right (same_path r p) (has_path rests p) k)))
  where
    by : (is_under r q ≡ true) ⊎ (covers rests q ≡ true) → (covers rests q ≡ true → Goes t listed dir q) → Goes t listed dir q
    by (inl e) ih =
        let k = some_rest (cut r q) e in
        subst (λ (p : Names). Goes t listed dir p) (sym (append-cut r q k.0 k.1)) (goes_below t listed dir r k.0 (g r (or_left (same_path r r) (has_path rests r) (same_path-refl r))))
    by (inr e) ih = ih e

goes_covered : (t : Tree) (listed : Names → Bool) (base : Names) (kept : Bool) (rests : List Names) (q : Names) → Finds t listed base is_open kept rests → is_below q ≡ true → IsThere t (base ++ q) → Goes t listed base q → covers rests q ≡ true
goes_covered t listed base kept rests [] f i s g = cc
goes_covered t listed base kept rests (y ∷ q) f i s g = by (is_shown y) refl
  where
    by : (b : Bool) → is_shown y ≡ b → covers rests (y ∷ q) ≡ true
    by true e = f.all (y ∷ q) e s g
    by false e =
        let l = g.unhidden [] (subst (λ (r : Names). IsThere t (base ++ r)) (sym (append-nil (y ∷ q))) s) in
        let m : is_hidden ((y ∷ q) ++ []) ≡ true = ap (λ (z : List ℕ). is_hidden ((z ∷ q) ++ [])) (sym (not_shown y e)) in
        let n : true ≡ false = sym m ∙ l in
        cc

pub list_goes : (told : Option Tree) (plan : Decisions) (paths : List Names) → FindsList told plan paths → IfTree told (λ t. (q : Names) → is_below q ≡ true → IsThere t (plan.base ++ q) → (covers paths (plan.base ++ q) ≡ true) ↔ Goes t (is_place plan) plan.base q)
list_goes told plan paths f = tree_map told (λ t. Finds t (is_place plan) plan.base is_open f.kept f.rests) (λ t. (q : Names) → is_below q ≡ true → IsThere t (plan.base ++ q) → (covers paths (plan.base ++ q) ≡ true) ↔ Goes t (is_place plan) plan.base q)
    (λ t v g q i s. (
      λ h. covered_goes t (is_place plan) plan.base f.rests q (λ r k. (g.goes r k).1) (sym (same q) ∙ h),
      λ k. same q ∙ goes_covered t (is_place plan) plan.base f.kept f.rests q g i s k,
    )) f.finds
  where
    same : (q : Names) → covers paths (plan.base ++ q) ≡ covers f.rests q
    same q = ap (λ (ps : List Names). covers ps (plan.base ++ q)) f.adds.is ∙ covers_below plan.base f.rests q

-- ---- where there is a list
pub where_found : (r : Result (List Names) DeleteError) (told : Option Tree) (plan : Decisions) (P : List Names → Type 0) → ((paths : List Names) → FindsList told plan paths → P paths) → IfOk r (FindsList told plan) → IfOk r P
where_found (Ok paths) told plan P f h = f paths h
where_found (Err e) told plan P f h = tt
