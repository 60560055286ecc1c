-- Which items are at or under a path: of items in path order, the first that does not come before it decides.
use Rattle.std.proofs.Common.{◌≡◌, ◌⊎◌, inl, inr, ℕ, ◌<◌, ◌≤◌, List, [], ◌∷◌, ◌++◌, length, map, drop, Bool, true, false, ◌||◌, None, get_or, zero, suc, refl, sym, ◌∙◌, ap, arith, length-append}
use Rattle.std.proofs.lemmas.Bool.{false_from_ne_true, or_parts, or_from, or_cases, or_left, or_right}
use Rattle.std.specs.Cmp.{first_so, second_so}
use Rattle.std.specs.List.{list_any, list_all}
use Rattle.std.specs.List.Sorted.{IsPartitionPoint, IsPartitionedBy}
use Rattle.std.specs.Option.{is_some}
use Rattle.dc_path.specs.Order.{path_lt, is_ascending}
use Rattle.dc_path.specs.Paths.{Names, cut, at_cut, is_under, same_path}
use Rattle.dc_path.proofs.OrderLemmas.{path_lt-trans}
use Rattle.dc_path.proofs.PathLemmas.{name_decides, cut-append, cut_more, append-cut, some_rest, cut_under, cut-starts_with, is_under-starts_with, same_path-true, same_path-refl}
use Rattle.dc_path.proofs.PathOrder.{cut-less, name_lt-irrefl}
use Rattle.dc_decide.specs.Plans.{Decision, Decisions, item_rel}
use Rattle.dc_missing.specs.Missing.{has_under, is_place}

-- ---- items before a path come before the later ones
rel_less : (ds : List Decision) (r : Names) (j : ℕ) (x d : Decision) → list_all (path_lt (item_rel x)) (map item_rel ds) ≡ true → j < length ds → path_lt (item_rel (get_or ds j d)) r ≡ true → path_lt (item_rel x) r ≡ true
rel_less [] r j x d a l h = absurd (omega arith)
rel_less (y ∷ ds) r zero x d a l h = path_lt-trans (item_rel x) (item_rel y) r (first_so _ _ a) h
rel_less (y ∷ ds) r (suc j) x d a l h = rel_less ds r j x d (second_so _ _ a) (omega arith) h

pub parted : (ds : List Decision) (r : Names) → is_ascending (map item_rel ds) ≡ true → IsPartitionedBy (λ d. path_lt (item_rel d) r) ds
parted [] r a i j d l h e = absurd (omega arith)
parted (y ∷ ds) r a zero zero d l h e = e
parted (y ∷ ds) r a zero (suc j) d l h e = rel_less ds r j y d (first_so _ _ a) (omega arith) e
parted (y ∷ ds) r a (suc i) zero d l h e = absurd (omega arith)
parted (y ∷ ds) r a (suc i) (suc j) d l h e = parted ds r (second_so _ _ a) i j d (omega arith) (omega arith) e

-- ---- what is not before a path and not under it, is after all under it
past_under : (r x y : Names) → path_lt x r ≡ false → is_under r x ≡ false → path_lt x y ≡ true → is_under r y ≡ false
past_under [] x y a b c = cc
past_under (n ∷ r) [] y a b c = cc
past_under (n ∷ r) (m ∷ x) [] a b c = refl
past_under (n ∷ r) (m ∷ x) (k ∷ y) a b c = let ih = past_under r x y in let d = (name_decides n m).0 in let e = (name_decides n m).1 in let f = (name_decides n k).0 in let g = (name_decides m k).0 in let i = (name_decides m n).0 in let o = name_lt-irrefl n in grind (arith, ih, d, e, f, g, i, o)

none_under : (ds : List Decision) (r x : Names) → path_lt x r ≡ false → is_under r x ≡ false → list_all (path_lt x) (map item_rel ds) ≡ true → list_any (λ d. is_under r (item_rel d)) ds ≡ false
none_under [] r x a b c = refl
none_under (d ∷ ds) r x a b c = ap (λ z. z || list_any (λ e. is_under r (item_rel e)) ds) (past_under r x (item_rel d) a b (first_so _ _ c)) ∙ none_under ds r x a b (second_so _ _ c)

-- ---- so the first item from there on decides
here_by : (b c : Bool) → (b ≡ false → c ≡ false) → (b || c) ≡ b
here_by true c h = refl
here_by false c h = h refl

before_under : (ds : List Decision) (d : Decision) (r : Names) → path_lt (item_rel d) r ≡ true → list_any (λ e. is_under r (item_rel e)) (d ∷ ds) ≡ list_any (λ e. is_under r (item_rel e)) ds
before_under ds d r h = ap (λ o. is_some o || list_any (λ e. is_under r (item_rel e)) ds) (cut-less r (item_rel d) h)

pub under_here : (ds : List Decision) (r : Names) (i : ℕ) (d : Decision) → is_ascending (map item_rel ds) ≡ true → IsPartitionPoint (λ e. path_lt (item_rel e) r ≡ true) (λ e. path_lt (item_rel e) r ≡ false) ds i → i < length ds → list_any (λ e. is_under r (item_rel e)) ds ≡ is_under r (item_rel (get_or ds i d))
under_here [] r i d a p l = absurd (omega arith)
under_here (x ∷ ds) r zero d a p l = here_by (is_under r (item_rel x)) (list_any (λ e. is_under r (item_rel e)) ds) (λ b. none_under ds r (item_rel x) (p.1 zero x (omega arith) (omega arith)) b (first_so _ _ a))
under_here (x ∷ ds) r (suc i) d a p l =
    before_under ds x r (p.0 zero x (omega arith) (omega arith))
    ∙ under_here ds r i d (second_so _ _ a) (λ k e m h. p.0 (suc k) e (omega arith) (omega arith), λ k e m h. p.1 (suc k) e (omega arith) (omega arith)) (omega arith)

pub under_past : (ds : List Decision) (r : Names) (i : ℕ) → IsPartitionPoint (λ e. path_lt (item_rel e) r ≡ true) (λ e. path_lt (item_rel e) r ≡ false) ds i → length ds ≤ i → list_any (λ e. is_under r (item_rel e)) ds ≡ false
under_past [] r i p l = refl
under_past (x ∷ ds) r zero p l = absurd (omega arith)
under_past (x ∷ ds) r (suc i) p l =
    before_under ds x r (p.0 zero x (omega arith) (omega arith))
    ∙ under_past ds r i (λ k e m h. p.0 (suc k) e (omega arith) (omega arith), λ k e m h. p.1 (suc k) e (omega arith) (omega arith)) (omega arith)

-- ---- the same below a base
pub is_under-below : (base p q : Names) → is_under (base ++ p) (base ++ q) ≡ is_under p q
is_under-below base p q = ap is_some (cut_under base p (base ++ q) ∙ ap (λ o. at_cut o None (cut p)) (cut-append base q))

under_all : (base r : Names) (ds : List Decision) → list_any (λ d. is_under (base ++ r) (base ++ item_rel d)) ds ≡ list_any (λ d. is_under r (item_rel d)) ds
under_all base r [] = refl
under_all base r (d ∷ ds) = ap (λ b. b || list_any (λ e. is_under (base ++ r) (base ++ item_rel e)) ds) (is_under-below base r (item_rel d)) ∙ ap (λ b. is_under r (item_rel d) || b) (under_all base r ds)

-- what begins with the base is the base and what follows it
pub split_under : (base p : Names) → is_under base p ≡ true → p ≡ base ++ drop (length base) p
split_under base p h = append-cut base p (drop (length base) p) (cut-starts_with base p (sym (is_under-starts_with base p) ∙ h))

pub longer_under : (base p : Names) → is_under base p ≡ true → length base ≤ length p
longer_under base p h = let k = some_rest (cut base p) h in let e = ap length (append-cut base p k.0 k.1) in let l = length-append base k.0 in omega (arith, e, l)

pub under_rest : (plan : Decisions) (p : Names) → is_under plan.base p ≡ true → list_any (λ d. is_under (drop (length plan.base) p) (item_rel d)) plan.items ≡ has_under plan p
under_rest plan p h = sym (under_all plan.base (drop (length plan.base) p) plan.items) ∙ ap (λ q. list_any (λ d. is_under q (plan.base ++ item_rel d)) plan.items) (sym (split_under plan.base p h))

-- ---- what is listed at and under a path, by whether something is
same_under : (p q rest : Names) → is_under p q ≡ false → same_path q (p ++ rest) ≡ false
same_under p q rest h = false_from_ne_true (same_path q (p ++ rest)) (λ e. let k : is_under p q ≡ true = ap (is_under p) (same_path-true q (p ++ rest) e) ∙ ap is_some (cut-append p rest) in let f : true ≡ false = sym k ∙ h in cc)

no_place : (base p rest : Names) (ds : List Decision) → list_any (λ d. is_under p (base ++ item_rel d)) ds ≡ false → list_any (λ d. same_path (base ++ item_rel d) (p ++ rest)) ds ≡ false
no_place base p rest [] h = refl
no_place base p rest (d ∷ ds) h =
    let k = or_parts (is_under p (base ++ item_rel d)) (list_any (λ e. is_under p (base ++ item_rel e)) ds) h in
    or_from _ _ (same_under p (base ++ item_rel d) rest k.0) (no_place base p rest ds k.1)

some_place : (base p : Names) (ds : List Decision) → list_any (λ d. is_under p (base ++ item_rel d)) ds ≡ true → (rest : Names) × (list_any (λ d. same_path (base ++ item_rel d) (p ++ rest)) ds ≡ true)
some_place base p [] h = cc
some_place base p (d ∷ ds) h = by (or_cases (is_under p (base ++ item_rel d)) (list_any (λ e. is_under p (base ++ item_rel e)) ds) h) (some_place base p ds)
  where
    by : (is_under p (base ++ item_rel d) ≡ true) ⊎ (list_any (λ e. is_under p (base ++ item_rel e)) ds ≡ true) → (list_any (λ e. is_under p (base ++ item_rel e)) ds ≡ true → (rest : Names) × (list_any (λ e. same_path (base ++ item_rel e) (p ++ rest)) ds ≡ true)) → (rest : Names) × (list_any (λ e. same_path (base ++ item_rel e) (p ++ rest)) (d ∷ ds) ≡ true)
    by (inl e) ih =
        let k = some_rest (cut p (base ++ item_rel d)) e in
        let f = append-cut p (base ++ item_rel d) k.0 k.1 in
        (k.0, or_left _ _ (ap (λ (q : Names). same_path q (p ++ k.0)) f ∙ same_path-refl (p ++ k.0)))
    by (inr e) ih = let k = ih e in (k.0, or_right _ _ k.1)

pub none_listed : (plan : Decisions) (p : Names) → has_under plan p ≡ false → (rest : Names) → is_place plan (p ++ rest) ≡ false
none_listed plan p h rest = no_place plan.base p rest plan.items h

pub some_listed : (plan : Decisions) (p : Names) → has_under plan p ≡ true → (rest : Names) × (is_place plan (p ++ rest) ≡ true)
some_listed plan p h = some_place plan.base p plan.items h

-- ---- a name more
pub under_more : (base p q : Names) (x : List ℕ) → q ≡ p ++ x ∷ [] → is_under base p ≡ true → is_under base q ≡ true
under_more base p q x e h = let k = some_rest (cut base p) h in ap (is_under base) e ∙ ap is_some (cut_more base p k.0 x k.1)
