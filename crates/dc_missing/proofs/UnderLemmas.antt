-- Lists of paths from a directory, put together and under a name more; what is hidden among them.
use Rattle.std.proofs.Common.{◌≡◌, ◌⊎◌, inl, inr, List, [], ◌∷◌, ◌++◌, map, Bool, true, false, not, ◌&&◌, ◌||◌, cond, None, ℕ, refl, sym, ◌∙◌, ap, arith}
use Rattle.std.proofs.lemmas.Bool.{and_from, or_left, or_right, or_cases}
use Rattle.std.proofs.lemmas.List.Folds.{list_all-append, list_any-append}
use Rattle.std.specs.Cmp.{first_so, second_so}
use Rattle.std.specs.List.{list_all}
use Rattle.std.specs.Option.{is_some}
use Rattle.dc_path.specs.Found.{has_path}
use Rattle.dc_path.specs.Names.{same_name}
use Rattle.dc_path.specs.Order.{path_lt, is_after, is_ascending}
use Rattle.dc_path.specs.Paths.{Names, same_path, cut, is_under}
use Rattle.dc_path.proofs.OrderLemmas.{path_lt-after}
use Rattle.dc_path.proofs.PathLemmas.{name_decides, same_name-refl, same_path-refl, same_path-true}
use Rattle.dc_path.proofs.PathOrder.{name_lt-irrefl}
use Rattle.dc_attrs.specs.Trees.{is_hidden, snapshot}
use Rattle.dc_fs.specs.Looks.{is_shown}
use Rattle.dc_listing.proofs.Ascending.{all_weaker, has_path-under, has_path-under-root, under}
use Rattle.dc_missing.specs.Missing.{covers, are_apart}
use Rattle.dc_missing.proofs.PlaceLemmas.{is_under-below}

-- ---- a test of each path in a list
pub all_of : (f : Names → Bool) (ps : List Names) → ((q : Names) → has_path ps q ≡ true → f q ≡ true) → list_all f ps ≡ true
all_of f [] h = refl
all_of f (p ∷ ps) h = and_from _ _ (h p (or_left (same_path p p) (has_path ps p) (same_path-refl p))) (all_of f ps (λ q k. h q (or_right (same_path p q) (has_path ps q) k)))

pub one_path : (p q : Names) → has_path (p ∷ []) q ≡ true → p ≡ q
one_path p q h = by (or_cases (same_path p q) false h)
  where
    by : (same_path p q ≡ true) ⊎ (false ≡ true) → p ≡ q
    by (inl e) = same_path-true p q e
    by (inr e) = cc

pub in_either : (xs ys : List Names) (q : Names) {P : Type 0} → has_path (xs ++ ys) q ≡ true → (has_path xs q ≡ true → P) → (has_path ys q ≡ true → P) → P
in_either xs ys q {P} h f g = by (or_cases (has_path xs q) (has_path ys q) (sym (list_any-append (λ p. same_path p q) xs ys) ∙ h))
  where
    by : (has_path xs q ≡ true) ⊎ (has_path ys q ≡ true) → P
    by (inl e) = f e
    by (inr e) = g e

-- ---- under a name more
pub in_under : (x : List ℕ) (rests : List Names) (q : Names) → has_path (under x rests) q ≡ true → (r : Names) × (q ≡ x ∷ r) × (has_path rests r ≡ true)
in_under x rests [] h = let k : false ≡ true = sym (has_path-under-root x rests) ∙ h in cc
in_under x rests (y ∷ r) h =
    let k = sym (has_path-under x y rests r) ∙ h in
    let e : x ≡ y = (name_decides x y).0 (first_so (same_name x y) (has_path rests r) k) in
    (r, ap (λ (z : List ℕ). z ∷ r) (sym e), second_so (same_name x y) (has_path rests r) k)

is_under-name : (x y : List ℕ) (p q : Names) → is_under (x ∷ p) (y ∷ q) ≡ (same_name x y && is_under p q)
is_under-name x y p q = by (same_name x y)
  where
    by : (b : Bool) → is_some (cond b (cut p q) None) ≡ (b && is_some (cut p q))
    by true = refl
    by false = refl

covers-under : (x y : List ℕ) (rests : List Names) (q : Names) → covers (under x rests) (y ∷ q) ≡ (same_name x y && covers rests q)
covers-under x y [] q = sym (none (same_name x y))
  where
    none : (b : Bool) → (b && false) ≡ false
    none true = refl
    none false = refl
covers-under x y (r ∷ rests) q = let ih = covers-under x y rests q in let u = is_under-name x y r q in grind (arith, ih, u)

covers-under-root : (x : List ℕ) (rests : List Names) → covers (under x rests) [] ≡ false
covers-under-root x [] = refl
covers-under-root x (r ∷ rests) = covers-under-root x rests

pub covered_under : (x : List ℕ) (rests : List Names) (q : Names) → covers (under x rests) q ≡ true → (r : Names) × (q ≡ x ∷ r) × (covers rests r ≡ true)
covered_under x rests [] h = let k : false ≡ true = sym (covers-under-root x rests) ∙ h in cc
covered_under x rests (y ∷ r) h =
    let k = sym (covers-under x y rests r) ∙ h in
    let e : x ≡ y = (name_decides x y).0 (first_so (same_name x y) (covers rests r) k) in
    (r, ap (λ (z : List ℕ). z ∷ r) (sym e), second_so (same_name x y) (covers rests r) k)

pub covers_under : (x : List ℕ) (rests : List Names) (q : Names) → covers rests q ≡ true → covers (under x rests) (x ∷ q) ≡ true
covers_under x rests q h = covers-under x x rests q ∙ and_from _ _ (same_name-refl x) h

-- ---- one list after the other
pub covered_either : (xs ys : List Names) (q : Names) {P : Type 0} → covers (xs ++ ys) q ≡ true → (covers xs q ≡ true → P) → (covers ys q ≡ true → P) → P
covered_either xs ys q {P} h f g = by (or_cases (covers xs q) (covers ys q) (sym (list_any-append (λ p. is_under p q) xs ys) ∙ h))
  where
    by : (covers xs q ≡ true) ⊎ (covers ys q ≡ true) → P
    by (inl e) = f e
    by (inr e) = g e

pub covers_first : (xs ys : List Names) (q : Names) → covers xs q ≡ true → covers (xs ++ ys) q ≡ true
covers_first xs ys q h = list_any-append (λ p. is_under p q) xs ys ∙ or_left (covers xs q) (covers ys q) h

pub covers_second : (xs ys : List Names) (q : Names) → covers ys q ≡ true → covers (xs ++ ys) q ≡ true
covers_second xs ys q h = list_any-append (λ p. is_under p q) xs ys ∙ or_right (covers xs q) (covers ys q) h

pub apart_then : (p q : Names → Bool) → ((a b : Names) → p a ≡ true → q b ≡ true → is_after a b ≡ true) → (xs ys : List Names) → are_apart xs ≡ true → are_apart ys ≡ true → list_all p xs ≡ true → list_all q ys ≡ true → are_apart (xs ++ ys) ≡ true
apart_then p q h [] ys a b c d = b
apart_then p q h (x ∷ xs) ys a b c d =
    and_from _ _
    (list_all-append (is_after x) xs ys ∙ and_from _ _ (first_so _ _ a) (all_weaker q (is_after x) (λ z. h x z (first_so _ _ c)) ys d))
    (apart_then p q h xs ys (second_so _ _ a) b (second_so _ _ c) d)

-- ---- paths that are apart, below one front
is_after-below : (front p q : Names) → is_after (front ++ p) (front ++ q) ≡ is_after p q
is_after-below [] p q = refl
is_after-below (x ∷ front) p q = let ih = is_after-below front p q in let r = same_name-refl x in let i = name_lt-irrefl x in grind (arith, ih, r, i)

all_after : (front p : Names) (rests : List Names) → list_all (is_after (front ++ p)) (map (λ r. front ++ r) rests) ≡ list_all (is_after p) rests
all_after front p [] = refl
all_after front p (r ∷ rests) = ap (λ b. b && list_all (is_after (front ++ p)) (map (λ s. front ++ s) rests)) (is_after-below front p r) ∙ ap (λ b. is_after p r && b) (all_after front p rests)

pub apart_below : (front : Names) (rests : List Names) → are_apart (map (λ r. front ++ r) rests) ≡ are_apart rests
apart_below front [] = refl
apart_below front (r ∷ rests) = ap (λ b. b && are_apart (map (λ s. front ++ s) rests)) (all_after front r rests) ∙ ap (λ b. list_all (is_after r) rests && b) (apart_below front rests)

pub apart_ascends : (paths : List Names) → are_apart paths ≡ true → is_ascending paths ≡ true
apart_ascends [] h = refl
apart_ascends (p ∷ paths) h = and_from _ _ (all_weaker (is_after p) (path_lt p) (λ q. path_lt-after p q) paths (first_so _ _ h)) (apart_ascends paths (second_so _ _ h))

pub covers_below : (front : Names) (rests : List Names) (q : Names) → covers (map (λ r. front ++ r) rests) (front ++ q) ≡ covers rests q
covers_below front [] q = refl
covers_below front (r ∷ rests) q = ap (λ b. b || covers (map (λ s. front ++ s) rests) (front ++ q)) (is_under-below front r q) ∙ ap (λ b. is_under r q || b) (covers_below front rests q)

-- ---- what is hidden
pub hidden_under : (x : List ℕ) (q : Names) (hidden : Bool) → is_shown x ≡ true → is_hidden q ≡ hidden → is_hidden (x ∷ q) ≡ hidden
hidden_under x q hidden s h = by (same_name snapshot x) s ∙ h
  where
    by : (b : Bool) → not b ≡ true → (b || is_hidden q) ≡ is_hidden q
    by true e = cc
    by false e = refl

pub hidden_more : (x : List ℕ) (q : Names) → is_hidden q ≡ true → is_hidden (x ∷ q) ≡ true
hidden_more x q h = or_right (same_name snapshot x) (is_hidden q) h

-- a first name that is not shown is that of snapshots
pub not_shown : (x : List ℕ) → is_shown x ≡ false → snapshot ≡ x
not_shown x h = by (same_name snapshot x) refl h
  where
    by : (b : Bool) → same_name snapshot x ≡ b → not b ≡ false → snapshot ≡ x
    by true e k = (name_decides snapshot x).0 e
    by false e k = cc
