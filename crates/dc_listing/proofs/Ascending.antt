-- Lists of paths that ascend, put together and under a name more.
use Rattle.std.proofs.Common.{◌≡◌, List, [], ◌∷◌, ◌++◌, map, Bool, true, false, ◌&&◌, ℕ, refl, sym, ◌∙◌, ap, arith, append_assoc}
use Rattle.std.proofs.Math.Bool.{and-false}
use Rattle.std.proofs.lemmas.Bool.{and_from}
use Rattle.std.proofs.lemmas.List.Folds.{list_all-append}
use Rattle.std.specs.Cmp.{first_so, second_so}
use Rattle.std.specs.List.{list_all}
use Rattle.dc_path.specs.Found.{has_path}
use Rattle.dc_path.specs.Names.{same_name}
use Rattle.dc_path.specs.Order.{path_lt, is_ascending}
use Rattle.dc_path.specs.Paths.{Names}
use Rattle.dc_path.proofs.PathOrder.{path_lt-below}

-- ---- tests of all paths
pub all_weaker : {A : Type 0} (p q : A → Bool) → ((x : A) → p x ≡ true → q x ≡ true) → (xs : List A) → list_all p xs ≡ true → list_all q xs ≡ true
all_weaker p q h [] k = refl
all_weaker p q h (x ∷ xs) k = and_from _ _ (h x (first_so _ _ k)) (all_weaker p q h xs (second_so _ _ k))

pub cons_both : {A : Type 0} (x y : A) (xs ys : List A) → x ≡ y → xs ≡ ys → x ∷ xs ≡ y ∷ ys
cons_both {A} x y xs ys e f = ap (λ (z : A). z ∷ xs) e ∙ ap (λ (zs : List A). y ∷ zs) f

-- ---- one list after the other
pub ascending_then : (p q : Names → Bool) → ((a b : Names) → p a ≡ true → q b ≡ true → path_lt a b ≡ true) → (xs ys : List Names) → is_ascending xs ≡ true → is_ascending ys ≡ true → list_all p xs ≡ true → list_all q ys ≡ true → is_ascending (xs ++ ys) ≡ true
ascending_then p q h [] ys a b c d = b
ascending_then p q h (x ∷ xs) ys a b c d =
    and_from _ _
    (list_all-append (path_lt x) xs ys ∙ and_from _ _ (first_so _ _ a) (all_weaker q (path_lt x) (λ z. h x z (first_so _ _ c)) ys d))
    (ascending_then p q h xs ys (second_so _ _ a) b (second_so _ _ c) d)

-- ---- under a name more
abbrev pub under : List ℕ → List Names → List Names
under x rests = map (λ r. x ∷ r) rests

above_under : (x : List ℕ) (p : Names) (rests : List Names) → list_all (path_lt (x ∷ p)) (under x rests) ≡ list_all (path_lt p) rests
above_under x p [] = refl
above_under x p (r ∷ rests) = ap (λ b. b && list_all (path_lt (x ∷ p)) (under x rests)) (path_lt-below (x ∷ []) p r) ∙ ap (λ b. path_lt p r && b) (above_under x p rests)

pub ascending_under : (x : List ℕ) (rests : List Names) → is_ascending (under x rests) ≡ is_ascending rests
ascending_under x [] = refl
ascending_under x (r ∷ rests) = ap (λ b. b && is_ascending (under x rests)) (above_under x r rests) ∙ ap (λ b. list_all (path_lt r) rests && b) (ascending_under x rests)

-- a path that is no root comes after the root
after_root : (p : Names → Bool) → (p [] ≡ false) → (q : Names) → p q ≡ true → path_lt [] q ≡ true
after_root p n [] h = cc
after_root p n (y ∷ q) h = refl

-- a name, and then what is under it
pub ascending_with : (x : List ℕ) (p : Names → Bool) (rests : List Names) → p [] ≡ false → list_all p rests ≡ true → is_ascending rests ≡ true → is_ascending ((x ∷ []) ∷ under x rests) ≡ true
ascending_with x p rests n h a = and_from _ _ (above_under x [] rests ∙ all_weaker p (path_lt []) (after_root p n) rests h) (ascending_under x rests ∙ a)

pub has_path-under-root : (x : List ℕ) (rests : List Names) → has_path (under x rests) [] ≡ false
has_path-under-root x [] = refl
has_path-under-root x (r ∷ rests) = has_path-under-root x rests

pub has_path-under : (x y : List ℕ) (rests : List Names) (q : Names) → has_path (under x rests) (y ∷ q) ≡ (same_name x y && has_path rests q)
has_path-under x y [] q = sym (and-false (same_name x y))
has_path-under x y (r ∷ rests) q = let ih = has_path-under x y rests q in grind (arith, ih)

pub all_under : (x : List ℕ) (p : Names → Bool) (rests : List Names) → ((r : Names) → p (x ∷ r) ≡ true) → list_all p (under x rests) ≡ true
all_under x p [] h = refl
all_under x p (r ∷ rests) h = and_from _ _ (h r) (all_under x p rests h)

-- the paths from one directory up
pub map_under : (front : Names) (x : List ℕ) (rests : List Names) → map (λ r. (front ++ x ∷ []) ++ r) rests ≡ map (λ r. front ++ r) (under x rests)
map_under front x [] = refl
map_under front x (r ∷ rests) = ap (λ p. p ∷ map (λ q. (front ++ x ∷ []) ++ q) rests) (append_assoc front (x ∷ []) r) ∙ ap (λ ps. (front ++ x ∷ r) ∷ ps) (map_under front x rests)
