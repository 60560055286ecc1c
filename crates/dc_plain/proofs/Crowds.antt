-- A list of paths that ascends is no longer than one in which each of its paths stands.
use Rattle.std.proofs.Common.{◌≡◌, ◌+◌, ◌≤◌, Bool, true, false, cond, ◌||◌, List, [], ◌∷◌, length, refl, ap, ◌∙◌, subst, arith}
use Rattle.std.proofs.lemmas.Bool.{or_right}
use Rattle.std.specs.Cmp.{first_so, second_so}
use Rattle.std.specs.List.{list_all}
use Rattle.dc_path.specs.Found.{has_path}
use Rattle.dc_path.specs.Order.{path_lt, is_ascending}
use Rattle.dc_path.specs.Paths.{Names, same_path}
use Rattle.dc_path.proofs.OrderLemmas.{path_lt-apart}
use Rattle.dc_path.proofs.PathLemmas.{same_path-flip, same_path-true, same_path-refl}

-- ---- a list without the first of some path
abbrev less_one : Names → List Names → List Names
less_one x [] = []
less_one x (y ∷ ys) = cond (same_path y x) ys (y ∷ less_one x ys)

shorter_by : (x y : Names) (ys : List Names) (is : Bool) → (is || has_path ys x) ≡ true → (has_path ys x ≡ true → length (less_one x ys) + 1 ≡ length ys) → length (cond is ys (y ∷ less_one x ys)) + 1 ≡ length (y ∷ ys)
shorter_by x y ys true h rest = omega arith
shorter_by x y ys false h rest = let k = rest h in omega (arith, k)

shorter : (x : Names) (ys : List Names) → has_path ys x ≡ true → length (less_one x ys) + 1 ≡ length ys
shorter x [] h = absurd (cc)
shorter x (y ∷ ys) h = shorter_by x y ys (same_path y x) h (shorter x ys)

kept_by : (x q y : Names) (ys : List Names) (is is_too : Bool) → same_path y x ≡ is → same_path y q ≡ is_too → same_path x q ≡ false → (is_too || has_path ys q) ≡ true
    → (has_path ys q ≡ true → has_path (less_one x ys) q ≡ true) → has_path (cond is ys (y ∷ less_one x ys)) q ≡ true
kept_by x q y ys true true e f n h rest = let k : same_path x q ≡ true = subst (λ (z : Names). same_path z q ≡ true) (same_path-true y x e) f in absurd (cc)
kept_by x q y ys true false e f n h rest = h
kept_by x q y ys false true e f n h rest = ap (λ b. b || has_path (less_one x ys) q) f
kept_by x q y ys false false e f n h rest = ap (λ b. b || has_path (less_one x ys) q) f ∙ rest h

-- each other path stays
kept : (x q : Names) (ys : List Names) → same_path x q ≡ false → has_path ys q ≡ true → has_path (less_one x ys) q ≡ true
kept x q [] n h = absurd (cc)
kept x q (y ∷ ys) n h = kept_by x q y ys (same_path y x) (same_path y q) refl refl n h (kept x q ys n)

-- ---- the lengths
apart_by : (x y q : Names) (ys : List Names) (is : Bool) → same_path y q ≡ is → path_lt x y ≡ true → (is || has_path ys q) ≡ true → (has_path ys q ≡ true → same_path x q ≡ false) → same_path x q ≡ false
apart_by x y q ys true e l h rest = subst (λ (z : Names). same_path x z ≡ false) (same_path-true y q e) (same_path-flip x y ∙ path_lt-apart x y l)
apart_by x y q ys false e l h rest = rest h

-- a path that comes before others is none of them
apart_from : (x q : Names) (ys : List Names) → list_all (path_lt x) ys ≡ true → has_path ys q ≡ true → same_path x q ≡ false
apart_from x q [] a h = absurd (cc)
apart_from x q (y ∷ ys) a h = apart_by x y q ys (same_path y q) refl (first_so _ _ a) h (apart_from x q ys (second_so _ _ a))

pub no_longer : (xs ys : List Names) → is_ascending xs ≡ true → ((q : Names) → has_path xs q ≡ true → has_path ys q ≡ true) → length xs ≤ length ys
no_longer [] ys a within = omega arith
no_longer (x ∷ xs) ys a within = longer_by (no_longer xs (less_one x ys) (second_so _ _ a) others) (shorter x ys here)
  where
    here : has_path ys x ≡ true
    here = within x (ap (λ b. b || has_path xs x) (same_path-refl x))

    others : (q : Names) → has_path xs q ≡ true → has_path (less_one x ys) q ≡ true
    others q h = kept x q ys (apart_from x q xs (first_so _ _ a) h) (within q (or_right (same_path x q) (has_path xs q) h))

    longer_by : length xs ≤ length (less_one x ys) → length (less_one x ys) + 1 ≡ length ys → length (x ∷ xs) ≤ length ys
    longer_by rest one = omega (arith, rest, one)
