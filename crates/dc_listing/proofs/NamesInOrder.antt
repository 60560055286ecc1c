-- The names of a directory in their order: which come before one of them.
use Rattle.std.proofs.Common.{◌≡◌, ℕ, ◌<◌, List, [], ◌∷◌, length, take, drop, get_or, Bool, true, false, ◌||◌, refl, sym, ◌∙◌, ap, arith, zero, suc, ◌+◌}
use Rattle.std.proofs.lemmas.List.{get_or-drop, get_or-take, length-drop, length-take-le, take-append-drop}
use Rattle.std.proofs.lemmas.List.Folds.{list_any-append}
use Rattle.std.proofs.lemmas.Map.Keys.{Less-from_sorted}
use Rattle.std.specs.Cmp.{first_so, second_so}
use Rattle.std.specs.Cmp.Lexicographic.{slice_cmp}
use Rattle.std.specs.List.{list_any, list_all}
use Rattle.std.specs.List.Sorted.{IsStrictlySortedBy}
use Rattle.std.specs.Ordering.{nat_cmp, is_lt}
use Rattle.dc_path.specs.Names.{same_name}
use Rattle.dc_path.specs.Order.{name_lt}
use Rattle.dc_path.specs.Paths.{Names}
use Rattle.dc_path.proofs.OrderLemmas.{name_lt-cmp}
use Rattle.dc_path.proofs.PathLemmas.{NameCase, same, other, name_case}
use Rattle.dc_path.proofs.PathOrder.{name_lt-irrefl, name_lt-back}

-- what all pass, the one at a place passes
pub passes_at : {A : Type 0} (test : A → Bool) (xs : List A) (i : ℕ) (x d : A) → list_all test xs ≡ true → i < length xs → x ≡ get_or xs i d → test x ≡ true
passes_at test [] i x d a l e = absurd (omega arith)
passes_at test (y ∷ xs) zero x d a l e = ap test e ∙ first_so (test y) (list_all test xs) a
passes_at test (y ∷ xs) (suc i) x d a l e = passes_at test xs i x d (second_so (test y) (list_all test xs) a) (omega arith) e

-- a name that is there stands at a place
place_of : (names : Names) (y : List ℕ) → list_any (same_name y) names ≡ true → (j : ℕ) × (j < length names) × (get_or names j [] ≡ y)
place_of [] y h = cc
place_of (z ∷ names) y h = by (name_case y z) (place_of names y)
  where
    by : NameCase y z → (list_any (same_name y) names ≡ true → (j : ℕ) × (j < length names) × (get_or names j [] ≡ y)) → (j : ℕ) × (j < length (z ∷ names)) × (get_or (z ∷ names) j [] ≡ y)
    by (same e k) ih = (zero, omega arith, sym k)
    by (other e k) ih = let r = ih (sym (ap (λ b. b || list_any (same_name y) names) e) ∙ h) in let l = r.1 in (suc r.0, omega (arith, l), r.2)

less_at : (names : Names) (i j : ℕ) (x y : List ℕ) → IsStrictlySortedBy (slice_cmp nat_cmp) names → x ≡ get_or names i [] → y ≡ get_or names j [] → i < j → j < length names → name_lt x y ≡ true
less_at names i j x y a e f l h = name_lt-cmp x y ∙ ap (λ (z : List ℕ). is_lt (slice_cmp nat_cmp z y)) e ∙ ap (λ (z : List ℕ). is_lt (slice_cmp nat_cmp (get_or names i []) z)) f ∙ ap is_lt (Less-from_sorted (slice_cmp nat_cmp) names i j [] a l h)

-- those before a place, and those from it on
parted : (names : Names) (i : ℕ) (y : List ℕ) → list_any (same_name y) names ≡ (list_any (same_name y) (take i names) || list_any (same_name y) (drop i names))
parted names i y = ap (list_any (same_name y)) (sym (take-append-drop i names)) ∙ list_any-append (same_name y) (take i names) (drop i names)

pub any_taken : (names : Names) (i : ℕ) (y : List ℕ) → list_any (same_name y) (take i names) ≡ true → list_any (same_name y) names ≡ true
any_taken names i y h = parted names i y ∙ ap (λ b. b || list_any (same_name y) (drop i names)) h

-- the one at the place is no less than itself, and less than those after it
none_less : (names : Names) (i j : ℕ) (x y : List ℕ) → IsStrictlySortedBy (slice_cmp nat_cmp) names → x ≡ get_or names i [] → y ≡ get_or names (i + j) [] → i + j < length names → name_lt y x ≡ false
none_less names i zero x y a e f l = let n : i + zero ≡ i = omega arith in let k : y ≡ x = f ∙ ap (λ m. get_or names m []) n ∙ sym e in ap (λ (z : List ℕ). name_lt z x) k ∙ name_lt-irrefl x
none_less names i (suc j) x y a e f l = name_lt-back x y (less_at names i (i + suc j) x y a e f (omega arith) l)

-- of names in order, those before a place are the ones less than the one there
pub lesser_names : (names : Names) (i : ℕ) (x y : List ℕ) → IsStrictlySortedBy (slice_cmp nat_cmp) names → i < length names → x ≡ get_or names i [] → list_any (same_name y) names ≡ true → list_any (same_name y) (take i names) ≡ name_lt y x
lesser_names names i x y a l e h = by (list_any (same_name y) (take i names)) (name_lt y x) refl refl
  where
    taken : list_any (same_name y) (take i names) ≡ true → name_lt y x ≡ true
    taken f =
        let k = place_of (take i names) y f in
        let n = length-take-le i names (omega (arith, l)) in
        let m = k.1 in
        let j : k.0 < i = omega (arith, m, n) in
        less_at names k.0 i y x a (sym k.2 ∙ get_or-take i names k.0 [] j) e j l

    left : list_any (same_name y) (drop i names) ≡ true → name_lt y x ≡ false
    left f =
        let k = place_of (drop i names) y f in
        let n = length-drop i names in
        let m = k.1 in
        none_less names i k.0 x y a e (sym k.2 ∙ get_or-drop i names k.0 []) (omega (arith, m, n, l))

    by : (b c : Bool) → list_any (same_name y) (take i names) ≡ b → name_lt y x ≡ c → b ≡ c
    by true true f g = refl
    by false false f g = refl
    by true false f g = sym (taken f) ∙ g
    by false true f g = sym (left (ap (λ b. b || list_any (same_name y) (drop i names)) (sym f) ∙ sym (parted names i y) ∙ h)) ∙ g
