-- The names in the stage are decimal texts.
use Rattle.std.proofs.Common.{◌≡◌, ℕ, zero, suc, ◌+◌, ◌/◌, ◌%◌, ◌^◌, ◌<◌, List, [], ◌∷◌, ◌++◌, true, false, map, get_or, refl, sym, ◌∙◌, ap, arith}
use Rattle.std.specs.Int.Digits.{digits_of}
use Rattle.std.specs.Fmt.{decimal}
use Rattle.std.proofs.lemmas.List.{map-append}
use Rattle.std.proofs.lemmas.Bool.{false_from_ne_true}
use Rattle.std.proofs.lemmas.Int.Digits.{digits_of_step, first_digits_of, same_from_digits_of}
use Rattle.std.proofs.lemmas.Fmt.{decimal_by_steps}
use Rattle.dc_path.specs.Names.{same_name}
use Rattle.dc_path.proofs.PathLemmas.{name_decides, same_name-refl}
use Rattle.dc_report.specs.Moves.{label_of}

label_suc : (n : ℕ) → 0 < n → label_of n ≡ map (λ d. d + 48) (digits_of 10 n)
unfolding label_of
label_suc zero h = absurd (omega arith)
label_suc (suc n) h = refl

label_step : (n : ℕ) → 0 < n → label_of n ≡ map (λ d. d + 48) (digits_of 10 (n / 10)) ++ (48 + n % 10) ∷ []
label_step n h =
    label_suc n h ∙ ap (map (λ d. d + 48)) (digits_of_step 10 n (omega arith) h)
    ∙ map-append (λ d. d + 48) (digits_of 10 (n / 10)) (n % 10 ∷ [])
    ∙ ap (λ x. map (λ d. d + 48) (digits_of 10 (n / 10)) ++ x ∷ []) comm
  where
    comm : n % 10 + 48 ≡ 48 + n % 10
    comm = omega arith

one_digit : (n : ℕ) → n < 10 → label_of n ≡ (48 + n) ∷ []
unfolding label_of
one_digit zero h = refl
one_digit (suc n) h =
    let q : suc n / 10 ≡ 0 = omega arith in
    let r : suc n % 10 ≡ suc n = omega arith in
    label_step (suc n) (omega arith) ∙ rw (q, r) refl

-- what the code writes with `{n}`
pub label_decimal : (n : ℕ) → n < 2 ^ 64 → label_of n ≡ decimal n
label_decimal n h = decimal_by_steps (λ n ds. label_of n ≡ ds) one_digit
    (λ n ds l e. label_step n (omega arith) ∙ ap (λ x. x ++ (48 + n % 10) ∷ []) (sym (label_suc (n / 10) (omega arith)) ∙ e)) n h

-- ---- two numbers have two names
map_same : (xs ys : List ℕ) → map (λ d. d + 48) xs ≡ map (λ d. d + 48) ys → xs ≡ ys
map_same [] [] e = refl
map_same [] (y ∷ ys) e = absurd (cc)
map_same (x ∷ xs) [] e = absurd (cc)
map_same (x ∷ xs) (y ∷ ys) e = let h : x + 48 ≡ y + 48 = cc in let k : x ≡ y = omega arith in let t : map (λ d. d + 48) xs ≡ map (λ d. d + 48) ys = cc in let ih = map_same xs ys t in cc

no_zero : (n : ℕ) → 48 ∷ [] ≡ map (λ d. d + 48) (digits_of 10 (suc n)) → ⊥
no_zero n e =
    let k : 0 ∷ [] ≡ digits_of 10 (suc n) = map_same (0 ∷ []) (digits_of 10 (suc n)) e in
    let f = first_digits_of 10 (suc n) (omega arith) (omega arith) in
    let g : get_or (digits_of 10 (suc n)) 0 0 ≡ 0 = ap (λ (ds : List ℕ). get_or ds 0 0) (sym k) in
    omega arith

pub one_label_of : (m n : ℕ) → label_of m ≡ label_of n → m ≡ n
unfolding label_of
one_label_of zero zero e = refl
one_label_of zero (suc n) e = absurd (no_zero n e)
one_label_of (suc m) zero e = absurd (no_zero m (sym e))
one_label_of (suc m) (suc n) e = same_from_digits_of 10 (suc m) (suc n) (omega arith) (map_same (digits_of 10 (suc m)) (digits_of 10 (suc n)) e)

pub same_label : (m n : ℕ) → m ≡ n → same_name (label_of m) (label_of n) ≡ true
same_label m n e = rw e (same_name-refl (label_of n))

pub other_labels : (m n : ℕ) → (m ≡ n → ⊥) → same_name (label_of m) (label_of n) ≡ false
other_labels m n h = false_from_ne_true (same_name (label_of m) (label_of n)) (λ e. h (one_label_of m n ((name_decides (label_of m) (label_of n)).0 e)))
