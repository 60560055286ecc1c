-- The stage and the items in it have names, and their paths pass no limit.
use Rattle.std.proofs.Common.{◌≡◌, ℕ, ◌+◌, ◌%◌, ◌^◌, ◌<◌, ◌≤◌, Bool, true, false, ◌&&◌, nat_le, nat_lt, nat_eq, List, [], ◌∷◌, ◌++◌, length, refl, ◌∙◌, ap, arith}
use Rattle.std.proofs.lemmas.Bool.Decides.{nat_tests}
use Rattle.std.proofs.lemmas.Fmt.{decimal_by_steps, decimal_nonempty, length-decimal-le, IsAscii-decimal}
use Rattle.std.proofs.lemmas.List.Folds.{list_all-append}
use Rattle.std.proofs.lemmas.Str.{IsUtf8-from_ascii, is_utf8-from_IsUtf8}
use Rattle.std.specs.Fmt.{decimal}
use Rattle.std.specs.List.{list_all}
use Rattle.std.specs.Str.{chars, is_utf8}
use lib.Utf8.{encode}
use Rattle.std.specs.Cmp.{first_so, second_so}
use Rattle.dc_path.specs.Names.{is_name, is_plain}
use Rattle.dc_path.specs.Paths.{IsWithin}
use Rattle.dc_path.proofs.Joins.{length-joined-append, length-joined-one, name_short}
use Rattle.dc_report.specs.Moves.{label_of, stage_name}
use Rattle.dc_report.proofs.Labels.{label_decimal}

-- ---- digits
abbrev is_digit : ℕ → Bool
is_digit b = nat_le 48 b && nat_le b 57

one_digit : (n : ℕ) → n < 10 → list_all is_digit ((48 + n) ∷ []) ≡ true
one_digit n h = grind (arith, nat_tests)

more_digits : (n : ℕ) (ds : List ℕ) → list_all is_digit ds ≡ true → list_all is_digit (ds ++ (48 + n % 10) ∷ []) ≡ true
more_digits n ds h = list_all-append is_digit ds ((48 + n % 10) ∷ []) ∙ rw (h, one_digit (n % 10) (omega arith)) refl

all_digits : (n : ℕ) → n < 2 ^ 64 → list_all is_digit (decimal n) ≡ true
all_digits n h = decimal_by_steps (λ _ ds. list_all is_digit ds ≡ true) one_digit (λ n ds _ e. more_digits n ds e) n h

digit_plain : (b : ℕ) → is_digit b ≡ true → is_plain b ≡ true
digit_plain b h = grind (arith, nat_tests)

digits_plain : (ds : List ℕ) → list_all is_digit ds ≡ true → list_all is_plain ds ≡ true
digits_plain [] h = refl
digits_plain (d ∷ ds) h =
    rw (digit_plain d (first_so (is_digit d) (list_all is_digit ds) h), digits_plain ds (second_so (is_digit d) (list_all is_digit ds) h)) refl

no_dot : (d : ℕ) → is_digit d ≡ true → nat_eq d 46 ≡ false
no_dot d h = grind (arith, nat_tests)

short_tests : (n : ℕ) → 0 < n → n ≤ 255 → (nat_lt 0 n ≡ true) × (nat_le n 255 ≡ true)
short_tests n h k = (grind (arith, nat_tests), grind (arith, nat_tests))

name_from_digits : (ds : List ℕ) → list_all is_digit ds ≡ true → is_utf8 ds ≡ true → 0 < length ds → length ds ≤ 255 → is_name ds ≡ true
unfolding is_name
name_from_digits [] h u k l = absurd (omega arith)
name_from_digits (d ∷ ds) h u k l =
    let t = short_tests (length (d ∷ ds)) k l in
    rw (u, t.0, t.1, digits_plain (d ∷ ds) h, no_dot d (first_so (is_digit d) (list_all is_digit ds) h)) refl

-- the number of an item is written as a name
pub label_is_name : (n : ℕ) → n < 2 ^ 64 → is_name (label_of n) ≡ true
label_is_name n h =
    let l = length-decimal-le 20 n (omega arith) (omega arith) h in
    ap is_name (label_decimal n h)
    ∙ name_from_digits (decimal n) (all_digits n h) (is_utf8-from_IsUtf8 (decimal n) (IsUtf8-from_ascii (decimal n) (IsAscii-decimal n h))) (decimal_nonempty n h) (omega arith)

pub stage_is_name : is_name stage_name ≡ true
unfolding is_name stage_name is_utf8 chars encode
stage_is_name = refl

-- ---- limits
pub stage_within : IsWithin (stage_name ∷ [])
stage_within = record {
  few = omega arith;
  short = let l = name_short stage_name stage_is_name in let m = length-joined-one stage_name in omega arith;
}

pub slot_within : (n : ℕ) → n < 2 ^ 64 → IsWithin (stage_name ∷ label_of n ∷ [])
slot_within n h =
    let a = name_short stage_name stage_is_name in
    let b = length-joined-one stage_name in
    let c = name_short (label_of n) (label_is_name n h) in
    let d = length-joined-one (label_of n) in
    record { few = omega arith; short = let l = length-joined-append (stage_name ∷ []) (label_of n ∷ []) in omega arith }
