-- Numbers of decimal digits, within bounds.
use Rattle.std.proofs.Common.{◌≡◌, ◌<◌, ◌≤◌, ◌^◌, ℕ, Bool, true, false, cond, ◌&&◌, List, [], ◌∷◌, length, nat_lt, nat_le, Option, Some, None, IfSome, Result, Ok, Err, refl, ap, ◌∙◌, arith, rules, All}
use Rattle.std.specs.Char.{is_ascii_digit}
use Rattle.std.specs.List.{list_all}
use Rattle.std.specs.Result.{OkIff, result_ok}
use Rattle.std.specs.Str.{IsUtf8}
use Rattle.std.specs.Str.Parse.{digits_value, ParsesUnsigned}
use Rattle.std.specs.Fmt.{decimal}
use Rattle.std.proofs.lemmas.Fmt.{digits_decimal, digits_value-decimal, decimal_nonempty}
use Rattle.std.proofs.lemmas.Str.{IsUtf8-from_ascii}
use Rattle.std.proofs.lemmas.Str.Ascii.{IsAscii-from_all}
use Rattle.std.proofs.lemmas.Str.Parse.{IsNumeralModel, IsDigitsTest, numerals_by_value, parse_digits}
use Rattle.std.proofs.lemmas.Bool.{leb-true, and_parts}
use Rattle.std.proofs.lemmas.Bool.Decides.{nat_tests}
use Rattle.std.proofs.lemmas.List.Elements.{All-nil, All-cons}
use borrow.Author.Tests.{leb-false}
use Rattle.dc_path.specs.Numbers.{number_in}

digits_test : IsDigitsTest (λ ds. list_all is_ascii_digit ds ≡ true)
digits_test = search rules

own_digits : IsNumeralModel (λ ds. list_all is_ascii_digit ds ≡ true) (digits_value 10)
own_digits = numerals_by_value _ digits_test

number_is : {E : Type 0} (text : List ℕ) (r : Result ℕ E) → list_all is_ascii_digit text ≡ true → OkIff r ((0 < length text) × (digits_value 10 text < 2 ^ 64)) (digits_value 10 text) → result_ok r ≡ number_in 0 18446744073709551615 text
unfolding number_in
number_is text (Ok n) p h = grind (arith, rules, p, h.0.0, h.0.1, h.1)
number_is text (Err e) p h = grind (arith, rules, p, h)

-- what is parsed of digits is their number
pub number_parsed : {E : Type 0} (text : List ℕ) (r : Result ℕ E) → list_all is_ascii_digit text ≡ true → ParsesUnsigned 64 10 text r → result_ok r ≡ number_in 0 18446744073709551615 text
number_parsed text r p h = number_is text r p (parse_digits own_digits 64 text r h p)

digit_small : (b : ℕ) → is_ascii_digit b ≡ true → b < 128
digit_small b h = grind (arith, nat_tests)

digits_small : (text : List ℕ) → list_all is_ascii_digit text ≡ true → All (λ b. b < 128) text
digits_small [] h = All-nil (λ b. b < 128)
digits_small (b ∷ text) h =
    let parts = and_parts (is_ascii_digit b) (list_all is_ascii_digit text) h in
    All-cons (λ b. b < 128) b text (digit_small b parts.0) (digits_small text parts.1)

pub digits_utf8 : (text : List ℕ) → list_all is_ascii_digit text ≡ true → IsUtf8 text
digits_utf8 text h = IsUtf8-from_ascii text (IsAscii-from_all text (digits_small text h))

no_digits-at : (least most : ℕ) (text : List ℕ) (b : Bool) → list_all is_ascii_digit text ≡ b → b ≡ false → number_in least most text ≡ None
unfolding number_in
no_digits-at least most text true h e = absurd (cc)
no_digits-at least most text false h e = grind (arith, rules, h)

-- other texts have none
pub no_digits : (least most : ℕ) (text : List ℕ) → list_all is_ascii_digit text ≡ false → number_in least most text ≡ None
no_digits least most text h = no_digits-at least most text false h refl

-- a number, where it is within bounds
abbrev pub within : ℕ → ℕ → Option ℕ → Option ℕ
within least most None = None
within least most (Some n) = cond (nat_le least n && nat_le n most) (Some n) None

narrow : (a b : Bool) (least most v : ℕ) (p q : Bool) → nat_le v 18446744073709551615 ≡ p → nat_le v most ≡ q → most ≤ 18446744073709551615
    → cond (a && b && nat_le least v && nat_le v most) (Some v) None ≡ within least most (cond (a && b && nat_le 0 v && nat_le v 18446744073709551615) (Some v) None)
narrow false b least most v p q e f h = refl
narrow true false least most v p q e f h = refl
narrow true true least most v true q e f h = grind (arith, rules, e)
narrow true true least most v false true e f h = absurd (omega (arith, leb-false v 18446744073709551615 e, leb-true v most f))
narrow true true least most v false false e f h = grind (arith, rules, e, f)

-- within narrower bounds
pub number_within : (least most : ℕ) (text : List ℕ) → most ≤ 18446744073709551615 → number_in least most text ≡ within least most (number_in 0 18446744073709551615 text)
unfolding number_in
number_within least most text h = narrow (list_all is_ascii_digit text) (nat_lt 0 (length text)) least most (digits_value 10 text) (nat_le (digits_value 10 text) 18446744073709551615) (nat_le (digits_value 10 text) most) refl refl h

pub within-in : (least most n : ℕ) (o : Option ℕ) → o ≡ Some n → least ≤ n → n ≤ most → within least most o ≡ Some n
within-in least most n o e b d = ap (within least most) e ∙ grind (arith, rules, b, d)

out : (least most n : ℕ) (p q : Bool) → nat_le least n ≡ p → nat_le n most ≡ q → (least ≤ n → n ≤ most → ⊥) → cond (p && q) (Some n) None ≡ None
out least most n false q e f h = refl
out least most n true false e f h = refl
out least most n true true e f h = absurd (h (leb-true least n e) (leb-true n most f))

pub within-out : (least most n : ℕ) (o : Option ℕ) → o ≡ Some n → (least ≤ n → n ≤ most → ⊥) → within least most o ≡ None
within-out least most n o e h = ap (within least most) e ∙ out least most n (nat_le least n) (nat_le n most) refl refl h

-- what is within the bounds is so
bounded : (a b p q : Bool) (least most n : ℕ) → (p ≡ true → least ≤ n) → (q ≡ true → n ≤ most) → IfSome (cond (a && b && p && q) (Some n) None) (λ n. (least ≤ n) × (n ≤ most))
bounded false b p q least most n h k = tt
bounded true false p q least most n h k = tt
bounded true true false q least most n h k = tt
bounded true true true false least most n h k = tt
bounded true true true true least most n h k = (h refl, k refl)

pub number_in-between : (least most : ℕ) (text : List ℕ) → IfSome (number_in least most text) (λ n. (least ≤ n) × (n ≤ most))
unfolding number_in
number_in-between least most text =
    bounded (list_all is_ascii_digit text) (nat_lt 0 (length text)) (nat_le least (digits_value 10 text)) (nat_le (digits_value 10 text) most) least most (digits_value 10 text)
    (leb-true least (digits_value 10 text)) (leb-true (digits_value 10 text) most)

-- ---- numbers as they are written
pub decimal_digits : (n : ℕ) → n < 2 ^ 64 → list_all is_ascii_digit (decimal n) ≡ true
decimal_digits n h = digits_decimal own_digits n h

pub number_in-decimal : (most n : ℕ) → n ≤ most → n < 2 ^ 64 → number_in 0 most (decimal n) ≡ Some n
unfolding number_in
number_in-decimal most n h k =
    let d = decimal_digits n k in
    let l = decimal_nonempty n k in
    let v : digits_value 10 (decimal n) ≡ n = digits_value-decimal own_digits n k in
    grind (arith, rules, d, l, v)
