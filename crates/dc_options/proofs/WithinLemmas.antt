-- What options are set to is within the limits of options.
use Rattle.std.proofs.Common.{◌≡◌, ◌≤◌, ℕ, Bool, true, false, cond, ◌&&◌, not, List, [], ◌∷◌, length, nat_le, Option, Some, None, IfSome, unwrap_or, refl, sym, ap, subst, ◌∙◌, arith, codes}
use Rattle.dc_path.specs.Names.{is_name, same_name}
use Rattle.dc_path.specs.Paths.{Names}
use Rattle.dc_path.proofs.NumberLemmas.{number_in-between}
use Rattle.dc_options.specs.Table.{needs_of}
use Rattle.dc_options.specs.Values.{is_snapshot, first}
use Rattle.dc_options.specs.Words.{Head}
use Rattle.dc_options.specs.Settings.{settings_with, IsWithin, number_or, number_by, values_of, names_in, sync_in, are_short}
use Rattle.dc_options.specs.declared.table.Flag.{Flag}
use Rattle.dc_options.specs.declared.table.Flag.TheVariants as flag
use Rattle.dc_options.specs.declared.table.Needs.{Needs}
use Rattle.dc_options.specs.declared.table.Needs.TheVariants as needs

-- ---- numbers
abbrev IsBetween : ℕ → ℕ → ℕ → Type 0
IsBetween least most n = (least ≤ n) × (n ≤ most)

or_other : (o : Option ℕ) (other least most : ℕ) → IfSome o (IsBetween least most) → IsBetween least most other → IsBetween least most (unwrap_or o other)
or_other None other least most h k = k
or_other (Some n) other least most h k = h

number_or-between : (f : Flag) (other : ℕ) (hs : List Head) (least most : ℕ) → needs_of f ≡ needs.Number least most → IsBetween least most other → IsBetween least most (number_or f other hs)
unfolding number_or
number_or-between f other hs least most e k =
    or_other (number_by (needs_of f) (first (values_of f hs))) other least most
    (subst (λ (n : Needs). IfSome (number_by n (first (values_of f hs))) (IsBetween least most)) (sym e) (number_in-between least most (first (values_of f hs)))) k

-- ---- names
abbrev AreShort : List ℕ × List ℕ → Type 0
AreShort names = (nat_le (length names.0) 252 && nat_le (length names.1) 252) ≡ true

second_of : (a b c d : Bool) → (a && b && c && d) ≡ true → b ≡ true
second_of true true c d h = refl
second_of true false c d h = absurd (cc)
second_of false b c d h = absurd (cc)

snapshot-short : (text : List ℕ) → is_snapshot text ≡ true → nat_le (length text) 252 ≡ true
unfolding is_snapshot
snapshot-short text h = second_of (is_name text) (nat_le (length text) 252) (not (same_name text (codes ".snapshot"))) (not (same_name text (codes ".reports"))) h

two_short : (p q : Bool) (one other : List ℕ) → (p ≡ true → nat_le (length one) 252 ≡ true) → (q ≡ true → nat_le (length other) 252 ≡ true) → IfSome (cond (p && q) (Some (one, other)) None) AreShort
two_short false q one other h k = tt
two_short true false one other h k = tt
two_short true true one other h k = ap (λ b. b && nat_le (length other) 252) (h refl) ∙ k refl

names-short : (values : List (List ℕ)) → IfSome (names_in values) AreShort
names-short [] = tt
names-short (one ∷ []) = tt
names-short (one ∷ other ∷ values) = two_short (is_snapshot one) (is_snapshot other) one other (snapshot-short one) (snapshot-short other)

sync-short : (a b : Option (List ℕ × List ℕ)) → IfSome a AreShort → IfSome b AreShort → are_short (sync_in a b) ≡ true
sync-short (Some n) b h k = h
sync-short None (Some n) h k = k
sync-short None None h k = refl

-- ---- all of them
pub settings-within : (flags : List Flag) (hs : List Head) (sources : List Names) (target : Names) → IsWithin (settings_with flags hs sources target)
unfolding settings_with needs_of
settings-within flags hs sources target =
    let maps = number_or-between flag.Maps 20 hs 1 65535 refl (omega arith, omega arith) in
    let blocks = number_or-between flag.Blocks 0 hs 0 2147483647 refl (omega arith, omega arith) in
    let buffer = number_or-between flag.Buffer 8192 hs 1 16777216 refl (omega arith, omega arith) in
    record {
      some_maps = maps.0;
      few_maps = maps.1;
      few_blocks = blocks.1;
      some_buffer = buffer.0;
      small_buffer = buffer.1;
      short = sync-short (names_in (values_of flag.Diff hs)) (names_in (values_of flag.Rdiff hs)) (names-short (values_of flag.Diff hs)) (names-short (values_of flag.Rdiff hs));
    }
