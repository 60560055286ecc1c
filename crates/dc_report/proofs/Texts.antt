-- Texts that are UTF-8, as a test, and texts that are cut in two.
use Rattle.std.proofs.Common.{◌≡◌, List, ℕ, Bool, true, false, Option, Some, None, refl, Bor}
use Rattle.std.specs.Str.{is_utf8, IsUtf8}
use Rattle.dc_report.specs.Grammar.{is_heading}
use Rattle.std.specs.Option.{is_some}
use Rattle.std.proofs.lemmas.Str.{is_utf8-from_IsUtf8, IsUtf8-from_is_utf8}
use Rattle.dc_report.specs.Spelling.{split_of}

-- what the search knows of a `str`
pub ruleset texts = (is_utf8-from_IsUtf8, IsUtf8-from_is_utf8)

pub is_split : (r : Option (Bor (List ℕ) × Bor (List ℕ))) → is_some (split_of r) ≡ is_some r
is_split None = refl
is_split (Some x) = refl

-- whether there is a place to cut
pub ruleset parts = (is_split)

-- what is not UTF-8 fails the test
not_utf8_at : (bs : List ℕ) (b : Bool) → is_utf8 bs ≡ b → (IsUtf8 bs → ⊥) → b ≡ false
not_utf8_at bs true e h = absurd (h (IsUtf8-from_is_utf8 bs e))
not_utf8_at bs false e h = refl

pub not_utf8 : (bs : List ℕ) → (IsUtf8 bs → ⊥) → is_utf8 bs ≡ false
not_utf8 bs h = not_utf8_at bs (is_utf8 bs) refl h

pub no_heading : (line : List ℕ) → is_utf8 line ≡ false → is_heading line ≡ false
unfolding is_heading
no_heading line h = rw h refl
