-- The last ` -> ` of a text.
use Rattle.std.proofs.Common.{◌≡◌, ℕ, zero, suc, ◌<◌, ◌≤◌, Bool, true, false, cond, List, [], ◌∷◌, ◌++◌, length, take, drop, Option, Some, None, refl, sym, ap, ap₂, ◌∙◌, arith, Bor, nat_eq, MatchOption}
use Rattle.std.proofs.lemmas.List.{take-append-drop}
use Rattle.std.specs.Cmp.Lexicographic.{bytes_decides}
use Rattle.std.specs.List.{starts_with}
use Rattle.std.specs.Str.Pattern.{RFindsText, LacksTextAt, SplitsAroundMatch}
use Rattle.dc_report.specs.Grammar.{Split, arrow_at, later_arrow, last_arrow}
use Rattle.dc_report.specs.Spelling.{split_of}

-- ` -> `
abbrev pub arrow : List ℕ
arrow = 32 ∷ 45 ∷ 62 ∷ 32 ∷ []

-- what follows the first four bytes, or nothing
abbrev at_front : Bool → List ℕ → Option Split
at_front b s = cond b (Some ([], drop 4 s)) None

lacks_at : (s : List ℕ) (b : Bool) → starts_with nat_eq s arrow ≡ b → LacksTextAt arrow s 0 → at_front b s ≡ None
lacks_at s true e h = absurd (h (drop 4 s) (sym (take-append-drop 4 s) ∙ ap (λ (x : List ℕ). x ++ drop 4 s) (sym ((bytes_decides arrow (take 4 s)).0 e))))
lacks_at s false e h = refl

pub arrow_lacks : (s : List ℕ) → LacksTextAt arrow s 0 → arrow_at s ≡ None
arrow_lacks s h = lacks_at s (starts_with nat_eq s arrow) refl h

-- the text begins with ` -> `
pub arrow_here : (rest : List ℕ) → arrow_at (arrow ++ rest) ≡ Some ([], rest)
arrow_here rest = refl

pub last_lacks : (s : List ℕ) → ((i : ℕ) → i ≤ length s → LacksTextAt arrow s i) → last_arrow s ≡ None
last_lacks [] h = refl
last_lacks (b ∷ s) h = ap₂ (later_arrow b) (last_lacks s (λ i l. h (suc i) (omega arith))) (arrow_lacks (b ∷ s) (h 0 (omega arith)))

has_start : (s r : List ℕ) → ((k : ℕ) → 0 < k → k ≤ length s → LacksTextAt arrow s k) → s ≡ arrow ++ r → last_arrow s ≡ Some ([], r)
has_start [] r h e = absurd (let k : [] ≡ arrow ++ r = e in cc)
has_start (b ∷ s) r h e =
    ap₂ (later_arrow b) (last_lacks s (λ i l. h (suc i) (omega arith) (omega arith))) (ap arrow_at e ∙ arrow_here r)

drop_start : (s r : List ℕ) → s ≡ arrow ++ r → drop 4 s ≡ r
drop_start s r e = ap (drop 4) e

pub last_has : (s : List ℕ) (i : ℕ) (r : List ℕ) → ((k : ℕ) → i < k → k ≤ length s → LacksTextAt arrow s k) → drop i s ≡ arrow ++ r → last_arrow s ≡ Some (take i s, r)
last_has s zero r h e = has_start s r h e
last_has [] (suc i) r h e = absurd (let k : [] ≡ arrow ++ r = e in cc)
last_has (b ∷ s) (suc i) r h e =
    ap (λ (o : Option Split). later_arrow b o (arrow_at (b ∷ s))) (last_has s i r (λ k l m. h (suc k) (omega arith) (omega arith)) e)

-- the clause of `rsplit_once` at ` -> `
pub at_arrow_is : (s : List ℕ) (r : Option (Bor (List ℕ) × Bor (List ℕ))) →
    MatchOption r (RFindsText arrow s None) (λ x. SplitsAroundMatch (RFindsText arrow) s x.0.now x.1.now) → split_of r ≡ last_arrow s
at_arrow_is s None h = sym (last_lacks s h)
at_arrow_is s (Some x) (i, j, f, front, back, a, b, c) =
    ap₂ (λ (x y : List ℕ). Some (x, y)) front back ∙ sym (last_has s i (drop j s) f.0 f.1.split)
