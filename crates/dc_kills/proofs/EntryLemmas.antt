-- The entries of a line.
use Rattle.std.proofs.Common.{◌≡◌, ℕ, ◌<◌, Bool, true, false, nat_eq, codes, List, [], ◌∷◌, length, Option, None, Some, refl, ap, ◌∙◌, arith}
use Rattle.std.specs.Cmp.Lexicographic.{pointwise}
use Rattle.std.specs.Option.{is_some}
use Rattle.std.proofs.lemmas.List.Splits.{length-slice_split}
use Rattle.dc_path.specs.Numbers.{number_in}
use Rattle.dc_kills.specs.Parts.{is_blank, parts_of, parts_behind}
use Rattle.dc_kills.specs.Entries.{worker_from, entry_by, entry_of, entry_from}

-- ---- the last part
-- a part behind the word is one too many
two_words : (word : List ℕ) (parts : List (List ℕ)) → 0 < length parts → worker_from (word ∷ parts) ≡ None
two_words word [] h = absurd (omega arith)
two_words word (more ∷ parts) h = refl

pub no_worker_behind : (word : List ℕ) (others : Option (List ℕ)) → is_some others ≡ true → worker_from (word ∷ parts_behind others) ≡ None
no_worker_behind word None h = cc
no_worker_behind word (Some rest) h = two_words word (parts_of rest) (omega (arith, length-slice_split is_blank rest))

pub no_worker_alone : (word : List ℕ) (others : Option (List ℕ)) → is_some others ≡ false → pointwise nat_eq word (codes "worker") ≡ false → worker_from (word ∷ parts_behind others) ≡ None
no_worker_alone word None h e = rw e refl
no_worker_alone word (Some rest) h e = cc

-- ---- lines
pub line_of_one : (line piece : List ℕ) → parts_of line ≡ piece ∷ [] → entry_from line ≡ None
unfolding entry_from
line_of_one line piece e = ap entry_of e

pub line_of_two : (line piece rest attempt : List ℕ) → parts_of line ≡ piece ∷ parts_of rest → parts_of rest ≡ attempt ∷ [] → entry_from line ≡ None
unfolding entry_from
line_of_two line piece rest attempt e f = ap entry_of (e ∙ ap (λ parts. piece ∷ parts) f)

-- the entry of a line of three parts or more
pub line_of_more : (line piece rest attempt others step : List ℕ) (behind : Option (List ℕ)) →
    parts_of line ≡ piece ∷ parts_of rest → parts_of rest ≡ attempt ∷ parts_of others → parts_of others ≡ step ∷ parts_behind behind →
    entry_from line ≡ entry_by (number_in 0 8388607 piece) (number_in 1 4294967295 attempt) (number_in 0 18446744073709551615 step) (worker_from (parts_behind behind))
unfolding entry_from
line_of_more line piece rest attempt others step behind e f g =
    ap entry_of (e ∙ ap (λ parts. piece ∷ parts) (f ∙ ap (λ parts. attempt ∷ parts) g))

-- an entry lacks a part
pub no_attempt : (piece step : Option ℕ) (worker_too : Option Bool) → entry_by piece None step worker_too ≡ None
no_attempt None step worker_too = refl
no_attempt (Some piece) step worker_too = refl

pub no_step : (piece attempt : Option ℕ) (worker_too : Option Bool) → entry_by piece attempt None worker_too ≡ None
no_step None attempt worker_too = refl
no_step (Some piece) None worker_too = refl
no_step (Some piece) (Some attempt) worker_too = refl

pub no_worker : (piece attempt step : Option ℕ) → entry_by piece attempt step None ≡ None
no_worker None attempt step = refl
no_worker (Some piece) None step = refl
no_worker (Some piece) (Some attempt) None = refl
no_worker (Some piece) (Some attempt) (Some step) = refl

-- the parts of an entry are these
pub entry_is : {piece piece' attempt attempt' step step' : Option ℕ} {worker_too worker_too' : Option Bool} → piece ≡ piece' → attempt ≡ attempt' → step ≡ step' → worker_too ≡ worker_too' →
    entry_by piece attempt step worker_too ≡ entry_by piece' attempt' step' worker_too'
entry_is p a s w = rw (p, a, s, w) refl
