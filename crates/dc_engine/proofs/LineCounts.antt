-- A text has at most as many lines as bytes.
use Rattle.std.proofs.Common.{ℕ, ◌+◌, ◌<◌, ◌≤◌, Bool, true, false, List, [], ◌∷◌, length, arith, cond}
use Rattle.std.proofs.lemmas.Bool.Decides.{nat_tests}
use Rattle.std.proofs.lemmas.List.Splits.{length-slice_split}
use Rattle.std.specs.List.{slice_split, onto_first}
use Rattle.dc_path.specs.Lines.{ended, lines_of}
use Rattle.dc_path.proofs.LineLemmas.{is_feed}

one_at_most : (part : List ℕ) → length (ended (part ∷ [])) ≤ 1
one_at_most [] = omega arith
one_at_most (byte ∷ part) = grind (arith, nat_tests)

-- one byte more is in the first part, or ends a part of its own
few_more : (byte n : ℕ) (feed : Bool) (parts : List (List ℕ)) → length (ended parts) ≤ n → 0 < length parts → length (ended (cond feed ([] ∷ parts) (onto_first byte parts))) ≤ n + 1
few_more byte n true [] h some = absurd (omega arith)
few_more byte n false [] h some = absurd (omega arith)
few_more byte n true (part ∷ parts) h some = omega (arith, h)
few_more byte n false (part ∷ []) h some = omega (arith, one_at_most (byte ∷ part))
few_more byte n false (part ∷ next ∷ parts) h some = omega (arith, h)

few_parts : (text : List ℕ) → length (ended (slice_split is_feed text)) ≤ length text
few_parts [] = omega arith
few_parts (byte ∷ text) = let k = few_more byte (length text) (is_feed byte) (slice_split is_feed text) (few_parts text) (omega (arith, length-slice_split is_feed text)) in omega (arith, k)

pub few_lines : (text : List ℕ) → length (lines_of text) ≤ length text
unfolding lines_of
few_lines text = few_parts text
