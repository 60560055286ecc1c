-- The first line of a text, and the first part of a list, by what a search says of the place where it ends.
use Rattle.std.proofs.Common.{◌≡◌, ℕ, suc, ◌+◌, ◌<◌, ◌≤◌, ◌==◌, Bool, true, false, cond, not, List, [], ◌∷◌, ◌++◌, length, take, drop, None, Some, position, refl, ap, ◌∙◌, arith}
use Rattle.std.proofs.lemmas.Bool.Decides.{nat_tests}
use Rattle.std.proofs.lemmas.List.Elements.{All-nil, All-cons}
use Rattle.std.proofs.lemmas.List.Splits.{slice_split_none, slice_split_first, slice_split_at, length-slice_split}
use Rattle.std.specs.List.{position_or_len, slice_split, All}
use Rattle.dc_path.specs.Lines.{ended, lines_of}

-- ---- parts
module _ (p : ℕ → Bool) where
  found_at : (xs : List ℕ) (at : ℕ) → position p xs ≡ Some at → (position_or_len p xs < length xs) × (at ≡ position_or_len p xs)
  found_at xs at e = (grind (arith, nat_tests), grind (arith, nat_tests))

  not_found : (xs : List ℕ) → position p xs ≡ None → length xs ≤ position_or_len p xs
  not_found xs e = grind (arith, nat_tests)

  no_hit : (e : Bool) (n m : ℕ) → suc n ≤ cond (not e) m 0 → e ≡ false
  no_hit false n m h = refl
  no_hit true n m h = absurd (omega arith)

  behind : (e : Bool) (n m : ℕ) → suc n ≤ cond (not e) (1 + m) 0 → n ≤ m
  behind false n m h = omega arith
  behind true n m h = absurd (omega arith)

  -- where the search comes to the end, no element passes
  pub none_passes : (xs : List ℕ) → length xs ≤ position_or_len p xs → All (λ x. p x ≡ false) xs
  none_passes [] h = All-nil (λ x. p x ≡ false)
  none_passes (x ∷ xs) h = All-cons (λ x. p x ≡ false) x xs (no_hit (p x) _ _ h) (none_passes xs (behind (p x) _ _ h))

  -- where no element passes, the list is the one part
  pub part_whole : (xs : List ℕ) → position p xs ≡ None → slice_split p xs ≡ xs ∷ []
  part_whole xs e = slice_split_none p xs (none_passes xs (not_found xs e))

  -- the first part ends at the first element that passes
  pub part_upto : (xs : List ℕ) (at : ℕ) → position p xs ≡ Some at → slice_split p xs ≡ take at xs ∷ slice_split p (drop (at + 1) xs)
  part_upto xs at e = let found = found_at xs at e in rw found.1 (slice_split_first p xs 0 found.0)

-- ---- lines
abbrev pub is_feed : ℕ → Bool
is_feed byte = byte == 10

-- a part in front of others is a line, and it is one by itself where it has bytes
ended-more : (part : List ℕ) (parts : List (List ℕ)) → 0 < length parts → ended (part ∷ parts) ≡ part ∷ ended parts
ended-more part [] h = absurd (omega arith)
ended-more part (next ∷ parts) h = refl

ended-one : (part : List ℕ) → 0 < length part → ended (part ∷ []) ≡ part ∷ []
ended-one [] h = absurd (omega arith)
ended-one (byte ∷ part) h = grind (arith, nat_tests)

ended-split : (part text : List ℕ) → ended (part ∷ slice_split is_feed text) ≡ part ∷ ended (slice_split is_feed text)
ended-split part text = ended-more part (slice_split is_feed text) (omega (arith, length-slice_split is_feed text))

-- the first line goes up to the first line feed, and the others begin after it
pub line_upto : (text : List ℕ) (at : ℕ) → position is_feed text ≡ Some at → lines_of text ≡ take at text ∷ lines_of (drop (at + 1) text)
unfolding lines_of
line_upto text at e = ap ended (part_upto is_feed text at e) ∙ ended-split (take at text) (drop (at + 1) text)

-- without a line feed the text is its one line
pub line_whole : (text : List ℕ) → 0 < length text → position is_feed text ≡ None → lines_of text ≡ text ∷ []
unfolding lines_of
line_whole text h e = ap ended (part_whole is_feed text e) ∙ ended-one text h

-- an empty text has no lines
pub no_lines : (text : List ℕ) → length text ≡ 0 → lines_of text ≡ []
unfolding lines_of
no_lines [] h = refl
no_lines (byte ∷ text) h = absurd (omega arith)

-- the first line of a text that is put together: with a line feed behind it, or alone
pub line_first : (line text : List ℕ) → All (λ byte. is_feed byte ≡ false) line → lines_of (line ++ 10 ∷ text) ≡ line ∷ lines_of text
unfolding lines_of
line_first line text h = ap ended (slice_split_at is_feed line 10 text h refl) ∙ ended-split line text

pub line_alone : (line : List ℕ) → 0 < length line → All (λ byte. is_feed byte ≡ false) line → lines_of line ≡ line ∷ []
unfolding lines_of
line_alone line n h = ap ended (slice_split_none is_feed line h) ∙ ended-one line n
