-- The lines of a file, read one after another.
use Rattle.std.proofs.Common.{◌≡◌, ℕ, ◌+◌, ◌≤◌, true, false, List, [], ◌∷◌, ◌++◌, length, map, refl, sym, ap, ◌∙◌, arith, length-append, append-nil, Ok, Err}
use Rattle.std.proofs.lemmas.Grind.{common_steps}
use Rattle.std.proofs.lemmas.List.{length-map}
use Rattle.std.specs.List.{list_all, list_any}
use Rattle.dc_path.specs.Lines.{lines_of}
use Rattle.dc_path.proofs.LineLemmas.{no_lines}
use Rattle.dc_filter.specs.declared.filter.FilterError.TheVariants.{BadPattern}
use Rattle.dc_filter.specs.Forms.{finds, wrapped, unwrapped, lines_in, AreForms, is_good_line, any_finds}
use Rattle.dc_filter.specs.Filters.{filter_from, unless_bad, good_lines, IsReached}

-- ---- lines and their wrapped forms
-- asking the wrapped forms of lines
any-map : (lines : List (List ℕ)) (text : List ℕ) → list_any (λ form. finds form text) (map wrapped lines) ≡ any_finds lines text
any-map [] text = refl
any-map (line ∷ lines) text = grind (arith, common_steps, any-map lines text)

-- a form is found exactly where a line's wrapped form is
pub any_finds-of_forms : (forms : List (List ℕ)) → AreForms forms → (text : List ℕ) → list_any (λ form. finds form text) forms ≡ any_finds (lines_in forms) text
any_finds-of_forms forms h text = ap (list_any (λ form. finds form text)) h ∙ any-map (lines_in forms) text

-- ---- the first line that is not good
-- good lines in front are counted
good_lines-append : (done lines : List (List ℕ)) → list_all is_good_line done ≡ true → good_lines (done ++ lines) ≡ length done + good_lines lines
good_lines-append [] lines h = omega arith
good_lines-append (line ∷ done) lines h = grind (arith, common_steps, good_lines-append done lines)

-- where all are good, all are counted, and the lines are the answer
good_lines-all : (lines : List (List ℕ)) → list_all is_good_line lines ≡ true → good_lines lines ≡ length lines
good_lines-all [] h = refl
good_lines-all (line ∷ lines) h = grind (arith, common_steps, good_lines-all lines)

unless_bad-all : (lines : List (List ℕ)) → list_all is_good_line lines ≡ true → unless_bad lines ≡ Ok lines
unless_bad-all lines h = grind (arith, common_steps, good_lines-all lines)

-- the first that is not good is the answer
unless_bad-at : (done lines : List (List ℕ)) (line : List ℕ) → list_all is_good_line done ≡ true → is_good_line line ≡ false → unless_bad (done ++ line ∷ lines) ≡ Err (BadPattern (length done + 1))
unless_bad-at done lines line h e = grind (arith, common_steps, good_lines-append done (line ∷ lines))

-- what is read of a file, and what is left of it
pub record IsReading (text rest : List ℕ) (forms : List (List ℕ)) (number : ℕ) : Type 0 where
  pub split : lines_of text ≡ lines_in forms ++ lines_of rest
  pub good : list_all is_good_line (lines_in forms) ≡ true
  pub are_forms : AreForms forms
  pub counted : number ≡ length forms
  pub room : number + length rest ≤ length text

module _ {text rest : List ℕ} {forms : List (List ℕ)} {number : ℕ} (r : IsReading text rest forms number) where
  -- the lines are as many as the forms
  reading_count : length (lines_in forms) ≡ number
  reading_count = length-map forms unwrapped ∙ sym r.counted

  -- where nothing is left, the lines are the answer
  pub reading_end : length rest ≡ 0 → filter_from text ≡ Ok (lines_in forms)
  reading_end h =
      ap unless_bad (r.split ∙ ap (λ (xs : List (List ℕ)). lines_in forms ++ xs) (no_lines rest h) ∙ append-nil (lines_in forms))
      ∙ unless_bad-all (lines_in forms) r.good

  module _ (line after : List ℕ) (first : lines_of rest ≡ line ∷ lines_of after) where
    -- the line is the next one of the file
    next_line : lines_of text ≡ lines_in forms ++ line ∷ lines_of after
    next_line = r.split ∙ ap (λ (xs : List (List ℕ)). lines_in forms ++ xs) first

    -- where the next line is not good, it is the answer
    pub reading_bad : is_good_line line ≡ false → filter_from text ≡ Err (BadPattern (number + 1))
    reading_bad bad =
        ap unless_bad next_line ∙ unless_bad-at (lines_in forms) (lines_of after) line r.good bad
        ∙ ap (λ (n : ℕ). Err (BadPattern (n + 1))) reading_count

    -- the lines before the next one are good
    pub reading_at : IsReached (lines_of text) (number + 1)
    reading_at = record {
      first = omega arith;
      there = omega (arith, reading_count, ap length next_line, length-append (lines_in forms) (line ∷ lines_of after));
      before = omega (arith, reading_count, ap good_lines next_line, good_lines-append (lines_in forms) (line ∷ lines_of after) r.good);
    }
