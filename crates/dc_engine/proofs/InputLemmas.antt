-- What the files that options name hold.
use Rattle.std.proofs.Common.{◌≡◌, ℕ, ◌+◌, ◌<◌, ◌≤◌, Bool, true, false, nat_lt, if◌then◌else◌, List, [], ◌∷◌, ◌++◌, length, Ok, Err, refl, sym, ap, ◌∙◌, arith, append-nil, append_assoc, length-append}
use Rattle.std.proofs.lemmas.Grind.{common_steps}
use Rattle.std.proofs.lemmas.Bool.Decides.{nat_tests}
use Rattle.std.proofs.lemmas.List.Elements.{filter_map-append}
use Rattle.std.specs.List.{list_all, filter_map}
use Rattle.dc_path.specs.Lines.{lines_of}
use Rattle.dc_path.specs.Paths.{Names}
use Rattle.dc_path.proofs.LineLemmas.{no_lines}
use Rattle.dc_filter.specs.Filters.{filter_from, good_lines, unless_bad, FilterAnswers, IsReached}
use Rattle.dc_filter.specs.declared.filter.FilterError.{FilterError}
use Rattle.dc_filter.specs.declared.filter.FilterError.TheVariants as filter_error
use Rattle.dc_engine.specs.Inputs.{path_in, is_path_line, path_lines, paths_in, line_in}
use Rattle.dc_engine.specs.declared.inputs.InputError.TheVariants as input_error
use Rattle.dc_engine.proofs.LineCounts.{few_lines}

-- ---- the lines of a file of sources
good-append : (done lines : List (List ℕ)) → list_all is_path_line done ≡ true → path_lines (done ++ lines) ≡ length done + path_lines lines
good-append [] lines h = omega arith
good-append (line ∷ done) lines h = grind (arith, common_steps, good-append done lines)

good-all : (lines : List (List ℕ)) → list_all is_path_line lines ≡ true → path_lines lines ≡ length lines
good-all [] h = refl
good-all (line ∷ lines) h = grind (arith, common_steps, good-all lines)

bad-at : (done lines : List (List ℕ)) (line : List ℕ) → list_all is_path_line done ≡ true → is_path_line line ≡ false → paths_in (done ++ line ∷ lines) ≡ Err (input_error.BadList (length done + 1))
bad-at done lines line h e = grind (arith, common_steps, good-append done (line ∷ lines))

good-more : (done : List (List ℕ)) (line : List ℕ) → list_all is_path_line done ≡ true → is_path_line line ≡ true → list_all is_path_line (done ++ line ∷ []) ≡ true
good-more [] line h e = grind (arith, common_steps)
good-more (first ∷ done) line h e = grind (arith, common_steps, good-more done line)

few_given : (lines : List (List ℕ)) → length (filter_map path_in lines) ≤ length lines
few_given [] = omega arith
few_given (line ∷ lines) = grind (arith, common_steps, few_given lines)

-- what is read of a file, and what is left of it
pub record IsReading (text rest : List ℕ) (paths : List Names) (number : ℕ) : Type 0 where
  pub done : List (List ℕ)
  pub split : lines_of text ≡ done ++ lines_of rest
  pub good : list_all is_path_line done ≡ true
  pub are : paths ≡ filter_map path_in done
  pub counted : number ≡ length done
  pub room : number + length rest ≤ length text

pub reading_begins : (text : List ℕ) (paths : List Names) → paths ≡ [] → IsReading text text paths 0
reading_begins text paths h = record { done = []; split = refl; good = refl; are = h; counted = refl; room = omega arith }

module _ {text rest : List ℕ} {paths : List Names} {number : ℕ} (r : IsReading text rest paths number) where
  -- where nothing is left, all lines are done
  all_done : length rest ≡ 0 → lines_of text ≡ r.done
  all_done h = r.split ∙ ap (λ (xs : List (List ℕ)). r.done ++ xs) (no_lines rest h) ∙ append-nil r.done

  pub reading_good : length rest ≡ 0 → path_lines (lines_of text) ≡ length (lines_of text)
  reading_good h = ap path_lines (all_done h) ∙ good-all r.done r.good ∙ sym (ap length (all_done h))

  pub reading_paths : length rest ≡ 0 → paths ≡ filter_map path_in (lines_of text)
  reading_paths h = r.are ∙ sym (ap (filter_map path_in) (all_done h))

  module _ (line after : List ℕ) (first : lines_of rest ≡ line ∷ lines_of after) where
    pub reading_bad : is_path_line line ≡ false → paths_in (lines_of text) ≡ Err (input_error.BadList (number + 1))
    reading_bad bad =
        ap paths_in (r.split ∙ ap (λ (xs : List (List ℕ)). r.done ++ xs) first) ∙ bad-at r.done (lines_of after) line r.good bad
        ∙ sym (ap (λ (n : ℕ). Err (input_error.BadList (n + 1))) r.counted)

    pub reading_more : (new : List Names) → is_path_line line ≡ true → new ≡ paths ++ filter_map path_in (line ∷ []) → length after < length rest → IsReading text after new (number + 1)
    reading_more new good added less = record {
      done = r.done ++ line ∷ [];
      split = r.split ∙ ap (λ (xs : List (List ℕ)). r.done ++ xs) first ∙ sym (append_assoc r.done (line ∷ []) (lines_of after));
      good = good-more r.done line r.good good;
      are = added ∙ ap (λ (xs : List Names). xs ++ filter_map path_in (line ∷ [])) r.are ∙ sym (filter_map-append path_in r.done (line ∷ []));
      counted = let k = r.counted in omega (arith, length-append r.done (line ∷ []));
      room = let k = r.room in omega arith;
    }

-- the paths are no more than the bytes
pub few_paths : (text : List ℕ) (paths : List Names) → paths ≡ filter_map path_in (lines_of text) → length paths ≤ length text
few_paths text paths h = omega (arith, ap length h, few_given (lines_of text), few_lines text)

-- ---- the number of a line of a file of patterns
bad_line : (lines : List (List ℕ)) (n : ℕ) → unless_bad lines ≡ Err (filter_error.BadPattern n) → n ≤ length lines
bad_line lines n h = by (nat_lt (good_lines lines) (length lines)) refl h
  where
    by : (b : Bool) → nat_lt (good_lines lines) (length lines) ≡ b → (if b then Err (filter_error.BadPattern (good_lines lines + 1)) else Ok lines) ≡ Err (filter_error.BadPattern n) → n ≤ length lines
    by true e k = let same : n ≡ good_lines lines + 1 = cc in grind (arith, nat_tests)
    by false e k = absurd (cc)

pub line_counted : (text : List ℕ) (e : FilterError) → FilterAnswers (Err e) (filter_from text) → ((n : ℕ) → e ≡ filter_error.BigPattern n → IsReached (lines_of text) n) → line_in e ≤ length text
line_counted text (filter_error.BadPattern n) h reached = omega (arith, bad_line (lines_of text) n h, few_lines text)
line_counted text (filter_error.BigPattern n) h reached = let k = (reached n refl).there in omega (arith, few_lines text)
line_counted text filter_error.Memory h reached = omega arith
