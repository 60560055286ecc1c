-- What a file of patterns reads as, and which paths its lines exclude (Hadoop DistCp, `-filters` and `RegexCopyFilter`).
use Rattle.std.specs.Prelude.{◌≡◌, ℕ, ◌+◌, ◌≤◌, ⊤, Bool, nat_lt, List, length, Result, Ok, Err, if◌then◌else◌}
use Rattle.std.specs.List.{prefix_len}
use Rattle.dc_path.specs.Lines.{lines_of}
use Rattle.dc_path.specs.Paths.{Names, text_of}
use Rattle.dc_filter.specs.declared.filter.FilterError.{FilterError}
use Rattle.dc_filter.specs.declared.filter.FilterError.TheVariants.{BadPattern, BigPattern, Memory}
use Rattle.dc_filter.specs.Forms.{is_good_line, any_finds}

-- the wrapped form of some line is found in the text of the path
abbrev pub is_excluded : List (List ℕ) → Names → Bool
is_excluded lines path = any_finds lines (text_of path)

-- how many lines stand before the first that is not good
abbrev pub good_lines : List (List ℕ) → ℕ
good_lines lines = prefix_len is_good_line lines

-- the lines, or the first of them, counted from 1, that is not good
abbrev pub unless_bad : List (List ℕ) → Result (List (List ℕ)) FilterError
unless_bad lines = if nat_lt (good_lines lines) (length lines) then Err (BadPattern (good_lines lines + 1)) else Ok lines

-- what a file of patterns reads as
abbrev pub filter_from : List ℕ → Result (List (List ℕ)) FilterError
filter_from text = unless_bad (lines_of text)

-- What was answered is what was expected. `BigPattern` and `Memory` are left to other clauses.
abbrev pub FilterAnswers : Result (List (List ℕ)) FilterError → Result (List (List ℕ)) FilterError → Type 0
FilterAnswers (Ok lines) expected = expected ≡ Ok lines
FilterAnswers (Err (BadPattern line)) expected = expected ≡ Err (BadPattern line)
FilterAnswers (Err (BigPattern line)) expected = ⊤
FilterAnswers (Err Memory) expected = ⊤

-- the line of this number, counted from 1, is there, and those before it are good
pub record IsReached (lines : List (List ℕ)) (number : ℕ) : Type 0 where
  pub first : 1 ≤ number
  pub there : number ≤ length lines
  pub before : number ≤ good_lines lines + 1
