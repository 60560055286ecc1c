-- What the lines that are left tell.
use Rattle.std.proofs.Common.{◌≡◌, ℕ, ◌+◌, Bool, true, false, cond, List, [], ◌∷◌, length, Result, Ok, Err, ap, ◌∙◌}
use Rattle.dc_path.specs.Lines.{lines_of}
use Rattle.dc_path.proofs.LineLemmas.{no_lines}
use Rattle.dc_report.specs.declared.entries.Entry.{Entry}
use Rattle.dc_report.specs.declared.report.ReportError.{ReportError}
use Rattle.dc_report.specs.declared.report.ReportError.TheVariants.{BadHead}
use Rattle.dc_report.specs.Lines.{unended}
use Rattle.dc_report.specs.Grammar.{entry_from, is_heading}
use Rattle.dc_report.specs.Reports.{with_spelt, go_on, entries_from, headed, report_from}

module _ (line : ℕ) (entries : List Entry) (text first : List ℕ) (others : List (List ℕ)) (split : lines_of text ≡ first ∷ others) where
  -- a line without a fault
  pub reads_more : (new : List Entry) → with_spelt line entries (entry_from first) ≡ Ok new → entries_from line entries (lines_of text) ≡ entries_from (line + 1) new others
  reads_more new e = ap (entries_from line entries) split ∙ ap (λ (r : Result (List Entry) ReportError). go_on r (λ es. entries_from (line + 1) es others)) e

  -- a line with a fault
  pub reads_fault : (fault : ReportError) → with_spelt line entries (entry_from first) ≡ Err fault → entries_from line entries (lines_of text) ≡ Err fault
  reads_fault fault e = ap (entries_from line entries) split ∙ ap (λ (r : Result (List Entry) ReportError). go_on r (λ es. entries_from (line + 1) es others)) e

-- no line more
pub reads_end : (line : ℕ) (entries : List Entry) (text : List ℕ) → length text ≡ 0 → entries_from line entries (lines_of text) ≡ Ok entries
reads_end line entries text h = ap (entries_from line entries) (no_lines text h)

pub headed_none : (text : List ℕ) → length (unended text) ≡ 0 → report_from text ≡ Err BadHead
headed_none text h = ap headed (no_lines (unended text) h)

module _ (text heading : List ℕ) (others : List (List ℕ)) (split : lines_of (unended text) ≡ heading ∷ others) where
  pub headed_no : is_heading heading ≡ false → report_from text ≡ Err BadHead
  headed_no h = ap headed split ∙ ap (λ (b : Bool). cond b (entries_from 2 [] others) (Err BadHead)) h

  pub headed_yes : is_heading heading ≡ true → report_from text ≡ entries_from 2 [] others
  headed_yes h = ap headed split ∙ ap (λ (b : Bool). cond b (entries_from 2 [] others) (Err BadHead)) h
