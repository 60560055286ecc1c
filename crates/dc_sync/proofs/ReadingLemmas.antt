-- The line for which a text is refused that is no report: there are no more lines than bytes.
use Rattle.std.proofs.Common.{◌≡◌, ◌≢◌, ◌⊎◌, inl, inr, ⊎_elim, ℕ, ◌+◌, ◌^◌, ◌<◌, ◌≤◌, Bool, true, false, List, [], ◌∷◌, ◌++◌, length, Option, Some, None, Ok, Err, Result, refl, sym, ap, arith, if◌then◌else◌}
use Rattle.std.proofs.lemmas.Bool.Decides.{nat_tests}
use Rattle.std.proofs.lemmas.List.Splits.{length-slice_split}
use Rattle.std.proofs.lemmas.List.Sums.{count_by-le-length}
use Rattle.std.specs.List.{list_any, slice_split}
use Rattle.dc_path.specs.Lines.{ended, lines_of}
use Rattle.dc_path.proofs.LineLemmas.{is_feed}
use Rattle.dc_file.specs.Files.{max_bytes}
use Rattle.dc_report.specs.Grammar.{entry_from, is_heading}
use Rattle.dc_report.specs.Lines.{onto_unended, unended}
use Rattle.dc_report.specs.Reports.{double_of, entries_from, creates, gives, go_on, headed, modifies, report_from, takes, unless_double, with_spelt}
use Rattle.dc_report.specs.declared.entries.Entry.{Entry}
use Rattle.dc_report.specs.declared.entries.Entry.TheVariants.{Created, Deleted, Modified, Renamed}
use Rattle.dc_report.specs.declared.report.ReportError.{ReportError}
use Rattle.dc_report.specs.declared.report.ReportError.TheVariants as report_error
use Rattle.dc_sync.specs.Reading.{line_in}

-- ---- the line of a fault
err_same : (r : Result (List Entry) ReportError) (d e : ReportError) → r ≡ Err d → r ≡ Err e → d ≡ e
err_same r d e h k = cc

double_line : (b : Bool) (line : ℕ) (e : ReportError) → (if b then Some (report_error.DoubleLine line) else None) ≡ Some e → line_in e ≡ line
double_line true line e h = let k : report_error.DoubleLine line ≡ e = cc in sym (ap line_in k)
double_line false line e h = absurd (cc)

double_source : (b : Bool) (line : ℕ) (e : ReportError) → (if b then Some (report_error.DoubleSource line) else None) ≡ Some e → line_in e ≡ line
double_source true line e h = let k : report_error.DoubleSource line ≡ e = cc in sym (ap line_in k)
double_source false line e h = absurd (cc)

double_rename : (a b : Bool) (line : ℕ) (e : ReportError) → (if a then Some (report_error.DoubleSource line) else if b then Some (report_error.DoubleTarget line) else None) ≡ Some e → line_in e ≡ line
double_rename true b line e h = let k : report_error.DoubleSource line ≡ e = cc in sym (ap line_in k)
double_rename false true line e h = let k : report_error.DoubleTarget line ≡ e = cc in sym (ap line_in k)
double_rename false false line e h = absurd (cc)

double_at : (line : ℕ) (before : List Entry) (entry : Entry) (e : ReportError) → double_of line before entry ≡ Some e → line_in e ≡ line
double_at line before (Created p) e h = double_line (list_any (creates p) before) line e h
double_at line before (Modified p) e h = double_line (list_any (modifies p) before) line e h
double_at line before (Deleted p) e h = double_source (list_any (takes p) before) line e h
double_at line before (Renamed a b) e h = double_rename (list_any (takes a) before) (list_any (gives b) before) line e h

unless_at : (o : Option ReportError) (entries : List Entry) (e : ReportError) → unless_double o entries ≡ Err e → o ≡ Some e
unless_at None entries e h = absurd (cc)
unless_at (Some d) entries e h = ap Some (err_same (Err d) d e refl h)

spelt_at : (line : ℕ) (before : List Entry) (o : Option Entry) (e : ReportError) → with_spelt line before o ≡ Err e → line_in e ≡ line
spelt_at line before None e h = let k : report_error.BadLine line ≡ e = cc in sym (ap line_in k)
spelt_at line before (Some entry) e h = double_at line before entry e (unless_at (double_of line before entry) (before ++ entry ∷ []) e h)

lines_at : (line : ℕ) (before : List Entry) (lines : List (List ℕ)) (e : ReportError) → entries_from line before lines ≡ Err e → line_in e < line + length lines
lines_at line before [] e h = absurd (cc)
lines_at line before (text ∷ lines) e h = by (with_spelt line before (entry_from text)) refl h (λ entries k. lines_at (line + 1) entries lines e k)
  where
    by : (r : Result (List Entry) ReportError) → with_spelt line before (entry_from text) ≡ r → go_on r (λ entries. entries_from (line + 1) entries lines) ≡ Err e
        → ((entries : List Entry) → entries_from (line + 1) entries lines ≡ Err e → line_in e < line + 1 + length lines) → line_in e < line + length (text ∷ lines)
    by (Ok entries) s k ih = let l = ih entries k in omega arith
    by (Err d) s k ih = let l = spelt_at line before (entry_from text) d s in let m = ap line_in (err_same (Err d) d e refl k) in omega arith

headed_at : (lines : List (List ℕ)) (e : ReportError) → headed lines ≡ Err e → line_in e ≤ length lines + 1
headed_at [] e h = let k : report_error.BadHead ≡ e = cc in let m = ap line_in k in omega arith
headed_at (heading ∷ lines) e h = by (is_heading heading) h
  where
    by : (b : Bool) → (if b then entries_from 2 [] lines else Err report_error.BadHead) ≡ Err e → line_in e ≤ length (heading ∷ lines) + 1
    by true k = let l = lines_at 2 [] lines e k in omega arith
    by false k = let m : report_error.BadHead ≡ e = cc in let n = ap line_in m in omega arith

-- ---- no more lines than bytes, and one
ended_few : (parts : List (List ℕ)) → length (ended parts) ≤ length parts
ended_few [] = omega arith
ended_few (part ∷ []) = grind (arith, nat_tests)
ended_few (part ∷ next ∷ parts) = let k = ended_few (next ∷ parts) in omega arith

line_room : (text : List ℕ) → length (lines_of text) ≤ length text + 1
unfolding lines_of
line_room text = omega (arith, ended_few (slice_split is_feed text), length-slice_split is_feed text, count_by-le-length is_feed text)

onto_few : (b : ℕ) (text : List ℕ) → length (onto_unended b text) ≤ 1 + length text
onto_few b [] = grind (arith, nat_tests)
onto_few b (c ∷ text) = omega arith

unended_few : (text : List ℕ) → length (unended text) ≤ length text
unended_few [] = omega arith
unended_few (b ∷ text) = omega (arith, onto_few b (unended text), unended_few text)

refused_line : (text : List ℕ) (e : ReportError) → report_from text ≡ Err e → line_in e ≤ length text + 2
refused_line text e h = omega (arith, headed_at (lines_of (unended text)) e h, line_room (unended text), unended_few text)

-- want of memory is of no line
memory_or : (e : ReportError) → (e ≡ report_error.Memory) ⊎ (e ≢ report_error.Memory)
memory_or report_error.BadHead = inr (λ k. cc)
memory_or (report_error.BadLine line) = inr (λ k. cc)
memory_or (report_error.DoubleLine line) = inr (λ k. cc)
memory_or (report_error.DoubleSource line) = inr (λ k. cc)
memory_or (report_error.DoubleTarget line) = inr (λ k. cc)
memory_or report_error.Memory = inl refl

pub counted_line : (text : List ℕ) (e : ReportError) → length text ≤ max_bytes → (e ≢ report_error.Memory → report_from text ≡ Err e) → line_in e < 2 ^ 32
counted_line text e n h = ⊎_elim (λ k. let m = ap line_in k in omega arith) (λ k. omega (arith, refused_line text e (h k))) (memory_or e)
