-- What is written has the lines of its entries, and is read as them.
use Rattle.std.proofs.Common.{◌≡◌, ℕ, ◌<◌, nat_eq, codes, Bool, true, false, cond, ◌&&◌, ◌||◌, List, [], ◌∷◌, ◌++◌, length, map, Option, Some, None, Result, Ok, Err, IfOk, refl, sym, ap, ap₂, ◌∙◌, arith, append_assoc, append-nil}
use Rattle.std.specs.List.{list_any, flat_map, find, starts_with, ends_with, All}
use Rattle.std.specs.Str.{is_utf8}
use Rattle.std.proofs.lemmas.List.Folds.{list_any-append}
use Rattle.std.proofs.lemmas.List.Elements.{All-nil, All-cons}
use Rattle.dc_path.specs.Lines.{lines_of}
use Rattle.dc_path.specs.Paths.{Names, joined, dotted_of}
use Rattle.dc_path.specs.Unless.{GivesUnless}
use Rattle.dc_report.specs.declared.entries.Entry.{Entry}
use Rattle.dc_report.specs.declared.entries.Entry.TheVariants.{Deleted, Renamed, Created, Modified}
use Rattle.dc_report.specs.declared.report.ReportError.TheVariants.{BadHead}
use Rattle.dc_report.specs.declared.writing.WriteReportError.{WriteReportError}
use Rattle.dc_report.specs.declared.writing.WriteReportError.TheVariants.{Memory, BadHead as WriteBadHead}
use Rattle.dc_report.specs.Lines.{onto_unended, unended}
use Rattle.dc_report.specs.Grammar.{is_heading}
use Rattle.dc_report.specs.Reports.{entries_from, headed, report_from}
use Rattle.dc_report.specs.Told.{AreTold}
use Rattle.dc_report.specs.Writing.{is_break, is_ambiguous, has_ambiguous, line_of, lines_with_feeds, paths_of, first_ambiguous, unless_ambiguous, is_heading_line, written}
use Rattle.dc_path.proofs.LineLemmas.{is_feed, line_first, line_alone}
use Rattle.dc_report.proofs.LineLemmas.{unended-feed}
use Rattle.dc_report.proofs.ReadBack.{lines_are_read}
use Rattle.std.proofs.lemmas.Bool.{or_parts}
use Rattle.dc_report.proofs.Lists.{both_so}

-- ---- no line feed
no_break : (xs : List ℕ) → list_any is_break xs ≡ false → list_any is_feed xs ≡ false
no_break [] h = refl
no_break (x ∷ xs) h = let ih = no_break xs in grind (arith, ih)

name_clear : (x : List ℕ) → is_ambiguous x ≡ false → list_any is_feed x ≡ false
unfolding is_ambiguous
name_clear x h = no_break x (or_parts (list_any is_break x) _ h).0

both_clear : (xs ys : List ℕ) → list_any is_feed xs ≡ false → list_any is_feed ys ≡ false → list_any is_feed (xs ++ ys) ≡ false
both_clear xs ys h k = list_any-append is_feed xs ys ∙ ap₂ (λ (a b : Bool). a || b) h k

joined_clear : (names : Names) → list_any is_ambiguous names ≡ false → list_any is_feed (joined names) ≡ false
joined_clear [] h = refl
joined_clear (x ∷ names) h =
    let parts = or_parts (is_ambiguous x) (list_any is_ambiguous names) h in
    both_clear (47 ∷ x) (joined names) (name_clear x parts.0) (joined_clear names parts.1)

found_none : (p : Names) (b : Bool) (o : Option Names) → cond b (Some p) o ≡ None → (b ≡ false) × (o ≡ None)
found_none p true o h = absurd (cc)
found_none p false o h = (refl, h)

line_clear : (e : Entry) → find has_ambiguous (paths_of e) ≡ None → list_any is_feed (line_of e) ≡ false
line_clear (Created p) h = joined_clear p (found_none p (has_ambiguous p) None h).0
line_clear (Deleted p) h = joined_clear p (found_none p (has_ambiguous p) None h).0
line_clear (Modified p) h = joined_clear p (found_none p (has_ambiguous p) None h).0
line_clear (Renamed a b) h =
    let one = found_none a (has_ambiguous a) (find has_ambiguous (b ∷ [])) h in
    let two = found_none b (has_ambiguous b) None one.1 in
    both_clear (dotted_of a) (32 ∷ 45 ∷ 62 ∷ 32 ∷ dotted_of b) (joined_clear a one.0) (joined_clear b two.0)

none_at : (x : Names) (b : Bool) (o l r : Option Names) → (o ≡ None → (l ≡ None) × (r ≡ None)) → cond b (Some x) o ≡ None → (cond b (Some x) l ≡ None) × (r ≡ None)
none_at x true o l r k h = absurd (cc)
none_at x false o l r k h = k h

find_parts : (xs ys : List Names) → find has_ambiguous (xs ++ ys) ≡ None → (find has_ambiguous xs ≡ None) × (find has_ambiguous ys ≡ None)
find_parts [] ys h = (refl, h)
find_parts (x ∷ xs) ys h = none_at x (has_ambiguous x) (find has_ambiguous (xs ++ ys)) (find has_ambiguous xs) (find has_ambiguous ys) (find_parts xs ys) h

-- ---- a text that ends with a line
onto_filled : (b : ℕ) (front : List ℕ) (c : ℕ) (line : List ℕ) → onto_unended b (front ++ c ∷ line) ≡ b ∷ (front ++ c ∷ line)
onto_filled b [] c line = refl
onto_filled b (x ∷ front) c line = refl

ends_clear : (b : ℕ) (line : List ℕ) → list_any is_feed (b ∷ line) ≡ false → unended (b ∷ line) ≡ b ∷ line
ends_clear b [] h = ap (λ (e : Bool). cond e [] (b ∷ [])) (or_parts (is_feed b) false h).0
ends_clear b (c ∷ line) h = ap (onto_unended b) (ends_clear c line (or_parts (is_feed b) (list_any is_feed (c ∷ line)) h).1)

ends_behind : (front : List ℕ) (b : ℕ) (line : List ℕ) → unended (b ∷ line) ≡ b ∷ line → unended (front ++ b ∷ line) ≡ front ++ b ∷ line
ends_behind [] b line h = h
ends_behind (x ∷ front) b line h = ap (onto_unended x) (ends_behind front b line h) ∙ onto_filled x front b line

-- the lines of entries, each behind a line feed
abbrev behind_feeds : List Entry → List ℕ
behind_feeds entries = flat_map (λ e. 10 ∷ line_of e) entries

feeds_move : (front : List ℕ) (entries : List Entry) → front ++ 10 ∷ lines_with_feeds entries ≡ (front ++ behind_feeds entries) ++ 10 ∷ []
feeds_move front [] = ap (λ (t : List ℕ). t ++ 10 ∷ []) (sym (append-nil front))
feeds_move front (e ∷ entries) =
    ap (λ (t : List ℕ). front ++ 10 ∷ t) (append_assoc (line_of e) (10 ∷ []) (lines_with_feeds entries))
    ∙ sym (append_assoc front (10 ∷ line_of e) (10 ∷ lines_with_feeds entries))
    ∙ feeds_move (front ++ 10 ∷ line_of e) entries
    ∙ ap (λ (t : List ℕ). t ++ 10 ∷ []) (append_assoc front (10 ∷ line_of e) (behind_feeds entries))

cons_of : (e : Entry) → (b : ℕ) × (rest : List ℕ) × (line_of e ≡ b ∷ rest)
cons_of (Created p) = (43, 9 ∷ dotted_of p, refl)
cons_of (Deleted p) = (45, 9 ∷ dotted_of p, refl)
cons_of (Modified p) = (77, 9 ∷ dotted_of p, refl)
cons_of (Renamed a b) = (82, 9 ∷ (dotted_of a ++ (32 ∷ 45 ∷ 62 ∷ 32 ∷ dotted_of b)), refl)

line_ends : (front : List ℕ) (e : Entry) → list_any is_feed (line_of e) ≡ false → unended (front ++ 10 ∷ line_of e) ≡ front ++ 10 ∷ line_of e
line_ends front e h = go (cons_of e)
  where
    go : (b : ℕ) × (rest : List ℕ) × (line_of e ≡ b ∷ rest) → unended (front ++ 10 ∷ line_of e) ≡ front ++ 10 ∷ line_of e
    go (b, rest, k) =
        let m : unended (b ∷ rest) ≡ b ∷ rest = ends_clear b rest (sym (ap (list_any is_feed) k) ∙ h) in
        let n : unended (10 ∷ line_of e) ≡ 10 ∷ line_of e = ap (λ (t : List ℕ). unended (10 ∷ t)) k ∙ ap (onto_unended 10) m ∙ ap (λ (t : List ℕ). 10 ∷ t) (sym k) in
        ends_behind front 10 (line_of e) n

all_end : (front : List ℕ) (entries : List Entry) → unended front ≡ front → first_ambiguous entries ≡ None → unended (front ++ behind_feeds entries) ≡ front ++ behind_feeds entries
all_end front [] u n = rw append-nil u
all_end front (e ∷ entries) u n =
    let parts = find_parts (paths_of e) (flat_map paths_of entries) n in
    let ih = all_end (front ++ 10 ∷ line_of e) entries (line_ends front e (line_clear e parts.0)) parts.1 in
    ap unended (sym (append_assoc front (10 ∷ line_of e) (behind_feeds entries))) ∙ ih ∙ append_assoc front (10 ∷ line_of e) (behind_feeds entries)

clear_All : (xs : List ℕ) → list_any is_feed xs ≡ false → All (λ b. is_feed b ≡ false) xs
clear_All [] h = All-nil (λ b. is_feed b ≡ false)
clear_All (x ∷ xs) h = let parts = or_parts (is_feed x) (list_any is_feed xs) h in All-cons (λ b. is_feed b ≡ false) x xs parts.0 (clear_All xs parts.1)

line_filled : (e : Entry) → 0 < length (line_of e)
line_filled (Created p) = omega arith
line_filled (Deleted p) = omega arith
line_filled (Modified p) = omega arith
line_filled (Renamed a b) = omega arith

all_lines : (first : List ℕ) (entries : List Entry) → 0 < length first → list_any is_feed first ≡ false → first_ambiguous entries ≡ None → lines_of (first ++ behind_feeds entries) ≡ first ∷ map line_of entries
all_lines first [] f h n = ap lines_of (append-nil first) ∙ line_alone first f (clear_All first h)
all_lines first (e ∷ entries) f h n =
    let parts = find_parts (paths_of e) (flat_map paths_of entries) n in
    line_first first (line_of e ++ behind_feeds entries) (clear_All first h)
    ∙ ap (λ (ls : List (List ℕ)). first ∷ ls) (all_lines (line_of e) entries (line_filled e) (line_clear e parts.0) parts.1)

written_lines : (heading : List ℕ) (entries : List Entry) → 0 < length heading → list_any is_feed heading ≡ false → first_ambiguous entries ≡ None
    → lines_of (unended (heading ++ 10 ∷ lines_with_feeds entries)) ≡ heading ∷ map line_of entries
written_lines heading entries f k n =
    ap (λ (t : List ℕ). lines_of (unended t)) (feeds_move heading entries)
    ∙ ap lines_of (unended-feed (heading ++ behind_feeds entries) ∙ all_end heading entries (heading_only heading k) n)
    ∙ all_lines heading entries f k n
  where
    heading_only : (h : List ℕ) → list_any is_feed h ≡ false → unended h ≡ h
    heading_only [] c = refl
    heading_only (b ∷ h) c = ends_clear b h c

-- a heading has bytes
filled_at : (u : Bool) → (u && starts_with nat_eq [] (codes "Difference between ") && ends_with nat_eq [] (codes ":")) ≡ true → 0 < 0
filled_at true h = absurd (cc)
filled_at false h = absurd (cc)

heading_filled : (heading : List ℕ) → is_heading heading ≡ true → 0 < length heading
unfolding is_heading
heading_filled [] h = filled_at (is_utf8 []) h
heading_filled (b ∷ heading) h = omega arith

-- ---- what is written is read
module _ (heading : List ℕ) (entries : List Entry) (t : AreTold [] entries) (text : List ℕ) where
  reads : is_heading heading ≡ true → list_any is_feed heading ≡ false → first_ambiguous entries ≡ None → report_from (heading ++ 10 ∷ lines_with_feeds entries) ≡ Ok entries
  reads h k n =
      ap headed (written_lines heading entries (heading_filled heading h) k n)
      ∙ ap (λ (b : Bool). cond b (entries_from 2 [] (map line_of entries)) (Err BadHead)) h
      ∙ lines_are_read 2 [] entries t

  by_first : (o : Option Names) → first_ambiguous entries ≡ o → is_heading heading ≡ true → list_any is_feed heading ≡ false
      → unless_ambiguous o (heading ++ 10 ∷ lines_with_feeds entries) ≡ Ok text → report_from text ≡ Ok entries
  by_first None n h k e = let f : heading ++ 10 ∷ lines_with_feeds entries ≡ text = cc in ap report_from (sym f) ∙ reads h k n
  by_first (Some p) n h k e = absurd (cc)

  by_heading : (b : Bool) → is_heading_line heading ≡ b → cond b (unless_ambiguous (first_ambiguous entries) (heading ++ 10 ∷ lines_with_feeds entries)) (Err WriteBadHead) ≡ Ok text → report_from text ≡ Ok entries
  by_heading true g e = let parts = both_so (is_heading heading) (list_any is_feed heading) g in by_first (first_ambiguous entries) refl parts.0 parts.1 e
  by_heading false g e = absurd (cc)

  pub written_is_read : written heading entries ≡ Ok text → report_from text ≡ Ok entries
  written_is_read e = by_heading (is_heading_line heading) refl e

pub written_reads : (heading : List ℕ) (entries : List Entry) → AreTold [] entries → (r : Result (List ℕ) WriteReportError) → GivesUnless Memory r (written heading entries)
    → IfOk r (λ text. report_from text ≡ Ok entries)
written_reads heading entries t (Ok text) g = written_is_read heading entries t text g
written_reads heading entries t (Err e) g = tt
