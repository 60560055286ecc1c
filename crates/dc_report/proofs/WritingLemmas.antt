-- The lines of a report that is written.
use Rattle.std.proofs.Common.{◌≡◌, ℕ, ◌+◌, ◌<◌, Bool, true, false, cond, List, [], ◌∷◌, ◌++◌, length, drop, get_or, Option, Some, None, Ok, Err, refl, sym, ap, ap₂, ◌∙◌, append_assoc, drop-cons, add-one, append-nil}
use Rattle.std.specs.List.{flat_map, find}
use Rattle.dc_path.specs.Paths.{Names}
use Rattle.dc_report.specs.declared.entries.Entry.{Entry}
use Rattle.dc_report.specs.declared.writing.WriteReportError.{WriteReportError}
use Rattle.dc_report.specs.declared.writing.WriteReportError.TheVariants.{BadHead}
use Rattle.dc_report.specs.Writing.{line_of, lines_with_feeds, paths_of, has_ambiguous, first_ambiguous, unless_ambiguous, is_heading_line, written, IsRefusedFor}

none_at : (x : Names) (b : Bool) (o r q : Option Names) → (o ≡ None → r ≡ q) → cond b (Some x) o ≡ None → cond b (Some x) r ≡ q
none_at x true o r q ih e = absurd (cc)
none_at x false o r q ih e = ih e

find_none : (f : Names → Bool) (xs ys : List Names) → find f xs ≡ None → find f (xs ++ ys) ≡ find f ys
find_none f [] ys e = refl
find_none f (x ∷ xs) ys e = none_at x (f x) (find f xs) (find f (xs ++ ys)) (find f ys) (find_none f xs ys) e

some_at : (x : Names) (b : Bool) (p : Names) (o r : Option Names) → (o ≡ Some p → r ≡ Some p) → cond b (Some x) o ≡ Some p → cond b (Some x) r ≡ Some p
some_at x true p o r ih e = e
some_at x false p o r ih e = ih e

find_some : (f : Names → Bool) (xs ys : List Names) (p : Names) → find f xs ≡ Some p → find f (xs ++ ys) ≡ Some p
find_some f [] ys p e = absurd (cc)
find_some f (x ∷ xs) ys p e = some_at x (f x) p (find f xs) (find f (xs ++ ys)) (find_some f xs ys p) e

-- what was written of the entries before a place
pub record IsWriting (heading : List ℕ) (entries : List Entry) (i : ℕ) (text : List ℕ) : Type 0 where
  pub left : text ++ lines_with_feeds (drop i entries) ≡ heading ++ 10 ∷ lines_with_feeds entries
  pub clear : find has_ambiguous (flat_map paths_of (drop i entries)) ≡ first_ambiguous entries

module _ (heading : List ℕ) (entries : List Entry) where
  pub writing_start : (text : List ℕ) → text ≡ heading ++ 10 ∷ [] → IsWriting heading entries 0 text
  writing_start text e = record { left = ap (λ (t : List ℕ). t ++ lines_with_feeds entries) e ∙ append_assoc heading (10 ∷ []) (lines_with_feeds entries); clear = refl }

  module _ (i : ℕ) (text : List ℕ) (w : IsWriting heading entries i text) (l : i < length entries) (e : Entry) (item : e ≡ get_or entries i e) where
    split : drop i entries ≡ e ∷ drop (i + 1) entries
    split = drop-cons entries i e l ∙ ap₂ (λ (x : Entry) (k : ℕ). x ∷ drop k entries) (sym item) (sym (add-one i))

    pub writing_more : (new : List ℕ) → new ≡ text ++ (line_of e ++ 10 ∷ []) → find has_ambiguous (paths_of e) ≡ None → IsWriting heading entries (i + 1) new
    writing_more new h n = record {
      left =
          ap (λ (t : List ℕ). t ++ lines_with_feeds (drop (i + 1) entries)) h
          ∙ append_assoc text (line_of e ++ 10 ∷ []) (lines_with_feeds (drop (i + 1) entries))
          ∙ ap (λ (es : List Entry). text ++ lines_with_feeds es) (sym split) ∙ w.left;
      clear =
          sym (find_none has_ambiguous (paths_of e) (flat_map paths_of (drop (i + 1) entries)) n)
          ∙ ap (λ (es : List Entry). find has_ambiguous (flat_map paths_of es)) (sym split) ∙ w.clear;
    }

    -- the first path that cannot be read back
    ambiguous : (f : WriteReportError) (o : Option Names) → find has_ambiguous (paths_of e) ≡ o → IsRefusedFor f o → is_heading_line heading ≡ true → written heading entries ≡ Err f
    ambiguous f None k r h = absurd r
    ambiguous f (Some p) k r h =
        let first : first_ambiguous entries ≡ Some p =
        sym w.clear ∙ ap (λ (es : List Entry). find has_ambiguous (flat_map paths_of es)) split ∙ find_some has_ambiguous (paths_of e) (flat_map paths_of (drop (i + 1) entries)) p k in
        ap₂ (λ (b : Bool) (m : Option Names). cond b (unless_ambiguous m (heading ++ 10 ∷ lines_with_feeds entries)) (Err BadHead)) h first ∙ ap (λ (g : WriteReportError). Err g) (sym r)

    pub writing_refused : (f : WriteReportError) → IsRefusedFor f (find has_ambiguous (paths_of e)) → is_heading_line heading ≡ true → written heading entries ≡ Err f
    writing_refused f r h = ambiguous f (find has_ambiguous (paths_of e)) refl r h

  drop_past : {X : Type 0} (xs : List X) (n : ℕ) → n ≡ length xs → drop n xs ≡ []
  drop_past xs n e = ap (λ k. drop k xs) e ∙ all xs
    where
      all : {Y : Type 0} (ys : List Y) → drop (length ys) ys ≡ []
      all [] = refl
      all (y ∷ ys) = all ys

  -- all is written
  pub writing_done : (i : ℕ) (text : List ℕ) → IsWriting heading entries i text → i ≡ length entries → is_heading_line heading ≡ true → written heading entries ≡ Ok text
  writing_done i text w e h =
      let none : drop i entries ≡ [] = drop_past entries i e in
      let first : first_ambiguous entries ≡ None = sym w.clear ∙ ap (λ (es : List Entry). find has_ambiguous (flat_map paths_of es)) none in
      let all : heading ++ 10 ∷ lines_with_feeds entries ≡ text = sym w.left ∙ ap (λ (es : List Entry). text ++ lines_with_feeds es) none ∙ append-nil text in
      ap₂ (λ (b : Bool) (m : Option Names). cond b (unless_ambiguous m (heading ++ 10 ∷ lines_with_feeds entries)) (Err BadHead)) h first ∙ ap (λ (t : List ℕ). Ok t) all

  pub written_no : is_heading_line heading ≡ false → written heading entries ≡ Err BadHead
  written_no h = ap (λ (b : Bool). cond b (unless_ambiguous (first_ambiguous entries) (heading ++ 10 ∷ lines_with_feeds entries)) (Err BadHead)) h
