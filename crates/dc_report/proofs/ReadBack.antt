-- What is read can be written, and what is written is read.
use Rattle.std.proofs.Common.{◌≡◌, ℕ, ◌+◌, ◌==◌, Bool, true, false, cond, ◌&&◌, List, [], ◌∷◌, ◌++◌, drop, map, Option, Some, None, Result, Ok, Err, refl, sym, ap, ◌∙◌, arith, append_assoc, append-nil, subst, codes}
use Rattle.std.specs.List.{list_all, list_any}
use Rattle.std.specs.Str.{is_utf8}
use Rattle.dc_path.specs.Names.{same_name}
use Rattle.dc_path.specs.Paths.{Names, IsPath, dotted_of, is_root}
use Rattle.dc_path.specs.Reading.{path_from}
use Rattle.dc_path.specs.declared.path.PathError.{PathError}
use Rattle.dc_report.specs.declared.entries.Entry.{Entry}
use Rattle.dc_report.specs.declared.entries.Entry.TheVariants.{Deleted, Renamed, Created, Modified}
use Rattle.dc_report.specs.declared.report.ReportError.{ReportError}
use Rattle.dc_report.specs.Grammar.{Split, last_arrow, is_told, if_spelt, path_in, below_root, renamed_by, renamed_at, entry_by, entry_from}
use Rattle.std.specs.Option.{option_map}
use Rattle.dc_report.specs.Writing.{line_of}
use Rattle.dc_report.proofs.Spelt.{line_is_read}
use Rattle.dc_report.specs.Reports.{creates, modifies, takes, gives, double_of, unless_double, with_spelt, go_on, entries_from}
use Rattle.dc_report.specs.Told.{IsToldPath, IsTold, AreTold}
use Rattle.dc_path.proofs.LimitLemmas.{path_from_is}

-- ---- a path that is read is within the limits
-- ---- what a line spells may stand in a report
if_at : (path p : Names) (a b : Bool) → cond (a && b) (Some path) None ≡ Some p → (b ≡ true) × (path ≡ p)
if_at path p true true h = (refl, cc)
if_at path p true false h = absurd (cc)
if_at path p false b h = absurd (cc)

if_spelt_is : (text : List ℕ) (r : Result Names PathError) (p : Names) → ((q : Names) → r ≡ Ok q → IsPath q) → if_spelt text r ≡ Some p → IsToldPath p
if_spelt_is text (Err e) p k h = absurd (cc)
if_spelt_is text (Ok path) p k h =
    let parts = if_at path p (same_name (dotted_of path) text) (list_all is_told path) h in
    subst IsToldPath parts.1 (record { limits = k path refl; told = parts.0 })

root_told : IsToldPath []
root_told = record { limits = record { named = refl; few = omega arith; short = omega arith }; told = refl }

path_told_at : (text : List ℕ) (p : Names) (a : Bool) → cond a (Some []) (if_spelt text (path_from (drop 1 text))) ≡ Some p → IsToldPath p
path_told_at text p true h = let k : [] ≡ p = cc in subst IsToldPath k root_told
path_told_at text p false h = if_spelt_is text (path_from (drop 1 text)) p (path_from_is (drop 1 text)) h

pub path_is_told : (text : List ℕ) (p : Names) → path_in text ≡ Some p → IsToldPath p
unfolding path_in
path_is_told text p h = path_told_at text p (same_name text (codes ".")) h

below_is : (o : Option Names) (p : Names) → ((q : Names) → o ≡ Some q → IsToldPath q) → below_root o ≡ Some p → IsToldPath p × (is_root p ≡ false)
below_is None p k h = absurd (cc)
below_is (Some []) p k h = absurd (cc)
below_is (Some (x ∷ q)) p k h = let e : x ∷ q ≡ p = cc in subst (λ (r : Names). IsToldPath r × (is_root r ≡ false)) e (k (x ∷ q) refl, refl)

below_told : (text : List ℕ) (p : Names) → below_root (path_in text) ≡ Some p → IsToldPath p × (is_root p ≡ false)
below_told text p h = below_is (path_in text) p (path_is_told text) h

-- ---- entries that are read may stand in a report
created_is : (o : Option Names) (e : Entry) → ((q : Names) → o ≡ Some q → IsToldPath q × (is_root q ≡ false)) → option_map Created o ≡ Some e → IsTold e
created_is None e k h = absurd (cc)
created_is (Some q) e k h = let f : Created q ≡ e = cc in subst IsTold f (k q refl)

deleted_is : (o : Option Names) (e : Entry) → ((q : Names) → o ≡ Some q → IsToldPath q × (is_root q ≡ false)) → option_map Deleted o ≡ Some e → IsTold e
deleted_is None e k h = absurd (cc)
deleted_is (Some q) e k h = let f : Deleted q ≡ e = cc in subst IsTold f (k q refl)

modified_is : (o : Option Names) (e : Entry) → ((q : Names) → o ≡ Some q → IsToldPath q) → option_map Modified o ≡ Some e → IsTold e
modified_is None e k h = absurd (cc)
modified_is (Some q) e k h = let f : Modified q ≡ e = cc in subst IsTold f (k q refl)

renamed_is : (o r : Option Names) (e : Entry) → ((q : Names) → o ≡ Some q → IsToldPath q × (is_root q ≡ false)) → ((q : Names) → r ≡ Some q → IsToldPath q × (is_root q ≡ false))
    → renamed_by o r ≡ Some e → IsTold e
renamed_is None r e k l h = absurd (cc)
renamed_is (Some a) None e k l h = absurd (cc)
renamed_is (Some a) (Some b) e k l h = let f : Renamed a b ≡ e = cc in subst IsTold f (k a refl, l b refl)

renamed_at_is : (o : Option Split) (e : Entry) → renamed_at o ≡ Some e → IsTold e
renamed_at_is None e h = absurd (cc)
renamed_at_is (Some parts) e h = renamed_is (below_root (path_in parts.0)) (below_root (path_in parts.1)) e (below_told parts.0) (below_told parts.1) h

tag_is : (text : List ℕ) (e : Entry) (a b c d : Bool) → cond a (option_map Created (below_root (path_in text))) (cond b (option_map Deleted (below_root (path_in text)))
    (cond c (option_map Modified (path_in text)) (cond d (renamed_at (last_arrow text)) None))) ≡ Some e → IsTold e
tag_is text e true b c d h = created_is (below_root (path_in text)) e (below_told text) h
tag_is text e false true c d h = deleted_is (below_root (path_in text)) e (below_told text) h
tag_is text e false false true d h = modified_is (path_in text) e (path_is_told text) h
tag_is text e false false false true h = renamed_at_is (last_arrow text) e h
tag_is text e false false false false h = absurd (cc)

entry_by_is : (tag : ℕ) (text : List ℕ) (e : Entry) → entry_by tag text ≡ Some e → IsTold e
unfolding entry_by
entry_by_is tag text e h = tag_is text e (tag == 43) (tag == 45) (tag == 77) (tag == 82) h

line_is : (tag : ℕ) (text : List ℕ) (e : Entry) (b : Bool) → cond b (entry_by tag text) None ≡ Some e → IsTold e
line_is tag text e true h = entry_by_is tag text e h
line_is tag text e false h = absurd (cc)

pub entry_is_told : (line : List ℕ) (e : Entry) → entry_from line ≡ Some e → IsTold e
entry_is_told [] e h = absurd (cc)
entry_is_told (tag ∷ []) e h = absurd (cc)
entry_is_told (tag ∷ tab ∷ text) e h = line_is tag text e (tab == 9 && is_utf8 text) h

-- ---- whether a path is told again does not hang on the line
again_if : (a : Bool) (f g : ReportError) → cond a (Some f) None ≡ None → cond a (Some g) None ≡ None
again_if true f g h = absurd (cc)
again_if false f g h = refl

again_two : (a b : Bool) (f g h k : ReportError) → cond a (Some f) (cond b (Some g) None) ≡ None → cond a (Some h) (cond b (Some k) None) ≡ None
again_two true b f g h k e = absurd (cc)
again_two false true f g h k e = absurd (cc)
again_two false false f g h k e = refl

pub no_double : (m n : ℕ) (before : List Entry) (e : Entry) → double_of m before e ≡ None → double_of n before e ≡ None
no_double m n before (Created p) h = again_if (list_any (creates p) before) _ _ h
no_double m n before (Modified p) h = again_if (list_any (modifies p) before) _ _ h
no_double m n before (Deleted p) h = again_if (list_any (takes p) before) _ _ h
no_double m n before (Renamed a b) h = again_two (list_any (takes a) before) (list_any (gives b) before) _ _ _ _ h

-- ---- all entries
-- the entries behind those before
pub record Behind (before entries : List Entry) : Type 0 where
  pub more : List Entry
  pub are : entries ≡ before ++ more
  pub told : AreTold before more

behind_at : (line : ℕ) (before entries : List Entry) (lines : List (List ℕ)) (e : Entry) (f : Option ReportError) → double_of line before e ≡ f → IsTold e
    → ((next : List Entry) → entries_from (line + 1) next lines ≡ Ok entries → Behind next entries)
    → go_on (unless_double f (before ++ e ∷ [])) (λ es. entries_from (line + 1) es lines) ≡ Ok entries → Behind before entries
behind_at line before entries lines e (Some fault) d t ih h = absurd (cc)
behind_at line before entries lines e None d t ih h =
    let b = ih (before ++ e ∷ []) h in
    record {
      more = e ∷ b.more;
      are = b.are ∙ append_assoc before (e ∷ []) b.more;
      told = ((t, no_double line 1 before e d), b.told);
    }

behind_step : (line : ℕ) (before entries : List Entry) (lines : List (List ℕ)) (o : Option Entry) → ((e : Entry) → o ≡ Some e → IsTold e)
    → ((next : List Entry) → entries_from (line + 1) next lines ≡ Ok entries → Behind next entries)
    → go_on (with_spelt line before o) (λ es. entries_from (line + 1) es lines) ≡ Ok entries → Behind before entries
behind_step line before entries lines None k ih h = absurd (cc)
behind_step line before entries lines (Some e) k ih h = behind_at line before entries lines e (double_of line before e) refl (k e refl) ih h

behind : (line : ℕ) (before entries : List Entry) (lines : List (List ℕ)) → entries_from line before lines ≡ Ok entries → Behind before entries
behind line before entries [] h = let e : before ≡ entries = cc in record { more = []; are = sym (append-nil before ∙ e); told = tt }
behind line before entries (text ∷ lines) h =
    behind_step line before entries lines (entry_from text) (entry_is_told text) (λ next. behind (line + 1) next entries lines) h

pub lines_are_told : (line : ℕ) (entries : List Entry) (lines : List (List ℕ)) → entries_from line [] lines ≡ Ok entries → AreTold [] entries
lines_are_told line entries lines h = let b = behind line [] entries lines h in subst (AreTold []) (sym b.are) b.told

-- the lines of entries that may stand in a report are read as these entries
pub lines_are_read : (line : ℕ) (before entries : List Entry) → AreTold before entries → entries_from line before (map line_of entries) ≡ Ok (before ++ entries)
lines_are_read line before [] t = ap (λ (es : List Entry). Ok es) (sym (append-nil before))
lines_are_read line before (e ∷ entries) t =
    let step : with_spelt line before (entry_from (line_of e)) ≡ Ok (before ++ e ∷ []) =
    ap (with_spelt line before) (line_is_read e t.0.0) ∙ ap (λ (f : Option ReportError). unless_double f (before ++ e ∷ [])) (no_double 1 line before e t.0.1) in
    ap (λ (r : Result (List Entry) ReportError). go_on r (λ es. entries_from (line + 1) es (map line_of entries))) step
    ∙ lines_are_read (line + 1) (before ++ e ∷ []) entries t.1
    ∙ ap (λ (es : List Entry). Ok es) (append_assoc before (e ∷ []) entries)
