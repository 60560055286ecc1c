-- Which path a text spells.
use Rattle.std.proofs.Common.{◌≡◌, ◌≢◌, IfOk, ℕ, ◌≤◌, Bool, true, false, cond, ◌&&◌, ◌==◌, List, [], ◌∷◌, length, drop, get_or, codes, Option, Some, None, Result, Ok, Err, refl, sym, ap, ap₂, ◌∙◌, arith}
use Rattle.std.specs.List.{list_all}
use Rattle.std.specs.Str.{is_utf8}
use Rattle.std.specs.Str.Pattern.{LacksTextAt}
use Rattle.dc_path.specs.Names.{same_name}
use Rattle.dc_path.specs.Paths.{Names, dotted_of, joined}
use Rattle.dc_path.specs.Reading.{path_from}
use Rattle.dc_path.proofs.PathLemmas.{name_decides}
use Rattle.dc_path.specs.declared.path.PathError.{PathError}
use Rattle.dc_path.specs.declared.path.PathError.TheVariants.{Memory}
use Rattle.dc_path.specs.declared.OutOfMemory.{OutOfMemory}
use Rattle.dc_report.specs.Grammar.{is_told, if_spelt, path_in, entry_by, entry_from}

-- ---- paths
pub path_of_dot : (text : List ℕ) → same_name text (codes ".") ≡ true → path_in text ≡ Some []
unfolding path_in
path_of_dot text h = ap (λ (b : Bool). cond b (Some []) (if_spelt text (path_from (drop 1 text)))) h

other_path : (text : List ℕ) → same_name text (codes ".") ≡ false → path_in text ≡ if_spelt text (path_from (drop 1 text))
unfolding path_in
other_path text h = ap (λ (b : Bool). cond b (Some []) (if_spelt text (path_from (drop 1 text)))) h

abbrev if_both : Bool → Bool → Names → Option Names
if_both a b path = cond (a && b) (Some path) None

no_dot_at : (text : List ℕ) (path : Names) (b : Bool) → same_name (dotted_of path) text ≡ b → LacksTextAt (46 ∷ []) text 0 → if_both b (list_all is_told path) path ≡ None
no_dot_at text path false e h = refl
no_dot_at text path true e h = absurd (h (joined path) (sym ((name_decides (dotted_of path) text).0 e)))

no_dot : (text : List ℕ) (r : Result Names PathError) → LacksTextAt (46 ∷ []) text 0 → if_spelt text r ≡ None
no_dot text (Err e) h = refl
no_dot text (Ok path) h = no_dot_at text path (same_name (dotted_of path) text) refl h

module _ (text : List ℕ) (no : same_name text (codes ".") ≡ false) where
  pub path_without_dot : LacksTextAt (46 ∷ []) text 0 → path_in text ≡ None
  path_without_dot h = other_path text no ∙ no_dot text (path_from (drop 1 text)) h

  module _ (names : List ℕ) (e : text ≡ 46 ∷ names) where
    rest_is : drop 1 text ≡ names
    rest_is = ap (drop 1) e

    read_is : (r : Result Names PathError) → path_from names ≡ r → path_in text ≡ if_spelt text r
    read_is r h = other_path text no ∙ ap (if_spelt text) (ap path_from rest_is ∙ h)

    pub path_refused : (f : PathError) → path_from names ≡ Err f → path_in text ≡ None
    path_refused f h = read_is (Err f) h

    pub path_read : (path : Names) → path_from names ≡ Ok path → path_in text ≡ if_spelt text (Ok path)
    path_read path h = read_is (Ok path) h

    pub path_spelt : (path : Names) → path_from names ≡ Ok path → same_name (dotted_of path) text ≡ true → list_all is_told path ≡ true → path_in text ≡ Some path
    path_spelt path h a b = read_is (Ok path) h ∙ ap₂ (λ (x y : Bool). if_both x y path) a b

-- an answer to whether the path that was read is spelled like this, unless memory ran out
pub spelt : (text names : List ℕ) (path : Names) (r : Result (Option Names) OutOfMemory) → same_name text (codes ".") ≡ false → text ≡ 46 ∷ names
    → path_from names ≡ Ok path → IfOk r (λ told. told ≡ if_spelt text (Ok path)) → IfOk r (λ path. path ≡ path_in text)
spelt text names path (Ok told) apart e h k = k ∙ sym (path_read text apart names e path h)
spelt text names path (Err m) apart e h k = k

-- an answer that there is no path, unless memory ran out
pub refused : (text names : List ℕ) (f : PathError) (r : Result (Option Names) OutOfMemory) → same_name text (codes ".") ≡ false → text ≡ 46 ∷ names
    → (f ≢ Memory → path_from names ≡ Err f) → IfOk r (λ path. (path ≡ None) × (f ≢ Memory)) → IfOk r (λ path. path ≡ path_in text)
refused text names f (Ok path) apart e h k = k.0 ∙ sym (path_refused text apart names e f (h k.1))
refused text names f (Err m) apart e h k = k

-- ---- lines
pub line_tagged : (line : List ℕ) → 2 ≤ length line → get_or line 1 0 ≡ 9 → (b : Bool) → is_utf8 (drop 2 line) ≡ b → entry_from line ≡ cond b (entry_by (get_or line 0 0) (drop 2 line)) None
line_tagged [] l h b e = absurd (omega arith)
line_tagged (tag ∷ []) l h b e = absurd (omega arith)
line_tagged (tag ∷ tab ∷ text) l h b e = ap₂ (λ (t : ℕ) (u : Bool). cond (t == 9 && u) (entry_by tag text) None) h e

pub line_untagged : (line : List ℕ) → (2 ≤ length line → (get_or line 1 0 == 9) ≡ false) → entry_from line ≡ None
line_untagged [] h = refl
line_untagged (tag ∷ []) h = refl
line_untagged (tag ∷ tab ∷ text) h = ap (λ (b : Bool). cond (b && is_utf8 text) (entry_by tag text) None) (h (omega arith))
