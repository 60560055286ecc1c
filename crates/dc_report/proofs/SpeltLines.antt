-- A line that spells an entry is the line of that entry.
use Rattle.std.proofs.Common.{◌≡◌, ℕ, ◌==◌, Bool, true, false, cond, ◌&&◌, List, [], ◌∷◌, ◌++◌, take, drop, codes, nat_eq, Option, Some, None, Result, Ok, Err, refl, sym, ap, ap₂, ◌∙◌, eqb-true}
use Rattle.std.proofs.lemmas.List.{take-append-drop}
use Rattle.std.specs.Cmp.Lexicographic.{bytes_decides}
use Rattle.std.specs.List.{list_all, starts_with}
use Rattle.std.specs.Option.{option_map}
use Rattle.std.specs.Str.{is_utf8}
use Rattle.dc_path.specs.Names.{same_name}
use Rattle.dc_path.specs.Paths.{Names, dotted_of}
use Rattle.dc_path.specs.Reading.{path_from}
use Rattle.dc_path.specs.declared.path.PathError.{PathError}
use Rattle.dc_path.proofs.PathLemmas.{name_decides}
use Rattle.dc_report.specs.declared.entries.Entry.{Entry}
use Rattle.dc_report.specs.declared.entries.Entry.TheVariants.{Deleted, Renamed, Created, Modified}
use Rattle.dc_report.specs.Grammar.{Split, arrow_at, later_arrow, last_arrow, is_told, if_spelt, path_in, below_root, renamed_by, renamed_at, entry_by, entry_from}
use Rattle.dc_report.specs.Laws.{LinesSpellEntries}
use Rattle.dc_report.specs.Writing.{line_of}
use Rattle.dc_report.proofs.Arrows.{arrow}
use Rattle.dc_report.proofs.ReadBack.{entry_is_told}
use Rattle.dc_report.proofs.Spelt.{line_is_read, front_or}

-- ---- what stands before and behind ` -> `
front_is : (s : List ℕ) (e : Bool) (parts : Split) → starts_with nat_eq s arrow ≡ e → front_or e (drop 4 s) ≡ Some parts → s ≡ parts.0 ++ (arrow ++ parts.1)
front_is s true parts h k =
    let f : ([], drop 4 s) ≡ parts = cc in
    sym (take-append-drop 4 s) ∙ ap (λ (t : List ℕ). t ++ drop 4 s) (sym ((bytes_decides arrow (take 4 s)).0 h)) ∙ ap (λ (p : Split). p.0 ++ (arrow ++ p.1)) f
front_is s false parts h k = absurd (cc)

later_is : (b : ℕ) (s : List ℕ) (o f : Option Split) (parts : Split) → ((q : Split) → o ≡ Some q → s ≡ q.0 ++ (arrow ++ q.1)) → (f ≡ Some parts → b ∷ s ≡ parts.0 ++ (arrow ++ parts.1))
    → later_arrow b o f ≡ Some parts → b ∷ s ≡ parts.0 ++ (arrow ++ parts.1)
later_is b s None f parts ih g h = g h
later_is b s (Some q) f parts ih g h =
    let e : (b ∷ q.0, q.1) ≡ parts = cc in
    ap (λ (t : List ℕ). b ∷ t) (ih q refl) ∙ ap (λ (p : Split). p.0 ++ (arrow ++ p.1)) e

parted : (s : List ℕ) (parts : Split) → last_arrow s ≡ Some parts → s ≡ parts.0 ++ (arrow ++ parts.1)
parted [] parts h = absurd (cc)
parted (b ∷ s) parts h = later_is b s (last_arrow s) (arrow_at (b ∷ s)) parts (parted s) (front_is (b ∷ s) (starts_with nat_eq (b ∷ s) arrow) parts refl) h

-- ---- paths
if_at : (path p : Names) (a b : Bool) → cond (a && b) (Some path) None ≡ Some p → (a ≡ true) × (path ≡ p)
if_at path p true true h = (refl, cc)
if_at path p true false h = absurd (cc)
if_at path p false b h = absurd (cc)

spelt_is : (text : List ℕ) (r : Result Names PathError) (p : Names) → if_spelt text r ≡ Some p → text ≡ dotted_of p
spelt_is text (Err e) p h = absurd (cc)
spelt_is text (Ok path) p h =
    let parts = if_at path p (same_name (dotted_of path) text) (list_all is_told path) h in
    sym ((name_decides (dotted_of path) text).0 parts.0) ∙ ap dotted_of parts.1

path_at : (text : List ℕ) (p : Names) (a : Bool) → same_name text (codes ".") ≡ a → cond a (Some []) (if_spelt text (path_from (drop 1 text))) ≡ Some p → text ≡ dotted_of p
path_at text p true e h = let k : [] ≡ p = cc in (name_decides text (codes ".")).0 e ∙ ap dotted_of k
path_at text p false e h = spelt_is text (path_from (drop 1 text)) p h

path_text : (text : List ℕ) (p : Names) → path_in text ≡ Some p → text ≡ dotted_of p
unfolding path_in
path_text text p h = path_at text p (same_name text (codes ".")) refl h

below_at : (text : List ℕ) (o : Option Names) (p : Names) → ((q : Names) → o ≡ Some q → text ≡ dotted_of q) → below_root o ≡ Some p → text ≡ dotted_of p
below_at text None p k h = absurd (cc)
below_at text (Some []) p k h = absurd (cc)
below_at text (Some (x ∷ q)) p k h = let e : x ∷ q ≡ p = cc in k (x ∷ q) refl ∙ ap dotted_of e

below_text : (text : List ℕ) (p : Names) → below_root (path_in text) ≡ Some p → text ≡ dotted_of p
below_text text p h = below_at text (path_in text) p (path_text text) h

-- ---- entries
map_is : (f : Names → Entry) (o : Option Names) (e : Entry) → option_map f o ≡ Some e → (p : Names) × (o ≡ Some p) × (f p ≡ e)
map_is f None e h = absurd (cc)
map_is f (Some p) e h = (p, refl, cc)

renamed_is : (o r : Option Names) (e : Entry) → renamed_by o r ≡ Some e → (a : Names) × (b : Names) × (o ≡ Some a) × (r ≡ Some b) × (Renamed a b ≡ e)
renamed_is None r e h = absurd (cc)
renamed_is (Some a) None e h = absurd (cc)
renamed_is (Some a) (Some b) e h = (a, b, refl, refl, cc)

renamed_line : (text : List ℕ) (o : Option Split) (e : Entry) → last_arrow text ≡ o → renamed_at o ≡ Some e → 82 ∷ 9 ∷ text ≡ line_of e
renamed_line text None e k h = absurd (cc)
renamed_line text (Some parts) e k h = go (renamed_is (below_root (path_in parts.0)) (below_root (path_in parts.1)) e h)
  where
    go : (a : Names) × (b : Names) × (below_root (path_in parts.0) ≡ Some a) × (below_root (path_in parts.1) ≡ Some b) × (Renamed a b ≡ e) → 82 ∷ 9 ∷ text ≡ line_of e
    go (a, b, m, n, f) =
        ap (λ (t : List ℕ). 82 ∷ 9 ∷ t) (parted text parts k ∙ ap₂ (λ (x y : List ℕ). x ++ (arrow ++ y)) (below_text parts.0 a m) (below_text parts.1 b n)) ∙ ap line_of f

tag_line : (tag : ℕ) (text : List ℕ) (e : Entry) (a b c d : Bool) → (tag == 43) ≡ a → (tag == 45) ≡ b → (tag == 77) ≡ c → (tag == 82) ≡ d
    → cond a (option_map Created (below_root (path_in text))) (cond b (option_map Deleted (below_root (path_in text)))
    (cond c (option_map Modified (path_in text)) (cond d (renamed_at (last_arrow text)) None))) ≡ Some e → tag ∷ 9 ∷ text ≡ line_of e
tag_line tag text e true b c d i j k l h =
    let m = map_is Created (below_root (path_in text)) e h in
    ap₂ (λ (n : ℕ) (t : List ℕ). n ∷ 9 ∷ t) (eqb-true tag 43 i) (below_text text m.0 m.1) ∙ ap line_of m.2
tag_line tag text e false true c d i j k l h =
    let m = map_is Deleted (below_root (path_in text)) e h in
    ap₂ (λ (n : ℕ) (t : List ℕ). n ∷ 9 ∷ t) (eqb-true tag 45 j) (below_text text m.0 m.1) ∙ ap line_of m.2
tag_line tag text e false false true d i j k l h =
    let m = map_is Modified (path_in text) e h in
    ap₂ (λ (n : ℕ) (t : List ℕ). n ∷ 9 ∷ t) (eqb-true tag 77 k) (path_text text m.0 m.1) ∙ ap line_of m.2
tag_line tag text e false false false true i j k l h =
    ap (λ (n : ℕ). n ∷ 9 ∷ text) (eqb-true tag 82 l) ∙ renamed_line text (last_arrow text) e refl h
tag_line tag text e false false false false i j k l h = absurd (cc)

by_tag : (tag : ℕ) (text : List ℕ) (e : Entry) → entry_by tag text ≡ Some e → tag ∷ 9 ∷ text ≡ line_of e
unfolding entry_by
by_tag tag text e h = tag_line tag text e (tag == 43) (tag == 45) (tag == 77) (tag == 82) refl refl refl refl h

by_tab : (tag tab : ℕ) (text : List ℕ) (e : Entry) (a b : Bool) → (tab == 9) ≡ a → cond (a && b) (entry_by tag text) None ≡ Some e → tag ∷ tab ∷ text ≡ line_of e
by_tab tag tab text e true true k h = ap (λ (n : ℕ). tag ∷ n ∷ text) (eqb-true tab 9 k) ∙ by_tag tag text e h
by_tab tag tab text e true false k h = absurd (cc)
by_tab tag tab text e false b k h = absurd (cc)

line_is : (line : List ℕ) (e : Entry) → entry_from line ≡ Some e → line ≡ line_of e
line_is [] e h = absurd (cc)
line_is (tag ∷ []) e h = absurd (cc)
line_is (tag ∷ tab ∷ text) e h = by_tab tag tab text e (tab == 9) (is_utf8 text) refl h

pub lines_spell_entries : LinesSpellEntries
lines_spell_entries line e = (λ h. (entry_is_told line e h, line_is line e h), λ k. ap entry_from k.1 ∙ line_is_read e k.0)
