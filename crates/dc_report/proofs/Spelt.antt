-- What the line of an entry spells is that entry.
use Rattle.std.proofs.Common.{◌≡◌, ℕ, ◌<◌, Bool, true, false, cond, ◌&&◌, List, [], ◌∷◌, ◌++◌, nat_eq, Option, Some, None, refl, ap, ap₂, ◌∙◌, arith, append-nil}
use Rattle.std.specs.List.{list_all}
use Rattle.std.specs.Cmp.{first_so, second_so}
use Rattle.std.specs.Option.{is_some, option_map}
use Rattle.std.specs.Str.{is_utf8, IsUtf8}
use Rattle.std.proofs.lemmas.Str.{is_utf8-from_IsUtf8, IsUtf8-from_is_utf8, IsUtf8-append, IsUtf8-from_ascii, IsUtf8-nil}
use Rattle.std.proofs.lemmas.Str.Ascii.{IsAscii-nil, IsAscii-cons}
use Rattle.dc_path.specs.Names.{is_name}
use Rattle.dc_path.specs.Paths.{Names, joined, dotted_of, is_root}
use Rattle.dc_path.proofs.LawProofs.{text_reads_back}
use Rattle.dc_path.proofs.PathLemmas.{same_name-refl}
use Rattle.dc_report.specs.declared.entries.Entry.{Entry}
use Rattle.dc_report.specs.declared.entries.Entry.TheVariants.{Deleted, Renamed, Created, Modified}
use Rattle.dc_report.specs.Grammar.{Split, arrow_at, later_arrow, last_arrow, has_arrow, is_told, path_in, below_root, renamed_by, renamed_at, entry_by, entry_from}
use Rattle.dc_report.specs.Told.{IsToldPath, IsTold}
use Rattle.dc_report.specs.Writing.{line_of}
use Rattle.dc_report.proofs.PathTexts.{path_of_dot, path_spelt}
use Rattle.dc_report.proofs.Arrows.{arrow_here}

-- ---- no ` -> `
told_arrow : (name : List ℕ) → is_told name ≡ true → has_arrow name ≡ false
unfolding is_told
told_arrow name h = grind arith

none_is : {A : Type 0} (o : Option A) → is_some o ≡ false → o ≡ None
none_is None h = refl
none_is (Some x) h = absurd (cc)

later_none : (b : ℕ) (o f : Option Split) → later_arrow b o f ≡ None → (o ≡ None) × (f ≡ None)
later_none b None f h = (refl, h)
later_none b (Some x) f h = absurd (cc)

-- what stands behind a ` -> `, if it is one
abbrev pub front_or : Bool → List ℕ → Option Split
front_or e r = cond e (Some ([], r)) None

front_gone : (e : Bool) (r s : List ℕ) → front_or e r ≡ None → front_or e s ≡ None
front_gone true r s k = absurd (cc)
front_gone false r s k = refl

-- a `/` ends what may be a ` -> `
front_slash : (x y : List ℕ) → arrow_at x ≡ None → arrow_at (x ++ 47 ∷ y) ≡ None
front_slash [] y h = refl
front_slash (a ∷ []) y h = grind arith
front_slash (a ∷ b ∷ []) y h = grind arith
front_slash (a ∷ b ∷ c ∷ []) y h = grind arith
front_slash (a ∷ b ∷ c ∷ d ∷ x) y h = front_gone (nat_eq 32 a && (nat_eq 45 b && (nat_eq 62 c && (nat_eq 32 d && true)))) x (x ++ 47 ∷ y) h

pub slash_none : (x y : List ℕ) → last_arrow x ≡ None → last_arrow (47 ∷ y) ≡ None → last_arrow (x ++ 47 ∷ y) ≡ None
slash_none [] y h k = k
slash_none (a ∷ x) y h k =
    let parts = later_none a (last_arrow x) (arrow_at (a ∷ x)) h in
    ap₂ (later_arrow a) (slash_none x y parts.0 k) (front_slash (a ∷ x) y parts.1)

behind_name : (x : List ℕ) (rest : Names) → last_arrow x ≡ None → (list_all is_told rest ≡ true → last_arrow (joined rest) ≡ None) → list_all is_told rest ≡ true → last_arrow (x ++ joined rest) ≡ None
behind_name x [] n ih k = ap last_arrow (append-nil x) ∙ n
behind_name x (y ∷ rest) n ih k = slash_none x (y ++ joined rest) n (ih k)

joined_none : (names : Names) → list_all is_told names ≡ true → last_arrow (joined names) ≡ None
joined_none [] h = refl
joined_none (x ∷ names) h =
    let here : last_arrow x ≡ None = none_is (last_arrow x) (told_arrow x (first_so (is_told x) (list_all is_told names) h)) in
    ap₂ (later_arrow 47) (behind_name x names here (joined_none names) (second_so (is_told x) (list_all is_told names) h)) refl

pub dotted_none : (names : Names) → list_all is_told names ≡ true → last_arrow (dotted_of names) ≡ None
dotted_none names h = ap₂ (later_arrow 46) (joined_none names h) refl

-- ---- the place of ` -> `
between : (x y : List ℕ) → last_arrow y ≡ None → arrow_at (45 ∷ 62 ∷ 32 ∷ y) ≡ None → arrow_at (62 ∷ 32 ∷ y) ≡ None → arrow_at (32 ∷ y) ≡ None
    → last_arrow (x ++ (32 ∷ 45 ∷ 62 ∷ 32 ∷ y)) ≡ Some (x, y)
between [] y n a b d =
    ap₂ (later_arrow 32) (ap₂ (later_arrow 45) (ap₂ (later_arrow 62) (ap₂ (later_arrow 32) n d) b) a) (arrow_here y)
between (c ∷ x) y n a b d = ap (λ (o : Option Split). later_arrow c o (arrow_at (c ∷ (x ++ (32 ∷ 45 ∷ 62 ∷ 32 ∷ y))))) (between x y n a b d)

pub arrow_between : (x : List ℕ) (names : Names) → list_all is_told names ≡ true → last_arrow (x ++ (32 ∷ 45 ∷ 62 ∷ 32 ∷ dotted_of names)) ≡ Some (x, dotted_of names)
arrow_between x names h = between x (dotted_of names) (dotted_none names h) refl refl refl

-- ---- UTF-8
name_utf8 : (x : List ℕ) → is_name x ≡ true → is_utf8 x ≡ true
unfolding is_name
name_utf8 x h = grind arith

ascii_utf8 : (b : ℕ) → b < 128 → IsUtf8 (b ∷ [])
ascii_utf8 b h = IsUtf8-from_ascii (b ∷ []) (IsAscii-cons b [] h IsAscii-nil)

slash_utf8 : IsUtf8 (47 ∷ [])
slash_utf8 = ascii_utf8 47 (omega arith)

joined_utf8 : (names : Names) → list_all is_name names ≡ true → IsUtf8 (joined names)
joined_utf8 [] h = IsUtf8-nil
joined_utf8 (x ∷ names) h =
    IsUtf8-append (47 ∷ x) (joined names)
    (IsUtf8-append (47 ∷ []) x slash_utf8 (IsUtf8-from_is_utf8 x (name_utf8 x (first_so (is_name x) (list_all is_name names) h))))
    (joined_utf8 names (second_so (is_name x) (list_all is_name names) h))

dotted_IsUtf8 : (names : Names) → list_all is_name names ≡ true → IsUtf8 (dotted_of names)
dotted_IsUtf8 names h = IsUtf8-append (46 ∷ []) (joined names) (ascii_utf8 46 (omega arith)) (joined_utf8 names h)

-- ---- paths
pub path_in-dotted : (p : Names) → IsToldPath p → path_in (dotted_of p) ≡ Some p
path_in-dotted [] t = path_of_dot (46 ∷ []) refl
path_in-dotted (x ∷ p) t =
    path_spelt (dotted_of (x ∷ p)) refl (joined (x ∷ p)) refl (x ∷ p) (text_reads_back (x ∷ p) t.limits) (same_name-refl (dotted_of (x ∷ p))) t.told

below-dotted : (p : Names) → IsToldPath p → is_root p ≡ false → below_root (path_in (dotted_of p)) ≡ Some p
below-dotted p t r = ap below_root (path_in-dotted p t) ∙ ap (λ (b : Bool). cond b None (Some p)) r

tagged : (tag : ℕ) (text : List ℕ) → IsUtf8 text → entry_from (tag ∷ 9 ∷ text) ≡ entry_by tag text
tagged tag text u = ap (λ (b : Bool). cond b (entry_by tag text) None) (is_utf8-from_IsUtf8 text u)

by_plus : (text : List ℕ) → entry_by 43 text ≡ option_map Created (below_root (path_in text))
unfolding entry_by
by_plus text = refl

by_minus : (text : List ℕ) → entry_by 45 text ≡ option_map Deleted (below_root (path_in text))
unfolding entry_by
by_minus text = refl

by_m : (text : List ℕ) → entry_by 77 text ≡ option_map Modified (path_in text)
unfolding entry_by
by_m text = refl

by_r : (text : List ℕ) → entry_by 82 text ≡ renamed_at (last_arrow text)
unfolding entry_by
by_r text = refl

-- what the line of an entry spells
pub line_is_read : (e : Entry) → IsTold e → entry_from (line_of e) ≡ Some e
line_is_read (Created p) t = tagged 43 (dotted_of p) (dotted_IsUtf8 p t.0.limits.named) ∙ by_plus (dotted_of p) ∙ ap (option_map Created) (below-dotted p t.0 t.1)
line_is_read (Deleted p) t = tagged 45 (dotted_of p) (dotted_IsUtf8 p t.0.limits.named) ∙ by_minus (dotted_of p) ∙ ap (option_map Deleted) (below-dotted p t.0 t.1)
line_is_read (Modified p) t = tagged 77 (dotted_of p) (dotted_IsUtf8 p t.limits.named) ∙ by_m (dotted_of p) ∙ ap (option_map Modified) (path_in-dotted p t)
line_is_read (Renamed a b) t =
    let arrow_utf8 : IsUtf8 (32 ∷ 45 ∷ 62 ∷ 32 ∷ []) = IsUtf8-from_ascii (32 ∷ 45 ∷ 62 ∷ 32 ∷ []) (IsAscii-cons 32 (45 ∷ 62 ∷ 32 ∷ []) (omega arith) (IsAscii-cons 45 (62 ∷ 32 ∷ []) (omega arith) (IsAscii-cons 62 (32 ∷ []) (omega arith) (IsAscii-cons 32 [] (omega arith) IsAscii-nil)))) in
    tagged 82 (dotted_of a ++ (32 ∷ 45 ∷ 62 ∷ 32 ∷ dotted_of b))
    (IsUtf8-append (dotted_of a) (32 ∷ 45 ∷ 62 ∷ 32 ∷ dotted_of b) (dotted_IsUtf8 a t.0.0.limits.named) (IsUtf8-append (32 ∷ 45 ∷ 62 ∷ 32 ∷ []) (dotted_of b) arrow_utf8 (dotted_IsUtf8 b t.1.0.limits.named)))
    ∙ by_r (dotted_of a ++ (32 ∷ 45 ∷ 62 ∷ 32 ∷ dotted_of b))
    ∙ ap renamed_at (arrow_between (dotted_of a) b t.1.0.told)
    ∙ ap₂ renamed_by (below-dotted a t.0.0 t.0.1) (below-dotted b t.1.0 t.1.1)
