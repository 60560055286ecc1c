-- The sets of paths that entries name, with an entry more.
use Rattle.std.proofs.Common.{◌≡◌, ℕ, Bool, true, false, cond, ◌||◌, List, [], ◌∷◌, ◌++◌, Option, Some, None, refl, sym, ap, ap₂, ◌∙◌}
use Rattle.std.proofs.lemmas.List.Folds.{list_any-append}
use Rattle.std.specs.List.{list_any}
use Rattle.std.specs.BTreeMap.{BTreeMap, get}
use Rattle.std.specs.Option.{is_some}
use Rattle.std.specs.BTreeSet.{BTreeSet, contains}
use Rattle.std.specs.Ordering.{is_eq}
use Rattle.dc_path.specs.Paths.{Names, path_cmp, same_path}
use Rattle.dc_path.proofs.PathLemmas.{ties_same, same_path-flip}
use Rattle.dc_report.specs.declared.entries.Entry.{Entry}
use Rattle.dc_report.specs.declared.entries.Entry.TheVariants.{Deleted, Renamed, Created, Modified}
use Rattle.dc_report.specs.declared.known.Known.{Known}
use Rattle.dc_report.specs.declared.report.ReportError.TheVariants.{DoubleLine, DoubleSource, DoubleTarget}
use Rattle.dc_report.specs.Carries.{carries_in, carry_to}
use Rattle.dc_report.specs.Carrying.{carries_of, carry_of, insert_by, old_lt}
use Rattle.dc_report.specs.Known.{Knows}
use Rattle.dc_report.proofs.CarriesOf.{carries_none, carries_one}
use Rattle.dc_report.specs.Reports.{creates, modifies, takes, gives, double_of}

-- ---- paths
or_cond : (a b : Bool) → cond a true b ≡ (b || a)
or_cond true true = refl
or_cond true false = refl
or_cond false true = refl
or_cond false false = refl

-- a path more in a set
pub entered : (p q : Names) (old : Bool) → cond (is_eq (path_cmp p q)) true old ≡ (old || same_path q p)
entered p q old = ap (λ (b : Bool). cond b true old) (ties_same p q ∙ same_path-flip p q) ∙ or_cond (same_path q p) old

some_cond : (b : Bool) (v : Option Names) (o : Option (Option Names)) → is_some (cond b (Some v) o) ≡ cond b true (is_some o)
some_cond true v o = refl
some_cond false v o = refl

-- a path more in a map
pub entered_key : (p q : Names) (v : Option Names) (new old : Option (Option Names)) → new ≡ cond (is_eq (path_cmp p q)) (Some v) old → is_some new ≡ (is_some old || same_path q p)
entered_key p q v new old h = ap is_some h ∙ some_cond (is_eq (path_cmp p q)) v old ∙ entered p q (is_some old)

-- ---- an entry more
or_none : (a : Bool) → (a || (false || false)) ≡ a
or_none true = refl
or_none false = refl

or_one : (a b : Bool) → (a || (b || false)) ≡ (a || b)
or_one true b = refl
or_one false true = refl
or_one false false = refl

pub push_any : (f : Entry → Bool) (es : List Entry) (e : Entry) → list_any f (es ++ e ∷ []) ≡ (list_any f es || f e)
push_any f es e = list_any-append f es (e ∷ []) ∙ or_one (list_any f es) (f e)

same_any : (f : Entry → Bool) (es : List Entry) (e : Entry) → f e ≡ false → list_any f (es ++ e ∷ []) ≡ list_any f es
same_any f es e h = push_any f es e ∙ ap (λ (b : Bool). list_any f es || b) h ∙ last (list_any f es)
  where
    last : (a : Bool) → (a || false) ≡ a
    last true = refl
    last false = refl

-- what is there has gained a path
abbrev pub Gains : (Names → Bool) → (Names → Bool) → Names → Type 0
Gains old new p = (q : Names) → new q ≡ (old q || same_path q p)

-- what the map of what is carried has
abbrev pub has_old : BTreeMap Names (Option Names) → Names → Bool
has_old carries p = is_some (get path_cmp carries p)

gains_any : (f : Names → Entry → Bool) (old new : Names → Bool) (p q : Names) (es : List Entry) (e : Entry) → Gains old new p → f q e ≡ same_path q p → old q ≡ list_any (f q) es → new q ≡ list_any (f q) (es ++ e ∷ [])
gains_any f old new p q es e g h k = g q ∙ ap₂ (λ (a b : Bool). a || b) k (sym h) ∙ sym (push_any (f q) es e)

module _ (old : Known) (before : List Entry) (k : Knows old before) where
  -- ---- what is there stands in an earlier entry
  pub double_created : (line : ℕ) (p : Names) (b : Bool) → contains path_cmp old.created p ≡ b → double_of line before (Created p) ≡ cond b (Some (DoubleLine line)) None
  double_created line p b h = ap (λ (c : Bool). cond c (Some (DoubleLine line)) None) (sym (k.created p) ∙ h)

  pub double_modified : (line : ℕ) (p : Names) (b : Bool) → contains path_cmp old.modified p ≡ b → double_of line before (Modified p) ≡ cond b (Some (DoubleLine line)) None
  double_modified line p b h = ap (λ (c : Bool). cond c (Some (DoubleLine line)) None) (sym (k.modified p) ∙ h)

  pub double_deleted : (line : ℕ) (p : Names) (b : Bool) → has_old old.carries p ≡ b → double_of line before (Deleted p) ≡ cond b (Some (DoubleSource line)) None
  double_deleted line p b h = ap (λ (c : Bool). cond c (Some (DoubleSource line)) None) (sym (k.taken p) ∙ h)

  pub double_source : (line : ℕ) (p q : Names) → has_old old.carries p ≡ true → double_of line before (Renamed p q) ≡ Some (DoubleSource line)
  double_source line p q h =
      ap (λ (c : Bool). cond c (Some (DoubleSource line)) (cond (list_any (gives q) before) (Some (DoubleTarget line)) None)) (sym (k.taken p) ∙ h)

  pub double_target : (line : ℕ) (p q : Names) (b : Bool) → has_old old.carries p ≡ false → contains path_cmp old.given q ≡ b → double_of line before (Renamed p q) ≡ cond b (Some (DoubleTarget line)) None
  double_target line p q b h e =
      ap₂ (λ (c d : Bool). cond c (Some (DoubleSource line)) (cond d (Some (DoubleTarget line)) None)) (sym (k.taken p) ∙ h) (sym (k.given q) ∙ e)

  -- ---- a set has gained a path
  pub adds_created : (new : BTreeSet Names) (p : Names) → Gains (contains path_cmp old.created) (contains path_cmp new) p
      → Knows (record { created = new; modified = old.modified; carries = old.carries; given = old.given }) (before ++ Created p ∷ [])
  adds_created new p g = record {
    created = λ q. gains_any creates (contains path_cmp old.created) (contains path_cmp new) p q before (Created p) g refl (k.created q);
    modified = λ q. k.modified q ∙ sym (same_any (modifies q) before (Created p) refl);
    taken = λ q. k.taken q ∙ sym (same_any (takes q) before (Created p) refl);
    carries = k.carries ∙ sym (carries_none before (Created p) refl);
    given = λ q. k.given q ∙ sym (same_any (gives q) before (Created p) refl);
  }

  pub adds_modified : (new : BTreeSet Names) (p : Names) → Gains (contains path_cmp old.modified) (contains path_cmp new) p
      → Knows (record { created = old.created; modified = new; carries = old.carries; given = old.given }) (before ++ Modified p ∷ [])
  adds_modified new p g = record {
    created = λ q. k.created q ∙ sym (same_any (creates q) before (Modified p) refl);
    modified = λ q. gains_any modifies (contains path_cmp old.modified) (contains path_cmp new) p q before (Modified p) g refl (k.modified q);
    taken = λ q. k.taken q ∙ sym (same_any (takes q) before (Modified p) refl);
    carries = k.carries ∙ sym (carries_none before (Modified p) refl);
    given = λ q. k.given q ∙ sym (same_any (gives q) before (Modified p) refl);
  }

  -- ---- the map has gained a path, which it had not
  carries_more : (new : BTreeMap Names (Option Names)) (p : Names) (q : Option Names) (e : Entry) → has_old old.carries p ≡ false → carry_of e ≡ Some (carry_to p q)
      → carries_in new.entries ≡ insert_by old_lt (carry_to p q) (carries_in old.carries.entries) → carries_in new.entries ≡ carries_of (before ++ e ∷ [])
  carries_more new p q e n h i = i ∙ ap (insert_by old_lt (carry_to p q)) k.carries ∙ sym (carries_one before e p q h (sym (k.taken p) ∙ n))

  pub adds_deleted : (new : BTreeMap Names (Option Names)) (p : Names) → has_old old.carries p ≡ false → Gains (has_old old.carries) (has_old new) p
      → carries_in new.entries ≡ insert_by old_lt (carry_to p None) (carries_in old.carries.entries)
      → Knows (record { created = old.created; modified = old.modified; carries = new; given = old.given }) (before ++ Deleted p ∷ [])
  adds_deleted new p n g i = record {
    created = λ q. k.created q ∙ sym (same_any (creates q) before (Deleted p) refl);
    modified = λ q. k.modified q ∙ sym (same_any (modifies q) before (Deleted p) refl);
    taken = λ q. gains_any takes (has_old old.carries) (has_old new) p q before (Deleted p) g refl (k.taken q);
    carries = carries_more new p None (Deleted p) n refl i;
    given = λ q. k.given q ∙ sym (same_any (gives q) before (Deleted p) refl);
  }

  pub adds_renamed : (new : BTreeMap Names (Option Names)) (new_given : BTreeSet Names) (a b : Names) → has_old old.carries a ≡ false → Gains (has_old old.carries) (has_old new) a
      → carries_in new.entries ≡ insert_by old_lt (carry_to a (Some b)) (carries_in old.carries.entries) → Gains (contains path_cmp old.given) (contains path_cmp new_given) b
      → Knows (record { created = old.created; modified = old.modified; carries = new; given = new_given }) (before ++ Renamed a b ∷ [])
  adds_renamed new new_given a b n g i h = record {
    created = λ q. k.created q ∙ sym (same_any (creates q) before (Renamed a b) refl);
    modified = λ q. k.modified q ∙ sym (same_any (modifies q) before (Renamed a b) refl);
    taken = λ q. gains_any takes (has_old old.carries) (has_old new) a q before (Renamed a b) g refl (k.taken q);
    carries = carries_more new a (Some b) (Renamed a b) n refl i;
    given = λ q. gains_any gives (contains path_cmp old.given) (contains path_cmp new_given) b q before (Renamed a b) h refl (k.given q);
  }
