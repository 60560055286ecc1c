-- Entries that a text can tell take no path twice, give none twice, and have no name of snapshots.
use Rattle.std.proofs.Common.{◌≡◌, inl, inr, ℕ, List, [], ◌∷◌, ◌++◌, Bool, true, false, cond, not, ◌&&◌, ◌||◌, Option, Some, None, codes, refl, sym, subst, ◌∙◌, ap, arith}
use Rattle.std.proofs.lemmas.Bool.{and_parts}
use Rattle.std.specs.List.{filter_map, list_all, list_any}
use Rattle.dc_path.specs.Names.{same_name}
use Rattle.dc_path.specs.Paths.{IsWithin, Names, same_path}
use Rattle.dc_path.proofs.PathLemmas.{same_path-refl, same_name-flip}
use Rattle.dc_report.specs.Apart.{HasOld, IsReport, OldsDiffer, is_old}
use Rattle.dc_report.specs.Carries.{OldsFit, carry_to}
use Rattle.dc_report.specs.Carrying.{Carry, Has, carries_of, carry_of, old_lt}
use Rattle.dc_report.specs.declared.entries.Entry.{Entry}
use Rattle.dc_report.specs.declared.entries.Entry.TheVariants.{Created, Deleted, Modified, Renamed}
use Rattle.dc_report.specs.declared.report.ReportError.{ReportError}
use Rattle.dc_report.specs.declared.report.ReportError.TheVariants.{DoubleSource, DoubleTarget}
use Rattle.dc_report.specs.Grammar.{has_arrow, has_tab, is_told}
use Rattle.dc_report.specs.Reports.{double_of, gives, takes}
use Rattle.dc_report.specs.Told.{AreTold, HasNoName, IsTold}
use Rattle.dc_report.specs.Writing.{paths_of}
use Rattle.dc_report.proofs.KnownLemmas.{push_any}
use Rattle.dc_report.proofs.HasLemmas.{filter_map_has}
use Rattle.dc_report.proofs.Sorting.{sort_has}
use Rattle.dc_path.proofs.LimitLemmas.{path_within}
use Rattle.std.proofs.lemmas.Option.{same_Some}

-- ---- no fault, no earlier entry
no_fault : (b : Bool) (e : ReportError) (o : Option ReportError) → cond b (Some e) o ≡ None → (b ≡ false) × (o ≡ None)
no_fault true e o h = absurd (cc)
no_fault false e o h = (refl, h)

not_taken : (before : List Entry) (e : Entry) (p : Names) → double_of 1 before e ≡ None → is_old p e → list_any (takes p) before ≡ false
not_taken before (Deleted q) p h i = ap (λ (u : Names). list_any (takes u) before) i ∙ (no_fault (list_any (takes q) before) (DoubleSource 1) None h).0
not_taken before (Renamed a b) p h i =
    ap (λ (u : Names). list_any (takes u) before) i ∙ (no_fault (list_any (takes a) before) (DoubleSource 1) (cond (list_any (gives b) before) (Some (DoubleTarget 1)) None) h).0
not_taken before (Created q) p h i = absurd i
not_taken before (Modified q) p h i = absurd i

not_given : (before : List Entry) (a b : Names) → double_of 1 before (Renamed a b) ≡ None → list_any (gives b) before ≡ false
not_given before a b h = (no_fault (list_any (gives b) before) (DoubleTarget 1) None (no_fault (list_any (takes a) before) (DoubleSource 1) (cond (list_any (gives b) before) (Some (DoubleTarget 1)) None) h).1).0

-- ---- what was before stays before
still : (f : Entry → Bool) (before : List Entry) (e : Entry) → list_any f before ≡ true → list_any f (before ++ e ∷ []) ≡ true
still f before e h = push_any f before e ∙ ap (λ (b : Bool). b || f e) h

comes : (f : Entry → Bool) (before : List Entry) (e : Entry) → f e ≡ true → list_any f (before ++ e ∷ []) ≡ true
comes f before e h = let p = push_any f before e in grind (arith, p)

takes_old : (p : Names) (e : Entry) → is_old p e → takes p e ≡ true
takes_old p (Deleted q) i = ap (same_path p) (sym i) ∙ same_path-refl p
takes_old p (Renamed a b) i = ap (same_path p) (sym i) ∙ same_path-refl p
takes_old p (Created q) i = absurd i
takes_old p (Modified q) i = absurd i

-- ---- no path is taken again
later_old : (before es : List Entry) (p : Names) → AreTold before es → list_any (takes p) before ≡ true → HasOld es p → ⊥
later_old before [] p t h k = k
later_old before (e ∷ es) p t h (inl i) = let n : true ≡ false = sym h ∙ not_taken before e p t.0.1 i in absurd (cc)
later_old before (e ∷ es) p t h (inr k) = later_old (before ++ e ∷ []) es p t.1 (still (takes p) before e h) k

olds_differ : (before es : List Entry) → AreTold before es → OldsDiffer es
olds_differ before [] t = tt
olds_differ before (e ∷ es) t = ((λ p i k. later_old (before ++ e ∷ []) es p t.1 (comes (takes p) before e (takes_old p e i)) k), olds_differ (before ++ e ∷ []) es t.1)

-- ---- no path is given again
later_new : (before es : List Entry) (b c : Names) → AreTold before es → list_any (gives c) before ≡ true → Has es (Renamed b c) → ⊥
later_new before [] b c t h k = k
later_new before (e ∷ es) b c t h (inl i) = let n : true ≡ false = sym h ∙ not_given before b c (ap (double_of 1 before) i ∙ t.0.1) in absurd (cc)
later_new before (e ∷ es) b c t h (inr k) = later_new (before ++ e ∷ []) es b c t.1 (still (gives c) before e h) k

gives_new : (a c : Names) (e : Entry) → Renamed a c ≡ e → gives c e ≡ true
gives_new a c e i = sym (ap (gives c) i) ∙ same_path-refl c

news_differ : (before es : List Entry) (a b c : Names) → AreTold before es → Has es (Renamed a c) → Has es (Renamed b c) → a ≡ b
news_differ before [] a b c t h k = absurd h
news_differ before (e ∷ es) a b c t (inl i) (inl j) = let n : Renamed a c ≡ Renamed b c = i ∙ sym j in cc
news_differ before (e ∷ es) a b c t (inl i) (inr k) = absurd (later_new (before ++ e ∷ []) es b c t.1 (comes (gives c) before e (gives_new a c e i)) k)
news_differ before (e ∷ es) a b c t (inr h) (inl j) = absurd (later_new (before ++ e ∷ []) es a c t.1 (comes (gives c) before e (gives_new b c e j)) h)
news_differ before (e ∷ es) a b c t (inr h) (inr k) = news_differ (before ++ e ∷ []) es a b c t.1 h k

pub told_apart : (R : List Entry) → AreTold [] R → IsReport R
told_apart R t = record { olds = olds_differ [] R t; news = λ a b c h k. news_differ [] R a b c t h k }

-- ---- no name is that of snapshots
not_snapshot : (name : List ℕ) → is_told name ≡ true → same_name (codes ".snapshot") name ≡ false
unfolding is_told
not_snapshot name h = same_name-flip (codes ".snapshot") name ∙ first (same_name name (codes ".snapshot")) (not (has_tab name)) (not (has_arrow name)) h
  where
    first : (a b c : Bool) → (not a && b && c) ≡ true → a ≡ false
    first true b c h = absurd (cc)
    first false b c h = refl

none_named : (p : Names) → list_all is_told p ≡ true → list_any (same_name (codes ".snapshot")) p ≡ false
none_named [] h = refl
none_named (name ∷ p) h =
    let k = and_parts (is_told name) (list_all is_told p) h in
    rw (not_snapshot name k.0) (none_named p k.1)

told_names : (e : Entry) (p : Names) → IsTold e → Has (paths_of e) p → list_all is_told p ≡ true
told_names (Created q) p t (inl i) = ap (list_all is_told) i ∙ t.0.told
told_names (Deleted q) p t (inl i) = ap (list_all is_told) i ∙ t.0.told
told_names (Modified q) p t (inl i) = ap (list_all is_told) i ∙ t.told
told_names (Renamed a b) p t (inl i) = ap (list_all is_told) i ∙ t.0.0.told
told_names (Renamed a b) p t (inr (inl i)) = ap (list_all is_told) i ∙ t.1.0.told
told_names (Created q) p t (inr h) = absurd h
told_names (Deleted q) p t (inr h) = absurd h
told_names (Modified q) p t (inr h) = absurd h
told_names (Renamed a b) p t (inr (inr h)) = absurd h

plain_from : (before es : List Entry) → AreTold before es → HasNoName (codes ".snapshot") es
plain_from before [] t e p h k = absurd h
plain_from before (d ∷ es) t e p (inl i) k = none_named p (told_names d p t.0.0 (subst (λ (u : Entry). Has (paths_of u) p) i k))
plain_from before (d ∷ es) t e p (inr h) k = plain_from (before ++ d ∷ []) es t.1 e p h k

pub told_plain : (R : List Entry) → AreTold [] R → HasNoName (codes ".snapshot") R
told_plain R t = plain_from [] R t

-- ---- each entry by itself
-- each entry may stand in a report
pub told_entry : (before R : List Entry) (entry : Entry) → AreTold before R → Has R entry → IsTold entry
told_entry before [] entry t h = absurd h
told_entry before (e ∷ R) entry t (inl i) = subst IsTold (sym i) t.0.0
told_entry before (e ∷ R) entry t (inr h) = told_entry (before ++ e ∷ []) R entry t.1 h

-- each path that is deleted or renamed is within the limits
pub olds_fit : (R : List Entry) → AreTold [] R → OldsFit (carries_of R)
olds_fit R t c h = let e = filter_map_has carry_of R c (sort_has old_lt (filter_map carry_of R) c h) in by_entry e.0 (told_entry [] R e.0 t e.1) e.2
  where
    by_entry : (e : Entry) → IsTold e → carry_of e ≡ Some c → IsWithin c.old
    by_entry (Deleted p) k i = let f : p ≡ c.old = ap (λ (d : Carry). d.old) (same_Some (carry_to p None) c i) in subst IsWithin f (path_within p k.0.limits)
    by_entry (Renamed a b) k i = let f : a ≡ c.old = ap (λ (d : Carry). d.old) (same_Some (carry_to a (Some b)) c i) in subst IsWithin f (path_within a k.0.0.limits)
    by_entry (Created p) k i = absurd (cc)
    by_entry (Modified p) k i = absurd (cc)
