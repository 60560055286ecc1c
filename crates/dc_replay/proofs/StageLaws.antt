-- The test of the stage, and what is listed of the root.
use Rattle.std.proofs.Common.{◌≡◌, inl, inr, ℕ, List, [], ◌∷◌, ◌++◌, Bool, true, false, ◌||◌, Option, Some, None, refl, sym, ◌∙◌, ap, subst}
use Rattle.std.specs.Prelude.{is_some}
use Rattle.std.specs.List.{list_any}
use Rattle.std.proofs.lemmas.Bool.{false_from_ne_true, not-true, or_parts}
use Rattle.std.proofs.lemmas.Option.{same_Some}
use Rattle.dc_attrs.specs.Trees.{Node, Tree}
use Rattle.dc_path.specs.Paths.{Names, is_root}
use Rattle.dc_path.proofs.PathLemmas.{name_decides, same_name-refl}
use Rattle.dc_report.specs.Carrying.{Carried, Carry, Has, Stays, With, carrier, carries_of, moved_as, plan, then_rest}
use Rattle.dc_report.specs.Told.{AreTold}
use Rattle.dc_report.specs.Writing.{paths_of}
use Rattle.dc_report.specs.declared.entries.Entry.{Entry}
use Rattle.dc_report.specs.declared.entries.Entry.TheVariants.{Created, Deleted, Modified, Renamed}
use Rattle.dc_report.proofs.HasLemmas.{any_has, has_any}
use Rattle.dc_report.proofs.ToldApart.{told_entry}
use Rattle.dc_replay.specs.Checking.{IsOff, IsStageFree, IsStageUnused, begins_with, is_stage_free, where_to}
use Rattle.dc_replay.specs.Replaying.{RootIsUnlisted, StageIsTested}
use Rattle.dc_replay.specs.Truth.{is_listed, takes_modified}
use Rattle.dc_replay.proofs.Final.{leads_true}
use Rattle.dc_replay.proofs.PlanLemmas.{no_root, renamed_from}
use Rattle.dc_replay.proofs.TrueEntries.{carrier_has}
use Rattle.dc_replay.proofs.TrueReport.{root_fresh}

-- ---- the test and its words
begins_as : (st : List ℕ) (p : Names) → begins_with st p ≡ true → (rest : Names) × (p ≡ st ∷ rest)
begins_as st [] e = absurd (cc)
begins_as st (x ∷ p) e = (p, ap (λ (u : List ℕ). u ∷ p) (sym ((name_decides st x).0 e)))

abbrev names_it : List ℕ → Entry → Bool
names_it st entry = list_any (begins_with st) (paths_of entry)

unnamed_by : (st : List ℕ) (R : List Entry) → list_any (names_it st) R ≡ false → (entry : Entry) (p : Names) → Has R entry → Has (paths_of entry) p → begins_with st p ≡ false
unnamed_by st R none entry p h g = false_from_ne_true (begins_with st p) (λ e.
    let k : true ≡ false = sym (has_any (names_it st) R entry h (has_any (begins_with st) (paths_of entry) p g e)) ∙ none in cc)

tested_parts : (st : List ℕ) (R : List Entry) (A : Tree) → is_stage_free st R A ≡ true → (A (st ∷ []) ≡ None) × (list_any (names_it st) R ≡ false)
tested_parts st R A h =
    let k = or_parts (is_some (A (st ∷ []))) (list_any (names_it st) R) (not-true (is_some (A (st ∷ [])) || list_any (names_it st) R) h) in
    (no_node (A (st ∷ [])) k.0, k.1)
  where
    no_node : (o : Option Node) → is_some o ≡ false → o ≡ None
    no_node None e = refl
    no_node (Some x) e = absurd (cc)

unused_from : (st : List ℕ) (R : List Entry) (A : Tree) → is_stage_free st R A ≡ true → IsStageUnused st R A
unused_from st R A h =
    let k = tested_parts st R A h in
    record {
      stage = k.0;
      unnamed = λ entry rest i g. let e : true ≡ false = sym (same_name-refl st) ∙ unnamed_by st R k.1 entry (st ∷ rest) i g in cc;
    }

unused_to : (st : List ℕ) (R : List Entry) (A : Tree) → IsStageUnused st R A → is_stage_free st R A ≡ true
unused_to st R A u = rw (u.stage, unnamed) refl
  where
    unnamed : list_any (names_it st) R ≡ false
    unnamed = false_from_ne_true (list_any (names_it st) R) (λ e.
        let k = any_has (names_it st) R e in
        let p = any_has (begins_with st) (paths_of k.0) k.2 in
        let b = begins_as st p.0 p.2 in
        u.unnamed k.0 b.0 k.1 (subst (Has (paths_of k.0)) b.1 p.1))

-- ---- for a report that could be read, the stage is free
is_off : (st : List ℕ) (p : Names) → is_root p ≡ false → begins_with st p ≡ false → IsOff st p
is_off st [] r b = absurd (cc)
is_off st (x ∷ p) r b = record { first = x; rest = p; path = refl; other = b }

stage_is_free : (st : List ℕ) (R : List Entry) (A : Tree) → AreTold [] R → is_stage_free st R A ≡ true → IsStageFree st R A
stage_is_free st R A t h = record {
  stage = k.0;
  deleted = λ p i. is_off st p (told_entry [] R (Deleted p) t i).1 (unnamed_by st R k.1 (Deleted p) p i (inl refl));
  renamed = λ a b i. let e = told_entry [] R (Renamed a b) t i in
      (is_off st a e.0.1 (unnamed_by st R k.1 (Renamed a b) a i (inl refl)), is_off st b e.1.1 (unnamed_by st R k.1 (Renamed a b) b i (inr (inl refl))));
}
  where
    k : (A (st ∷ []) ≡ None) × (list_any (names_it st) R ≡ false)
    k = tested_parts st R A h

pub stage_is_tested : StageIsTested
stage_is_tested st R A = ((unused_from st R A, unused_to st R A), stage_is_free st R A)

-- ---- nothing but the root goes to the root
nil_front : (b r : Names) → b ++ r ≡ [] → b ≡ []
nil_front [] r e = refl
nil_front (x ∷ b) r e = absurd (cc)

off_nil : (st : List ℕ) (b : Names) → IsOff st b → b ≡ [] → ⊥
off_nil st b off e = let k : [] ≡ off.first ∷ off.rest = sym e ∙ off.path in cc

module _ (st : List ℕ) (R : List Entry) (A : Tree) (free : IsStageFree st R A) where
  by_new : (c : Carry) (r : Names) (o : Option Names) → Has (carries_of R) c → c.new ≡ o → then_rest o r ≡ Some [] → ⊥
  by_new c r None h n e = cc
  by_new c r (Some b) h n e = off_nil st b (free.renamed c.old b (renamed_from R c b h n)).1 (nil_front b r (same_Some (b ++ r) [] e))

  by_carrier : (x : List ℕ) (p : Names) (k : Carried) → carrier (carries_of R) (x ∷ p) ≡ k → moved_as (x ∷ p) k ≡ Some [] → ⊥
  by_carrier x p Stays e m = let k = same_Some (x ∷ p) [] m in cc
  by_carrier x p (With c r) e m = by_new c r c.new (carrier_has (carries_of R) (x ∷ p) c r e) refl m

  takes_root : (entry : Entry) → takes_modified R [] entry ≡ true → ⊥
  takes_root (Deleted p) e = cc
  takes_root (Renamed a b) e = cc
  takes_root (Created c) e = cc
  takes_root (Modified []) e = cc
  takes_root (Modified (x ∷ p)) e = by_carrier x p (carrier (carries_of R) (x ∷ p)) refl (leads_true (where_to R (x ∷ p)) [] e)

  root_off : is_listed R [] ≡ false
  root_off = rw (root_fresh (plan R) (no_root R), no_taker) refl
    where
      no_taker : list_any (takes_modified R []) R ≡ false
      no_taker = false_from_ne_true (list_any (takes_modified R []) R) (λ e. let k = any_has (takes_modified R []) R e in takes_root k.0 k.2)

pub root_is_unlisted : RootIsUnlisted
root_is_unlisted st R A free = root_off st R A free
