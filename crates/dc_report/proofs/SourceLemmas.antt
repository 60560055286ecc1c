-- The new paths with their old ones: a carry more, and their limits.
use Rattle.std.proofs.Common.{◌≡◌, List, [], ◌∷◌, ◌++◌, Option, Some, Result, Ok, Err, IfOk, refl, sym, ◌∙◌, ap, subst, append_assoc}
use Rattle.std.specs.BTreeMap.{BTreeMap}
use Rattle.std.proofs.lemmas.List.{append-nil, map-append}
use Rattle.std.specs.List.{filter_map}
use Rattle.dc_path.specs.Paths.{IsWithin, Names}
use Rattle.dc_path.proofs.LimitLemmas.{path_within}
use Rattle.dc_path.specs.declared.OutOfMemory.{OutOfMemory}
use Rattle.dc_report.specs.Carries.{OldsFit, carries_in, carry_to}
use Rattle.dc_report.specs.Carrying.{Carry, carries_of, carry_of, items_of, new_gt, old_lt, sort_by}
use Rattle.dc_report.specs.Landings.{NewsDiffer, landed, old_in, sources_of}
use Rattle.dc_report.specs.Told.{AreTold}
use Rattle.dc_report.specs.declared.entries.Entry.{Entry}
use Rattle.dc_report.specs.declared.entries.Entry.TheVariants.{Renamed}
use Rattle.dc_report.proofs.HasLemmas.{map_has}
use Rattle.dc_report.proofs.LandingLemmas.{differ_behind, has_ascending, item_from, renamed_in, sourced_more}
use Rattle.dc_report.proofs.Sorting.{sort_has}
use Rattle.dc_report.proofs.ToldApart.{told_entry}

-- the new paths of the carries behind those that are left are in the map
pub record IsSourced (entries left sources : List (Names × Option Names)) : Type 0 where
  pub done : List (Names × Option Names)
  pub all : entries ≡ left ++ done
  pub sourced : sources ≡ sources_of (carries_in done)

pub source_start : (entries left : List (Names × Option Names)) → left ≡ entries → IsSourced entries left []
source_start entries left e = record { done = []; all = sym e ∙ sym (append-nil left); sourced = refl }

pub source_more : (entries s t : List (Names × Option Names)) (e : Names × Option Names) (es new_es : List (Names × Option Names)) → NewsDiffer (carries_in entries) → IsSourced entries s es
    → s ≡ t ++ e ∷ [] → new_es ≡ landed e.1 (Some e.0) es → IsSourced entries t new_es
source_more entries s t e es new_es d k f h = record {
  done = e ∷ k.done;
  all = all;
  sourced = h ∙ rw k.sourced (sourced_more (carry_to e.0 e.1) (carries_in k.done) behind);
}
  where
    all : entries ≡ t ++ e ∷ k.done
    all = k.all ∙ ap (λ (xs : List (Names × Option Names)). xs ++ k.done) f ∙ append_assoc t (e ∷ []) k.done

    behind : NewsDiffer (carries_in (e ∷ k.done))
    behind = differ_behind (carries_in t) (carries_in (e ∷ k.done))
        (subst NewsDiffer (ap carries_in all ∙ map-append (λ (x : Names × Option Names). carry_to x.0 x.1) t (e ∷ k.done)) d)

-- the new paths of a report are within the limits
pub sources_fit : (R : List Entry) → AreTold [] R → OldsFit (carries_in (sources_of (carries_of R)))
sources_fit R t c h =
    let e = map_has (λ (x : Names × Option Names). carry_to x.0 x.1) (sources_of (carries_of R)) c h in
    let n = has_ascending old_in (sort_by new_gt (items_of (carries_of R))) e.0 e.1 in
    let k = item_from (carries_of R) n.0 (sort_has new_gt (items_of (carries_of R)) n.0 n.1) in
    let r = renamed_in R k.0 n.0.new (sort_has old_lt (filter_map carry_of R) k.0 k.1) k.2 in
    let told = told_entry [] R (Renamed k.0.old n.0.new) t r in
    let at : c.old ≡ n.0.new = ap (λ (d : Carry). d.old) e.2 ∙ n.2 in
    subst IsWithin (sym at) (path_within n.0.new told.1.0.limits)

pub fit_in : (R : List Entry) (result : Result (BTreeMap Names (Option Names)) OutOfMemory) → AreTold [] R → IfOk result (λ s. s.entries ≡ sources_of (carries_of R)) → IfOk result (λ s. OldsFit (carries_in s.entries))
fit_in R (Ok s) t h = subst (λ (es : List (Names × Option Names)). OldsFit (carries_in es)) (sym h) (sources_fit R t)
fit_in R (Err e) t h = h
