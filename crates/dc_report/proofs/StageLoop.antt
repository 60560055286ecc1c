-- The loop that stages: what is known of the carries so far.
use Rattle.std.proofs.Common.{◌≡◌, ℕ, ◌+◌, List, [], ◌∷◌, ◌++◌, length, Option, refl, sym, ◌∙◌, ap, append_assoc, arith}
use Rattle.std.proofs.lemmas.List.{append-nil, map-append}
use Rattle.dc_path.specs.Paths.{Names}
use Rattle.dc_report.specs.Carries.{carries_in}
use Rattle.dc_report.specs.Landings.{NewsDiffer, landed, landings_of}
use Rattle.dc_report.specs.Moves.{label_of, stage_name, staging}
use Rattle.dc_report.specs.declared.entries.Move.{Move}
use Rattle.dc_report.specs.declared.entries.Move.TheVariants.{Shift}
use Rattle.dc_report.proofs.LandingLemmas.{differ_behind, landed_more}

-- the entries behind those that are left are staged
pub record IsStaged (entries left : List (Names × Option Names)) (label : ℕ) (landings : List (Names × ℕ)) (before moves : List Move) : Type 0 where
  pub done : List (Names × Option Names)
  pub all : entries ≡ left ++ done
  pub count : label ≡ length done
  pub landed : landings ≡ landings_of (carries_in done)
  pub staged : moves ≡ before ++ staging stage_name (carries_in done)

pub stage_start : (entries left : List (Names × Option Names)) (before : List Move) → left ≡ entries → IsStaged entries left 0 [] before before
stage_start entries left before e = record {
  done = [];
  all = sym e ∙ sym (append-nil left);
  count = refl;
  landed = refl;
  staged = sym (append-nil before);
}

length_carries : (es : List (Names × Option Names)) → length (carries_in es) ≡ length es
length_carries [] = refl
length_carries (e ∷ es) = omega (arith, length_carries es)

carries_behind : (left done : List (Names × Option Names)) → carries_in (left ++ done) ≡ carries_in left ++ carries_in done
carries_behind left done = map-append (λ (e : Names × Option Names). record { old = e.0; new = e.1 }) left done

pub stage_more : (entries s t : List (Names × Option Names)) (e : Names × Option Names) (label : ℕ) (es new_es : List (Names × ℕ)) (before ms new_ms : List Move)
    → NewsDiffer (carries_in entries) → IsStaged entries s label es before ms → s ≡ t ++ e ∷ []
    → new_ms ≡ ms ++ Shift e.0 (stage_name ∷ label_of label ∷ []) ∷ [] → new_es ≡ landed e.1 label es
    → IsStaged entries t (label + 1) new_es before new_ms
stage_more entries s t e label es new_es before ms new_ms d k f g h = record {
  done = e ∷ k.done;
  all = all;
  count = omega (arith, k.count);
  landed = h ∙ rw (k.landed, count) (landed_more (record { old = e.0; new = e.1 }) (carries_in k.done) behind);
  staged = g ∙ rw (k.staged, count) (append_assoc before (staging stage_name (carries_in k.done)) (Shift e.0 (stage_name ∷ label_of (length (carries_in k.done)) ∷ []) ∷ []));
}
  where
    all : entries ≡ t ++ e ∷ k.done
    all = k.all ∙ ap (λ (xs : List (Names × Option Names)). xs ++ k.done) f ∙ append_assoc t (e ∷ []) k.done

    count : label ≡ length (carries_in k.done)
    count = k.count ∙ sym (length_carries k.done)

    behind : NewsDiffer (carries_in (e ∷ k.done))
    behind = differ_behind (carries_in t) (carries_in (e ∷ k.done)) (rw (all, carries_behind t (e ∷ k.done)) at d)
