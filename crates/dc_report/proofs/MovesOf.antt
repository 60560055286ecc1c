-- The moves of a report, put together.
use Rattle.std.proofs.Common.{◌≡◌, List, [], ◌∷◌, ◌++◌, None, refl, ◌∙◌, ap, ap₂, subst, append_assoc}
use Rattle.std.specs.BTreeSet.{contains}
use Rattle.std.specs.List.{filter_map, list_any}
use Rattle.dc_path.specs.Paths.{Names, IsPath, path_cmp, same_path}
use Rattle.dc_report.specs.Carrying.{Carry, Has, Place, carries_of, carry_of, items_of, new_gt, old_lt, place_of, plan, sort_by}
use Rattle.dc_report.specs.Landings.{NewsDiffer, landings_moves, landings_of}
use Rattle.dc_report.specs.Moves.{moves, stage_name, staging}
use Rattle.dc_report.specs.Told.{AreTold}
use Rattle.dc_report.specs.declared.entries.Entry.{Entry}
use Rattle.dc_report.specs.declared.entries.Entry.TheVariants.{Renamed}
use Rattle.dc_report.specs.declared.entries.Move.{Move}
use Rattle.dc_report.specs.declared.entries.Move.TheVariants.{Clear, Make}
use Rattle.dc_report.specs.declared.moves.Ground.{Ground}
use Rattle.dc_report.proofs.LandingLemmas.{item_from, items_sorted, renamed_in}
use Rattle.dc_report.proofs.Sorting.{sort_has}
use Rattle.dc_report.proofs.ToldApart.{told_entry}
use Rattle.dc_report.proofs.WalkLemmas.{IsGround, landing_known, landings_are}

-- the new paths of items are within the limits
item_within : (R : List Entry) (n : Place) → AreTold [] R → Has (sort_by new_gt (items_of (carries_of R))) n → IsPath n.new
item_within R n t h =
    let i = item_from (carries_of R) n (sort_has new_gt (items_of (carries_of R)) n h) in
    (told_entry [] R (Renamed i.0.old n.new) t (renamed_in R i.0 n.new (sort_has old_lt (filter_map carry_of R) i.0 i.1) i.2)).1.0.limits

module _ (R : List Entry) (g : Ground) (cs : List Carry) (told : AreTold [] R) (carries : cs ≡ carries_of R) (apart : NewsDiffer cs) (landings : g.landings.entries ≡ landings_of cs)
    (places : (q : Names) → IsPath q → contains path_cmp g.places q ≡ list_any (λ c. same_path c q) (filter_map (place_of cs) R)) where
  ground : IsGround g (plan R)
  ground = record {
    places = λ q is. places q is ∙ ap (λ (ds : List Carry). list_any (λ c. same_path c q) (filter_map (place_of ds) R)) carries;
    news = λ q. landing_known g (plan R).news q (landings ∙ ap landings_of carries);
  }

  -- the moves in their order
  pub moves_are : (((Make (stage_name ∷ []) ∷ []) ++ staging stage_name cs) ++ landings_moves stage_name g None g.landings.entries) ++ Clear (stage_name ∷ []) ∷ [] ≡ moves stage_name (plan R)
  moves_are =
      ap₂ (λ (ds : List Carry) (ms : List Move). (((Make (stage_name ∷ []) ∷ []) ++ staging stage_name ds) ++ ms) ++ Clear (stage_name ∷ []) ∷ []) carries
      (ap (landings_moves stage_name g None) (landings ∙ ap landings_of carries)
      ∙ landings_are stage_name g (plan R) (plan R).news ground (items_sorted (carries_of R) (subst NewsDiffer carries apart)) (λ n h. item_within R n told h))
      ∙ rw append_assoc refl
