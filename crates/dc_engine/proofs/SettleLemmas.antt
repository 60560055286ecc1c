-- What the parts of a settling find is what it finds, and why they refuse is why it refuses.
use Rattle.std.proofs.Common.{◌≡◌, inl, inr, false, ◌<◌, ◌++◌, List, Option, Some, None, IfSome, IfOk, IfErr, All, Result, Ok, Err, length, refl, sym, ap, ◌∙◌, subst}
use Rattle.std.proofs.lemmas.List.Elements.{All-contains}
use Rattle.std.specs.List.{list_any}
use Rattle.dc_path.specs.Paths.{Names}
use Rattle.dc_attrs.specs.Trees.{Tree, IsTree}
use Rattle.dc_options.specs.Settings.{Settings}
use Rattle.dc_listing.specs.Entries.{Entry}
use Rattle.dc_listing.specs.Walks.{IsShown}
use Rattle.dc_decide.specs.Looking.{IsDenied}
use Rattle.dc_decide.specs.Plans.{Decisions}
use Rattle.dc_pieces.specs.Cutting.{plan_pieces}
use Rattle.dc_pieces.specs.Pieces.{most_pieces}
use Rattle.dc_pieces.specs.declared.cutting.PieceError.{PieceError}
use Rattle.dc_pieces.specs.declared.cutting.PieceError.TheVariants as piece_error
use Rattle.dc_plan.proofs.PlanningLemmas.{none_clash}
use Rattle.dc_plan.specs.Planning.{clashes_in, IfClash, IfChanged, IsFirstClash, IsDeniedAmong, IsOutByClash}
use Rattle.dc_plan.specs.declared.planning.PlanError.{PlanError}
use Rattle.dc_plan.specs.declared.planning.PlanError.TheVariants as plan_error
use Rattle.dc_missing.specs.Finding.{IfTree}
use Rattle.dc_engine.specs.Settling.{outcome_of_plan, outcome_of_piece, IsPlanned, IsFree, HasWalked, MayDeny, IsCarriedOn, IsHeldUp, IsSettled, IsUnsettled}
use Rattle.dc_engine.specs.declared.outcome.Outcome.{Outcome}
use Rattle.dc_engine.specs.declared.settling.Settled.{Settled}

-- ---- from a plan on
pub uncut : (o : Settings) (target : Option Tree) (plan : Decisions) (why : PieceError) → HasWalked o target plan.base → (why ≡ piece_error.TooMany → most_pieces < length (plan_pieces o.blocks plan)) → IsHeldUp o target plan (outcome_of_piece why)
uncut o target plan piece_error.TooMany w h = record {
  kind = refl;
  source = refl;
  phase = λ f. absurd (cc);
  changed = λ f. absurd (cc);
  too_long = tt;
  refused = λ _. inr (record { named = refl; walked = w; many = h refl });
}
uncut o target plan piece_error.Memory w h = record {
  kind = refl;
  source = refl;
  phase = λ f. absurd (cc);
  changed = λ f. absurd (cc);
  too_long = tt;
  refused = λ f. absurd (cc);
}

-- ---- what is denied
shown_denied : (s t : Tree) (item : Entry) (place path : Names) → IsDenied (Some s) (Some t) item place path → IsTree s → IsShown s item → ⊥
shown_denied s t item place path (inl h) v shown = h.1 v shown
shown_denied s t item place path (inr h) v shown = cc

may_deny : (source target : Option Tree) (base : Names) (items : List Entry) (path : Names) → IsDeniedAmong source target base items path → MayDeny items source target
may_deny None target base items path d = tt
may_deny (Some s) None base items path d = λ v. tt
may_deny (Some s) (Some t) base items path d = λ v w all. shown_denied s t d.item (base ++ d.item.rel) path d.denied v (All-contains (IsShown s) items d.item all d.listed)

untold_denies : (source target : Option Tree) (items : List Entry) → IfTree target (λ t. ⊥) → MayDeny items source target
untold_denies None target items h = tt
untold_denies (Some s) None items h = λ v. tt
untold_denies (Some s) (Some t) items h = λ v w all. h w

-- ---- the whole
module _ (o : Settings) (base : Names) (items : List Entry) (source target : Option Tree) where
  pub unplanned : (why : PlanError) → IfClash why (λ rel. o.ignore ≡ false) → IfClash why (λ rel. IfSome target (λ t. IsFirstClash t base items rel))
      → IfChanged why (IsDeniedAmong source target base items) → IsUnsettled o base items source target (outcome_of_plan why)
  unplanned (plan_error.Clash rel) a b d = record {
    kind = refl;
    phase = λ f. absurd (cc);
    changed = λ f. absurd (cc);
    too_long = tt;
    refused = λ _. inl (record { rel = rel; named = refl; kept = a; first = b });
  }
  unplanned plan_error.SourceFault a b d = record { kind = refl; phase = λ f. absurd (cc); changed = λ f. absurd (cc); too_long = tt; refused = λ f. absurd (cc) }
  unplanned plan_error.TargetFault a b d = record { kind = refl; phase = λ _. refl; changed = λ f. absurd (cc); too_long = tt; refused = λ f. absurd (cc) }
  unplanned (plan_error.Changed path) a b d = record { kind = refl; phase = λ f. absurd (cc); changed = λ _. may_deny source target base items path d; too_long = tt; refused = λ f. absurd (cc) }
  unplanned plan_error.Memory a b d = record { kind = refl; phase = λ f. absurd (cc); changed = λ f. absurd (cc); too_long = tt; refused = λ f. absurd (cc) }

  -- where there is a plan, nothing clashes that the copy may not go on without
  free_by : (plan : Decisions) → IsPlanned o base items source target plan → (told : Option Tree) → IfSome told (λ t. All (IsOutByClash t base) plan.items) → IfSome told (IsFree o base items)
  free_by plan p None h = tt
  free_by plan p (Some t) h = λ i. ap (list_any (clashes_in t base)) (sym p.entries) ∙ none_clash o t base plan.items i p.asked h

  pub settled_by : (plan : Decisions) (r : Result Settled Outcome) → IsPlanned o base items source target plan → IfOk r (IsCarriedOn o target plan) → IfOk r (IsSettled o base items source target)
  settled_by plan (Ok settled) p h = record { plan = subst (IsPlanned o base items source target) (sym h.same) p; deletes = h.deletes; walked = h.walked; pieces = h.pieces; few = h.few }
  settled_by plan (Err e) p h = tt

  pub unsettled_by : (plan : Decisions) (r : Result Settled Outcome) → IsPlanned o base items source target plan → IfErr r (IsHeldUp o target plan) → IfErr r (IsUnsettled o base items source target)
  unsettled_by plan (Ok settled) p h = tt
  unsettled_by plan (Err e) p h = record {
    kind = h.kind;
    phase = h.phase;
    changed = λ f. untold_denies source target items (h.changed f);
    too_long = h.too_long;
    refused = λ f. inr (record { plan = plan; planned = p; free = free_by plan p target p.out; ends = h.refused f });
  }
