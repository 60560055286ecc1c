-- What a run knows before it changes the target, where both stores tell their trees.
use Rattle.std.proofs.Common.{◌≡◌, ◌↔◌, true, false, List, [], ◌++◌, map, Option, Some, None, IfSome, refl, sym, ◌∙◌, subst}
use Rattle.std.specs.List.{All, list_all}
use Rattle.dc_path.specs.Found.{has_path}
use Rattle.dc_path.specs.Order.{is_ascending}
use Rattle.dc_path.specs.Paths.{Names}
use Rattle.dc_attrs.specs.Trees.{Tree, IsTree, IsThere}
use Rattle.dc_fs.specs.Views.{BothTell, BothTrees}
use Rattle.dc_options.specs.Settings.{Settings}
use Rattle.dc_listing.specs.Entries.{Entry, rel_of}
use Rattle.dc_listing.specs.Walking.{is_below}
use Rattle.dc_decide.specs.Plans.{Decisions}
use Rattle.dc_missing.specs.Missing.{Goes, are_apart, covers, is_place, leads_below}
use Rattle.dc_plan.specs.Planning.{IsDecidedOn, IsOutByClash, item_of}
use Rattle.dc_result.specs.Jobs.{Job}
use Rattle.dc_engine.specs.Begun.{AreToGo, IsPlanFor, IsReady, job_of}
use Rattle.dc_engine.specs.Surveys.{IsSurveyed}
use Rattle.dc_engine.specs.Targets.{base_of}
use Rattle.dc_engine.proofs.BegunLemmas.{plans_are_ready}
use Rattle.dc_engine.proofs.PlanLemmas.{decisions_are_plans}

-- by what is answered of the plan under a base
pub planned_told : (source target : Option Tree) (o : Settings) (entries : List Entry) (plan : Decisions) (base : Names) → base ≡ base_of o → plan.base ≡ base → map item_of plan.items ≡ entries
    → is_ascending (map rel_of entries) ≡ true → IfSome target (λ t. All (IsOutByClash t base) plan.items) → BothTell source target (λ s t. All (IsDecidedOn o base s t) plan.items)
    → BothTrees source target (λ s t. IsPlanFor o s t entries plan)
planned_told None target o entries plan base given under items ascending out decides = tt
planned_told (Some s) None o entries plan base given under items ascending out decides = λ v. tt
planned_told (Some s) (Some t) o entries plan base given under items ascending out decides = λ v w. decisions_are_plans o s t entries plan (under ∙ given) items ascending
    (subst (λ (b : Names). All (IsOutByClash t b) plan.items) (sym under) out)
    (subst (λ (b : Names). All (IsDecidedOn o b s t) plan.items) (sym under) decides)

-- what follows of two trees follows of two that are told
pub told_so : (source target : Option Tree) (P Q : Tree → Tree → Type 0) → ((s t : Tree) → P s t → Q s t) → BothTrees source target P → BothTrees source target Q
told_so None target P Q f h = tt
told_so (Some s) None P Q f h = λ v. tt
told_so (Some s) (Some t) P Q f h = λ v w. f s t (h v w)

-- with -delete by what is answered of the paths
pub missing_told : (source target : Option Tree) (o : Settings) (plan : Decisions) (paths : List Names) → o.delete ≡ true → is_ascending paths ≡ true → are_apart paths ≡ true → list_all (leads_below plan.base) paths ≡ true
    → IfSome target (λ t. IsTree t → (p : Names) → has_path paths p ≡ true → IsThere t p)
    → IfSome target (λ t. IsTree t → (q : Names) → is_below q ≡ true → IsThere t (plan.base ++ q) → (covers paths (plan.base ++ q) ≡ true) ↔ Goes t (is_place plan) plan.base q)
    → BothTrees source target (λ s t. AreToGo o t plan paths)
missing_told None target o plan paths delete ascending apart below stand goes = tt
missing_told (Some s) None o plan paths delete ascending apart below stand goes = λ v. tt
missing_told (Some s) (Some t) o plan paths delete ascending apart below stand goes = λ v w. record {
  missing = λ _. record { ascending = ascending; apart = apart; below = below; stand = stand w; goes = goes w };
  none = λ e. let f : true ≡ false = sym delete ∙ e in absurd (cc);
}

-- and without it there are none
pub none_told : (source target : Option Tree) (o : Settings) (plan : Decisions) → o.delete ≡ false → BothTrees source target (λ s t. AreToGo o t plan [])
none_told None target o plan delete = tt
none_told (Some s) None o plan delete = λ v. tt
none_told (Some s) (Some t) o plan delete = λ v w. record { missing = λ e. let f : false ≡ true = sym delete ∙ e in absurd (cc); none = λ _. refl }

pub ready_told : (source target : Option Tree) (o : Settings) (entries : List Entry) (plan : Decisions) (paths : List Names) → BothTrees source target (λ s t. IsSurveyed o s t entries)
    → BothTrees source target (λ s t. IsPlanFor o s t entries plan) → BothTrees source target (λ s t. AreToGo o t plan paths) → BothTrees source target (λ s t. (job : Job) × IsReady o s t plan paths job)
ready_told None target o entries plan paths survey p go = tt
ready_told (Some s) None o entries plan paths survey p go = λ v. tt
ready_told (Some s) (Some t) o entries plan paths survey p go = λ v w.
    let found = survey v w in
    (job_of o s t found.asked plan, plans_are_ready o s t entries plan paths v w found (p v w) (go v w))
