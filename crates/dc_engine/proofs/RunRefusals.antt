-- A run that is refused ends by its first refusal.
use Rattle.std.proofs.Common.{◌≡◌, ◌⊎◌, inl, inr, true, List, map, Option, Some, None, Err, subst}
use Rattle.dc_path.specs.Order.{is_ascending}
use Rattle.dc_path.specs.Paths.{Names}
use Rattle.dc_attrs.specs.Trees.{Tree}
use Rattle.dc_fs.specs.Views.{BothTrees}
use Rattle.dc_options.specs.Settings.{Settings}
use Rattle.dc_listing.specs.Entries.{Entry, rel_of}
use Rattle.dc_engine.specs.Outcomes.{is_decided}
use Rattle.dc_engine.specs.Running.{IsRefused}
use Rattle.dc_engine.specs.Settling.{EndsFirst}
use Rattle.dc_engine.specs.Surveys.{IsSurveyed, LacksListing, SurveyAnswers, before_listing}
use Rattle.dc_engine.specs.Targets.{base_of}
use Rattle.dc_engine.specs.declared.outcome.Outcome.{Outcome}
use Rattle.dc_engine.proofs.ToldPlans.{told_so}

-- before the listing, or of the listing
refused_at_first : (o : Settings) (s t : Tree) (e : Outcome) → (before_listing o s t ≡ Err e) ⊎ LacksListing o s t e → IsRefused o s t e
refused_at_first o s t e (inl h) = inl h
refused_at_first o s t e (inr h) = inr (inl h)

pub refused_first : (o : Settings) (s t : Tree) (e : Outcome) → SurveyAnswers o s t (Err e) → is_decided e ≡ true → IsRefused o s t e
refused_first o s t e answers decided = refused_at_first o s t e (answers decided)

-- or later, by what is listed
pub refused_later : (o : Settings) (s t : Tree) (entries : List Entry) (e : Outcome) → IsSurveyed o s t entries → is_ascending (map rel_of entries) ≡ true
    → EndsFirst o (base_of o) entries (Some s) (Some t) e → is_decided e ≡ true → IsRefused o s t e
refused_later o s t entries e survey ascending ends decided = inr (inr (record { entries = entries; surveyed = survey; ascending = ascending; ends = ends decided }))

-- ---- where both stores tell their trees
pub refused_first_told : (source target : Option Tree) (o : Settings) (e : Outcome) → BothTrees source target (λ s t. SurveyAnswers o s t (Err e)) → is_decided e ≡ true
    → BothTrees source target (λ s t. IsRefused o s t e)
refused_first_told source target o e answers decided =
    told_so source target (λ s t. SurveyAnswers o s t (Err e)) (λ s t. IsRefused o s t e) (λ s t h. refused_first o s t e h decided) answers

pub refused_later_told : (source target : Option Tree) (o : Settings) (base : Names) (entries : List Entry) (e : Outcome) → base ≡ base_of o → BothTrees source target (λ s t. IsSurveyed o s t entries)
    → is_ascending (map rel_of entries) ≡ true → EndsFirst o base entries source target e → is_decided e ≡ true → BothTrees source target (λ s t. IsRefused o s t e)
refused_later_told None target o base entries e given survey ascending ends decided = tt
refused_later_told (Some s) None o base entries e given survey ascending ends decided = λ v. tt
refused_later_told (Some s) (Some t) o base entries e given survey ascending ends decided = λ v w.
    refused_later o s t entries e (survey v w) ascending (subst (λ (b : Names). EndsFirst o b entries (Some s) (Some t) e) given ends) decided
