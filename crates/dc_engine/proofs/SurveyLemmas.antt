-- A survey is what options and trees decide.
use Rattle.std.proofs.Common.{◌≡◌, inr, Bool, false, if◌then◌else◌, List, [], Option, Some, None, IfSome, Result, Ok, Err, refl, ap, ◌∙◌}
use Rattle.dc_attrs.specs.Trees.{Tree, IsTree}
use Rattle.dc_fs.specs.Views.{BothTell, BothTrees}
use Rattle.dc_options.specs.Settings.{Settings}
use Rattle.dc_listing.specs.Entries.{Entry}
use Rattle.dc_listing.specs.Listed.{rules_of}
use Rattle.dc_listing.specs.Listing.{ListsAll, ListsNot}
use Rattle.dc_listing.specs.Roots.{and_then}
use Rattle.dc_listing.specs.declared.item.ListError.{ListError}
use Rattle.dc_engine.specs.Inputs.{Held, inputs_in}
use Rattle.dc_engine.specs.Refusals.{refused_as}
use Rattle.dc_engine.specs.Surveys.{outcome_of_input, outcome_of_list, asks_report, asked_of, placed_in, before_listing, IsSurveyed, SurveyAnswers}
use Rattle.dc_engine.specs.declared.inputs.InputError.{InputError}
use Rattle.dc_engine.specs.declared.outcome.Outcome.{Outcome}
use Rattle.dc_engine.specs.declared.outcome.Outcome.TheVariants as outcome
use Rattle.dc_engine.specs.declared.surveying.Placed.{Placed}

-- where nothing is refused, what is to be listed is what the files hold and where the sources are put
allowed : (o : Settings) (s t : Tree) (held : Held) (placed : Placed) → asks_report o.sync ≡ false → inputs_in o s ≡ Ok held → placed_in o s t held.sources ≡ Ok placed → before_listing o s t ≡ Ok (asked_of held placed)
allowed o s t held placed plain h k =
    ap (λ (b : Bool). if b then Err outcome.Unbuilt else and_then (refused_as outcome_of_input (inputs_in o s)) (λ given. and_then (placed_in o s t given.sources) (λ put. Ok (asked_of given put)))) plain
    ∙ ap (λ (z : Result Held InputError). and_then (refused_as outcome_of_input z) (λ given. and_then (placed_in o s t given.sources) (λ put. Ok (asked_of given put)))) h
    ∙ ap (λ (z : Result Placed Outcome). and_then z (λ put. Ok (asked_of held put))) k

module _ (source target : Option Tree) (o : Settings) (held : Held) (placed : Placed) (plain : asks_report o.sync ≡ false) where
  pub surveyed_told : (entries : List Entry) → IfSome source (λ s. inputs_in o s ≡ Ok held) → BothTell source target (λ s t. placed_in o s t held.sources ≡ Ok placed)
      → IfSome source (λ s. IsTree s → ListsAll (rules_of held.lines []) s placed.roots placed.base entries) → BothTrees source target (λ s t. IsSurveyed o s t entries)
  surveyed_told entries h k l = all source target h k l
    where
      all : (a b : Option Tree) → IfSome a (λ s. inputs_in o s ≡ Ok held) → BothTell a b (λ s t. placed_in o s t held.sources ≡ Ok placed)
          → IfSome a (λ s. IsTree s → ListsAll (rules_of held.lines []) s placed.roots placed.base entries) → BothTrees a b (λ s t. IsSurveyed o s t entries)
      all None b x y z = tt
      all (Some s) None x y z = λ v. tt
      all (Some s) (Some t) x y z = λ v w. record { asked = asked_of held placed; allowed = allowed o s t held placed plain x y; lists = z v }

  pub unlisted_told : (why : ListError) → IfSome source (λ s. inputs_in o s ≡ Ok held) → BothTell source target (λ s t. placed_in o s t held.sources ≡ Ok placed)
      → IfSome source (λ s. IsTree s → ListsNot why (rules_of held.lines []) s placed.roots placed.base) → BothTrees source target (λ s t. SurveyAnswers o s t (Err (outcome_of_list why)))
  unlisted_told why h k l = all source target h k l
    where
      all : (a b : Option Tree) → IfSome a (λ s. inputs_in o s ≡ Ok held) → BothTell a b (λ s t. placed_in o s t held.sources ≡ Ok placed)
          → IfSome a (λ s. IsTree s → ListsNot why (rules_of held.lines []) s placed.roots placed.base) → BothTrees a b (λ s t. SurveyAnswers o s t (Err (outcome_of_list why)))
      all None b x y z = tt
      all (Some s) None x y z = λ v. tt
      all (Some s) (Some t) x y z = λ v w _. inr (record { asked = asked_of held placed; allowed = allowed o s t held placed plain x y; why = why; named = refl; lacks = z v })
