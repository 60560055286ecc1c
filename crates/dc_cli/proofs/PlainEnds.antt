-- How a plain copy between stores that never fail ends: it commits, or memory runs out.
use Rattle.std.proofs.Common.{◌≡◌, ◌⊎◌, inl, inr, Bool, true, false, List, ℕ, Result, Ok, IfOk, refl, subst}
use Rattle.std.specs.Option.{is_some}
use Rattle.dc_path.specs.Paths.{Names}
use Rattle.dc_attrs.specs.Trees.{Tree, bare}
use Rattle.dc_fs.specs.Views.{View}
use Rattle.dc_options.specs.Reading.{options}
use Rattle.dc_options.specs.Settings.{Settings}
use Rattle.dc_options.specs.declared.errors.OptionError.{OptionError}
use Rattle.dc_engine.specs.Finishing.{ShowsEnd}
use Rattle.dc_engine.specs.Outcomes.{is_big_pattern}
use Rattle.dc_engine.specs.Running.{commits}
use Rattle.dc_engine.specs.declared.outcome.Outcome.{Outcome}
use Rattle.dc_engine.specs.declared.outcome.Outcome.TheVariants as outcome
use Rattle.dc_plain.specs.Laws.{NothingRefuses}
use Rattle.dc_plain.specs.Plain.{IsListable, IsPlain, plain}
use Rattle.dc_cli.specs.Verdict.{DecidesRun, Settles, SettlesBy, is_verdict}
use Rattle.dc_cli.proofs.TopLemmas.{or_else}

abbrev Ends : Outcome → Type 0
Ends e = (e ≡ outcome.Committed) ⊎ (e ≡ outcome.Memory)

decided : (s : Tree) (source target : Names) (e : Outcome) (a b c d : View) → NothingRefuses → IsPlain s source target → IsListable s source target →
    ShowsEnd (plain source target) e a b c d → is_verdict e ≡ true → DecidesRun (plain source target) s bare e → (so : Bool) → commits e ≡ so → Ends e
decided s source target e a b c d law is within shows v by true q = inl (shows.allowed refl q)
decided s source target e a b c d law is within shows v by false q = absurd (law s source target e is within (by.refused q) (or_else (commits e) _ v q))

no_filters : false ≡ true → ⊥
no_filters h = cc

pub plain_ends : (s : Tree) (source target : Names) (words : List (List ℕ)) (e : Outcome) (a b c d : View) → NothingRefuses → options words ≡ Ok (plain source target) → IsPlain s source target → IsListable s source target →
    IfOk (options words) (λ o. ShowsEnd o e a b c d) → (is_big_pattern e ≡ true → IfOk (options words) (λ o. is_some o.filters ≡ true)) → Settles words s bare e → Ends e
plain_ends s source target words e a b c d law asked is within shows big settles = by (subst (λ (r : Result Settings OptionError). SettlesBy r s bare e) asked settles)
  where
    by : SettlesBy (Ok (plain source target)) s bare e → Ends e
    by (inl p) = decided s source target e a b c d law is within (subst (λ (r : Result Settings OptionError). IfOk r (λ o. ShowsEnd o e a b c d)) asked shows) p.0 p.1 (commits e) refl
    by (inr (inl m)) = inr m
    by (inr (inr h)) = absurd (no_filters (subst (λ (r : Result Settings OptionError). IfOk r (λ o. is_some o.filters ≡ true)) asked (big h)))
