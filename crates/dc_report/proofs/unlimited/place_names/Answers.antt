-- What is created goes to where its parent goes.
use Rattle.std.proofs.Common.{◌≡◌, IfOk, [], ◌∷◌, ◌++◌, Option, sym, ◌∙◌, subst}
use Rattle.dc_path.specs.Paths.{Names}
use Rattle.dc_path.proofs.PathLemmas.{ended_by}
use Rattle.dc_report.specs.Carries.{carries_in}
use Rattle.dc_report.specs.Carrying.{moved, place, then_rest}
use Rattle.dc_report.proofs.Carriers.{place_ended}
use Rattle.dc_report.proofs.FittingLemmas.{under_front}
use Rattle.dc_report.proofs.unlimited.place_names.Goals as goal

pub follow_names-requires : goal.follow_names-requires
follow_names-requires c =
    let k = ended_by c.args.created.now c.in-Some.parent (sym c.in_ok-parent.ensures ∙ c.in-Some.is) in
    let path = subst (λ (f : Names). c.args.created.now ≡ f ++ k.0.name ∷ []) k.1 k.0.path in
    under_front c.in-Some.parent (k.0.name ∷ []) c.names.result.now (c.names.ensures ∙ path)

pub returns-in-Some : goal.returns-in-Some
returns-in-Some c =
    let cs = carries_in c.args.carries.now.entries in
    let k = ended_by c.args.created.now c.in-Some.parent (sym c.in_ok-parent.ensures ∙ c.in-Some.is) in
    let to = subst (λ (f : Names). then_rest (moved cs f) (k.0.name ∷ []) ≡ place cs c.args.created.now) k.1 (place_ended cs c.args.created.now k.0) in
    let path = subst (λ (f : Names). c.args.created.now ≡ f ++ k.0.name ∷ []) k.1 k.0.path in
    subst (λ (v : Option Names). IfOk c.follow_names.result (λ to. to ≡ v)) to (c.follow_names.ensures (k.0.name ∷ []) (c.names.ensures ∙ path))
