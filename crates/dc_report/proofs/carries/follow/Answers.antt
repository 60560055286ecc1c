-- The old path that carries a front of the path is replaced, and what follows it stays.
use Rattle.std.proofs.Common.{◌≡◌, ◌++◌, Some, Option, sym, ◌∙◌, ap, subst, append_assoc}
use Rattle.dc_path.specs.Paths.{Names, cut}
use Rattle.dc_path.specs.Reading.{followed_by}
use Rattle.dc_path.specs.Unless.{GivesUnless}
use Rattle.dc_path.specs.declared.path.PathError.TheVariants.{Memory}
use Rattle.dc_path.proofs.PathLemmas.{cut-append}
use Rattle.dc_report.specs.Carries.{carries_in, found}
use Rattle.dc_report.specs.Carrying.{limited}
use Rattle.dc_report.proofs.Carriers.{goes_by, goes_on}
use Rattle.dc_report.proofs.carries.follow.Goals as goal

pub returns : goal.returns
returns c = λ rest e.
    let cs = carries_in c.args.carries.now.entries in
    let hit = sym (sym (ap found c.in-Some.is) ∙ c.in_ok-old.ensures) ∙ ap (λ (o : Option Names). Some (c.in-Some.old, o)) c.in-Some-new.is in
    let k = goes_by cs c.args.front.now c.in-Some.old (Some c.in-Some-new.new) hit in
    let path : c.args.path.now ≡ c.in-Some.old ++ (k.rest ++ rest) = e ∙ ap (λ (u : Names). u ++ rest) k.path ∙ append_assoc c.in-Some.old k.rest rest in
    let tail : cut c.in-Some.old c.args.path.now ≡ Some (k.rest ++ rest) = ap (cut c.in-Some.old) path ∙ cut-append c.in-Some.old (k.rest ++ rest) in
    subst (GivesUnless Memory c.graft.result)
    (ap (followed_by c.in-Some-new.new) tail ∙ sym (ap limited (goes_on cs c.args.front.now c.in-Some.old rest (Some c.in-Some-new.new) k)))
    c.graft.ensures
