-- The path goes to its place among the old paths.
use Rattle.std.proofs.Common.{◌≡◌, ◌||◌, ◌∙◌, None, Option, ap, sym}
use Rattle.std.specs.BTreeMap.{get}
use Rattle.std.specs.Map.{lookup}
use Rattle.std.specs.Ordering.{is_eq}
use Rattle.dc_path.specs.Paths.{Names, path_cmp, same_path}
use Rattle.dc_report.specs.Carries.{carries_in, carry_to}
use Rattle.dc_report.specs.Carrying.{insert_by, old_lt}
use Rattle.dc_report.proofs.CarriesOf.{entry_more}
use Rattle.dc_report.proofs.KnownLemmas.{entered_key, has_old}
use Rattle.dc_report.proofs.known.carry.Goals as goal

pub returns-in-Ok-Some-clause-enters : goal.returns-in-Ok-Some-clause-enters
returns-in-Ok-Some-clause-enters c = λ p.
    let old = c.args.carries.now in
    entered_key c.in_ok-from.from p c.in_ok-to.to (get path_cmp c.insert.new.self p) (get path_cmp old p) (c.in-Ok-Some.ensures.updates.0 p)
    ∙ ap (λ (q : Names). has_old old p || same_path p q) c.in_ok-from.ensures

pub returns-in-Ok-None-clause-enters : goal.returns-in-Ok-None-clause-enters
returns-in-Ok-None-clause-enters c = λ p.
    let old = c.args.carries.now in
    entered_key c.in_ok-from.from p c.in_ok-to.to (get path_cmp c.insert.new.self p) (get path_cmp old p) (c.in-Ok-None.ensures.updates.0 p)
    ∙ ap (λ (q : Names). has_old old p || same_path p q) c.in_ok-from.ensures

pub returns-in-Ok-None-clause-carries : goal.returns-in-Ok-None-clause-carries
returns-in-Ok-None-clause-carries c = λ _.
    let es = c.args.carries.now.entries in
    let absent : lookup (λ q. is_eq (path_cmp c.in_ok-from.from q)) es ≡ None = sym c.in-Ok-None.ensures.old ∙ c.in-Ok-None.field-0-is in
    ap carries_in c.in-Ok-None.ensures.entries ∙ entry_more es c.in_ok-from.from c.in_ok-to.to absent
    ∙ ap (λ (q : Names). insert_by old_lt (carry_to q c.in_ok-to.to) (carries_in es)) c.in_ok-from.ensures
    ∙ ap (λ (o : Option Names). insert_by old_lt (carry_to c.args.old.now o) (carries_in es)) c.in_ok-to.ensures
