use Rattle.std.proofs.Common.{sym, ap, subst, length, ◌<◌}
use Rattle.dc_decide.specs.Plans.{Decisions}
use Rattle.dc_decide.proofs.PlanLemmas.{written_is, written_plan}
use Rattle.dc_decide.proofs.plan.Plan.leave_out.Goals as goal

pub invariant_of-self : goal.invariant_of-self
invariant_of-self c =
    written_plan c.self.inside.base c.args.place c.self.inside.items c.as_mut_slice-items.result.now c.index-items-place.result c.leave_out.new.self
    c.as_mut_slice-items.ensures.value c.leave_out.ensures (subst (λ (p : Decisions). c.args.place < length p.items) (sym c.self.view_is) c.requires) c.self.invariant

pub returns-clause-items : goal.returns-clause-items
returns-clause-items c =
    written_is c.args.place c.self.inside.items c.as_mut_slice-items.result.now c.index-items-place.result c.leave_out.new.self
    c.as_mut_slice-items.ensures.value c.leave_out.ensures c.args.self.now (ap (λ (p : Decisions). p.items) c.self.view_is) c.requires
