use Rattle.std.proofs.Common.{sym, ap, subst, ℕ, List, Option}
use Rattle.std.specs.Option.{option_copied}
use Rattle.dc_tree.specs.Arena.{find}
use Rattle.dc_tree.specs.Walking.{comes_after, IsFirst, NoneLeads}
use Rattle.dc_tree.proofs.Nexts.{first_in_range, none_in_range, first_of_all}
use Rattle.dc_tree.proofs.same.next_name.Goals as goal

pub returns-in-Some-next : goal.returns-in-Some-next
returns-in-Some-next c =
    subst (λ (o : Option (List ℕ)). IsFirst (λ x. find x c.args.children.now.entries) (comes_after o) c.in-Some-next.name.now) (sym (ap option_copied c.in-Some.is))
    (first_in_range c.args.children.now c.in-Some.after.now c.in-Some-next.name.now c.in-Some-next._child.now c.range.result _ (c.range.ensures.in_range tt) c.in-Some-next.ensures.steps)

pub returns-in-None-next : goal.returns-in-None-next
returns-in-None-next c =
    subst (λ (o : Option (List ℕ)). NoneLeads (λ x. find x c.args.children.now.entries) (comes_after o)) (sym (ap option_copied c.in-Some.is))
    (none_in_range c.args.children.now c.in-Some.after.now c.range.result (c.range.ensures.in_range tt) c.in-None-next.ensures.steps.0)

pub returns-in-Some-first_key_value : goal.returns-in-Some-first_key_value
returns-in-Some-first_key_value c =
    subst (λ (o : Option (List ℕ)). IsFirst (λ x. find x c.args.children.now.entries) (comes_after o) c.in-Some-first_key_value.name.now) (sym (ap option_copied c.in-None.is))
    (first_of_all c.args.children.now c.in-Some-first_key_value.name.now c.in-Some-first_key_value._child.now c.in-Some-first_key_value.ensures.value c.in-Some-first_key_value.ensures.least)
