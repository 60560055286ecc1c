-- The names behind the old path follow the new one.
use Rattle.std.proofs.Common.{rules, ◌≡◌, ◌++◌, ◌-◌, ◌≤◌, Some, Option, length, take, drop, sym, ◌∙◌, ap, ap₂, subst}
use Rattle.dc_path.specs.Paths.{Names, cut}
use Rattle.dc_path.proofs.PathLemmas.{some_rest}
use Rattle.dc_report.specs.Carries.{carries_in, found}
use Rattle.dc_report.proofs.FittingLemmas.{old_short, put_together}
use Rattle.dc_report.proofs.unlimited.follow_names.Goals as goal

pub slice_bounds-add_names-count : goal.slice_bounds-add_names-count
slice_bounds-add_names-count c =
    let hit = sym (sym (ap found c.in-Some.is) ∙ c.in_ok-old.ensures) ∙ ap (λ (o : Option Names). Some (c.in-Some.old, o)) c.in-Some-new.is in
    let r = some_rest (cut c.args.front.now c.args.names.now) c.requires in
    let short = old_short (carries_in c.args.carries.now.entries) c.args.front.now c.in-Some.old c.args.names.now r.0 (Some c.in-Some-new.new) hit r.1 in
    subst (λ n. n ≤ length c.args.names.now) (sym c.len.ensures.count) short

pub slice_bounds-add_names-start : goal.slice_bounds-add_names-start
slice_bounds-add_names-start c =
    let hit = sym (sym (ap found c.in-Some.is) ∙ c.in_ok-old.ensures) ∙ ap (λ (o : Option Names). Some (c.in-Some.old, o)) c.in-Some-new.is in
    let r = some_rest (cut c.args.front.now c.args.names.now) c.requires in
    let short = old_short (carries_in c.args.carries.now.entries) c.args.front.now c.in-Some.old c.args.names.now r.0 (Some c.in-Some-new.new) hit r.1 in
    let bound : c.len.result ≤ length c.args.names.now = subst (λ n. n ≤ length c.args.names.now) (sym c.len.ensures.count) short in
    search rules

pub returns : goal.returns
returns c = λ rest e.
    let hit = sym (sym (ap found c.in-Some.is) ∙ c.in_ok-old.ensures) ∙ ap (λ (o : Option Names). Some (c.in-Some.old, o)) c.in-Some-new.is in
    let new : c.add_names-2.new.to ≡ c.in-Some-new.new = c.in_ok-add_names-2.ensures ∙ ap₂ (λ (u v : Names). u ++ v) c.new-to.ensures c.names.ensures in
    let to : c.add_names-3.new.to ≡ c.in-Some-new.new ++ take (length c.args.names.now - length c.in-Some.old) (drop (length c.in-Some.old) c.args.names.now) =
    c.in_ok-add_names-3.ensures ∙ ap₂ (λ (u : Names) n. u ++ take (length c.args.names.now - n) (drop n c.args.names.now)) new c.len.ensures.count in
    put_together (carries_in c.args.carries.now.entries) c.args.front.now c.in-Some.old rest c.args.names.now c.in-Some-new.new c.add_names-3.new.to hit e to
