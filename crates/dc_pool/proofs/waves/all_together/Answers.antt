use Rattle.std.proofs.Common.{rules, arith, Some}
use Rattle.std.proofs.lemmas.List.Elements.{All-pop}
use Rattle.dc_pool.specs.Waves.{IsSeated}
use Rattle.dc_pool.proofs.Numbers.{first_seat, seats_taken, first_drawn, drawn_taken, endings_taken, any_ended}
use Rattle.dc_pool.proofs.waves.all_together.Goals as goal

pub loop-other-init : goal.loop-other-init
loop-other-init c =
    let e = c.in-Some.ensures.items in
    let p = All-pop (IsSeated c.args.draws.now.table.shared.table_id c.args.draws.now.bundles) _ _ _ c.pop.ensures.items c.requires.own in
    let q = All-pop (IsSeated c.args.draws.now.table.shared.table_id c.args.draws.now.bundles) _ _ (Some c.in-Some.all) e c.requires.own in
    record {
      own = (q.1.0, q.1.1);
      seats = first_seat _ _ _ e q.1.2;
      rest = p.0;
      drawn = λ h. first_drawn h _ _ _ e;
      ended = λ h. let t = endings_taken _ _ c.in-Some.all e in omega arith;
    }

pub loop-other-preserved : goal.loop-other-preserved
loop-other-preserved c =
    let e = c.in-Some-pop.ensures.items in
    let i = c.loop-other.invariant in
    let q = All-pop (IsSeated c.args.draws.now.table.shared.table_id c.args.draws.now.bundles) _ _ (Some c.in-Some-pop.other) e i.rest in
    record {
      own = search rules;
      seats = seats_taken _ _ c.in-Some-pop.other c.loop-other.all.seat.me.0.seats _ _ e c.put_together.ensures.seats q.1.2 i.seats;
      rest = q.0;
      drawn = λ h. drawn_taken h _ _ c.in-Some-pop.other c.loop-other.all.seat.me.0.drawn _ _ e c.put_together.ensures.drawn (i.drawn h);
      ended = λ h. let t = endings_taken _ _ c.in-Some-pop.other e in let b = i.ended h in any_ended c.loop-other.all.ended c.in-Some-pop.other.ended _ _ c.put_together.ensures.over (omega arith);
    }
