use Rattle.std.proofs.Common.{rules, ◌≡◌, ℕ, ◌<◌, ap, sym, ◌∙◌, arith, true, false, subst}
use Rattle.dc_pool.specs.Drawing.{past_count}
use Rattle.dc_pool.proofs.Steps.{joins, joined_room, joined_over}
use Rattle.dc_pool.proofs.draws.Draws.put_together.Goals as goal

pub join_seat-requires : goal.join_seat-requires
join_seat-requires c = (search rules, search rules, search rules, search rules, joins _ _ _ _ _)

pub invariant_of-drawer-clause-room : goal.invariant_of-drawer-clause-room
invariant_of-drawer-clause-room c = λ e.
    let n = c.args.drawer.now.bundles in
    let same : c.args.other.bundles ≡ n = c.requires.theirs.1 ∙ sym c.requires.mine.1 in
    let g = subst (λ (n : ℕ). c.args.other.ended ≡ false → past_count n c.args.other.seat.me.0.drawn < c.args.other.seat.me.0.seats) same c.args.other.room in
    let both = joined_room n c.args.drawer.now.ended c.args.other.ended c.args.drawer.now.seat.me.0 c.args.other.seat.me.0 c.args.drawer.now.room g (sym c.any-drawer.ensures ∙ e) in
    let drawn = ap (λ m. past_count n m.0.drawn) c.join_seat.ensures.2 in
    let seats = ap (λ m. m.0.seats) c.join_seat.ensures.2 in
    omega arith

pub invariant_of-drawer-clause-over : goal.invariant_of-drawer-clause-over
invariant_of-drawer-clause-over c = λ e.
    let n = c.args.drawer.now.bundles in
    let same : c.args.other.bundles ≡ n = c.requires.theirs.1 ∙ sym c.requires.mine.1 in
    let g = subst (λ (n : ℕ). c.args.other.ended ≡ true → 0 < past_count n c.args.other.seat.me.0.drawn) same c.args.other.over in
    let both = joined_over n c.args.drawer.now.ended c.args.other.ended c.args.drawer.now.seat.me.0 c.args.other.seat.me.0 c.args.drawer.now.over g (sym c.any-drawer.ensures ∙ e) in
    let drawn = ap (λ m. past_count n m.0.drawn) c.join_seat.ensures.2 in
    omega arith
