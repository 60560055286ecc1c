use Rattle.std.proofs.Common.{rules, [], ◌∷◌, ◌≡◌, ℕ, ◌<◌, ap, sym, subst, ◌∙◌, arith}
use Rattle.dc_pool.specs.Drawing.{past_count, weight}
use Rattle.dc_pool.proofs.Sums.{weight-append}
use Rattle.dc_pool.proofs.Steps.{draws, drew_early, drew_late}
use Rattle.dc_pool.proofs.draws.Draws.step.Goals as goal

pub fetch_add-requires : goal.fetch_add-requires
fetch_add-requires c =
    let told = c.args.self.now.told in
    let small = c.args.self.now.small in
    let same : c.args.bundles ≡ c.args.self.now.table.shared.key.bundles = c.requires.mine.1 ∙ sym told.0 in
    (search rules, search rules, draws _ _ _ _ (omega arith) (subst (λ (n : ℕ). past_count n c.args.seat.now.me.0.drawn < c.args.seat.now.me.0.seats) same c.requires.room))

pub returns-clause-early : goal.returns-clause-early
returns-clause-early c = λ below. ap (λ m. past_count c.args.bundles m.0.drawn) c.fetch_add.ensures.2.0 ∙ drew_early c.args.bundles c.fetch_add.result c.args.seat.now.me.0.drawn below

pub returns-clause-late : goal.returns-clause-late
returns-clause-late c = λ past.
    let drawn = ap (λ m. past_count c.args.bundles m.0.drawn) c.fetch_add.ensures.2.0 in
    let last = drew_late c.args.bundles c.fetch_add.result c.args.seat.now.me.0.drawn past in
    omega arith

pub returns-clause-none : goal.returns-clause-none
returns-clause-none c = λ past h none.
    let drawn = ap (λ m. weight h m.0.drawn) c.fetch_add.ensures.2.0 in
    let last : h c.fetch_add.result ≡ 0 = none c.fetch_add.result past in
    let more = weight-append h c.args.seat.now.me.0.drawn (c.fetch_add.result ∷ []) in
    omega arith
