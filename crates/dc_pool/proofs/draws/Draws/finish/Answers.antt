use Rattle.std.proofs.Common.{◌≡◌, ℕ, ◌<◌, ap, sym, ◌∙◌, subst, arith, List}
use mathlib.Core.Option.{some-injective}
use lib.ListN.{get_elem?}
use Rattle.dc_pool.specs.Drawing.{past_count, weight_below}
use Rattle.dc_pool.proofs.Steps.{learns}
use Rattle.dc_pool.proofs.draws.Draws.finish.Goals as goal

pub returns-clause-over : goal.returns-clause-over
returns-clause-over c =
    let last = c.close_with-closed.ensures.values.2 in
    let told = c.args.self.told in
    let l = learns _ _ _ last.0 last.1 (c.requires.all ∙ sym told.1) in
    let same : c.args.drawer.bundles ≡ c.args.self.table.shared.key.bundles = c.requires.together.1 ∙ sym told.0 in
    let read : l.0 ≡ c.word-next.result = some-injective _ _ (ap (λ (ws : List ℕ). get_elem? ws 0) (sym l.1 ∙ last.2) ∙ c.word-next.ensures) in
    λ over. let k = l.2 (subst (λ (n : ℕ). 0 < past_count n c.args.drawer.seat.me.0.drawn) same (c.args.drawer.over over)) in omega arith

pub returns-clause-once : goal.returns-clause-once
returns-clause-once c =
    let last = c.close_with-closed.ensures.values.2 in
    let told = c.args.self.told in
    let l = learns _ _ _ last.0 last.1 (c.requires.all ∙ sym told.1) in
    let read : l.0 ≡ c.word-next.result = some-injective _ _ (ap (λ (ws : List ℕ). get_elem? ws 0) (sym l.1 ∙ last.2) ∙ c.word-next.ensures) in
    λ h. l.3 h ∙ ap (weight_below h) read
