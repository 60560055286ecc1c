-- One number more: the item of its piece is left out, if it is a piece's.
use Rattle.std.proofs.Common.{◌≡◌, ◌∙◌, ◌++◌, ◌∷◌, [], ◌+◌, ℕ, List, Some, None, arith, ap, sym, subst, take, get_or, rules, length, slice_get}
use Rattle.std.proofs.lemmas.List.{take_more}
use Rattle.dc_decide.specs.Plans.{Decision, left_out_at}
use Rattle.dc_join.specs.Leaving.{AreLeftOut}
use Rattle.dc_join.proofs.LeavingLemmas.{as_many, one_left, no_more_left}
use Rattle.dc_join.proofs.leaving.leave_out_given_up.Goals as goal
use Rattle.dc_join.proofs.leaving.leave_out_given_up.Goals.{in-Some, in_default}

pub loop-number-preserved : goal.loop-number-preserved
loop-number-preserved c =
    let pieces = c.args.pieces.now in
    let given = c.args.given_up.now in
    let i = c.loop-number.number-index in
    let old = c.args.plan.now.items in
    let h = c.loop-number.invariant in
    let number : ℕ = get_or given i 0 in
    let read : c.get.result ≡ slice_get pieces number = c.get.ensures.value ∙ ap (λ (ns : List ℕ). slice_get pieces (get_or ns i 0)) c.as_slice-number-items.ensures in
    let more : take i given ++ number ∷ [] ≡ take (i + 1) given = sym (take_more given i 0 (omega (arith, ap length c.as_slice-number-items.ensures))) in
    elim c.match-get.branch [
      | in-Some w ↦
          let p = w.in-Some.piece in
          let there : slice_get pieces number ≡ Some p = sym read ∙ w.in-Some.is in
          let base : c.match-get.plan.base ≡ c.loop-number.plan.base = search rules in
          let items : c.match-get.plan.items ≡ left_out_at p.item c.loop-number.plan.items = search rules in
          let are : AreLeftOut pieces (take (i + 1) given) old c.match-get.plan.items =
          subst (λ (ds : List Decision). AreLeftOut pieces (take (i + 1) given) old ds) (sym items)
          (subst (λ (ns : List ℕ). AreLeftOut pieces ns old (left_out_at p.item c.loop-number.plan.items)) more
          (one_left pieces (take i given) number old c.loop-number.plan.items h.items p there)) in
          record { base = base ∙ h.base; items = are; len = as_many pieces (take (i + 1) given) old c.match-get.plan.items are }
      | in_default w ↦
          let gone : slice_get pieces number ≡ None = sym read ∙ w.in_default.is in
          let same : c.match-get.plan ≡ c.loop-number.plan = w.plan-is in
          let are : AreLeftOut pieces (take (i + 1) given) old c.loop-number.plan.items =
          subst (λ (ns : List ℕ). AreLeftOut pieces ns old c.loop-number.plan.items) more
          (no_more_left pieces (take i given) number old c.loop-number.plan.items h.items gone) in
          rw same (record { base = h.base; items = are; len = h.len })
    ]
