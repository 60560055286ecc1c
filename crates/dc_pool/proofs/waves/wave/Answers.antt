use Rattle.std.proofs.Common.{rules, ◌≡◌, ◌<◌, ◌≤◌, ◌++◌, ℕ, List, All, sym, ap, ◌∙◌, subst, length, take, drop, arith, count_by}
use Rattle.dc_pool.specs.declared.draws.Drawer.{Drawer}
use Rattle.dc_split.specs.Bundles.{flatten}
use Rattle.dc_pool.specs.Waves.{IsSeated, AreBelow, AllRight, HasLoss, HasStopped, IsBehind, endings, drawn_weight, in_bundle, with_lost, stands}
use Rattle.dc_pool.proofs.Losses.{loss_of_rest, stopped_more}
use Rattle.dc_pool.proofs.Numbers.{seam, known_below, fell_same, fell_length, wave_numbers, why_left}
use Rattle.dc_pool.proofs.waves.wave.Goals as goal

pub returns-in_err-draws-clause-faults_kept : goal.returns-in_err-draws-clause-faults_kept
returns-in_err-draws-clause-faults_kept g c = fell_same g.C.Crew.faults c.args.slots.now

pub returns-in_err-draws-clause-makes_kept : goal.returns-in_err-draws-clause-makes_kept
returns-in_err-draws-clause-makes_kept g c = fell_same g.C.Crew.makes c.args.slots.now

pub halves-done-requires-clause-known : goal.halves-done-requires-clause-known
halves-done-requires-clause-known g c κs within =
    subst (All (AreBelow (g.C.Crew.count c.args.crew.now))) (sym c.as_slice.ensures) (known_below (g.C.Crew.count c.args.crew.now) c.args.bundles.now c.requires.once)

pub returns-in_err-done-clause-fit : goal.returns-in_err-done-clause-fit
returns-in_err-done-clause-fit g c =
    let now = c.halves-done.new.slots in
    let are : c.of.result ≡ now = c.of.ensures ∙ seam c.into_vec-items.result.len now (drop (length now) c.into_vec-items.result.items) (search rules) in
    subst (All (g.C.Crew.fit c.args.crew.now)) (sym are) c.halves-done.ensures.fit

pub all_together-all-requires-clause-own : goal.all_together-all-requires-clause-own
all_together-all-requires-clause-own g c =
    let now : List Drawer = c.halves-done.new.drawers in
    let e = seam c.into_vec-drawers.result.len now (drop (length now) c.into_vec-drawers.result.items) (search rules) in
    subst (All (IsSeated c.in_ok-draws.draws.table.shared.table_id c.in_ok-draws.draws.bundles)) (sym e) c.in_ok-done.ensures.own

pub returns-in_err-lose_rest-clause-fit : goal.returns-in_err-lose_rest-clause-fit
returns-in_err-lose_rest-clause-fit g c =
    let now = c.halves-done.new.slots in
    let are : c.of.result ≡ now = c.of.ensures ∙ seam c.into_vec-items.result.len now (drop (length now) c.into_vec-items.result.items) (search rules) in
    subst (All (g.C.Crew.fit c.args.crew.now)) (sym are) c.halves-done.ensures.fit

pub returns-clause-fit : goal.returns-clause-fit
returns-clause-fit g c =
    let now = c.halves-done.new.slots in
    let are : c.of.result ≡ now = c.of.ensures ∙ seam c.into_vec-items.result.len now (drop (length now) c.into_vec-items.result.items) (search rules) in
    subst (All (g.C.Crew.fit c.args.crew.now)) (sym are) c.halves-done.ensures.fit

pub returns-clause-right : goal.returns-clause-right
returns-clause-right g c =
    subst (AllRight (g.C.Crew.right c.args.crew.now) (g.C.Crew.right_end c.args.crew.now) (g.C.Crew.doomed c.args.crew.now)) (sym c.in_ok-lose_rest.ensures) c.in_ok-done.ensures.gathered.right

pub returns-clause-numbers : goal.returns-clause-numbers
returns-clause-numbers g c = λ x.
    let now : List Drawer = c.halves-done.new.drawers in
    let e = seam c.into_vec-drawers.result.len now (drop (length now) c.into_vec-drawers.result.items) (search rules) in
    let h = in_bundle c.args.bundles.now x in
    let seen : stands x c.in_ok-done.done ≡ drawn_weight h now = subst (λ (bs : List (List ℕ)). stands x c.in_ok-done.done ≡ drawn_weight (in_bundle bs x) now) c.as_slice.ensures (c.in_ok-done.ensures.gathered.numbers x) in
    let lost = subst (λ (bs : List (List ℕ)). c.lose_rest.new.wave ≡ with_lost (c.in_ok-done.done.lost ++ flatten (drop c.finish-given.result bs)) c.in_ok-done.done) c.as_slice-2.ensures c.in_ok-lose_rest.ensures in
    wave_numbers c.args.bundles.now x (g.C.Crew.count c.args.crew.now) c.finish-given.result now c.all_together-all.result.seat.me.0.drawn c.in_ok-done.done c.lose_rest.new.wave c.requires.once
    seen (c.all_together-all.ensures.drawn h ∙ ap (drawn_weight h) e) (c.finish-given.ensures.once h) lost

pub returns-clause-faults : goal.returns-clause-faults
returns-clause-faults g c =
    let now = c.halves-done.new.slots in
    let are : c.of.result ≡ now = c.of.ensures ∙ seam c.into_vec-items.result.len now (drop (length now) c.into_vec-items.result.items) (search rules) in
    let was : c.as_mut_slice.result.now ≡ c.args.slots.now = c.as_mut_slice.ensures.value ∙ (c.into_vec-items.ensures ∙ c.replace.ensures.value) in
    rw (are, c.in_ok-lose_rest.ensures) (rw was at c.in_ok-done.ensures.gathered.faults)

pub returns-clause-makes : goal.returns-clause-makes
returns-clause-makes g c =
    let now = c.halves-done.new.slots in
    let are : c.of.result ≡ now = c.of.ensures ∙ seam c.into_vec-items.result.len now (drop (length now) c.into_vec-items.result.items) (search rules) in
    let was : c.as_mut_slice.result.now ≡ c.args.slots.now = c.as_mut_slice.ensures.value ∙ (c.into_vec-items.ensures ∙ c.replace.ensures.value) in
    rw (are, c.in_ok-lose_rest.ensures) (rw was at c.in_ok-done.ensures.gathered.makes)

pub returns-clause-lost : goal.returns-clause-lost
returns-clause-lost g c =
    let stops = g.C.Crew.stops c.args.crew.now in
    let bundles = c.args.bundles.now in
    let given = c.finish-given.result in
    let done = c.in_ok-done.done in
    let now : List Drawer = c.halves-done.new.drawers in
    let e = seam c.into_vec-drawers.result.len now (drop (length now) c.into_vec-drawers.result.items) (search rules) in
    let was : c.as_mut_slice.result.now ≡ c.args.slots.now = c.as_mut_slice.ensures.value ∙ (c.into_vec-items.ensures ∙ c.replace.ensures.value) in
    let halted : length c.args.slots.now ≤ Rattle.std.proofs.Common.◌+◌ (count_by stops done.killed) (endings now) = rw was at c.in_ok-done.ensures.gathered.halted in
    let over : 0 < endings now → length bundles < given = λ h. let o = c.finish-given.ensures.over (c.all_together-all.ensures.ended (subst (λ (ds : List Drawer). 0 < endings ds) (sym e) h)) in search (rules, arith) in
    let behind : All (IsBehind stops bundles done.killed) done.lost = subst (λ (bs : List (List ℕ)). All (IsBehind stops bs done.killed) done.lost) c.as_slice.ensures c.in_ok-done.ensures.gathered.lost in
    let lost = subst (λ (bs : List (List ℕ)). c.lose_rest.new.wave ≡ with_lost (done.lost ++ flatten (drop given bs)) done) c.as_slice-2.ensures c.in_ok-lose_rest.ensures in
    subst (λ w. All (HasLoss stops bundles w.killed (length c.args.slots.now)) w.lost) (sym lost)
    (loss_of_rest stops bundles done.killed done.lost (flatten (drop given bundles)) (length c.args.slots.now) (why_left bundles given (length c.args.slots.now) (count_by stops done.killed) (endings now) halted over) behind)

pub returns-clause-stopped : goal.returns-clause-stopped
returns-clause-stopped g c =
    let stops = g.C.Crew.stops c.args.crew.now in
    let bundles = c.args.bundles.now in
    let given = c.finish-given.result in
    let done = c.in_ok-done.done in
    let had : All (HasStopped stops bundles done.lost) done.killed = subst (λ (bs : List (List ℕ)). All (HasStopped stops bs done.lost) done.killed) c.as_slice.ensures c.in_ok-done.ensures.gathered.stopped in
    let lost = subst (λ (bs : List (List ℕ)). c.lose_rest.new.wave ≡ with_lost (done.lost ++ flatten (drop given bs)) done) c.as_slice-2.ensures c.in_ok-lose_rest.ensures in
    subst (λ w. All (HasStopped stops bundles w.lost) w.killed) (sym lost) (stopped_more stops bundles done.killed done.lost (flatten (drop given bundles)) had)

pub returns-clause-few_stops : goal.returns-clause-few_stops
returns-clause-few_stops g c =
    let stops = g.C.Crew.stops c.args.crew.now in
    let done = c.in_ok-done.done in
    let was : c.as_mut_slice.result.now ≡ c.args.slots.now = c.as_mut_slice.ensures.value ∙ (c.into_vec-items.ensures ∙ c.replace.ensures.value) in
    let few : count_by stops done.killed ≤ length c.args.slots.now = rw was at c.in_ok-done.ensures.gathered.few in
    subst (λ w. count_by stops w.killed ≤ length c.args.slots.now) (sym c.in_ok-lose_rest.ensures) few

pub returns-in_err-done-clause-slots : goal.returns-in_err-done-clause-slots
returns-in_err-done-clause-slots g c =
    let now = c.halves-done.new.slots in
    let are : c.of.result ≡ now = c.of.ensures ∙ seam c.into_vec-items.result.len now (drop (length now) c.into_vec-items.result.items) (search rules) in
    let was : c.as_mut_slice.result.now ≡ c.args.slots.now = c.as_mut_slice.ensures.value ∙ (c.into_vec-items.ensures ∙ c.replace.ensures.value) in
    ap length are ∙ (fell_length g.C.Crew.faults _ _ c.halves-done.ensures.faults ∙ ap length was)

pub returns-in_err-lose_rest-clause-slots : goal.returns-in_err-lose_rest-clause-slots
returns-in_err-lose_rest-clause-slots g c =
    let now = c.halves-done.new.slots in
    let are : c.of.result ≡ now = c.of.ensures ∙ seam c.into_vec-items.result.len now (drop (length now) c.into_vec-items.result.items) (search rules) in
    let was : c.as_mut_slice.result.now ≡ c.args.slots.now = c.as_mut_slice.ensures.value ∙ (c.into_vec-items.ensures ∙ c.replace.ensures.value) in
    ap length are ∙ (fell_length g.C.Crew.faults _ _ c.halves-done.ensures.faults ∙ ap length was)

pub returns-clause-slots : goal.returns-clause-slots
returns-clause-slots g c =
    let now = c.halves-done.new.slots in
    let are : c.of.result ≡ now = c.of.ensures ∙ seam c.into_vec-items.result.len now (drop (length now) c.into_vec-items.result.items) (search rules) in
    let was : c.as_mut_slice.result.now ≡ c.args.slots.now = c.as_mut_slice.ensures.value ∙ (c.into_vec-items.ensures ∙ c.replace.ensures.value) in
    ap length are ∙ (fell_length g.C.Crew.faults _ _ c.halves-done.ensures.faults ∙ ap length was)
