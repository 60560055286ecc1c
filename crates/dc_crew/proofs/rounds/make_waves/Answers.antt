use Rattle.std.proofs.Common.{◌+◌, ◌<◌, ◌∙◌, refl, sym, ap, subst, arith, rules, length, length-append, All, true≢false}
use Rattle.std.proofs.lemmas.List.Elements.{All-append, All-nil}
use Rattle.dc_crew.specs.declared.crew.Task.{Task}
use Rattle.dc_crew.specs.declared.states.State.{State}
use Rattle.dc_crew.specs.Slots.{job_in, slot_faults, slot_makes}
use Rattle.dc_crew.specs.States.{state_of, tasks_again, tally, parts_of}
use Rattle.dc_crew.specs.Advances.{failures, AreRight, IsRight}
use Rattle.dc_crew.proofs.AdvanceLemmas.{tasks_short, pieces_there, due_again_is}
use Rattle.dc_crew.proofs.MeasureLemmas.{measure_falls, bound_kept, failed_kept, failures_grow, gained_on, gained_none, gained_less, four_failures, all_settled, few_kept, failures_none, measure_begins, once_on}
use Rattle.dc_crew.proofs.WaveLemmas.{reached_made, once_in_order, failures_small}
use Rattle.dc_crew.proofs.SpentLemmas.{spent_grows, failures_rise, spared_kept, spent_none}
use Rattle.dc_crew.proofs.rounds.make_waves.Goals as goal

pub waves-init : goal.waves-init
waves-init g c =
    let fresh = c.requires.begins.fresh in
    record {
      few = λ _ p. let e = ap (λ (s : State). s.failed) (fresh p) in omega arith;
      due = c.in_ok-tasks.ensures;
      len = refl;
      slots = refl;
      fit = c.requires.fit;
      failed = λ p. let e = ap (λ (s : State). s.failed) (fresh p) in omega arith;
      bound = λ p.
          let e = ap (λ (s : State). s.ended) (fresh p) in
          let m = measure_begins c.args.kills.now c.args.states.now fresh in
          let a = c.requires.begins.len in
          let b = c.requires.begins.few in
          let d = c.requires.begins.few_entries in
          omega arith;
      faults = gained_none (slot_faults g.S.Store g.D.Desk) (failures c.args.states.now) c.args.slots.now (failures_none c.args.states.now fresh);
      makes = (
        0,
        gained_none (slot_makes g.D.Desk) (length c.args.parts.now.items + 0) c.args.slots.now (let e = ap length c.requires.begins.none in omega arith),
        λ _. let z = spent_none c.args.kills.now c.args.pieces.now c.args.settings.size c.args.states.now (λ p. ap (λ (s : State). s.ended) (fresh p)) in omega arith,
      );
      spared = λ p d. absurd (true≢false (sym d ∙ ap (λ (s : State). s.done) (fresh p)));
      right = subst (AreRight (job_in g.J.World.scene c.args.items.now c.args.pieces.now) g.D.Temp.Held.content g.D.Temp.Held.size) (sym c.requires.begins.none) (All-nil (IsRight (job_in g.J.World.scene c.args.items.now c.args.pieces.now) g.D.Temp.Held.content g.D.Temp.Held.size));
      once = λ p. ap (parts_of p) c.requires.begins.none ∙ sym (ap (λ (s : State). tally s.done) (fresh p));
    }

pub waves-preserved : goal.waves-preserved
waves-preserved g c =
    let i = c.waves.invariant in
    let made = c.in_ok-make_wave.ensures in
    let b = made.brought in
    let plan = c.args.kills.now in
    let pieces = c.args.pieces.now in
    let size = c.args.settings.size in
    let old = c.waves.states in
    let new = c.make_wave.new.states in
    record {
      few = λ stop. few_kept plan pieces size old new b.fell b.dead c.waves.tasks.items b.advanced i.due (i.few stop) (subst (All (λ (t : Task). (state_of new t.piece).failed < 4)) c.as_slice-in-waves.ensures.value (c.in_default.ensures.none stop));
      due = due_again_is plan pieces size old new b.fell b.dead c.waves.tasks.items c.in_ok-tasks-2.tasks.items b.advanced i.due (c.in_ok-tasks-2.ensures ∙ ap (tasks_again plan new) c.as_slice-in-waves-2.ensures.value);
      len = made.len ∙ i.len;
      slots = made.slots ∙ i.slots;
      fit = made.fit;
      failed = λ p. failed_kept plan pieces size old new b.fell b.dead b.advanced p (i.failed p);
      bound = λ p. bound_kept plan pieces size old new b.fell b.dead b.advanced p (i.bound p);
      faults = gained_on (slot_faults g.S.Store g.D.Desk) (failures old) b.fell (failures new) c.args.slots.now c.waves.slots c.make_wave.new.slots i.faults b.faults (failures_grow plan pieces size old new b.fell b.dead b.advanced);
      makes = (
        i.makes.0 + b.dead,
        gained_on (slot_makes g.D.Desk) (length c.waves.parts.items + i.makes.0) (length b.more + b.dead) (length c.make_wave.new.parts.items + (i.makes.0 + b.dead)) c.args.slots.now c.waves.slots c.make_wave.new.slots i.makes.1 b.makes
            (let e = ap length b.parts ∙ length-append c.waves.parts.items b.more in omega arith),
        λ none.
            let s = spent_grows plan pieces size old new b.fell b.dead (once_in_order c.args.kills.now c.requires.begins.ordered) b.advanced none in
            let t = i.makes.2 (failures_rise plan pieces size old new b.fell b.dead b.advanced none) in
            omega arith,
      );
      spared = spared_kept plan pieces size old new b.fell b.dead b.advanced i.spared;
      right = subst (AreRight (job_in g.J.World.scene c.args.items.now c.args.pieces.now) g.D.Temp.Held.content g.D.Temp.Held.size) (sym b.parts)
          (All-append (IsRight (job_in g.J.World.scene c.args.items.now c.args.pieces.now) g.D.Temp.Held.content g.D.Temp.Held.size) c.waves.parts.items b.more i.right b.right);
      once = λ p. once_on p c.waves.parts.items b.more c.make_wave.new.parts.items (state_of old p) (state_of new p) (b.advanced.done_now p) b.parts (i.once p) (b.counts p) (b.advanced.done p);
    }

pub waves-smaller : goal.waves-smaller
waves-smaller g c =
    let b = c.in_ok-make_wave.ensures.brought in
    measure_falls c.args.kills.now c.args.pieces.now c.args.settings.size c.waves.states c.make_wave.new.states b.fell b.dead b.advanced

pub make_wave-requires-clause-due : goal.make_wave-requires-clause-due
make_wave-requires-clause-due g c κs within = (c.as_slice.ensures.value ∙ c.waves.invariant.due, search (rules, arith))

pub make_wave-requires-clause-small : goal.make_wave-requires-clause-small
make_wave-requires-clause-small g c κs within = λ p. ((let b = c.waves.invariant.bound p in omega arith), c.waves.invariant.failed p)

pub make_wave-requires-clause-some : goal.make_wave-requires-clause-some
make_wave-requires-clause-some g c κs within =
    let i = c.waves.invariant in
    let e = i.slots in
    let d = i.len in
    let n = c.requires.begins.len in
    let t = tasks_short c.args.kills.now c.waves.states c.waves.tasks.items i.due in
    let some : 0 < length c.waves.tasks.items = search (rules, arith) in
    let a = c.requires.some.0 (omega arith) in
    let b = c.requires.some.1 in
    (omega arith, omega arith)

pub make_wave-requires-clause-fit : goal.make_wave-requires-clause-fit
make_wave-requires-clause-fit g c κs within = c.waves.invariant.fit

pub returns-in_err-make_wave-clause-slots : goal.returns-in_err-make_wave-clause-slots
returns-in_err-make_wave-clause-slots g c = c.make_wave.ensures.slots ∙ c.waves.invariant.slots

pub returns-in-Some-clause-slots : goal.returns-in-Some-clause-slots
returns-in-Some-clause-slots g c = c.make_wave.ensures.slots ∙ c.waves.invariant.slots

pub stopped_by-requires-clause-known : goal.stopped_by-requires-clause-known
stopped_by-requires-clause-known g c =
    pieces_there c.args.kills.now c.waves.states c.as_slice-in-waves.result.now (length c.make_wave.new.states) (c.as_slice-in-waves.ensures.value ∙ c.waves.invariant.due) (sym c.in_ok-make_wave.ensures.len)

pub due_again-requires-clause-known : goal.due_again-requires-clause-known
due_again-requires-clause-known g c =
    pieces_there c.args.kills.now c.waves.states c.as_slice-in-waves-2.result.now (length c.make_wave.new.states) (c.as_slice-in-waves-2.ensures.value ∙ c.waves.invariant.due) (sym c.in_ok-make_wave.ensures.len)

pub due_again-requires-clause-small : goal.due_again-requires-clause-small
due_again-requires-clause-small g c = λ p.
    let b = c.in_ok-make_wave.ensures.brought in
    let k = bound_kept c.args.kills.now c.args.pieces.now c.args.settings.size c.waves.states c.make_wave.new.states b.fell b.dead b.advanced p (c.waves.invariant.bound p) in
    omega arith

pub returns-in_err-tasks-2-clause-slots : goal.returns-in_err-tasks-2-clause-slots
returns-in_err-tasks-2-clause-slots g c = c.make_wave.ensures.slots ∙ c.waves.invariant.slots

pub returns-clause-fit : goal.returns-clause-fit
returns-clause-fit g c = c.waves.invariant.fit

pub returns-clause-slots : goal.returns-clause-slots
returns-clause-slots g c = c.waves.invariant.slots

pub returns-clause-settled : goal.returns-clause-settled
returns-clause-settled g c = record {
  each = λ p h. all_settled c.args.kills.now c.waves.states c.waves.tasks.items c.waves.invariant.due (search (rules, arith)) p h;
  few = c.waves.invariant.few;
}

pub returns-clause-brings : goal.returns-clause-brings
returns-clause-brings g c =
    let i = c.waves.invariant in
    let m = i.makes in
    let f = slot_makes g.D.Desk in
    record {
      right = i.right;
      once = i.once;
      failed = i.faults;
      made = gained_less f (length c.waves.parts.items + m.0) (length c.waves.parts.items) c.args.slots.now c.waves.slots m.1 (omega arith);
      few = failures_small c.waves.states i.failed (let e = i.len in let a = c.requires.begins.len in let b = c.requires.begins.few in omega arith);
      reached = reached_made f c.args.kills.now c.args.pieces.now c.args.settings.size c.waves.states c.waves.parts.items m.0 c.args.slots.now c.waves.slots (once_in_order c.args.kills.now c.requires.begins.ordered) (i.len ∙ c.requires.begins.len)
          (λ p h. all_settled c.args.kills.now c.waves.states c.waves.tasks.items i.due (search (rules, arith)) p (let e = i.len in let a = c.requires.begins.len in omega arith))
          i.spared i.once m.1 m.2;
    }

pub returns-in-Some-clause-halted : goal.returns-in-Some-clause-halted
returns-in-Some-clause-halted g c =
    let i = c.waves.invariant in
    let b = c.in_ok-make_wave.ensures.brought in
    let old = c.waves.states in
    let new = c.make_wave.new.states in
    let f = slot_faults g.S.Store g.D.Desk in
    let s = c.in-Some.ensures.some in
    let all = gained_on f (failures old) b.fell (failures new) c.args.slots.now c.waves.slots c.make_wave.new.slots i.faults b.faults (failures_grow c.args.kills.now c.args.pieces.now c.args.settings.size old new b.fell b.dead b.advanced) in
    (s, (c.in-Some.ensures.leave, gained_less f (failures new) 4 c.args.slots.now c.make_wave.new.slots all (four_failures new c.in-Some.piece s.there s.four)))
