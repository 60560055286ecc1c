use Rattle.std.proofs.Common.{◌≡◌, ◌≤◌, ◌<◌, ◌+◌, ℕ, sym, ◌∙◌, arith, length, subst, count_by, map, reverse}
use Rattle.dc_pool.specs.Counts.{Gained}
use Rattle.dc_crew.specs.States.{part_for}
use Rattle.dc_crew.proofs.BroughtLemmas.{advanced, parts_length, parts_right, parts_counted, ok_all}
use Rattle.dc_pool.proofs.Numbers.{fell_length}
use Rattle.dc_crew.specs.Jobs.{task_of, is_late, is_stopper, IsPart, IsEnd}
use Rattle.dc_crew.specs.Slots.{job_in, slot_makes}
use Rattle.dc_crew.proofs.AdvanceLemmas.{once_due, pieces_there, tasks_short, spread}
use Rattle.std.proofs.lemmas.Result.{IfErr-weaker}
use Rattle.dc_crew.proofs.HaltEnds.{halt_is_right}
use Rattle.dc_crew.proofs.rounds.make_wave.Goals as goal

pub split-requires-clause-known : goal.split-requires-clause-known
split-requires-clause-known g c = pieces_there c.args.kills.now c.args.states.now c.args.tasks.now (length c.args.pieces.now) c.requires.due.0 c.requires.len.0

pub split-requires-clause-few : goal.split-requires-clause-few
split-requires-clause-few g c = let a = tasks_short c.args.kills.now c.args.states.now c.args.tasks.now c.requires.due.0 in let b = c.requires.len.0 in let d = c.requires.len.1 in omega arith

pub one_wave-requires-clause-known : goal.one_wave-requires-clause-known
one_wave-requires-clause-known g c κs within = (c.requires.pieces, pieces_there c.args.kills.now c.args.states.now c.args.tasks.now (length c.args.pieces.now) c.requires.due.0 c.requires.len.0)

pub one_wave-requires-clause-few : goal.one_wave-requires-clause-few
one_wave-requires-clause-few g c κs within = let a = tasks_short c.args.kills.now c.args.states.now c.args.tasks.now c.requires.due.0 in let b = c.requires.len.0 in let d = c.requires.len.1 in let e = c.in_ok-bundles.ensures.few in omega arith

pub returns-in_err-given-clause-slots : goal.returns-in_err-given-clause-slots
returns-in_err-given-clause-slots g c = fell_length (slot_makes g.D.Desk) c.args.slots.now c.one_wave.new.slots c.one_wave.ensures.makes_kept

pub take_in-requires-clause-pieces : goal.take_in-requires-clause-pieces
take_in-requires-clause-pieces g c = pieces_there c.args.kills.now c.args.states.now c.args.tasks.now (length c.args.states.now) c.requires.due.0 Rattle.std.proofs.Common.refl

pub take_in-requires-clause-spread : goal.take_in-requires-clause-spread
take_in-requires-clause-spread g c = spread c.args.tasks.now c.in_ok-given.given c.in_ok-given.ensures.numbers

pub take_in-requires-clause-due : goal.take_in-requires-clause-due
take_in-requires-clause-due g c = λ p. once_due c.args.kills.now c.args.states.now c.args.tasks.now p c.requires.due.0

pub returns-clause-slots : goal.returns-clause-slots
returns-clause-slots g c = fell_length (slot_makes g.D.Desk) c.args.slots.now c.one_wave.new.slots c.one_wave.ensures.makes_kept

pub returns-clause-brought : goal.returns-clause-brought
returns-clause-brought g c =
    let tasks = c.args.tasks.now in
    let w = c.in_ok-given.given in
    let t = c.take_in.ensures in
    let content = g.D.Temp.Held.content in
    let size_of = g.D.Temp.Held.size in
    let given = c.in_ok-given.ensures in
    ok_all c.take_in.result _ _ _ _ _ _ t.ended t.counted t.failed t.done t.parts
    (λ ended counted failed done parts. record {
      fell = length w.failed;
      dead = count_by (λ n. is_late (task_of tasks n)) w.killed;
      more = reverse (map (part_for tasks) w.done);
      advanced = advanced c.args.kills.now c.args.pieces.now c.args.settings.size tasks c.args.states.now c.take_in.new.states w c.in_ok-bundles.bundles (λ n. is_stopper (task_of tasks n)) (length c.args.slots.now)
          (λ n t. IsPart (job_in g.J.World.scene c.args.items.now c.args.pieces.now) (task_of tasks n).piece (content t) (size_of t)) (λ n e. IsEnd (job_in g.J.World.scene c.args.items.now c.args.pieces.now) (task_of tasks n).piece e)
          c.requires.due.0 c.requires.due.1 given.numbers given.right given.lost c.requires.some.0 ended t.len counted failed done;
      faults = given.faults;
      makes = subst (λ (n : ℕ). Gained (slot_makes g.D.Desk) (n + count_by (λ n. is_late (task_of tasks n)) w.killed) c.args.slots.now c.one_wave.new.slots) (sym (parts_length tasks w.done)) given.makes;
      parts = parts;
      right = parts_right tasks (λ p t. IsPart (job_in g.J.World.scene c.args.items.now c.args.pieces.now) p (content t) (size_of t)) w.done (λ k d l. (given.right.0 k d l).0);
      counts = λ p. parts_counted tasks p w.done;
    })

pub returns-clause-halted : goal.returns-clause-halted
returns-clause-halted g c = IfErr-weaker c.take_in.result _ _ (λ h why. halt_is_right (job_in g.J.World.scene c.args.items.now c.args.pieces.now) c.args.tasks.now c.in_ok-given.given.ended h c.in_ok-given.ensures.right.2 why) c.take_in.ensures.halted
