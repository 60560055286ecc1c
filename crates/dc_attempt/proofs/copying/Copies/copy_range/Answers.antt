use Rattle.std.proofs.Common.{rules, arith, subst, ◌∙◌, length, take, ◌≡◌, ◌+◌, ◌-◌, ℕ, min, length-take}
use Rattle.std.specs.Int.{div_ceil}
use Rattle.std.proofs.lemmas.Result.{err_from_is_err_and}
use Rattle.dc_attempt.specs.Benches.{bench}
use Rattle.dc_attempt.specs.Parts.{IsCopied}
use Rattle.dc_attempt.specs.Steps.{asked_for, IsFilled}
use Rattle.dc_attempt.proofs.FillLemmas.{copied_more, part_stops}
use Rattle.dc_attempt.proofs.StepLemmas.{looks_few, step_reads, done_more, short_more, later_more, buffer_length, steps_all}
use Rattle.dc_attempt.proofs.copying.Copies.copy_range.Goals as goal

pub returns-then-is_stop-clause-stopped : goal.returns-then-is_stop-clause-stopped
returns-then-is_stop-clause-stopped g c =
    let i = c.reads.invariant in (
      record {
        step = c.reads.step;
        read = (i.begun, step_reads c.reads.step c.args.count (length c.args.buffer.now) c.reads.done i.begun i.done c.reads-test.true c.requires.room);
        stop = search rules;
        filled = subst (λ (k : ℕ). IsFilled (asked_for (g.S.Store.tree c.args.reader.now) c.args.path.now c.args.from c.args.count (length c.args.buffer.now) c.args.stop) k (g.Self.Desk.tells c.args.self.now) (bench g.Self.Desk c.reads.self)) i.done i.copied.filled;
      },
      record { reader = i.still; desk = i.desk_still },
    )

pub returns-in_err-copy_part-clause-stopped : goal.returns-in_err-copy_part-clause-stopped
returns-in_err-copy_part-clause-stopped g c =
    let i = c.reads.invariant in
    let want = c.min-want.result in
    let size : length c.reads.buffer ≡ length c.args.buffer.now = i.room in
    let w : want ≡ min (c.args.count - c.reads.done) (length c.args.buffer.now) = search (rules, arith) in
    let took : length (take want c.reads.buffer) ≡ want = (let t = length-take {A = ℕ} want c.reads.buffer in omega arith) in
    let p = err_from_is_err_and c.from_residual.result c.from_residual.ensures.1 in
    rw (p.1, p.2)
    (part_stops (asked_for (g.S.Store.tree c.args.reader.now) c.args.path.now c.args.from c.args.count (length c.args.buffer.now) c.args.stop) (g.Self.Desk.tells c.args.self.now) c.reads.step c.reads.done want
    (bench g.Self.Desk c.args.self.now) (bench g.Self.Desk c.reads.self) (bench g.Self.Desk c.copy_part.new.self)
    (g.S.Store.faults c.args.reader.now) (g.S.Store.faults c.reads.reader) (g.S.Store.faults c.copy_part.new.reader) c.in_err-copy_part.field-0.0
    c.requires.room i.begun i.done c.reads-test.true w (later_more c.args.stop c.reads.step (search rules) i.unstopped) i.copied.filled i.still i.desk_still
    (rw (took, i.tree) at c.in_err-copy_part.ensures.stopped))

pub returns-then-is_stop-clause-looks : goal.returns-then-is_stop-clause-looks
returns-then-is_stop-clause-looks g c =
    let i = c.reads.invariant in
    let s = step_reads c.reads.step c.args.count (length c.args.buffer.now) c.reads.done i.begun i.done c.reads-test.true c.requires.room in
    looks_few c.args.stop (div_ceil c.args.count (length c.args.buffer.now)) c.reads.step (g.S.Store.looks c.args.reader.now) (g.S.Store.looks c.reads.reader) i.looks (omega arith) i.unstopped

pub returns-in_err-copy_part-clause-looks : goal.returns-in_err-copy_part-clause-looks
returns-in_err-copy_part-clause-looks g c =
    let i = c.reads.invariant in
    let s = step_reads c.reads.step c.args.count (length c.args.buffer.now) c.reads.done i.begun i.done c.reads-test.true c.requires.room in
    let f = i.looks in
    let p = c.in_err-copy_part.ensures.looks in
    looks_few c.args.stop (div_ceil c.args.count (length c.args.buffer.now)) (c.reads.step + 1) (g.S.Store.looks c.args.reader.now) (g.S.Store.looks c.copy_part.new.reader) (omega arith) (omega arith) (later_more c.args.stop c.reads.step (search rules) i.unstopped)

pub returns-clause-looks : goal.returns-clause-looks
returns-clause-looks g c =
    let i = c.reads.invariant in
    let s = c.requires.room in
    looks_few c.args.stop (div_ceil c.args.count (length c.args.buffer.now)) c.reads.step (g.S.Store.looks c.args.reader.now) (g.S.Store.looks c.reads.reader) i.looks (let e = steps_all c.reads.step c.args.count (length c.args.buffer.now) c.reads.done i.begun i.done i.short (omega arith) s in omega arith) i.unstopped

pub reads-preserved : goal.reads-preserved
reads-preserved g c =
    let i = c.reads.invariant in
    let part = c.in_ok-copy_part.ensures in
    let want = c.min-want.result in
    let some = c.requires.room in
    let size : length c.reads.buffer ≡ length c.args.buffer.now = i.room in
    let w : want ≡ min (c.args.count - c.reads.done) (length c.args.buffer.now) = search (rules, arith) in
    let took : length (take want c.reads.buffer) ≡ want = (let t = length-take {A = ℕ} want c.reads.buffer in omega arith) in
    let put : length c.copy_part.new.into ≡ want = search (rules, arith) in
    record {
      begun = omega arith;
      done = done_more c.reads.step c.args.count (length c.args.buffer.now) c.reads.done want i.begun i.done c.reads-test.true w;
      short = short_more c.reads.step c.args.count (length c.args.buffer.now) c.reads.done i.begun i.done c.reads-test.true;
      few = (let f = i.few in omega arith);
      room = buffer_length want c.copy_part.new.into c.reads.buffer put (omega arith) ∙ i.room;
      tree = part.tree ∙ i.tree;
      rest = part.rest ∙ i.rest;
      looks = (let f = i.looks in let p = part.looks in omega arith);
      calm = part.calm ∙ i.calm;
      tells = part.tells ∙ i.tells;
      made = part.made ∙ i.made;
      desk_calm = part.desk_calm ∙ i.desk_calm;
      still = part.still.reader ∙ i.still;
      desk_still = part.still.desk ∙ i.desk_still;
      copied = copied_more (asked_for (g.S.Store.tree c.args.reader.now) c.args.path.now c.args.from c.args.count (length c.args.buffer.now) c.args.stop) c.reads.done want (g.Self.Desk.tells c.args.self.now)
          (bench g.Self.Desk c.reads.self) (bench g.Self.Desk c.copy_part.new.self) c.reads.hasher c.copy_part.new.hasher i.copied (rw (took, i.tree) at part.read);
      unstopped = later_more c.args.stop c.reads.step (search rules) i.unstopped;
    }

pub returns-clause-copied : goal.returns-clause-copied
returns-clause-copied g c =
    let i = c.reads.invariant in
    let d = i.done in
    let left = c.reads-test.false in
    let e : c.reads.done ≡ c.args.count = omega arith in
    subst (λ (k : ℕ). IsCopied (asked_for (g.S.Store.tree c.args.reader.now) c.args.path.now c.args.from c.args.count (length c.args.buffer.now) c.args.stop) k (g.Self.Desk.tells c.args.self.now) (bench g.Self.Desk c.reads.self) c.reads.hasher) e i.copied
