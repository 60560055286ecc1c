use Rattle.std.proofs.Common.{rules, arith, refl, ap, subst, Err, ◌∙◌, ◌+◌, length, ℕ}
use Rattle.std.proofs.lemmas.Result.{err_from_is_err_and}
use Rattle.dc_fs.specs.Causes.{Rose}
use Rattle.dc_fs.specs.declared.errors.DeskError.{DeskError}
use Rattle.dc_attempt.specs.Benches.{bench}
use Rattle.dc_attempt.specs.Steps.{asked_for}
use Rattle.dc_attempt.proofs.EndLemmas.{has_all, killed_full, digest_refused, seal_refused, digests_differ}
use Rattle.dc_attempt.proofs.FillLemmas.{begin_copied}
use Rattle.dc_attempt.proofs.StepLemmas.{later_more}
use Rattle.dc_attempt.proofs.copying.Copies.take_steps.Goals as goal

pub copy_range-requires-clause-begun : goal.copy_range-requires-clause-begun
copy_range-requires-clause-begun g c = begin_copied (asked_for (g.S.Store.tree c.args.reader.now) c.args.path.now c.args.from c.args.count (length c.args.buffer.now) c.args.stop) (g.Self.Desk.tells c.create.new.self) (bench g.Self.Desk c.create.new.self) c.new-hasher.result (search rules) c.in_ok-create.ensures.empty c.new-hasher.ensures

pub returns-then-is_stop-2-clause-answer : goal.returns-then-is_stop-2-clause-answer
returns-then-is_stop-2-clause-answer g c =
    let s = c.in_ok-step.ensures.step in (
      killed_full (asked_for (g.S.Store.tree c.args.reader.now) c.args.path.now c.args.from c.args.count (length c.args.buffer.now) c.args.stop) c.in_ok-step.step (bench g.Self.Desk c.args.self.now) (bench g.Self.Desk c.copy_range.new.self) c.requires.room (search rules) (omega arith) (omega arith)
          (has_all (asked_for (g.S.Store.tree c.args.reader.now) c.args.path.now c.args.from c.args.count (length c.args.buffer.now) c.args.stop) (g.Self.Desk.tells c.create.new.self) (bench g.Self.Desk c.args.self.now) (bench g.Self.Desk c.copy_range.new.self) (bench g.Self.Desk c.copy_range.new.self) c.copy_range.new.hasher c.in_ok-create.ensures.tells refl refl (c.in_ok-step.ensures.made ∙ c.in_ok-create.ensures.counted) c.in_ok-step.ensures.copied),
      record { reader = c.in_ok-step.ensures.still.reader; desk = c.in_ok-step.ensures.still.desk ∙ c.in_ok-create.ensures.cause.still },
    )

pub returns-in_err-found-clause-answer : goal.returns-in_err-found-clause-answer
returns-in_err-found-clause-answer g c =
    let s = c.in_ok-step.ensures.step in
    let same = c.in_ok-step.ensures.still.desk ∙ c.in_ok-create.ensures.cause.still in
    let p = err_from_is_err_and c.from_residual-in_err-found.result c.from_residual-in_err-found.ensures.1 in
    rw (p.1, p.2)
    (digest_refused _ _ (asked_for (g.S.Store.tree c.args.reader.now) c.args.path.now c.args.from c.args.count (length c.args.buffer.now) c.args.stop) c.in_ok-step.step (bench g.Self.Desk c.args.self.now) (bench g.Self.Desk c.digest.new.self) (g.S.Store.faults c.args.reader.now) (g.S.Store.faults c.copy_range.new.reader) c.in_err-found.field-0.0
    c.requires.room s (later_more c.args.stop c.in_ok-step.step (search rules) c.in_ok-step.ensures.goes_on)
    (has_all (asked_for (g.S.Store.tree c.args.reader.now) c.args.path.now c.args.from c.args.count (length c.args.buffer.now) c.args.stop) (g.Self.Desk.tells c.create.new.self) (bench g.Self.Desk c.args.self.now) (bench g.Self.Desk c.copy_range.new.self) (bench g.Self.Desk c.digest.new.self) c.copy_range.new.hasher c.in_ok-create.ensures.tells c.in_err-found.ensures.same c.in_err-found.ensures.size (c.in_err-found.ensures.made ∙ (c.in_ok-step.ensures.made ∙ c.in_ok-create.ensures.counted)) c.in_ok-step.ensures.copied)
    (λ q. subst (λ (k : ℕ). Rose k (g.Self.Desk.faults c.digest.new.self)) same (c.in_err-found.ensures.cause.rose (ap (λ (e : DeskError). Err e) q))))

pub returns-then-ne-clause-answer : goal.returns-then-ne-clause-answer
returns-then-ne-clause-answer g c = (
  digests_differ (asked_for (g.S.Store.tree c.args.reader.now) c.args.path.now c.args.from c.args.count (length c.args.buffer.now) c.args.stop) c.in_ok-step.step (g.Self.Desk.tells c.create.new.self) (bench g.Self.Desk c.args.self.now) (bench g.Self.Desk c.copy_range.new.self) (bench g.Self.Desk c.digest.new.self) c.copy_range.new.hasher c.finalize-expected.result c.in_ok-found.found c.in_ok-create.ensures.tells
      c.in_ok-found.ensures.same c.in_ok-found.ensures.size (c.in_ok-found.ensures.made ∙ (c.in_ok-step.ensures.made ∙ c.in_ok-create.ensures.counted)) c.in_ok-step.ensures.copied
      c.in_ok-step.ensures.step (later_more c.args.stop c.in_ok-step.step (search rules) c.in_ok-step.ensures.goes_on)
      c.finalize-expected.ensures c.in_ok-found.ensures.value (search rules),
  record { reader = c.in_ok-step.ensures.still.reader; desk = c.in_ok-found.ensures.cause.still ∙ (c.in_ok-step.ensures.still.desk ∙ c.in_ok-create.ensures.cause.still) },
)

pub returns-then-is_stop-3-clause-answer : goal.returns-then-is_stop-3-clause-answer
returns-then-is_stop-3-clause-answer g c =
    let s = c.in_ok-step.ensures.step in (
      killed_full (asked_for (g.S.Store.tree c.args.reader.now) c.args.path.now c.args.from c.args.count (length c.args.buffer.now) c.args.stop) (c.in_ok-step.step + 1) (bench g.Self.Desk c.args.self.now) (bench g.Self.Desk c.digest.new.self) c.requires.room (search rules) (omega arith) (omega arith)
          (has_all (asked_for (g.S.Store.tree c.args.reader.now) c.args.path.now c.args.from c.args.count (length c.args.buffer.now) c.args.stop) (g.Self.Desk.tells c.create.new.self) (bench g.Self.Desk c.args.self.now) (bench g.Self.Desk c.copy_range.new.self) (bench g.Self.Desk c.digest.new.self) c.copy_range.new.hasher c.in_ok-create.ensures.tells c.in_ok-found.ensures.same c.in_ok-found.ensures.size (c.in_ok-found.ensures.made ∙ (c.in_ok-step.ensures.made ∙ c.in_ok-create.ensures.counted)) c.in_ok-step.ensures.copied),
      record { reader = c.in_ok-step.ensures.still.reader; desk = c.in_ok-found.ensures.cause.still ∙ (c.in_ok-step.ensures.still.desk ∙ c.in_ok-create.ensures.cause.still) },
    )

pub returns-in_err-temp-clause-answer : goal.returns-in_err-temp-clause-answer
returns-in_err-temp-clause-answer g c =
    let s = c.in_ok-step.ensures.step in
    let same = c.in_ok-found.ensures.cause.still ∙ (c.in_ok-step.ensures.still.desk ∙ c.in_ok-create.ensures.cause.still) in
    let p = err_from_is_err_and c.from_residual-in_err-temp.result c.from_residual-in_err-temp.ensures.1 in
    rw (p.1, p.2)
    (seal_refused _ _ (asked_for (g.S.Store.tree c.args.reader.now) c.args.path.now c.args.from c.args.count (length c.args.buffer.now) c.args.stop) (c.in_ok-step.step + 1) (bench g.Self.Desk c.args.self.now) (bench g.Self.Desk c.seal.new.self) (g.S.Store.faults c.args.reader.now) (g.S.Store.faults c.copy_range.new.reader) c.in_err-temp.field-0.0
    (omega arith) (later_more c.args.stop (c.in_ok-step.step + 1) (search rules) (later_more c.args.stop c.in_ok-step.step (search rules) c.in_ok-step.ensures.goes_on))
    (record { counted = c.in_err-temp.ensures.made ∙ (c.in_ok-found.ensures.made ∙ (c.in_ok-step.ensures.made ∙ c.in_ok-create.ensures.counted)); none = c.in_err-temp.ensures.none })
    (λ q. subst (λ (k : ℕ). Rose k (g.Self.Desk.faults c.seal.new.self)) same (c.in_err-temp.ensures.cause.rose (ap (λ (e : DeskError). Err e) q))))
