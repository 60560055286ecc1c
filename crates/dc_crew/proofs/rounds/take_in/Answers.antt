use Rattle.std.proofs.Common.{arith, subst, sym, ap, All, ◌<◌, ℕ, length, ◌∙◌}
use Rattle.dc_pool.specs.declared.results.Receipt.{Receipt}
use Rattle.dc_crew.specs.declared.crew.Task.{Task}
use Rattle.dc_crew.specs.declared.crew.End.{End}
use Rattle.dc_crew.specs.States.{hits, tally}
use Rattle.dc_crew.proofs.rounds.take_in.Goals as goal

pub first_end-requires : goal.first_end-requires
first_end-requires g c = subst (All (λ (r : Receipt End). r.number < length c.args.tasks.now)) (sym c.as_slice.ensures) c.requires.spread.ended

pub count_killed-requires-clause-known : goal.count_killed-requires-clause-known
count_killed-requires-clause-known g c = (subst (All (λ n. n < length c.args.tasks.now)) (sym c.as_slice-2.ensures) c.requires.spread.killed, c.requires.pieces)

pub count_failed-requires-clause-known : goal.count_failed-requires-clause-known
count_failed-requires-clause-known g c = (
  subst (All (λ n. n < length c.args.tasks.now)) (sym c.as_slice-3.ensures) c.requires.spread.failed,
  subst (λ (k : ℕ). All (λ (t : Task). t.piece < k) c.args.tasks.now) (sym c.count_killed.ensures.len) c.requires.pieces,
)

pub keep_done-requires-clause-known : goal.keep_done-requires-clause-known
keep_done-requires-clause-known g c = (
  c.requires.spread.done,
  subst (λ (k : ℕ). All (λ (t : Task). t.piece < k) c.args.tasks.now) (sym (c.count_failed.ensures.len ∙ c.count_killed.ensures.len)) c.requires.pieces,
)

pub keep_done-requires-clause-once : goal.keep_done-requires-clause-once
keep_done-requires-clause-once g c = λ p.
    let a = ap tally (c.count_failed.ensures.done p ∙ c.count_killed.ensures.done p) in
    let w = c.requires.spread.within p in
    let d = c.requires.due p in
    omega arith

pub returns-clause-counted : goal.returns-clause-counted
returns-clause-counted g c = λ p.
    let a = c.in_ok-keep_done.ensures.ended p in
    let b = c.count_failed.ensures.ended p in
    let d = c.count_killed.ensures.ended p in
    let k = ap (hits c.args.tasks.now p) c.as_slice-2.ensures in
    let f = ap (hits c.args.tasks.now p) c.as_slice-3.ensures in
    omega arith

pub returns-clause-failed : goal.returns-clause-failed
returns-clause-failed g c = λ p.
    let a = c.in_ok-keep_done.ensures.failed p in
    let b = c.count_failed.ensures.failed p in
    let d = c.count_killed.ensures.failed p in
    let f = ap (hits c.args.tasks.now p) c.as_slice-3.ensures in
    omega arith

pub returns-clause-done : goal.returns-clause-done
returns-clause-done g c = λ p.
    let a = ap tally (c.count_failed.ensures.done p ∙ c.count_killed.ensures.done p) in
    let b = c.in_ok-keep_done.ensures.done p in
    omega arith
