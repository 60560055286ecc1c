use Rattle.std.proofs.Common.{◌∙◌, length, arith}
use Rattle.dc_crew.proofs.AdvanceLemmas.{pieces_there, tasks_short}
use Rattle.dc_crew.proofs.EndLemmas.{some_due, some_bundle}
use Rattle.dc_crew.proofs.copy.worker_count.Goals as goal

pub split-requires-clause-known : goal.split-requires-clause-known
split-requires-clause-known c = pieces_there c.args.kills.now c.args.states.now c.as_slice.result.now (length c.args.pieces.now) (c.as_slice.ensures.value ∙ c.in_ok-tasks.ensures) c.requires.len.0

pub split-requires-clause-few : goal.split-requires-clause-few
split-requires-clause-few c =
    let a = tasks_short c.args.kills.now c.args.states.now c.as_slice.result.now (c.as_slice.ensures.value ∙ c.in_ok-tasks.ensures) in
    let b = c.requires.len.0 in
    let d = c.requires.len.1 in
    omega arith

pub overflow_cast-len : goal.overflow_cast-len
overflow_cast-len c =
    let a = tasks_short c.args.kills.now c.args.states.now c.as_slice.result.now (c.as_slice.ensures.value ∙ c.in_ok-tasks.ensures) in
    let b = c.requires.len.0 in
    let d = c.requires.len.1 in
    let e = c.in_ok-bundles.ensures.few in
    let f = c.len.ensures in
    omega arith

pub returns-clause-some : goal.returns-clause-some
returns-clause-some c = λ some.
    let tasks = c.as_slice.result.now in
    let t = some_due c.args.kills.now c.args.states.now tasks (c.as_slice.ensures.value ∙ c.in_ok-tasks.ensures) c.requires.fresh (let e = c.requires.len.0 in omega arith) in
    let b = some_bundle (length tasks) c.in_ok-bundles.bundles c.in_ok-bundles.ensures.once t in
    let f = c.len.ensures in
    let m = c.args.settings.some_maps in
    let x = c.min-count.ensures in
    let y = c.min.ensures in
    omega arith
