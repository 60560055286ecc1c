use Rattle.std.proofs.Common.{◌≡◌, ◌-◌, ◌*◌, true, false, length, arith}
use Rattle.std.specs.Option.{is_some}
use Rattle.dc_fs.specs.Causes.{Rose}
use Rattle.dc_crew.specs.Slots.{RoseTogether}
use Rattle.dc_crew.proofs.EndLemmas.{rose_less}
use Rattle.dc_engine.specs.Counting.{failed_of}
use Rattle.dc_engine.proofs.CopyLemmas.{pieces_belong, pieces_inside, leaves_files, all_kept, few_left, has_causes}
use Rattle.dc_engine.proofs.copying.copy.Goals as goal

pub copy_pieces-requires-clause-items : goal.copy_pieces-requires-clause-items
copy_pieces-requires-clause-items g c κs within = pieces_inside c.args.plan.now c.args.pieces.now (pieces_belong c.args.options.now.blocks c.args.plan.now c.args.pieces.now c.requires.pieces)

pub join_copied-requires : goal.join_copied-requires
join_copied-requires g c = pieces_inside c.args.plan.now c.args.pieces.now (pieces_belong c.args.options.now.blocks c.args.plan.now c.args.pieces.now c.requires.pieces)

pub returns-in-Ok-join_copied-clause-leaves : goal.returns-in-Ok-join_copied-clause-leaves
returns-in-Ok-join_copied-clause-leaves g c =
    leaves_files c.args.plan.now c.args.pieces.now (pieces_belong c.args.options.now.blocks c.args.plan.now c.args.pieces.now c.requires.pieces) c.in-Ok.copied.given_up c.join_copied.new.plan c.join_copied.ensures.base c.join_copied.ensures.len c.join_copied.ensures.left

pub returns-in-Ok-join_copied-clause-allowed : goal.returns-in-Ok-join_copied-clause-allowed
returns-in-Ok-join_copied-clause-allowed g c =
    λ alone. all_kept c.args.pieces.now c.in-Ok.copied.given_up c.args.plan.now c.join_copied.new.plan (c.in-Ok.ensures.allowed alone) c.join_copied.ensures.base c.join_copied.ensures.left

pub returns-in-Ok-join_copied-clause-spared : goal.returns-in-Ok-join_copied-clause-spared
returns-in-Ok-join_copied-clause-spared g c =
    λ from to. all_kept c.args.pieces.now c.in-Ok.copied.given_up c.args.plan.now c.join_copied.new.plan (c.in-Ok.ensures.spared from to) c.join_copied.ensures.base c.join_copied.ensures.left

pub returns-in-Ok-join_copied-clause-failures : goal.returns-in-Ok-join_copied-clause-failures
returns-in-Ok-join_copied-clause-failures g c =
    let few = few_left c.args.pieces.now c.in-Ok.copied.given_up c.args.plan.now.items c.join_copied.new.plan.items c.join_copied.ensures.left in
    rose_less (4 * (failed_of c.join_copied.new.plan.items - failed_of c.args.plan.now.items)) (4 * length c.in-Ok.copied.given_up) (g.S.Store.rest c.args.source.now) (g.S.Store.rest c.copy_pieces.new.source) (g.T.Store.rest c.args.target.now) (g.T.Store.rest c.copy_pieces.new.target) c.in-Ok.ensures.failures (omega arith)

pub returns-in-Err-clause-kind : goal.returns-in-Err-clause-kind
returns-in-Err-clause-kind g c =
    let causes = has_causes (g.S.Store.tree c.args.source.now) (is_some (g.T.Store.tree c.args.target.now)) c.args.plan.now c.args.pieces.now (pieces_belong c.args.options.now.blocks c.args.plan.now c.args.pieces.now c.requires.pieces)
    (Rose (g.T.Store.faults c.args.target.now) (g.T.Store.faults c.copy_pieces.new.target)) (c.args.options.now.ignore ≡ false) (RoseTogether (g.S.Store.rest c.args.source.now) (g.S.Store.rest c.copy_pieces.new.source) (g.T.Store.rest c.args.target.now) (g.T.Store.rest c.copy_pieces.new.target) 4)
    (g.S.Store.steady c.args.source.now ≡ true) (g.T.Store.steady c.args.target.now ≡ true) c.in-Err.error c.in-Err.ensures.ended c.in-Err.ensures.never c.outcome_of.result c.outcome_of.ensures in
    causes.kind

pub returns-in-Err-clause-named : goal.returns-in-Err-clause-named
returns-in-Err-clause-named g c =
    let causes = has_causes (g.S.Store.tree c.args.source.now) (is_some (g.T.Store.tree c.args.target.now)) c.args.plan.now c.args.pieces.now (pieces_belong c.args.options.now.blocks c.args.plan.now c.args.pieces.now c.requires.pieces)
    (Rose (g.T.Store.faults c.args.target.now) (g.T.Store.faults c.copy_pieces.new.target)) (c.args.options.now.ignore ≡ false) (RoseTogether (g.S.Store.rest c.args.source.now) (g.S.Store.rest c.copy_pieces.new.source) (g.T.Store.rest c.args.target.now) (g.T.Store.rest c.copy_pieces.new.target) 4)
    (g.S.Store.steady c.args.source.now ≡ true) (g.T.Store.steady c.args.target.now ≡ true) c.in-Err.error c.in-Err.ensures.ended c.in-Err.ensures.never c.outcome_of.result c.outcome_of.ensures in
    causes.named

pub returns-in-Err-clause-differs_at : goal.returns-in-Err-clause-differs_at
returns-in-Err-clause-differs_at g c =
    let causes = has_causes (g.S.Store.tree c.args.source.now) (is_some (g.T.Store.tree c.args.target.now)) c.args.plan.now c.args.pieces.now (pieces_belong c.args.options.now.blocks c.args.plan.now c.args.pieces.now c.requires.pieces)
    (Rose (g.T.Store.faults c.args.target.now) (g.T.Store.faults c.copy_pieces.new.target)) (c.args.options.now.ignore ≡ false) (RoseTogether (g.S.Store.rest c.args.source.now) (g.S.Store.rest c.copy_pieces.new.source) (g.T.Store.rest c.args.target.now) (g.T.Store.rest c.copy_pieces.new.target) 4)
    (g.S.Store.steady c.args.source.now ≡ true) (g.T.Store.steady c.args.target.now ≡ true) c.in-Err.error c.in-Err.ensures.ended c.in-Err.ensures.never c.outcome_of.result c.outcome_of.ensures in
    causes.differs_at

pub returns-in-Err-clause-changed : goal.returns-in-Err-clause-changed
returns-in-Err-clause-changed g c =
    let causes = has_causes (g.S.Store.tree c.args.source.now) (is_some (g.T.Store.tree c.args.target.now)) c.args.plan.now c.args.pieces.now (pieces_belong c.args.options.now.blocks c.args.plan.now c.args.pieces.now c.requires.pieces)
    (Rose (g.T.Store.faults c.args.target.now) (g.T.Store.faults c.copy_pieces.new.target)) (c.args.options.now.ignore ≡ false) (RoseTogether (g.S.Store.rest c.args.source.now) (g.S.Store.rest c.copy_pieces.new.source) (g.T.Store.rest c.args.target.now) (g.T.Store.rest c.copy_pieces.new.target) 4)
    (g.S.Store.steady c.args.source.now ≡ true) (g.T.Store.steady c.args.target.now ≡ true) c.in-Err.error c.in-Err.ensures.ended c.in-Err.ensures.never c.outcome_of.result c.outcome_of.ensures in
    causes.changed

pub returns-in-Err-clause-changed_at : goal.returns-in-Err-clause-changed_at
returns-in-Err-clause-changed_at g c =
    let causes = has_causes (g.S.Store.tree c.args.source.now) (is_some (g.T.Store.tree c.args.target.now)) c.args.plan.now c.args.pieces.now (pieces_belong c.args.options.now.blocks c.args.plan.now c.args.pieces.now c.requires.pieces)
    (Rose (g.T.Store.faults c.args.target.now) (g.T.Store.faults c.copy_pieces.new.target)) (c.args.options.now.ignore ≡ false) (RoseTogether (g.S.Store.rest c.args.source.now) (g.S.Store.rest c.copy_pieces.new.source) (g.T.Store.rest c.args.target.now) (g.T.Store.rest c.copy_pieces.new.target) 4)
    (g.S.Store.steady c.args.source.now ≡ true) (g.T.Store.steady c.args.target.now ≡ true) c.in-Err.error c.in-Err.ensures.ended c.in-Err.ensures.never c.outcome_of.result c.outcome_of.ensures in
    causes.changed_at
