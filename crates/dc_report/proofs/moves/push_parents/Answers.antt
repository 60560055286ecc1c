-- A path more is made, or passed over.
use Rattle.std.proofs.Common.{◌+◌, drop, sym, subst, arith}
use Rattle.std.specs.Option.{option_copied}
use Rattle.dc_path.specs.Paths.{IsPath}
use Rattle.dc_path.proofs.LimitLemmas.{front_within, path_within}
use Rattle.dc_report.proofs.WalkLoop.{walk_end, walk_more, walk_parted}
use Rattle.dc_report.proofs.moves.push_parents.Goals as goal

pub child_within-requires : goal.child_within-requires
child_within-requires c =
    let new = c.args.new.now in
    let e = walk_parted new c.loop-count.count c.in-Some.name.now (sym c.in-Some.ensures) in
    rw c.loop-count.invariant.walked (front_within _ (drop (c.loop-count.count + 1) new) (path_within _ (subst IsPath e c.len-count-end.ensures.path)))

pub loop-count-preserved : goal.loop-count-preserved
loop-count-preserved c =
    rw c.in_ok-front.ensures
    (rw c.is_fresh-fresh.ensures
    (walk_more c.args.ground.now (option_copied c.args.last) c.args.new.now c.loop-count.count c.loop-count.front c.loop-count.fresh c.in-Some.name.now c.args.moves.now
    c.loop-count.moves c.push_parent.new.moves c.loop-count.invariant (sym c.in-Some.ensures) (rw c.is_fresh-fresh.ensures at c.in_ok-push_parent.ensures)))

pub returns : goal.returns
returns c =
    walk_end c.args.ground.now (option_copied c.args.last) c.args.new.now c.loop-count.count c.loop-count.front c.loop-count.fresh c.args.moves.now c.loop-count.moves c.loop-count.invariant
    (omega arith)
