use Rattle.dc_commit.specs.Making.{base_steps, folder_steps}
use Rattle.dc_commit.proofs.KeepLemmas.{quiet_keeps, quiet_of, keeps_again}
use Rattle.dc_commit.proofs.StepLemmas.{ok_right, stops_left, stops_right_if}
use Rattle.dc_commit.proofs.making.make_inner.Goals as goal

pub returns-in-Ok-clause-ok : goal.returns-in-Ok-clause-ok
returns-in-Ok-clause-ok g c = ok_right (base_steps c.args.plan.now) (folder_steps c.args.plan.now) (g.T.Store.tree c.args.target.now) (g.T.Store.tree c.make_base.new.target) (g.T.Store.tree c.make_folders.new.target) c.make_folders.result c.in-Ok.ensures.ok c.make_folders.ensures.ok

pub returns-in-Ok-clause-stops : goal.returns-in-Ok-clause-stops
returns-in-Ok-clause-stops g c = stops_right_if c.args.first c.in-Ok.done (base_steps c.args.plan.now) (folder_steps c.args.plan.now) (g.T.Store.tree c.args.target.now) (g.T.Store.tree c.make_base.new.target) (g.T.Store.tree c.make_folders.new.target) c.make_folders.result c.in-Ok.ensures.ok c.in-Ok.ensures.count c.make_folders.ensures.stops

pub returns-in-Ok-clause-kept : goal.returns-in-Ok-clause-kept
returns-in-Ok-clause-kept g c = quiet_keeps _ _ _ c.make_folders.result (quiet_of _ _ _ c.in-Ok.ensures.kept) c.make_folders.ensures.kept

pub returns-in-Err-clause-stops : goal.returns-in-Err-clause-stops
returns-in-Err-clause-stops g c = stops_left c.args.first (base_steps c.args.plan.now) (folder_steps c.args.plan.now) (g.T.Store.tree c.args.target.now) (g.T.Store.tree c.make_base.new.target) c.in-Err.error c.in-Err.ensures.stops

pub returns-in-Err-clause-kept : goal.returns-in-Err-clause-kept
returns-in-Err-clause-kept g c = keeps_again _ _ c.in-Err.error c.in-Err.ensures.kept
