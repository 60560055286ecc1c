use Rattle.dc_commit.proofs.MoveLemmas.{found_done, absent_still}
use Rattle.dc_commit.proofs.moving.try_move.Goals as goal

pub returns-in-There-clause-tree : goal.returns-in-There-clause-tree
returns-in-There-clause-tree g c = found_done (g.T.Store.tree c.args.target.now) (g.T.Store.tree c.rename.new.self) (g.T.Store.tree c.look_thrice.new.target) c.args.work.now c.args.place.now (rw c.in-Err-Fault.field-0-is at c.in-Err-Fault.ensures.tree) c.look_thrice.ensures.tree c.in-There.ensures.shows

pub returns-in-Absent-clause-tree : goal.returns-in-Absent-clause-tree
returns-in-Absent-clause-tree g c = absent_still (g.T.Store.tree c.args.target.now) (g.T.Store.tree c.rename.new.self) (g.T.Store.tree c.look_thrice.new.target) c.args.work.now c.args.place.now (rw c.in-Err-Fault.field-0-is at c.in-Err-Fault.ensures.tree) c.look_thrice.ensures.tree c.in-Absent.ensures.shows
