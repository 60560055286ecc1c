use Rattle.std.proofs.Common.{sym, subst}
use Rattle.dc_fs.specs.Answers.{Changes}
use Rattle.dc_report.specs.declared.entries.Move.{Move}
use Rattle.dc_replay.specs.Steps.{step}
use Rattle.dc_sync.proofs.ReplayLemmas.{make_changes}
use Rattle.dc_sync.proofs.replaying.make_move.Goals as goal

pub returns-in-Make-clause-tree : goal.returns-in-Make-clause-tree
returns-in-Make-clause-tree g c =
    subst (λ (one : Move). Changes (step one) (g.T.Store.tree c.args.target.now) (g.T.Store.tree c.make_dir.new.self) c.make_dir.result) (sym c.in-Make.is)
    (make_changes c.in-Make.path (g.T.Store.tree c.args.target.now) (g.T.Store.tree c.make_dir.new.self) c.make_dir.result c.make_dir.ensures.tree c.make_dir.ensures.answers)
