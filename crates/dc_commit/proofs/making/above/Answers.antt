use Rattle.dc_commit.proofs.MakeLemmas.{above_within}
use Rattle.dc_commit.proofs.making.above.Goals as goal

pub returns-clause-within : goal.returns-clause-within
returns-clause-within c = above_within c.args.path.now c.len-count.ensures.path
