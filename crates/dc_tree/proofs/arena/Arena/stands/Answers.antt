use Rattle.dc_tree.proofs.Ways.{stands_at}
use Rattle.dc_tree.proofs.arena.Arena.stands.Goals as goal

pub returns-in-At-clause-slot : goal.returns-in-At-clause-slot
returns-in-At-clause-slot c = let way = c.find.ensures.way in stands_at c.args.self.now c.args.path.now c.in-At.at way.forest (way.at c.in-At.at c.in-At.is) c.in-At.ensures.way.seen
