-- There is room for each part.
use Rattle.std.proofs.Common.{arith, rules}
use Rattle.std.proofs.lemmas.Iterator.Adapters.{YieldsList-from_vec}
use Rattle.std.proofs.lemmas.Iterator.Consumers.{YieldsList-turn}
use Rattle.dc_pieces.proofs.parts.unpacked.Goals as goal

pub unreachable-requires : goal.unreachable-requires
unreachable-requires g c =
    let all = YieldsList-from_vec {s = c.into_iter-part-iterator.result} c.args.parts.items (search rules) (search rules) in
    let turn = YieldsList-turn all c.loop-part.yielded c.loop-part.part-iterator c.loop-part.yielded_by c.next.result c.next.new.self c.in-Some.part c.in-Some.is c.next.ensures.steps in
    omega (arith, turn.0, c.in-Err.ensures.full, c.loop-part.invariant.long, c.loop-part.invariant.room)
