use Rattle.std.proofs.Common.{rules}
use Rattle.dc_pool.proofs.Steps.{splits}
use Rattle.dc_pool.proofs.draws.Draws.give_one.Goals as goal

pub split_seat-seat-requires : goal.split_seat-seat-requires
split_seat-seat-requires c = (search rules, search rules, splits _ _ _ c.requires.two.0 c.requires.two.1)
