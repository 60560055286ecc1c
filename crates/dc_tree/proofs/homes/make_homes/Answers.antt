use Rattle.std.proofs.Common.{◌∙◌, ap}
use Rattle.dc_tree.specs.Homes.{home_at}
use Rattle.dc_tree.proofs.Homing.{homes_pushed, homes_longer}
use Rattle.dc_tree.proofs.homes.make_homes.Goals as goal

pub loop-preserved : goal.loop-preserved
loop-preserved c = (
  ap home_at c.in_ok-push.ensures.items ∙ homes_pushed c.loop.homes.items ∙ c.loop.invariant.0,
  homes_longer c.loop.homes.items c.push.new.self.items c.loop.counter c.in_ok-push.ensures.items c.loop.invariant.1,
)
