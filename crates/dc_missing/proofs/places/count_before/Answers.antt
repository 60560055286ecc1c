use Rattle.std.proofs.Common.{rules, of_calls}
use Rattle.std.proofs.lemmas.Fn.{always_returns_same}
use Rattle.dc_path.specs.Order.{path_lt}
use Rattle.dc_path.proofs.OrderLemmas.{path_lt-cmp}
use Rattle.dc_decide.specs.Plans.{Decision, item_rel}
use Rattle.dc_missing.proofs.PlaceLemmas.{parted}
use Rattle.dc_missing.proofs.places.count_before.Goals as goal

pub returns : goal.returns
returns c = c.partition_point.ensures.partitioned (λ (d : Decision). path_lt (item_rel d) c.args.path.now) (always_returns_same _ _ _ (λ a r f k. search (rules, of_calls, path_lt-cmp))) (parted c.args.items.now c.args.path.now c.requires)
