-- What the sort says of the order.
use Rattle.std.proofs.Common.{rules}
use Rattle.std.proofs.lemmas.List.Sorted.{IsNonDecreasingBy-from_sort_by_key}
use Rattle.dc_pieces.specs.Parts.{number_of}
use Rattle.dc_join.proofs.joining.by_piece.Goals as goal

pub returns-clause-rises : goal.returns-clause-rises
returns-clause-rises g c = IsNonDecreasingBy-from_sort_by_key number_of _ c.sort_unstable_by_key.ensures.sorted (λ a r q k. search rules)
