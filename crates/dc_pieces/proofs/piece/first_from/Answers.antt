-- The search finds the bound, since items do not fall.
use Rattle.std.proofs.Common.{nat_lt, rules}
use Rattle.std.proofs.lemmas.Bool.{ltb-true, ltb-false}
use Rattle.std.proofs.lemmas.List.Sorted.{IsPartitionedBy-ltb, IsPartitionPoint-from_clause}
use Rattle.dc_pieces.specs.declared.piece.Piece.{Piece}
use Rattle.dc_pieces.proofs.PieceLemmas.{item_of, items_rise}
use Rattle.dc_pieces.proofs.piece.first_from.Goals as goal

pub returns-clause-below : goal.returns-clause-below
returns-clause-below c =
    let at = IsPartitionPoint-from_clause (λ (p : Piece). nat_lt p.item c.args.item) c.args.pieces.now c.partition_point.result c.partition_point.ensures.partitioned
    (IsPartitionedBy-ltb item_of c.args.pieces.now c.args.item (items_rise c.args.pieces.now c.requires)) (λ a r f k. search rules) in
    λ k d a b. ltb-true _ _ (at.0 k d a b)

pub returns-clause-above : goal.returns-clause-above
returns-clause-above c =
    let at = IsPartitionPoint-from_clause (λ (p : Piece). nat_lt p.item c.args.item) c.args.pieces.now c.partition_point.result c.partition_point.ensures.partitioned
    (IsPartitionedBy-ltb item_of c.args.pieces.now c.args.item (items_rise c.args.pieces.now c.requires)) (λ a r f k. search rules) in
    λ k d a b. ltb-false _ _ (at.1 k d a b)
