-- The numbers are in a row exactly where each is at its place.
use Rattle.std.proofs.Common.{refl, arith}
use Rattle.std.proofs.lemmas.Bool.{false≢true}
use Rattle.dc_pieces.proofs.SortedLemmas.{row_from, row_at}
use Rattle.dc_pieces.proofs.parts.are_in_row.Goals as goal

pub returns-then-numbers-place : goal.returns-then-numbers-place
returns-then-numbers-place c =
    (λ t. absurd (false≢true t), λ e. absurd (c.if-numbers-place.true (row_at c.args.numbers.now c.args.first c.loop-place.place e c.loop-place-test.true)))

pub returns : goal.returns
returns c =
    (λ _. row_from c.args.numbers.now c.args.first (λ k l. c.loop-place.invariant k (omega (arith, l, c.loop-place-test.false, c.loop-place.auto.place-end))), λ _. refl)
