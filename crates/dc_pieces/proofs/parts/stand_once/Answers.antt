-- The numbers in ascending order are the item's exactly where each stands once.
use Rattle.std.proofs.Common.{◌≡◌, ◌-◌, length, map, ap, subst, sym, arith}
use Rattle.std.specs.List.Sorted.{IsNonDecreasing, IsPermutation}
use Rattle.std.proofs.lemmas.Bool.{false≢true}
use Rattle.dc_pieces.specs.Parts.{number_of}
use Rattle.dc_pieces.proofs.StandLemmas.{other_length, numbers_length, stood, stood_row}
use Rattle.dc_pieces.proofs.parts.stand_once.Goals as goal

pub returns-then-parts-of_item : goal.returns-then-parts-of_item
returns-then-parts-of_item g c = (
  λ t. absurd (false≢true t),
  λ h. absurd (other_length c.args.pieces.now c.args.item c.args.parts.now c.numbers-of_item.result.start (c.numbers-of_item.result.end - c.numbers-of_item.result.start)
      c.numbers-of_item.ensures.numbers c.if-parts-of_item.true h),
)

pub are_in_row-requires : goal.are_in_row-requires
are_in_row-requires g c =
    let same : IsPermutation (map number_of c.args.parts.now) c.ascending-numbers.result.items =
    subst (λ xs. IsPermutation xs c.ascending-numbers.result.items) c.in_ok-numbers_in.ensures c.ascending-numbers.ensures.same in
    let long : length c.ascending-numbers.result.items ≡ length c.args.parts.now =
    numbers_length c.args.pieces.now c.args.item c.args.parts.now c.numbers-of_item.result.start (c.numbers-of_item.result.end - c.numbers-of_item.result.start)
    c.numbers-of_item.ensures.numbers c.ascending-numbers.result.items same in
    omega (arith, ap length c.as_slice.ensures.value, long, c.if-parts-of_item.false, c.numbers-of_item.ensures.rises, c.numbers-of_item.ensures.few)

pub returns : goal.returns
returns g c =
    let n = c.numbers-of_item.result.end - c.numbers-of_item.result.start in
    let made : IsPermutation (map number_of c.args.parts.now) c.ascending-numbers.result.items =
    subst (λ xs. IsPermutation xs c.ascending-numbers.result.items) c.in_ok-numbers_in.ensures c.ascending-numbers.ensures.same in
    let same : IsPermutation (map number_of c.args.parts.now) c.as_slice.result.now = subst (IsPermutation (map number_of c.args.parts.now)) (sym c.as_slice.ensures.value) made in
    let up : IsNonDecreasing c.as_slice.result.now = subst IsNonDecreasing (sym c.as_slice.ensures.value) c.ascending-numbers.ensures.rises in (
      λ t. stood c.args.pieces.now c.args.item c.args.parts.now c.numbers-of_item.result.start n c.numbers-of_item.ensures.numbers c.as_slice.result.now same c.if-parts-of_item.false
          (c.are_in_row.ensures.0 t),
      λ h. c.are_in_row.ensures.1 (stood_row c.args.pieces.now c.args.item c.args.parts.now c.numbers-of_item.result.start n c.numbers-of_item.ensures.numbers c.as_slice.result.now same up h),
    )
