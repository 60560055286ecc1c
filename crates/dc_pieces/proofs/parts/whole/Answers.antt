-- The parts stand once each, and are sorted.
use Rattle.std.proofs.Common.{◌∙◌, ap, subst, length, arith}
use Rattle.std.specs.List.Sorted.{IsPermutation}
use Rattle.std.proofs.lemmas.List.Sorted.{length_permutation}
use Rattle.dc_pieces.specs.Parts.{StandOnce}
use Rattle.dc_pieces.proofs.StandLemmas.{whole_of}
use Rattle.dc_pieces.proofs.parts.whole.Goals as goal

pub unpacked-requires-clause-room : goal.unpacked-requires-clause-room
unpacked-requires-clause-room g c =
    omega (arith, length_permutation _ _ c.by_number.ensures.same, ap length c.into_vec.ensures, c.len.ensures, c.in-Ok.ensures.capacity)

pub returns-in-Ok-clause-whole : goal.returns-in-Ok-clause-whole
returns-in-Ok-clause-whole g c =
    let stand = subst (StandOnce c.args.pieces.now c.args.item) c.as_slice.ensures (c.in-Ok-true.ensures.0 c.in-Ok-true.field-0-test) in
    let same = subst (λ parts. IsPermutation parts c.by_number.result.items) c.into_vec.ensures c.by_number.ensures.same in
    whole_of c.args.pieces.now c.args.item c.args.parts stand c.by_number.result.items same c.by_number.ensures.rises c.of.result (c.of.ensures ∙ c.unpacked.ensures)
