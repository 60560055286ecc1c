-- The files are made of the parts in the order of their pieces.
use Rattle.std.proofs.Common.{◌∙◌, [], ap, subst}
use Rattle.std.specs.List.{flat_map}
use Rattle.std.specs.List.Sorted.{IsPermutation}
use Rattle.dc_join.specs.Adding.{grouped}
use Rattle.dc_join.specs.Joining.{bit_for}
use Rattle.dc_join.proofs.JoinLemmas.{are_ready, counted, joined}
use Rattle.dc_join.proofs.joining.join.Goals as goal

pub returns-clause-joined : goal.returns-clause-joined
returns-clause-joined g c =
    let same = subst (λ parts. IsPermutation parts c.by_piece-sorted.result.items) c.into_vec.ensures c.by_piece-sorted.ensures.same in
    let made = c.of.ensures ∙ c.in_ok-files.ensures ∙ ap (λ pieces. grouped [] (flat_map (bit_for c.args.plan.now pieces) c.by_piece-sorted.result.items)) c.as_slice.ensures.value in
    joined c.args.plan.now c.args.pieces.now c.as_slice.ensures.pieces c.args.parts c.by_piece-sorted.result.items same c.by_piece-sorted.ensures.rises c.of.result made

pub returns-clause-ready : goal.returns-clause-ready
returns-clause-ready g c =
    let same = subst (λ parts. IsPermutation parts c.by_piece-sorted.result.items) c.into_vec.ensures c.by_piece-sorted.ensures.same in
    let made = c.of.ensures ∙ c.in_ok-files.ensures ∙ ap (λ pieces. grouped [] (flat_map (bit_for c.args.plan.now pieces) c.by_piece-sorted.result.items)) c.as_slice.ensures.value in
    are_ready c.args.plan.now c.args.pieces.now c.as_slice.ensures.pieces c.args.parts c.by_piece-sorted.result.items same c.by_piece-sorted.ensures.rises c.of.result made

pub returns-clause-counted : goal.returns-clause-counted
returns-clause-counted g c =
    let same = subst (λ parts. IsPermutation parts c.by_piece-sorted.result.items) c.into_vec.ensures c.by_piece-sorted.ensures.same in
    let made = c.of.ensures ∙ c.in_ok-files.ensures ∙ ap (λ pieces. grouped [] (flat_map (bit_for c.args.plan.now pieces) c.by_piece-sorted.result.items)) c.as_slice.ensures.value in
    counted c.args.plan.now c.args.pieces.now c.as_slice.ensures.pieces c.args.parts c.by_piece-sorted.result.items same c.by_piece-sorted.ensures.rises c.of.result made
