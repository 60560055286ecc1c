-- What files are that are made of parts in the order of their pieces.
use Rattle.std.proofs.Common.{◌≡◌, ◌≤◌, true, List, [], length, map, refl, ap, ◌∙◌, arith}
use Rattle.std.specs.List.{flat_map, list_all, sum_by}
use Rattle.std.specs.List.Sorted.{IsNonDecreasingBy, IsPermutation}
use Rattle.std.proofs.lemmas.List.Sorted.{length_permutation}
use Rattle.dc_commit.specs.Landing.{is_ready, parts_of}
use Rattle.dc_commit.specs.declared.landing.Ready.{Ready}
use Rattle.dc_decide.specs.Plans.{Decisions}
use Rattle.dc_pieces.proofs.PieceLemmas.{items_rise}
use Rattle.dc_pieces.specs.Parts.{number_of}
use Rattle.dc_pieces.specs.Pieces.{ArePieces}
use Rattle.dc_pieces.specs.declared.parts.Part.{Part}
use Rattle.dc_pieces.specs.declared.piece.Piece.{Piece}
use Rattle.dc_join.specs.Adding.{grouped}
use Rattle.dc_join.specs.Joining.{AreJoined, bit_for, bits_of, ready_item, rises_from}
use Rattle.dc_join.proofs.AddingLemmas.{all_rise, grouped_bits}
use Rattle.dc_join.proofs.OrderLemmas.{all_land, bits_count, few_bits, grouped_ready, no_fall}

module _ {P : Type 0} (plan : Decisions) (pieces : List Piece) (are : ArePieces pieces) (parts sorted : List (Part P)) (same : IsPermutation parts sorted) (ordered : IsNonDecreasingBy number_of sorted)
    (files : List (Ready P)) (made : files ≡ grouped [] (flat_map (bit_for plan pieces) sorted)) where
  in_row : flat_map bits_of files ≡ flat_map (bit_for plan pieces) sorted
  in_row = ap (flat_map bits_of) made ∙ grouped_bits [] (flat_map (bit_for plan pieces) sorted)

  pub joined : AreJoined plan pieces parts files
  joined = record {
    sorted = sorted;
    same = same;
    ordered = ordered;
    joined = in_row;
    apart =
        ap (λ fs. rises_from 0 (map ready_item fs)) made
        ∙ all_rise (flat_map (bit_for plan pieces) sorted) (no_fall plan pieces (items_rise pieces are.ordered) 0 sorted ordered (λ k i d l e. omega arith));
  }

  pub are_ready : list_all (is_ready plan) files ≡ true
  are_ready = ap (list_all (is_ready plan)) made ∙ grouped_ready plan pieces [] (flat_map (bit_for plan pieces) sorted) refl (all_land plan pieces sorted)

  pub counted : sum_by parts_of files ≤ length parts
  counted = omega (arith, bits_count files, ap length in_row, few_bits plan pieces sorted, length_permutation parts sorted same)
