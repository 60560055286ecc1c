-- Parts in which each piece of an item stands once, and their order.
use Rattle.std.proofs.Common.{◌≡◌, ℕ, zero, suc, ◌+◌, ◌<◌, ◌≤◌, nat_eq, List, [], ◌∷◌, length, get_or, map, sym, ap, subst, ◌∙◌, arith}
use Rattle.std.specs.List.{range_with_len}
use Rattle.std.specs.List.Sorted.{IsNonDecreasing, IsNonDecreasingBy, IsPermutation}
use Rattle.std.proofs.lemmas.Bool.{cond_both}
use Rattle.std.proofs.lemmas.List.{length-map}
use Rattle.std.proofs.lemmas.List.FromFn.{length-range_with_len}
use Rattle.std.proofs.lemmas.List.Sorted.{IsPermutation-map, length_permutation}
use Rattle.dc_pieces.specs.declared.piece.Piece.{Piece}
use Rattle.dc_pieces.specs.declared.parts.Part.{Part}
use Rattle.dc_pieces.specs.Parts.{numbers_from, numbers_of, number_of, part_of, StandOnce, IsWhole}
use Rattle.dc_pieces.proofs.SortedLemmas.{sorted_once, rise_cons, keys_rise}

-- ---- the numbers of an item's pieces rise
abbrev AllFrom : ℕ → List ℕ → Type 0
AllFrom n xs = (k d : ℕ) → k < length xs → n ≤ get_or xs k d

from_cons : (n : ℕ) (xs : List ℕ) → AllFrom (n + 1) xs → AllFrom n (n ∷ xs)
from_cons n xs h zero d l = omega arith
from_cons n xs h (suc k) d l = omega (arith, h k d (omega (arith, l)))

from_later : (n : ℕ) (xs : List ℕ) → AllFrom (n + 1) xs → AllFrom n xs
from_later n xs h k d l = omega (arith, h k d l)

numbers_above : (item n : ℕ) (ps : List Piece) → AllFrom n (numbers_from item n ps)
numbers_above item n [] = λ k d l. absurd (omega (arith, l))
numbers_above item n (p ∷ ps) =
    cond_both (nat_eq p.item item) (n ∷ numbers_from item (n + 1) ps) (numbers_from item (n + 1) ps) (AllFrom n)
    (λ _. from_cons n (numbers_from item (n + 1) ps) (numbers_above item (n + 1) ps))
    (λ _. from_later n (numbers_from item (n + 1) ps) (numbers_above item (n + 1) ps))

numbers_rise : (item n : ℕ) (ps : List Piece) → IsNonDecreasing (numbers_from item n ps)
numbers_rise item n [] = λ i j d le l. absurd (omega (arith, l))
numbers_rise item n (p ∷ ps) =
    cond_both (nat_eq p.item item) (n ∷ numbers_from item (n + 1) ps) (numbers_from item (n + 1) ps) IsNonDecreasing
    (λ _. rise_cons n (numbers_from item (n + 1) ps) (from_later n (numbers_from item (n + 1) ps) (numbers_above item (n + 1) ps)) (numbers_rise item (n + 1) ps))
    (λ _. numbers_rise item (n + 1) ps)

module _ {P : Type 0} (pieces : List Piece) (item : ℕ) (parts : List (Part P)) where
  -- ---- the test
  module _ (first n : ℕ) (row : numbers_of pieces item ≡ range_with_len first n) where
    stood_length : StandOnce pieces item parts → length parts ≡ n
    stood_length h =
        omega (arith, length_permutation (map number_of parts) (numbers_of pieces item) h, length-map parts number_of, ap length row, length-range_with_len first n)

    pub other_length : (length parts ≡ n → ⊥) → StandOnce pieces item parts → ⊥
    other_length other h = other (stood_length h)

    module _ (numbers : List ℕ) (same : IsPermutation (map number_of parts) numbers) where
      pub numbers_length : length numbers ≡ length parts
      numbers_length = length_permutation (map number_of parts) numbers same ∙ length-map parts number_of

      pub stood : length parts ≡ n → numbers ≡ range_with_len first (length numbers) → StandOnce pieces item parts
      stood long e =
          subst (IsPermutation (map number_of parts)) (e ∙ ap (range_with_len first) (numbers_length ∙ long) ∙ sym row) same

      pub stood_row : IsNonDecreasing numbers → StandOnce pieces item parts → numbers ≡ range_with_len first (length numbers)
      stood_row up h =
          sorted_once (map number_of parts) numbers (numbers_of pieces item) same h up (numbers_rise item 0 pieces)
          ∙ row ∙ ap (range_with_len first) (sym (numbers_length ∙ stood_length h))

  -- ---- the order
  pub whole_of : StandOnce pieces item parts → (sorted : List (Part P)) → IsPermutation parts sorted → IsNonDecreasingBy number_of sorted →
      (whole : List P) → whole ≡ map part_of sorted → IsWhole pieces item parts whole
  whole_of h sorted same up whole e = record {
    sorted = sorted;
    same = same;
    numbers =
        sorted_once (map number_of parts) (map number_of sorted) (numbers_of pieces item)
        (IsPermutation-map number_of parts sorted same) h (keys_rise number_of sorted up) (numbers_rise item 0 pieces);
    parts_in_order = e;
  }
