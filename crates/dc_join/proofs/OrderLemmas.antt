-- Parts in the order of their pieces: their items do not fall, and land; and how many there are.
use Rattle.std.proofs.Common.{◌≡◌, ℕ, suc, ◌+◌, ◌≤◌, ◌<◌, true, Option, Some, None, List, [], ◌∷◌, ◌++◌, length, get_or, refl, ap, subst, ◌∙◌, arith, slice_get, length-append}
use Rattle.std.specs.List.{flat_map, list_all, sum_by}
use Rattle.std.specs.List.Sorted.{IsNonDecreasingBy}
use Rattle.std.specs.Option.{option_map_or}
use Rattle.std.proofs.lemmas.Bool.{cond_both, le-leb, and_from, and_parts}
use Rattle.std.proofs.lemmas.List.{length-map}
use Rattle.std.proofs.lemmas.List.Folds.{list_all-append}
use Rattle.std.proofs.lemmas.List.Sums.{sum_by-cons}
use Rattle.std.proofs.lemmas.Option.{option_and_then_some, slice_get_within, get_or_from_slice_get, none-some, same_Some}
use Rattle.dc_commit.specs.Landing.{is_ready, parts_of}
use Rattle.dc_commit.specs.declared.landing.Ready.{Ready}
use Rattle.dc_decide.specs.Plans.{Decisions}
use Rattle.dc_pieces.proofs.PieceLemmas.{item_of}
use Rattle.dc_pieces.specs.Parts.{number_of}
use Rattle.dc_pieces.specs.declared.parts.Part.{Part}
use Rattle.dc_pieces.specs.declared.piece.Piece.{Piece}
use Rattle.dc_join.specs.Joining.{Bit, bit_of, bits_of, bit_for, item_for, landing_item, lands_at}
use Rattle.dc_join.specs.Adding.{is_last, begun, longer, with_more, added, grouped}
use Rattle.dc_join.proofs.AddingLemmas.{NoFall}

-- ---- the item of a piece that lands
record LandsAs (plan : Decisions) (pieces : List Piece) (number item : ℕ) : Type 0 where
  piece : Piece
  there : slice_get pieces number ≡ Some piece
  its : piece.item ≡ item
  lands : lands_at plan item ≡ true

landing_is : (plan : Decisions) (p : Piece) (item : ℕ) → landing_item plan p ≡ Some item → (p.item ≡ item) × (lands_at plan p.item ≡ true)
landing_is plan p item =
    cond_both (lands_at plan p.item) (Some p.item) None (λ o. o ≡ Some item → (p.item ≡ item) × (lands_at plan p.item ≡ true))
    (λ t e. (same_Some p.item item e, t))
    (λ _ e. absurd (none-some item e))

item_is : (plan : Decisions) (pieces : List Piece) (number item : ℕ) → item_for plan pieces number ≡ Some item → LandsAs plan pieces number item
item_is plan pieces number item e =
    option_and_then_some (landing_item plan) (slice_get pieces number) item e
    (λ p there is.
    let k = landing_is plan p item is in
    record { piece = p; there = there; its = k.0; lands = subst (λ i. lands_at plan i ≡ true) (k.0) (k.1) })

items_keep : (plan : Decisions) (pieces : List Piece) → IsNonDecreasingBy item_of pieces → (a b i j : ℕ) → item_for plan pieces a ≡ Some i → item_for plan pieces b ≡ Some j → a ≤ b → i ≤ j
items_keep plan pieces up a b i j x y le =
    let p = item_is plan pieces a i x in
    let q = item_is plan pieces b j y in
    let first : get_or pieces a p.piece ≡ p.piece = get_or_from_slice_get pieces a p.piece p.piece p.there in
    let second : get_or pieces b p.piece ≡ q.piece = get_or_from_slice_get pieces b q.piece p.piece q.there in
    omega (arith, p.its, q.its, ap item_of first, ap item_of second, up a b p.piece le (slice_get_within pieces b q.piece q.there))

module _ {P : Type 0} (x : Part P) where
  -- a part that is given is a bit or nothing
  bits_fall : (least : ℕ) (o : Option ℕ) (bits : List (Bit P)) → (o ≡ None → NoFall least bits) → ((item : ℕ) → o ≡ Some item → (least ≤ item) × NoFall item bits) →
      NoFall least (option_map_or (λ item. bit_of item x.part ∷ []) o [] ++ bits)
  bits_fall least None bits none some = none refl
  bits_fall least (Some item) bits none some = some item refl

  bits_few : (o : Option ℕ) (bits : List (Bit P)) (n : ℕ) → length bits ≤ n → length (option_map_or (λ item. bit_of item x.part ∷ []) o [] ++ bits) ≤ n + 1
  bits_few None bits n h = omega (arith, h)
  bits_few (Some item) bits n h = omega (arith, h)

module _ {P : Type 0} (plan : Decisions) (pieces : List Piece) where
  -- ---- the items do not fall
  module _ (up : IsNonDecreasingBy item_of pieces) where
    pub no_fall : (least : ℕ) (xs : List (Part P)) → IsNonDecreasingBy number_of xs →
        ((k i : ℕ) (d : Part P) → k < length xs → item_for plan pieces (get_or xs k d).piece ≡ Some i → least ≤ i) →
        NoFall least (flat_map (bit_for plan pieces) xs)
    no_fall least [] r h = tt
    no_fall least (x ∷ xs) r h =
        let tail : IsNonDecreasingBy number_of xs = λ i j d le l. r (suc i) (suc j) d (omega (arith, le)) (omega (arith, l)) in
        bits_fall x least (item_for plan pieces x.piece) (flat_map (bit_for plan pieces) xs)
        (λ _. no_fall least xs tail (λ k i d l is. h (suc k) i d (omega (arith, l)) is))
        (λ item e. (
          h 0 item x (omega arith) e,
          no_fall item xs tail (λ k i d l is. items_keep plan pieces up x.piece (get_or xs k d).piece item i e is (r 0 (suc k) d (omega arith) (omega (arith, l)))),
        ))

  -- ---- they land
  abbrev pub AllLand : List (Bit P) → Type 0
  AllLand [] = Unit {0}
  AllLand (b ∷ bits) = (lands_at plan b.item ≡ true) × AllLand bits

  land_more : (x : Part P) (o : Option ℕ) (bits : List (Bit P)) → ((item : ℕ) → o ≡ Some item → lands_at plan item ≡ true) → AllLand bits →
      AllLand (option_map_or (λ item. bit_of item x.part ∷ []) o [] ++ bits)
  land_more x None bits lands all = all
  land_more x (Some item) bits lands all = (lands item refl, all)

  pub all_land : (xs : List (Part P)) → AllLand (flat_map (bit_for plan pieces) xs)
  all_land [] = tt
  all_land (x ∷ xs) = land_more x (item_for plan pieces x.piece) (flat_map (bit_for plan pieces) xs) (λ item e. (item_is plan pieces x.piece item e).lands) (all_land xs)

  -- ---- files that are ready
  longer_ready : (part : P) (f : Ready P) → is_ready plan f ≡ true → is_ready plan (longer part f) ≡ true
  longer_ready part f h =
      and_from (lands_at plan f.item) _ ((and_parts (lands_at plan f.item) _ h).0)
      (le-leb 1 (length (f.parts ++ part ∷ [])) (omega (arith, length-append f.parts (part ∷ []))))

  more_ready : (part : P) (fs : List (Ready P)) → list_all (is_ready plan) fs ≡ true → list_all (is_ready plan) (with_more part fs) ≡ true
  more_ready part [] h = refl
  more_ready part (f ∷ []) h = and_from _ true (longer_ready part f ((and_parts _ true h).0)) refl
  more_ready part (f ∷ g ∷ fs) h = and_from _ _ ((and_parts _ _ h).0) (more_ready part (g ∷ fs) ((and_parts _ _ h).1))

  added_ready : (item : ℕ) (part : P) (fs : List (Ready P)) → list_all (is_ready plan) fs ≡ true → lands_at plan item ≡ true → list_all (is_ready plan) (added item part fs) ≡ true
  added_ready item part fs h l =
      cond_both (is_last item fs) (with_more part fs) (fs ++ begun item part ∷ []) (λ files. list_all (is_ready plan) files ≡ true)
      (λ _. more_ready part fs h)
      (λ _. list_all-append (is_ready plan) fs (begun item part ∷ []) ∙ and_from _ _ h (and_from _ true (and_from _ true l refl) refl))

  pub grouped_ready : (fs : List (Ready P)) (bits : List (Bit P)) → list_all (is_ready plan) fs ≡ true → AllLand bits → list_all (is_ready plan) (grouped fs bits) ≡ true
  grouped_ready fs [] h l = h
  grouped_ready fs (b ∷ bits) h l = grouped_ready (added b.item b.part fs) bits (added_ready b.item b.part fs h (l.0)) (l.1)

  -- ---- how many parts there are
  pub few_bits : (xs : List (Part P)) → length (flat_map (bit_for plan pieces) xs) ≤ length xs
  few_bits [] = omega arith
  few_bits (x ∷ xs) = omega (arith, bits_few x (item_for plan pieces x.piece) (flat_map (bit_for plan pieces) xs) (length xs) (few_bits xs))

pub bits_count : {P : Type 0} (fs : List (Ready P)) → sum_by parts_of fs ≡ length (flat_map bits_of fs)
bits_count [] = refl
bits_count (f ∷ fs) =
    omega (arith, sum_by-cons parts_of f fs, bits_count fs, length-append (bits_of f) (flat_map bits_of fs), length-map f.parts (bit_of f.item))
