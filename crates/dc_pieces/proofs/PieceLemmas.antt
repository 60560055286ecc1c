-- Pieces in order, and the numbers of an item's pieces.
use Rattle.std.proofs.Common.{◌≡◌, ℕ, zero, suc, ◌+◌, ◌-◌, ◌<◌, ◌≤◌, ◌^◌, true, ◌&&◌, cond, nat_eq, nat_lt, ◌⊎◌, inl, inr, List, [], ◌∷◌, length, get_or, refl, ap, ap₂, ◌∙◌, arith, add-one, IfSome, slice_get}
use Rattle.std.specs.List.{list_all, range_with_len, AllWithin}
use Rattle.std.specs.List.Sorted.{IsNonDecreasingBy}
use Rattle.std.proofs.lemmas.Bool.{cases_lt, or_cases, and_parts, ltb-true, eqb-true, ne_eqb, eq-eqb, cond-true, cond-false}
use Rattle.std.proofs.lemmas.List.Sorted.{IsNonDecreasingBy-from_all_adjacent}
use Rattle.dc_pieces.specs.declared.piece.Piece.{Piece}
use Rattle.dc_pieces.specs.Pieces.{are_in_order, ends_within}
use Rattle.dc_pieces.specs.Parts.{numbers_from, numbers_of}

-- ---- each piece by its number
pub fits_at : (ps : List Piece) (number : ℕ) → list_all ends_within ps ≡ true → IfSome (slice_get ps number) (λ p. p.from + p.length < 2 ^ 64)
fits_at [] number h = tt
fits_at (p ∷ ps) zero h = ltb-true (p.from + p.length) (2 ^ 64) ((and_parts _ _ h).0)
fits_at (p ∷ ps) (suc number) h = fits_at ps number ((and_parts _ _ h).1)

-- ---- the items do not fall
abbrev pub item_of : Piece → ℕ
item_of p = p.item

no_fall : (p q : Piece) → (nat_lt p.item q.item ≡ true) ⊎ ((nat_eq p.item q.item && nat_eq (p.from + p.length) q.from) ≡ true) → p.item ≤ q.item
no_fall p q (inl h) = omega (arith, ltb-true p.item q.item h)
no_fall p q (inr h) = omega (arith, eqb-true p.item q.item ((and_parts _ _ h).0))

adjacent : (ps : List Piece) → are_in_order ps ≡ true → (k : ℕ) (d : Piece) → suc k < length ps → (get_or ps k d).item ≤ (get_or ps (suc k) d).item
adjacent [] h k d lt = absurd (omega arith)
adjacent (p ∷ []) h k d lt = absurd (omega arith)
adjacent (p ∷ q ∷ ps) h zero d lt = no_fall p q (or_cases _ _ ((and_parts _ _ h).0))
adjacent (p ∷ q ∷ ps) h (suc k) d lt = adjacent (q ∷ ps) ((and_parts _ _ h).1) k d (omega arith)

pub items_rise : (ps : List Piece) → are_in_order ps ≡ true → IsNonDecreasingBy item_of ps
items_rise ps h = IsNonDecreasingBy-from_all_adjacent item_of ps (λ k d lt. rw (add-one k) (adjacent ps h k d (omega arith)))

-- ---- the numbers of an item's pieces
module _ (item : ℕ) where
  other : (p : Piece) (xs ys : List ℕ) → (p.item ≡ item → ⊥) → cond (nat_eq p.item item) xs ys ≡ ys
  other p xs ys h = cond-false _ xs ys (ne_eqb p.item item h)

  its : (p : Piece) (xs ys : List ℕ) → p.item ≡ item → cond (nat_eq p.item item) xs ys ≡ xs
  its p xs ys h = cond-true _ xs ys (eq-eqb p.item item h)

  in_row : (ps : List Piece) (n start count : ℕ) → start + count ≤ length ps →
      ((k : ℕ) (d : Piece) → k < start → (get_or ps k d).item < item) →
      ((k : ℕ) (d : Piece) → start ≤ k → k < start + count → (get_or ps k d).item ≡ item) →
      ((k : ℕ) (d : Piece) → start + count ≤ k → k < length ps → item < (get_or ps k d).item) →
      numbers_from item n ps ≡ range_with_len (n + start) count
  in_row [] n start zero l f g h = refl
  in_row [] n start (suc count) l f g h = absurd (omega arith)
  in_row (p ∷ ps) n zero zero l f g h =
      other p _ _ (λ e. absurd (omega (arith, e, h 0 p (omega arith) (omega arith))))
      ∙ in_row ps (n + 1) 0 0 (omega arith) (λ k d b. absurd (omega arith)) (λ k d a b. absurd (omega arith)) (λ k d a b. h (suc k) d (omega arith) (omega arith))
  in_row (p ∷ ps) n zero (suc count) l f g h =
      let first : n ≡ n + 0 = omega arith in
      let next : n + 1 + 0 ≡ n + 0 + 1 = omega arith in
      its p _ _ (g 0 p (omega arith) (omega arith))
      ∙ ap₂ (λ k ks. k ∷ ks) first
      (in_row ps (n + 1) 0 count (omega arith) (λ k d b. absurd (omega arith)) (λ k d a b. g (suc k) d (omega arith) (omega arith)) (λ k d a b. h (suc k) d (omega arith) (omega arith))
      ∙ ap (λ k. range_with_len k count) next)
  in_row (p ∷ ps) n (suc start) count l f g h =
      let next : n + 1 + start ≡ n + suc start = omega arith in
      other p _ _ (λ e. absurd (omega (arith, e, f 0 p (omega arith))))
      ∙ in_row ps (n + 1) start count (omega arith) (λ k d b. f (suc k) d (omega arith)) (λ k d a b. g (suc k) d (omega arith) (omega arith)) (λ k d a b. h (suc k) d (omega arith) (omega arith))
      ∙ ap (λ k. range_with_len k count) next

module _ (item start end : ℕ) (ps : List Piece) (below : AllWithin (λ p. p.item < item) ps 0 start) (next : AllWithin (λ p. item + 1 ≤ p.item) ps end (length ps)) where
  nowhere : end < start → start ≤ length ps → ⊥
  nowhere l within =
      let d : Piece = record { item = 0; from = 0; length = 0 } in
      omega (arith, below end d (omega arith) l, next end d (omega arith) (omega arith))

  -- what comes before the next item's pieces does not end before what comes before the item's
  pub bounds_rise : start ≤ length ps → start ≤ end
  bounds_rise within = rise (cases_lt end start)
    where
      rise : (end < start) ⊎ (start ≤ end) → start ≤ end
      rise (inl l) = absurd (nowhere l within)
      rise (inr l) = l

  -- the item's pieces stand from one bound to the other
  pub numbers-bounds : start ≤ end → end ≤ length ps → AllWithin (λ p. item ≤ p.item) ps start (length ps) → AllWithin (λ p. p.item < item + 1) ps 0 end →
      numbers_of ps item ≡ range_with_len start (end - start)
  numbers-bounds le within from to =
      let first : 0 + start ≡ start = omega arith in
      in_row item ps 0 start (end - start) (omega arith)
      (λ k d l. below k d (omega arith) l)
      (λ k d a b. omega (arith, from k d a (omega arith), to k d (omega arith) (omega arith)))
      (λ k d a b. omega (arith, next k d (omega arith) b))
      ∙ ap (λ k. range_with_len k (end - start)) first
