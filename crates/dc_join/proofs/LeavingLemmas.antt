-- Items that are left out, place by place.
use Rattle.std.proofs.Common.{◌≡◌, ℕ, zero, suc, Bool, true, false, ◌||◌, nat_eq, ◌⊎◌, inl, inr, Option, Some, None, List, [], ◌∷◌, ◌++◌, length, refl, sym, ap, ap₂, ◌∙◌, slice_get}
use Rattle.std.specs.Option.{is_none, option_map, option_map_or}
use Rattle.std.proofs.Math.Bool.{or-false, or_assoc}
use Rattle.std.proofs.lemmas.Bool.{cases_Bool, eqb-true, eq-eqb, false≢true}
use Rattle.dc_decide.specs.Plans.{Decision, left_out_at}
use Rattle.dc_pieces.specs.declared.piece.Piece.{Piece}
use Rattle.dc_join.specs.Leaving.{is_piece_of, lacks_piece, left_out_if, AreLeftOut}

-- ---- one item
left_here : (place : ℕ) (ds : List Decision) → slice_get (left_out_at place ds) place ≡ option_map (left_out_if true) (slice_get ds place)
left_here place [] = refl
left_here zero (d ∷ ds) = refl
left_here (suc place) (d ∷ ds) = left_here place ds

unless : (o : Option Decision) → o ≡ option_map (left_out_if false) o
unless None = refl
unless (Some d) = refl

left_elsewhere : (place n : ℕ) (ds : List Decision) → (place ≡ n → ⊥) → slice_get (left_out_at place ds) n ≡ slice_get ds n
left_elsewhere place n [] other = refl
left_elsewhere zero zero (d ∷ ds) other = absurd (other refl)
left_elsewhere zero (suc n) (d ∷ ds) other = refl
left_elsewhere (suc place) zero (d ∷ ds) other = refl
left_elsewhere (suc place) (suc n) (d ∷ ds) other = left_elsewhere place n ds (λ e. other (ap suc e))

left_one : (place n : ℕ) (ds : List Decision) → slice_get (left_out_at place ds) n ≡ option_map (left_out_if (nat_eq place n)) (slice_get ds n)
left_one place n ds = by (cases_Bool (nat_eq place n))
  where
    by : (nat_eq place n ≡ true) ⊎ (nat_eq place n ≡ false) → slice_get (left_out_at place ds) n ≡ option_map (left_out_if (nat_eq place n)) (slice_get ds n)
    by (inl t) =
        ap (slice_get (left_out_at place ds)) (sym (eqb-true place n t)) ∙ left_here place ds
        ∙ ap₂ (λ b k. option_map (left_out_if b) (slice_get ds k)) (sym t) (eqb-true place n t)
    by (inr f) =
        left_elsewhere place n ds (λ e. false≢true (sym f ∙ eq-eqb place n e)) ∙ unless (slice_get ds n)
        ∙ ap (λ b. option_map (left_out_if b) (slice_get ds n)) (sym f)

-- ---- one after the other
left_twice : (a b : Bool) (o : Option Decision) → option_map (left_out_if b) (option_map (left_out_if a) o) ≡ option_map (left_out_if (a || b)) o
left_twice a b None = refl
left_twice true true (Some d) = refl
left_twice true false (Some d) = refl
left_twice false b (Some d) = refl

lacks_more : (pieces : List Piece) (item : ℕ) (numbers : List ℕ) (number : ℕ) → lacks_piece pieces item (numbers ++ number ∷ []) ≡ (lacks_piece pieces item numbers || is_piece_of pieces item number)
lacks_more pieces item [] number = or-false (is_piece_of pieces item number)
lacks_more pieces item (m ∷ numbers) number =
    ap (λ b. is_piece_of pieces item m || b) (lacks_more pieces item numbers number)
    ∙ sym (or_assoc (is_piece_of pieces item m) (lacks_piece pieces item numbers) (is_piece_of pieces item number))

-- ---- as many items
left_there : (b : Bool) (o : Option Decision) → is_none (option_map (left_out_if b) o) ≡ is_none o
left_there b None = refl
left_there b (Some d) = refl

same_count : (xs ys : List Decision) → ((n : ℕ) → is_none (slice_get xs n) ≡ is_none (slice_get ys n)) → length xs ≡ length ys
same_count [] [] h = refl
same_count [] (y ∷ ys) h = absurd (false≢true (sym (h 0)))
same_count (x ∷ xs) [] h = absurd (false≢true (h 0))
same_count (x ∷ xs) (y ∷ ys) h = ap suc (same_count xs ys (λ n. h (suc n)))

pub as_many : (pieces : List Piece) (numbers : List ℕ) (old new : List Decision) → AreLeftOut pieces numbers old new → length new ≡ length old
as_many pieces numbers old new are = same_count new old (λ n. ap is_none (are n) ∙ left_there (lacks_piece pieces n numbers) (slice_get old n))

module _ (pieces : List Piece) (numbers : List ℕ) (number : ℕ) (old now : List Decision) (so_far : AreLeftOut pieces numbers old now) where
  -- with the item of one piece more
  pub one_left : (p : Piece) → slice_get pieces number ≡ Some p → AreLeftOut pieces (numbers ++ number ∷ []) old (left_out_at p.item now)
  one_left p there n =
      let its : is_piece_of pieces n number ≡ nat_eq p.item n = ap (λ o. option_map_or (λ (q : Piece). nat_eq q.item n) o false) there in
      left_one p.item n now
      ∙ ap (option_map (left_out_if (nat_eq p.item n))) (so_far n)
      ∙ left_twice (lacks_piece pieces n numbers) (nat_eq p.item n) (slice_get old n)
      ∙ ap (λ b. option_map (left_out_if b) (slice_get old n)) (ap (λ b. lacks_piece pieces n numbers || b) (sym its) ∙ sym (lacks_more pieces n numbers number))

  -- with a number that is no piece's
  pub no_more_left : slice_get pieces number ≡ None → AreLeftOut pieces (numbers ++ number ∷ []) old now
  no_more_left gone n =
      let its : is_piece_of pieces n number ≡ false = ap (λ o. option_map_or (λ (q : Piece). nat_eq q.item n) o false) gone in
      so_far n
      ∙ ap (λ b. option_map (left_out_if b) (slice_get old n))
      (sym (or-false (lacks_piece pieces n numbers)) ∙ ap (λ b. lacks_piece pieces n numbers || b) (sym its) ∙ sym (lacks_more pieces n numbers number))
