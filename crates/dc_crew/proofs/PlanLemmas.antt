-- The pieces of a plan are of items of the plan.
use Rattle.std.proofs.Common.{◌≡◌, ◌&&◌, ℕ, ◌+◌, ◌<◌, Bool, true, false, cond, nat_eq, List, [], ◌∷◌, length, All, refl, sym, subst, arith, true≢false}
use Rattle.std.specs.List.{list_all}
use Rattle.std.proofs.lemmas.List.Elements.{All-append, All-nil, All-cons, All-weaker}
use Rattle.std.proofs.lemmas.Bool.Decides.{nat_tests}
use Rattle.dc_listing.specs.Entries.{Entry}
use Rattle.dc_decide.specs.Plans.{Decision, Decisions}
use Rattle.dc_decide.specs.declared.action.Action.{Action}
use Rattle.dc_decide.specs.declared.action.Action.TheVariants as action
use Rattle.dc_pieces.specs.declared.piece.Piece.{Piece}
use Rattle.dc_pieces.specs.Cutting.{is_cut, chunk_size, chunks, piece_to_end, pieces_by, pieces_of, pieces_from, plan_pieces}
use Rattle.dc_pieces.proofs.CutLemmas.{all_of_item}

-- each piece is of this item
abbrev of_item : ℕ → Piece → Type 0
of_item item p = p.item ≡ item

tested : (item : ℕ) (ps : List Piece) → list_all (λ p. nat_eq p.item item) ps ≡ true → All (of_item item) ps
tested item [] h = All-nil (of_item item)
tested item (p ∷ ps) h =
    let b = both (nat_eq p.item item) (list_all (λ p. nat_eq p.item item) ps) h in
    All-cons (of_item item) p ps (same p.item item b.0) (tested item ps b.1)
  where
    both : (a b : Bool) → (a && b) ≡ true → (a ≡ true) × (b ≡ true)
    both true b e = (refl, e)
    both false b e = absurd (true≢false (sym e))

    same : (a b : ℕ) → nat_eq a b ≡ true → a ≡ b
    same a b h = grind (arith, nat_tests)

one : (item : ℕ) (p : Piece) → p.item ≡ item → All (of_item item) (p ∷ [])
one item p e = All-cons (of_item item) p [] e (All-nil (of_item item))

of_file : (item : ℕ) (b : Bool) (ps qs : List Piece) → All (of_item item) ps → All (of_item item) qs → All (of_item item) (cond b ps qs)
of_file item true ps qs h k = h
of_file item false ps qs h k = k

by_action : (blocks item : ℕ) (entry : Entry) (a : Action) → All (of_item item) (pieces_by blocks item entry a)
by_action blocks item entry action.Folder = All-nil (of_item item)
by_action blocks item entry action.Skip = All-nil (of_item item)
by_action blocks item entry action.Replace =
    of_file item (is_cut blocks entry.attrs.block_size entry.length) (chunks item (chunk_size blocks entry.attrs.block_size) entry.length) (piece_to_end item 0 entry.length ∷ [])
    (tested item (chunks item (chunk_size blocks entry.attrs.block_size) entry.length) (all_of_item item (chunk_size blocks entry.attrs.block_size) entry.length 0 _))
    (one item (piece_to_end item 0 entry.length) refl)
by_action blocks item entry (action.Extend from) = one item (piece_to_end item from entry.length) refl

within_from : (blocks item : ℕ) (ds : List Decision) → All (λ p. p.item < item + length ds) (pieces_from blocks item ds)
within_from blocks item [] = All-nil (λ (p : Piece). p.item < item + 0)
within_from blocks item (d ∷ ds) =
    All-append (λ (p : Piece). p.item < item + length (d ∷ ds)) (pieces_of blocks item d) (pieces_from blocks (item + 1) ds)
    (All-weaker (of_item item) (λ (p : Piece). p.item < item + length (d ∷ ds)) (λ p e. omega arith) (pieces_of blocks item d) (of_file item d.out [] (pieces_by blocks item d.item d.action) (All-nil (of_item item)) (by_action blocks item d.item d.action)))
    (All-weaker (λ (p : Piece). p.item < item + 1 + length ds) (λ (p : Piece). p.item < item + length (d ∷ ds)) (λ p h. omega arith) (pieces_from blocks (item + 1) ds) (within_from blocks (item + 1) ds))

-- what `copy_pieces` asks of the pieces, where they are those of the plan
pub plan_within : (blocks : ℕ) (plan : Decisions) (pieces : List Piece) → pieces ≡ plan_pieces blocks plan → All (λ p. p.item < length plan.items) pieces
plan_within blocks plan pieces e = subst (All (λ (p : Piece). p.item < length plan.items)) (sym e) (All-weaker (λ (p : Piece). p.item < 0 + length plan.items) (λ (p : Piece). p.item < length plan.items) (λ p h. omega arith) (plan_pieces blocks plan) (within_from blocks 0 plan.items))
