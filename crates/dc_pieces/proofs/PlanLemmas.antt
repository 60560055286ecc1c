-- The pieces of items, one item after the other.
use Rattle.std.proofs.Common.{◌≡◌, ℕ, suc, ◌+◌, ◌<◌, ◌≤◌, ◌^◌, true, nat_eq, nat_lt, List, [], ◌∷◌, ◌++◌, length, take, drop, get_or, refl, sym, ap, ◌∙◌, arith, append-nil, append_assoc, length-append}
use Rattle.std.specs.Int.{div_ceil}
use Rattle.std.specs.List.{list_all}
use Rattle.std.proofs.lemmas.Bool.{and_from, and_parts, or_left, eqb-true, eq-eqb, ltb-true, lt-ltb}
use Rattle.std.proofs.lemmas.List.{take_more, length-take, take-append-drop}
use Rattle.std.proofs.lemmas.List.Folds.{list_all-append}
use Rattle.dc_decide.specs.Plans.{Decision}
use Rattle.dc_pieces.specs.declared.piece.Piece.{Piece}
use Rattle.dc_pieces.specs.declared.cutting.Cut.{Cut}
use Rattle.dc_pieces.specs.declared.cutting.Cut.TheVariants.{Nothing, One, Chunks}
use Rattle.dc_pieces.specs.Pieces.{are_in_order, ends_within}
use Rattle.dc_pieces.specs.Cutting.{pieces_of, pieces_from}
use Rattle.dc_pieces.specs.Cuts.{cut_pieces, FitsCut}
use Rattle.dc_pieces.proofs.CutLemmas.{chunks_in_order, chunks_within, all_of_item}

-- ---- more items
pub pieces_from-append : (blocks item : ℕ) (ds es : List Decision) → pieces_from blocks item (ds ++ es) ≡ pieces_from blocks item ds ++ pieces_from blocks (item + length ds) es
pieces_from-append blocks item [] es = let e : item ≡ item + 0 = omega arith in ap (λ k. pieces_from blocks k es) e
pieces_from-append blocks item (d ∷ ds) es =
    let e : item + 1 + length ds ≡ item + suc (length ds) = omega arith in
    ap (λ ps. pieces_of blocks item d ++ ps) (pieces_from-append blocks (item + 1) ds es ∙ ap (λ k. pieces_from blocks (item + 1) ds ++ pieces_from blocks k es) e)
    ∙ sym (append_assoc (pieces_of blocks item d) (pieces_from blocks (item + 1) ds) (pieces_from blocks (item + suc (length ds)) es))

-- the pieces of one item more
pub pieces_more : (blocks n : ℕ) (ds : List Decision) (d : Decision) → n < length ds →
    pieces_from blocks 0 (take (n + 1) ds) ≡ pieces_from blocks 0 (take n ds) ++ pieces_of blocks n (get_or ds n d)
pieces_more blocks n ds d l =
    let one : List Decision = get_or ds n d ∷ [] in
    let at : 0 + length (take n ds) ≡ n = omega (arith, length-take n ds) in
    ap (pieces_from blocks 0) (take_more ds n d l)
    ∙ pieces_from-append blocks 0 (take n ds) one
    ∙ ap (λ k. pieces_from blocks 0 (take n ds) ++ pieces_from blocks k one) at
    ∙ ap (λ ps. pieces_from blocks 0 (take n ds) ++ ps) (append-nil (pieces_of blocks n (get_or ds n d)))

-- the first items have no more pieces than all
pub pieces_grow : (blocks n : ℕ) (ds : List Decision) → length (pieces_from blocks 0 (take n ds)) ≤ length (pieces_from blocks 0 ds)
pieces_grow blocks n ds =
    let parts : pieces_from blocks 0 ds ≡ pieces_from blocks 0 (take n ds) ++ pieces_from blocks (0 + length (take n ds)) (drop n ds) =
    ap (pieces_from blocks 0) (sym (take-append-drop n ds)) ∙ pieces_from-append blocks 0 (take n ds) (drop n ds) in
    omega (arith, ap length parts, length-append (pieces_from blocks 0 (take n ds)) (pieces_from blocks (0 + length (take n ds)) (drop n ds)))

-- ---- one item's pieces
cut_in_order : (item : ℕ) (cut : Cut) → FitsCut cut → are_in_order (cut_pieces item cut) ≡ true
cut_in_order item Nothing h = refl
cut_in_order item (One from long) h = refl
cut_in_order item (Chunks size long) h = chunks_in_order item size long h.0

cut_within : (item : ℕ) (cut : Cut) → FitsCut cut → list_all ends_within (cut_pieces item cut) ≡ true
cut_within item Nothing h = refl
cut_within item (One from long) h = and_from _ _ (lt-ltb (from + long) (2 ^ 64) h) refl
cut_within item (Chunks size long) h = chunks_within item size long h.0 h.1

cut_of_item : (item : ℕ) (cut : Cut) → list_all (λ p. nat_eq p.item item) (cut_pieces item cut) ≡ true
cut_of_item item Nothing = refl
cut_of_item item (One from long) = and_from _ _ (eq-eqb item item refl) refl
cut_of_item item (Chunks size long) = all_of_item item size long 0 (div_ceil long size)

-- ---- pieces of earlier items, and then those of an item
append_in_order : (item : ℕ) (ps qs : List Piece) → list_all (λ p. nat_lt p.item item) ps ≡ true → list_all (λ p. nat_eq p.item item) qs ≡ true →
    are_in_order ps ≡ true → are_in_order qs ≡ true → are_in_order (ps ++ qs) ≡ true
append_in_order item [] qs f g a b = b
append_in_order item (p ∷ []) [] f g a b = refl
append_in_order item (p ∷ []) (q ∷ qs) f g a b =
    let before : p.item < item = ltb-true p.item item ((and_parts _ _ f).0) in
    let there : q.item ≡ item = eqb-true q.item item ((and_parts _ _ g).0) in
    and_from _ _ (or_left _ _ (lt-ltb p.item q.item (omega (arith, before, there)))) b
append_in_order item (p ∷ r ∷ ps) qs f g a b =
    and_from _ _ ((and_parts _ _ a).0) (append_in_order item (r ∷ ps) qs ((and_parts _ _ f).1) g ((and_parts _ _ a).1) b)

all_later : (item : ℕ) (ps : List Piece) → list_all (λ p. nat_lt p.item item) ps ≡ true → list_all (λ p. nat_lt p.item (item + 1)) ps ≡ true
all_later item [] h = refl
all_later item (p ∷ ps) h =
    and_from _ _ (lt-ltb p.item (item + 1) (omega (arith, ltb-true p.item item ((and_parts _ _ h).0)))) (all_later item ps ((and_parts _ _ h).1))

all_before_next : (item : ℕ) (ps : List Piece) → list_all (λ p. nat_eq p.item item) ps ≡ true → list_all (λ p. nat_lt p.item (item + 1)) ps ≡ true
all_before_next item [] h = refl
all_before_next item (p ∷ ps) h =
    and_from _ _ (lt-ltb p.item (item + 1) (omega (arith, eqb-true p.item item ((and_parts _ _ h).0)))) (all_before_next item ps ((and_parts _ _ h).1))

-- pieces of items before this one
pub record AreBefore (item : ℕ) (ps : List Piece) : Type 0 where
  pub ordered : are_in_order ps ≡ true
  pub within : list_all ends_within ps ≡ true
  pub before : list_all (λ p. nat_lt p.item item) ps ≡ true

pub none_before : AreBefore 0 []
none_before = record { ordered = refl; within = refl; before = refl }

-- and those of this one
pub then_before : (item : ℕ) (ps : List Piece) (cut : Cut) → AreBefore item ps → FitsCut cut → AreBefore (item + 1) (ps ++ cut_pieces item cut)
then_before item ps cut h fits = record {
  ordered = append_in_order item ps (cut_pieces item cut) h.before (cut_of_item item cut) h.ordered (cut_in_order item cut fits);
  within = list_all-append ends_within ps (cut_pieces item cut) ∙ and_from _ _ h.within (cut_within item cut fits);
  before =
      list_all-append (λ p. nat_lt p.item (item + 1)) ps (cut_pieces item cut)
      ∙ and_from _ _ (all_later item ps h.before) (all_before_next item (cut_pieces item cut) (cut_of_item item cut));
}

-- ---- how many pieces there are with one item more
pub count_more : (blocks n : ℕ) (ds : List Decision) (d : Decision) → d ≡ get_or ds n d → n < length ds →
    length (pieces_from blocks 0 (take (n + 1) ds)) ≡ length (pieces_from blocks 0 (take n ds)) + length (pieces_of blocks n d)
count_more blocks n ds d e l =
    ap length (pieces_more blocks n ds d l)
    ∙ length-append (pieces_from blocks 0 (take n ds)) (pieces_of blocks n (get_or ds n d))
    ∙ ap (λ x. length (pieces_from blocks 0 (take n ds)) + length (pieces_of blocks n x)) (sym e)

pub count_within : (blocks n : ℕ) (ds : List Decision) (d : Decision) → d ≡ get_or ds n d → n < length ds →
    length (pieces_from blocks 0 (take n ds)) + length (pieces_of blocks n d) ≤ length (pieces_from blocks 0 ds)
count_within blocks n ds d e l = omega (arith, count_more blocks n ds d e l, pieces_grow blocks (n + 1) ds)
