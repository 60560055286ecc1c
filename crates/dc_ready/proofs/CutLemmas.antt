-- The pieces of one item among all pieces of a plan.
use Rattle.std.proofs.Common.{◌≡◌, ℕ, zero, suc, ◌+◌, ◌<◌, ◌≤◌, true, false, Bool, nat_eq, ◌⊎◌, inl, inr, cond, List, [], ◌∷◌, ◌++◌, length, map, refl, sym, subst, ap, ap₂, ◌∙◌, arith, slice_get, append-nil}
use Rattle.std.specs.Int.{div_ceil}
use Rattle.std.specs.List.{All, filter, list_all}
use Rattle.std.specs.Option.{option_map_or}
use Rattle.std.proofs.lemmas.Bool.{cases_Bool, cond_both, cond-true, cond-false, leb-true, ltb-true, eqb-true, eq-eqb, ne_eqb, and_from, and_parts, false≢true}
use Rattle.std.proofs.lemmas.List.Elements.{All-append, All-cons, All-nil, filter-append}
use Rattle.dc_attrs.specs.Attributes.{fits_dir, fits_file}
use Rattle.dc_listing.specs.Entries.{Entry}
use Rattle.dc_decide.specs.Plans.{Decision, extends_within, is_folder}
use Rattle.dc_decide.specs.declared.action.Action.{Action}
use Rattle.dc_decide.specs.declared.action.Action.TheVariants as action
use Rattle.dc_pieces.specs.Cutting.{chunk_size, chunks, is_cut, piece_to_end, pieces_by, pieces_from, pieces_of}
use Rattle.dc_pieces.specs.Laws.{Cover, IsCopied}
use Rattle.dc_pieces.specs.Parts.{numbers_from}
use Rattle.dc_pieces.specs.declared.piece.Piece.{Piece}
use Rattle.dc_pieces.proofs.CutLemmas.{all_of_item, chunk_begins}
use Rattle.dc_pieces.proofs.LawProofs.{extended_covered, replaced_covered, uncut_one}
use Rattle.dc_commit.specs.Landing.{is_written}
use Rattle.dc_crew.specs.Jobs.{piece_at}
use Rattle.dc_result.specs.Effects.{first_byte}
use Rattle.dc_ready.specs.Laws.{IsKept, PiecesHaveItems}

-- the piece is one of this item
abbrev pub is_of : ℕ → Piece → Bool
is_of item p = nat_eq p.item item

-- ---- pieces of one item
keep_all : (item : ℕ) (ps : List Piece) → list_all (is_of item) ps ≡ true → filter (is_of item) ps ≡ ps
keep_all item [] h = refl
keep_all item (p ∷ ps) h =
    cond-true (nat_eq p.item item) (p ∷ filter (is_of item) ps) (filter (is_of item) ps) ((and_parts _ _ h).0)
    ∙ ap (λ qs. p ∷ qs) (keep_all item ps ((and_parts _ _ h).1))

keep_none : (item other : ℕ) (ps : List Piece) → list_all (is_of other) ps ≡ true → (other ≡ item → ⊥) → filter (is_of item) ps ≡ []
keep_none item other [] h apart = refl
keep_none item other (p ∷ ps) h apart =
    cond-false (nat_eq p.item item) (p ∷ filter (is_of item) ps) (filter (is_of item) ps)
    (ne_eqb p.item item (λ e. apart (sym (eqb-true p.item other ((and_parts _ _ h).0)) ∙ e)))
    ∙ keep_none item other ps ((and_parts _ _ h).1) apart

by_action : (blocks item : ℕ) (e : Entry) (a : Action) → list_all (is_of item) (pieces_by blocks item e a) ≡ true
by_action blocks item e action.Folder = refl
by_action blocks item e action.Skip = refl
by_action blocks item e action.Replace =
    cond_both (is_cut blocks e.attrs.block_size e.length) (chunks item (chunk_size blocks e.attrs.block_size) e.length) (piece_to_end item 0 e.length ∷ []) (λ ps. list_all (is_of item) ps ≡ true)
    (λ _. all_of_item item (chunk_size blocks e.attrs.block_size) e.length 0 (div_ceil e.length (chunk_size blocks e.attrs.block_size)))
    (λ _. and_from _ _ (eq-eqb item item refl) refl)
by_action blocks item e (action.Extend from) = and_from _ _ (eq-eqb item item refl) refl

pub of_item : (blocks item : ℕ) (d : Decision) → list_all (is_of item) (pieces_of blocks item d) ≡ true
of_item blocks item d =
    cond_both d.out [] (pieces_by blocks item d.item d.action) (λ ps. list_all (is_of item) ps ≡ true)
    (λ _. refl)
    (λ _. by_action blocks item d.item d.action)

-- ---- among those of all items
none_from : (item blocks n : ℕ) (ds : List Decision) → item < n → filter (is_of item) (pieces_from blocks n ds) ≡ []
none_from item blocks n [] l = refl
none_from item blocks n (d ∷ ds) l =
    filter-append (is_of item) (pieces_of blocks n d) (pieces_from blocks (n + 1) ds)
    ∙ ap₂ (λ ps qs. ps ++ qs)
    (keep_none item n (pieces_of blocks n d) (of_item blocks n d) (λ e. absurd (omega (arith, e, l))))
    (none_from item blocks (n + 1) ds (omega (arith, l)))

pub its_from : (item blocks n k : ℕ) (ds : List Decision) → item ≡ n + k → filter (is_of item) (pieces_from blocks n ds) ≡ option_map_or (pieces_of blocks item) (slice_get ds k) []
its_from item blocks n k [] e = refl
its_from item blocks n zero (d ∷ ds) e =
    let same : item ≡ n = omega (arith, e) in
    filter-append (is_of item) (pieces_of blocks n d) (pieces_from blocks (n + 1) ds)
    ∙ ap₂ (λ ps qs. ps ++ qs)
    (ap (λ i. filter (is_of i) (pieces_of blocks n d)) same ∙ keep_all n (pieces_of blocks n d) (of_item blocks n d) ∙ ap (λ i. pieces_of blocks i d) (sym same))
    (none_from item blocks (n + 1) ds (omega (arith, same)))
    ∙ append-nil (pieces_of blocks item d)
its_from item blocks n (suc k) (d ∷ ds) e =
    filter-append (is_of item) (pieces_of blocks n d) (pieces_from blocks (n + 1) ds)
    ∙ ap₂ (λ ps qs. ps ++ qs)
    (keep_none item n (pieces_of blocks n d) (of_item blocks n d) (λ s. absurd (omega (arith, e, s))))
    (its_from item blocks (n + 1) k ds (omega (arith, e)))

-- ---- each piece is of an item
within_of : (n most : ℕ) (ps : List Piece) → list_all (is_of n) ps ≡ true → n < most → All (λ (p : Piece). p.item < most) ps
within_of n most [] h l = All-nil (λ (p : Piece). p.item < most)
within_of n most (p ∷ ps) h l =
    All-cons (λ (q : Piece). q.item < most) p ps (omega (arith, l, eqb-true p.item n ((and_parts _ _ h).0))) (within_of n most ps ((and_parts _ _ h).1) l)

items_from : (blocks n : ℕ) (ds : List Decision) → All (λ (p : Piece). p.item < n + length ds) (pieces_from blocks n ds)
items_from blocks n [] = All-nil (λ (p : Piece). p.item < n + 0)
items_from blocks n (d ∷ ds) =
    let next : n + 1 + length ds ≡ n + suc (length ds) = omega arith in
    All-append (λ (p : Piece). p.item < n + suc (length ds)) (pieces_of blocks n d) (pieces_from blocks (n + 1) ds)
    (within_of n (n + suc (length ds)) (pieces_of blocks n d) (of_item blocks n d) (omega arith))
    (subst (λ (most : ℕ). All (λ (p : Piece). p.item < most) (pieces_from blocks (n + 1) ds)) next (items_from blocks (n + 1) ds))

pub pieces_have_items : PiecesHaveItems
pieces_have_items blocks plan =
    let all : 0 + length plan.items ≡ length plan.items = omega arith in
    subst (λ (most : ℕ). All (λ (p : Piece). p.item < most) (pieces_from blocks 0 plan.items)) all (items_from blocks 0 plan.items)

-- ---- by their numbers
pub at_numbers : (all : List Piece) (item n : ℕ) (ps : List Piece) → ((k : ℕ) → piece_at all (n + k) ≡ piece_at ps k) → map (piece_at all) (numbers_from item n ps) ≡ filter (is_of item) ps
at_numbers all item n [] h = refl
at_numbers all item n (p ∷ ps) h =
    let first : n ≡ n + 0 = omega arith in
    by (ap (piece_at all) first ∙ h 0)
    (at_numbers all item (n + 1) ps (λ k. let next : n + 1 + k ≡ n + suc k = omega arith in ap (piece_at all) next ∙ h (suc k)))
    (cases_Bool (nat_eq p.item item))
  where
    ns : List ℕ
    ns = numbers_from item (n + 1) ps

    by : piece_at all n ≡ p → map (piece_at all) ns ≡ filter (is_of item) ps → (nat_eq p.item item ≡ true) ⊎ (nat_eq p.item item ≡ false) →
        map (piece_at all) (cond (nat_eq p.item item) (n ∷ ns) ns) ≡ cond (nat_eq p.item item) (p ∷ filter (is_of item) ps) (filter (is_of item) ps)
    by head rest (inl t) =
        ap (map (piece_at all)) (cond-true (nat_eq p.item item) (n ∷ ns) ns t)
        ∙ ap₂ (λ q qs. q ∷ qs) head rest
        ∙ sym (cond-true (nat_eq p.item item) (p ∷ filter (is_of item) ps) (filter (is_of item) ps) t)
    by head rest (inr f) =
        ap (map (piece_at all)) (cond-false (nat_eq p.item item) (n ∷ ns) ns f)
        ∙ rest
        ∙ sym (cond-false (nat_eq p.item item) (p ∷ filter (is_of item) ps) (filter (is_of item) ps) f)

-- ---- what is copied of an item that is written
some_cover : (from to : ℕ) (ps : List Piece) → Cover from to ps → from < to → 1 ≤ length ps
some_cover from to [] c l = absurd (omega (arith, c, l))
some_cover from to (p ∷ ps) c l = omega arith

module _ (blocks item : ℕ) (d : Decision) (kept : IsKept d) (on : d.out ≡ false) where
  copied : IsCopied d
  copied = record { decision = kept.decision; entry = kept.entry; on = on }

  covered_by : (a : Action) → d.action ≡ a → is_written a ≡ true → Cover (first_byte a) d.item.length (pieces_of blocks item d)
  covered_by action.Folder e w = absurd (false≢true w)
  covered_by action.Skip e w = absurd (false≢true w)
  covered_by action.Replace e w = replaced_covered blocks item d copied e
  covered_by (action.Extend from) e w = extended_covered blocks item from d copied e

  -- its pieces are ranges in a row, from the first byte that is copied to its end
  pub covered : is_written d.action ≡ true → Cover (first_byte d.action) d.item.length (pieces_of blocks item d)
  covered w = covered_by d.action refl w

  cut_some : d.action ≡ action.Replace → is_cut blocks d.item.attrs.block_size d.item.length ≡ true → 0 < d.item.length
  cut_some e cut =
      let file : d.item.dir ≡ false = sym kept.decision.kind ∙ ap is_folder e in
      let is : fits_file d.item.attrs ≡ true = sym (cond-false d.item.dir (fits_dir d.item.attrs) (fits_file d.item.attrs) file) ∙ kept.entry in
      let block : 1 ≤ d.item.attrs.block_size = leb-true 1 d.item.attrs.block_size ((and_parts _ _ is).1) in
      let many : blocks < div_ceil d.item.length d.item.attrs.block_size = ltb-true _ _ ((and_parts _ _ cut).1) in
      omega (arith, chunk_begins 0 d.item.attrs.block_size d.item.length (omega (arith, block)) (omega (arith, many)))

  some_replaced : d.action ≡ action.Replace → (is_cut blocks d.item.attrs.block_size d.item.length ≡ true) ⊎ (is_cut blocks d.item.attrs.block_size d.item.length ≡ false) → 1 ≤ length (pieces_of blocks item d)
  some_replaced e (inl cut) = some_cover 0 d.item.length (pieces_of blocks item d) (replaced_covered blocks item d copied e) (cut_some e cut)
  some_replaced e (inr whole) = omega (arith, uncut_one blocks item d copied e whole)

  some_by : (a : Action) → d.action ≡ a → is_written a ≡ true → 1 ≤ length (pieces_of blocks item d)
  some_by action.Folder e w = absurd (false≢true w)
  some_by action.Skip e w = absurd (false≢true w)
  some_by action.Replace e w = some_replaced e (cases_Bool (is_cut blocks d.item.attrs.block_size d.item.length))
  some_by (action.Extend from) e w =
      let within : extends_within (action.Extend from) d.item.length ≡ true = ap (λ a. extends_within a d.item.length) (sym e) ∙ kept.decision.extends in
      some_cover from d.item.length (pieces_of blocks item d) (extended_covered blocks item from d copied e) (ltb-true from d.item.length within)

  -- it has a piece
  pub some_pieces : is_written d.action ≡ true → 1 ≤ length (pieces_of blocks item d)
  some_pieces w = some_by d.action refl w
