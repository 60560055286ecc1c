-- The laws of pieces.
use Rattle.std.proofs.Common.{◌≡◌, ℕ, zero, suc, ◌+◌, ◌-◌, ◌*◌, ◌<◌, ◌≤◌, true, false, ◌⊎◌, inl, inr, [], ◌∷◌, length, map, get_or, refl, sym, ap, subst, ◌∙◌, arith, All}
use Rattle.std.specs.Int.{div_ceil}
use Rattle.std.specs.List.{range_with_len}
use Rattle.std.proofs.lemmas.Bool.{and_parts, cases_Bool, cond-true, cond-false, leb-true, ltb-true}
use Rattle.std.proofs.lemmas.List.Elements.{All-nil, All-cons}
use Rattle.std.proofs.lemmas.List.{get_or-map}
use Rattle.std.proofs.lemmas.List.FromFn.{length-map-range_with_len, get_or-map-range_with_len}
use Rattle.std.proofs.lemmas.List.Sums.{sum_by-cons}
use Rattle.std.proofs.lemmas.Nat.{mul-lt}
use Rattle.dc_attrs.specs.Attributes.{fits_file, fits_dir}
use Rattle.dc_listing.specs.Entries.{Entry, fits_entry}
use Rattle.dc_decide.specs.Plans.{Decision, is_folder, extends_within}
use Rattle.dc_decide.specs.declared.action.Action.TheVariants as action
use Rattle.dc_pieces.specs.declared.piece.Piece.{Piece}
use Rattle.dc_pieces.specs.Cutting.{is_cut, chunk_size, chunk_at, chunks, piece_to_end, file_pieces, pieces_by, pieces_of}
use Rattle.dc_pieces.specs.Laws.{bytes_of, Cover, IsCopied, ReplacedIsCovered, ExtendedIsCovered, CoverIsTotal, ChunksAreFull, ChunksHaveBytes, UncutIsOne}
use Rattle.dc_pieces.proofs.CutLemmas.{chunk_begins, chunk_is_full, chunks_cover}

-- ---- ranges in a row
pub cover_total : CoverIsTotal
cover_total from to [] h = omega (arith, h)
cover_total from to (p ∷ ps) h = omega (arith, sum_by-cons bytes_of p ps, cover_total (from + p.length) to ps h.1)

-- one piece up to the end
to_end : (item from long : ℕ) → from ≤ long → Cover from long (piece_to_end item from long ∷ [])
to_end item from long l = let e : from + (long - from) ≡ long = omega (arith, l) in (refl, e)

-- ---- what a file is cut by
file_block : (e : Entry) → e.dir ≡ false → fits_entry e ≡ true → 0 < e.attrs.block_size
file_block e file fits =
    let is : fits_file e.attrs ≡ true = sym (cond-false e.dir (fits_dir e.attrs) (fits_file e.attrs) file) ∙ fits in
    omega (arith, leb-true 1 e.attrs.block_size ((and_parts _ _ is).1))

pub cut_size : (blocks block_size long : ℕ) → 0 < block_size → is_cut blocks block_size long ≡ true → 0 < chunk_size blocks block_size
cut_size blocks block_size long some cut =
    let asked : 1 ≤ blocks = leb-true 1 blocks ((and_parts _ _ cut).0) in
    let more : 0 * 0 < blocks * block_size = mul-lt 0 0 blocks block_size (omega arith) some in
    omega (arith, more)

module _ (blocks item : ℕ) (d : Decision) (copied : IsCopied d) (act : d.action ≡ action.Replace) where
  some_block : 0 < d.item.attrs.block_size
  some_block = file_block d.item (sym copied.decision.kind ∙ ap is_folder act) copied.entry

  its_pieces : pieces_of blocks item d ≡ file_pieces blocks item d.item.attrs.block_size d.item.length
  its_pieces = cond-false d.out [] (pieces_by blocks item d.item d.action) copied.on ∙ ap (pieces_by blocks item d.item) act

  its_chunks : is_cut blocks d.item.attrs.block_size d.item.length ≡ true → pieces_of blocks item d ≡ chunks item (chunk_size blocks d.item.attrs.block_size) d.item.length
  its_chunks cut = its_pieces ∙ cond-true _ (chunks item (chunk_size blocks d.item.attrs.block_size) d.item.length) (piece_to_end item 0 d.item.length ∷ []) cut

  its_one : is_cut blocks d.item.attrs.block_size d.item.length ≡ false → pieces_of blocks item d ≡ piece_to_end item 0 d.item.length ∷ []
  its_one whole = its_pieces ∙ cond-false _ (chunks item (chunk_size blocks d.item.attrs.block_size) d.item.length) (piece_to_end item 0 d.item.length ∷ []) whole

  covered : (is_cut blocks d.item.attrs.block_size d.item.length ≡ true) ⊎ (is_cut blocks d.item.attrs.block_size d.item.length ≡ false) → Cover 0 d.item.length (pieces_of blocks item d)
  covered (inl cut) =
      subst (λ ps. Cover 0 d.item.length ps) (sym (its_chunks cut))
      (chunks_cover item (chunk_size blocks d.item.attrs.block_size) d.item.length (cut_size blocks d.item.attrs.block_size d.item.length some_block cut))
  covered (inr whole) = subst (λ ps. Cover 0 d.item.length ps) (sym (its_one whole)) (to_end item 0 d.item.length (omega arith))

pub replaced_covered : ReplacedIsCovered
replaced_covered blocks item d copied act = covered blocks item d copied act (cases_Bool (is_cut blocks d.item.attrs.block_size d.item.length))

pub uncut_one : UncutIsOne
uncut_one blocks item d copied act whole = ap length (its_one blocks item d copied act whole)

-- ---- an item that is extended
extends_before : (d : Decision) (from : ℕ) → IsCopied d → d.action ≡ action.Extend from → from ≤ d.item.length
extends_before d from copied act =
    let within : extends_within (action.Extend from) d.item.length ≡ true = subst (λ a. extends_within a d.item.length ≡ true) act copied.decision.extends in
    omega (arith, ltb-true from d.item.length within)

pub extended_covered : ExtendedIsCovered
extended_covered blocks item from d copied act =
    let one : pieces_of blocks item d ≡ piece_to_end item from d.item.length ∷ [] =
    cond-false d.out [] (pieces_by blocks item d.item d.action) copied.on ∙ ap (pieces_by blocks item d.item) act in
    subst (λ ps. Cover from d.item.length ps) (sym one) (to_end item from d.item.length (extends_before d from copied act))

-- ---- how much a chunk has
chunk_bytes : (item size long place : ℕ) → 0 < size → place + 1 < length (chunks item size long) → get_or (map bytes_of (chunks item size long)) place 0 ≡ size
chunk_bytes item size long place some l =
    let many : length (chunks item size long) ≡ div_ceil long size = length-map-range_with_len (chunk_at item size long) 0 (div_ceil long size) in
    let d : Piece = chunk_at item size long place in
    let at : get_or (chunks item size long) place d ≡ d = get_or-map-range_with_len (chunk_at item size long) 0 (div_ceil long size) place place d (omega (arith, many, l)) (omega arith) in
    get_or-map bytes_of (chunks item size long) place d 0 (omega (arith, l)) ∙ ap bytes_of at ∙ chunk_is_full place size long some (omega (arith, many, l))

pub chunks_full : ChunksAreFull
chunks_full blocks item place d copied act cut l =
    let size = chunk_size blocks d.item.attrs.block_size in
    let e = its_chunks blocks item d copied act cut in
    let some : 0 < size = cut_size blocks d.item.attrs.block_size d.item.length (some_block blocks item d copied act) cut in
    ap (λ ps. get_or (map bytes_of ps) place 0) e ∙ chunk_bytes item size d.item.length place some (subst (λ ps. place + 1 < length ps) e l)

bytes_from : (item size long a n : ℕ) → 0 < size → a + n ≤ div_ceil long size →
    All (λ p. (0 < bytes_of p) × (bytes_of p ≤ size)) (map (chunk_at item size long) (range_with_len a n))
bytes_from item size long a zero some l = All-nil (λ p. (0 < bytes_of p) × (bytes_of p ≤ size))
bytes_from item size long a (suc n) some l =
    All-cons (λ p. (0 < bytes_of p) × (bytes_of p ≤ size)) (chunk_at item size long a) (map (chunk_at item size long) (range_with_len (a + 1) n))
    (omega (arith, some, chunk_begins a size long some (omega (arith, l))), omega arith)
    (bytes_from item size long (a + 1) n some (omega (arith, l)))

pub chunks_bytes : ChunksHaveBytes
chunks_bytes blocks item d copied act cut =
    let size = chunk_size blocks d.item.attrs.block_size in
    let some : 0 < size = cut_size blocks d.item.attrs.block_size d.item.length (some_block blocks item d copied act) cut in
    subst (λ ps. All (λ p. (0 < bytes_of p) × (bytes_of p ≤ size)) ps) (sym (its_chunks blocks item d copied act cut))
    (bytes_from item size d.item.length 0 (div_ceil d.item.length size) some (omega arith))
