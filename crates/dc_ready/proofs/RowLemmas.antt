-- The parts of pieces that are ranges in a row: their bytes and their sizes, together.
use Rattle.std.proofs.Common.{◌≡◌, ℕ, ◌+◌, ◌<◌, ◌≤◌, nat_le, Bool, true, false, ◌⊎◌, inl, inr, if◌then◌else◌, Option, Some, None, List, [], ◌∷◌, ◌++◌, length, map, take, drop, refl, sym, ap, ap₂, ◌∙◌, arith}
use Rattle.std.specs.List.{list_all, sum_by}
use Rattle.std.specs.Option.{option_map}
use Rattle.std.proofs.lemmas.Bool.{cases_lt, eqb-true, and_parts}
use Rattle.std.proofs.lemmas.List.{drop_all, drop-drop, nil_from_length, take-append-drop}
use Rattle.std.proofs.lemmas.List.Elements.{All-head, All-tail}
use Rattle.std.proofs.lemmas.List.Sums.{sum_by-cons}
use Rattle.std.proofs.lemmas.Option.{none-some, same_Some}
use Rattle.dc_path.specs.Paths.{Names}
use Rattle.dc_attrs.specs.Trees.{Tree, bytes_of, seen}
use Rattle.dc_fs.specs.Temporaries.{all_told}
use Rattle.dc_decide.specs.Plans.{Decision}
use Rattle.dc_attempt.specs.Ranges.{is_file, range_in, told_range}
use Rattle.dc_pieces.specs.Laws.{Cover, bytes_of as piece_bytes}
use Rattle.dc_pieces.specs.Parts.{part_of}
use Rattle.dc_pieces.specs.declared.parts.Part.{Part}
use Rattle.dc_pieces.specs.declared.piece.Piece.{Piece}
use Rattle.dc_crew.specs.Advances.{AreRight, IsRight}
use Rattle.dc_crew.specs.Jobs.{Job, IsPart, job_of, path_at, piece_at, source_path}
use Rattle.dc_ready.proofs.CutLemmas.{is_of}

-- ---- one range
some_if : (c : Bool) (o : Option (List ℕ)) (bytes : List ℕ) → (if c then o else None) ≡ Some bytes → o ≡ Some bytes
some_if true o bytes e = e
some_if false o bytes e = absurd (none-some bytes e)

range_is : (s : Tree) (path : Names) (from count : ℕ) (bytes b : List ℕ) → told_range (Some s) path from count ≡ Some bytes → bytes_of (s path) ≡ Some b → bytes ≡ take count (drop from b)
range_is s path from count bytes b e at =
    let seen_there : range_in (bytes_of (s path)) from count ≡ Some bytes = some_if (is_file (seen s path)) (range_in (bytes_of (s path)) from count) bytes e in
    let ranged : range_in (Some b) from count ≡ Some bytes = sym (ap (λ (o : Option (List ℕ)). range_in o from count) at) ∙ seen_there in
    sym (same_Some (take count (drop from b)) bytes (some_if (nat_le (from + count) (length b)) (Some (take count (drop from b))) bytes ranged))

range_taken : (s : Tree) (path : Names) (from count : ℕ) (bytes b : List ℕ) → length bytes ≡ count → (0 < count → told_range (Some s) path from count ≡ Some bytes) → bytes_of (s path) ≡ Some b → bytes ≡ take count (drop from b)
range_taken s path from count bytes b counted told at = by (cases_lt 0 count)
  where
    by : (0 < count) ⊎ (count ≤ 0) → bytes ≡ take count (drop from b)
    by (inl l) = range_is s path from count bytes b (told l) at
    by (inr z) =
        let none : count ≡ 0 = omega (arith, z) in
        nil_from_length bytes (counted ∙ none) ∙ sym (ap (λ n. take n (drop from b)) none)

module _ {P : Type 0} (content : P → Option (List ℕ)) (size : P → ℕ) where
  -- ---- the sizes of parts
  pub sized_row : (job : Job) (xs : List (Part P)) → AreRight job content size xs → sum_by size (map part_of xs) ≡ sum_by piece_bytes (map (λ (x : Part P). piece_at job.pieces x.piece) xs)
  sized_row job [] right = refl
  sized_row job (x ∷ xs) right =
      let r = All-head (IsRight job content size) x xs right in
      omega (
        arith,
        sum_by-cons size x.part (map part_of xs),
        sum_by-cons piece_bytes (piece_at job.pieces x.piece) (map (λ (y : Part P). piece_at job.pieces y.piece) xs),
        r.sized,
        sized_row job xs (All-tail (IsRight job content size) x xs right),
      )

  -- ---- their bytes
  module _ (s : Tree) (items : List Decision) (pieces : List Piece) (item : ℕ) (b : List ℕ) (at : bytes_of (s (path_at (map source_path items) item)) ≡ Some b) where
    pub told_row : (from : ℕ) (xs : List (Part P)) → AreRight (job_of (Some s) true items pieces) content size xs →
        list_all (is_of item) (map (λ (x : Part P). piece_at pieces x.piece) xs) ≡ true →
        Cover from (length b) (map (λ (x : Part P). piece_at pieces x.piece) xs) → all_told (map content (map part_of xs)) ≡ Some (drop from b)
    told_row from [] right its cover = ap (λ (bytes : List ℕ). Some bytes) (sym (ap (λ n. drop n b) cover ∙ drop_all (length b) b (omega arith)))
    told_row from (x ∷ xs) right its cover =
        let q = piece_at pieces x.piece in
        let job = job_of (Some s) true items pieces in
        let r : IsPart job x.piece (content x.part) (size x.part) = All-head (IsRight job content size) x xs right in
        let here : q.item ≡ item = eqb-true q.item item ((and_parts _ _ its).0) in
        let found : bytes_of (s (path_at (map source_path items) q.item)) ≡ Some b = ap (λ i. bytes_of (s (path_at (map source_path items) i))) here ∙ at in
        let bytes : r.bytes ≡ take q.length (drop from b) =
        range_taken s (path_at (map source_path items) q.item) q.from q.length r.bytes b r.counted r.range found ∙ ap (λ n. take q.length (drop n b)) cover.0 in
        let rest : all_told (map content (map part_of xs)) ≡ Some (drop (from + q.length) b) =
        told_row (from + q.length) xs (All-tail (IsRight job content size) x xs right) ((and_parts _ _ its).1) cover.1 in
        let whole : r.bytes ++ drop (from + q.length) b ≡ drop from b =
        ap₂ (λ ys zs. ys ++ zs) bytes (sym (drop-drop q.length from b)) ∙ take-append-drop q.length (drop from b) in
        ap (λ (o : Option (List ℕ)). all_told (o ∷ map content (map part_of xs))) r.told
        ∙ ap (option_map (λ more. r.bytes ++ more)) rest
        ∙ ap (λ (bytes : List ℕ). Some bytes) whole
