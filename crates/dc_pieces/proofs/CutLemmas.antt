-- The chunks of a file that is cut.
use Rattle.std.proofs.Common.{◌≡◌, ℕ, zero, suc, ◌+◌, ◌-◌, ◌*◌, ◌<◌, ◌≤◌, ◌^◌, min, true, nat_eq, map, refl, ap, subst, arith}
use Rattle.std.specs.Int.{div_ceil}
use Rattle.std.specs.List.{list_all, range_with_len}
use Rattle.std.proofs.lemmas.Bool.{and_from, or_right, eq-eqb, lt-ltb}
use Rattle.std.proofs.lemmas.Grind.{div_ceil_times}
use Rattle.std.proofs.lemmas.Nat.{row_fits}
use Rattle.dc_pieces.specs.Pieces.{leads_to, are_in_order, ends_within}
use Rattle.dc_pieces.specs.Cutting.{chunk_at, chunks}
use Rattle.dc_pieces.specs.Laws.{Cover}

-- ---- where chunks begin
pub chunk_begins : (k size long : ℕ) → 0 < size → k < div_ceil long size → k * size < long
chunk_begins k size long some l =
    let up : k * size + size ≤ div_ceil long size * size = row_fits k size (div_ceil long size) size l (omega arith) in
    let top : div_ceil long size * size < long + size = (div_ceil_times long size some).1 in
    omega (arith, up, top)

pub chunk_is_full : (k size long : ℕ) → 0 < size → k + 1 < div_ceil long size → min size (long - k * size) ≡ size
chunk_is_full k size long some l = omega (arith, chunk_begins (k + 1) size long some l)

pub chunks_reach : (size long : ℕ) → 0 < size → long ≤ div_ceil long size * size
chunks_reach size long some = (div_ceil_times long size some).0

module _ (item size long : ℕ) (some : 0 < size) where
  -- a chunk leads to the next
  next_leads : (a : ℕ) → a + 1 < div_ceil long size → leads_to (chunk_at item size long a) (chunk_at item size long (a + 1)) ≡ true
  next_leads a l =
      let ends : a * size + min size (long - a * size) ≡ (a + 1) * size = omega (arith, chunk_is_full a size long some l) in
      or_right _ _ (and_from _ _ (eq-eqb item item refl) (eq-eqb _ _ ends))

  in_order : (a n : ℕ) → a + n ≤ div_ceil long size → are_in_order (map (chunk_at item size long) (range_with_len a n)) ≡ true
  in_order a zero l = refl
  in_order a (suc zero) l = refl
  in_order a (suc (suc n)) l = and_from _ _ (next_leads a (omega arith)) (in_order (a + 1) (suc n) (omega arith))

  pub chunks_in_order : are_in_order (chunks item size long) ≡ true
  chunks_in_order = in_order 0 (div_ceil long size) (omega arith)

  within : long < 2 ^ 64 → (a n : ℕ) → a + n ≤ div_ceil long size → list_all ends_within (map (chunk_at item size long) (range_with_len a n)) ≡ true
  within fits a zero l = refl
  within fits a (suc n) l =
      and_from _ _
      (lt-ltb _ (2 ^ 64) (omega (arith, fits, chunk_begins a size long some (omega arith))))
      (within fits (a + 1) n (omega arith))

  pub chunks_within : long < 2 ^ 64 → list_all ends_within (chunks item size long) ≡ true
  chunks_within fits = within fits 0 (div_ceil long size) (omega arith)

  -- from this chunk on, chunks cover the rest of the file
  cover_from : (a n : ℕ) → a + n ≡ div_ceil long size → Cover (min (a * size) long) long (map (chunk_at item size long) (range_with_len a n))
  cover_from a zero e =
      let all : a ≡ div_ceil long size = omega (arith, e) in
      let same : a * size ≡ div_ceil long size * size = ap (λ k. k * size) all in
      omega (arith, same, chunks_reach size long some)
  cover_from a (suc n) e =
      let begins : a * size < long = chunk_begins a size long some (omega (arith, e)) in
      let from : a * size ≡ min (a * size) long = omega (arith, begins) in
      let next : min ((a + 1) * size) long ≡ min (a * size) long + min size (long - a * size) = omega (arith, begins) in
      (from, subst (λ k. Cover k long (map (chunk_at item size long) (range_with_len (a + 1) n))) next (cover_from (a + 1) n (omega (arith, e))))

  pub chunks_cover : Cover 0 long (chunks item size long)
  chunks_cover =
      let start : min (0 * size) long ≡ 0 = omega arith in
      subst (λ k. Cover k long (chunks item size long)) start (cover_from 0 (div_ceil long size) (omega arith))

-- ---- each chunk is of the item
pub all_of_item : (item size long a n : ℕ) → list_all (λ p. nat_eq p.item item) (map (chunk_at item size long) (range_with_len a n)) ≡ true
all_of_item item size long a zero = refl
all_of_item item size long a (suc n) = and_from _ _ (eq-eqb item item refl) (all_of_item item size long (a + 1) n)
