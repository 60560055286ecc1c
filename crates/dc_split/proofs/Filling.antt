-- Bundles that are filled up to a limit: a record more, in the last bundle or in one of its own.
use Rattle.std.proofs.Common.{◌≡◌, ℕ, zero, suc, ◌+◌, ◌<◌, ◌≤◌, List, [], ◌∷◌, ◌++◌, length, refl, sym, ap, subst, ◌∙◌, arith, add-one, zero-add, append-nil, append_assoc, length-append, All, slice_index}
use Rattle.std.specs.List.{range_with_len}
use Rattle.std.proofs.lemmas.List.Elements.{All-nil, All-cons, All-head, All-tail, All-push}
use Rattle.std.proofs.lemmas.List.FromFn.{length-range_with_len}
use Rattle.std.proofs.lemmas.List.Concat.{flat_map-append}
use Rattle.std.proofs.lemmas.List.Sums.{sum_by_push}
use Rattle.dc_split.specs.Bundles.{numbers, flatten, size_of, first_length, IsFilled, FitsLimit, IsFullBefore, EachToNext, AreFilledUpTo}

-- ---- the numbers
range-more : (a n : ℕ) → range_with_len a (suc n) ≡ range_with_len a n ++ (a + n) ∷ []
range-more a zero = let e : a ≡ a + 0 = omega arith in ap (λ k. k ∷ []) e
range-more a (suc n) = let e : a + 1 + n ≡ a + suc n = omega arith in ap (λ ks. a ∷ ks) (rw e at (range-more (a + 1) n))

pub numbers-more : (n : ℕ) → numbers (n + 1) ≡ numbers n ++ n ∷ []
numbers-more n = ap numbers (add-one n) ∙ range-more 0 n ∙ ap (λ k. numbers n ++ k ∷ []) (zero-add n)

-- ---- the last bundle
pub flatten-push : (bundles : List (List ℕ)) (b : List ℕ) → flatten (bundles ++ b ∷ []) ≡ flatten bundles ++ b
flatten-push bundles b = flat_map-append (λ c. c) bundles (b ∷ []) ∙ ap (λ c. flatten bundles ++ c) (append-nil b)

All-front : (P : List ℕ → Type 0) (bundles : List (List ℕ)) (b : List ℕ) → All P (bundles ++ b ∷ []) → All P bundles
All-front P [] b h = All-nil P
All-front P (x ∷ bundles) b h = All-cons P x bundles (All-head P x (bundles ++ b ∷ []) h) (All-front P bundles b (All-tail P x (bundles ++ b ∷ []) h))

module _ (R : List ℕ → List ℕ → Type 0) where
  next_other : (bundles : List (List ℕ)) (b c : List ℕ) → ((x : List ℕ) → R x b → R x c) → EachToNext R (bundles ++ b ∷ []) → EachToNext R (bundles ++ c ∷ [])
  next_other [] b c same h = tt
  next_other (x ∷ []) b c same h = (same x h.0, tt)
  next_other (x ∷ y ∷ bundles) b c same h = (h.0, next_other (y ∷ bundles) b c same h.1)

  next_push : (bundles : List (List ℕ)) (b c : List ℕ) → R b c → EachToNext R (bundles ++ b ∷ []) → EachToNext R ((bundles ++ b ∷ []) ++ c ∷ [])
  next_push [] b c r h = (r, tt)
  next_push (x ∷ []) b c r h = (h.0, (r, tt))
  next_push (x ∷ y ∷ bundles) b c r h = (h.0, next_push (y ∷ bundles) b c r h.1)

-- ---- records
module _ (lengths : List ℕ) (limit : ℕ) where
  pub size-push : (b : List ℕ) (n : ℕ) → size_of lengths (b ++ n ∷ []) ≡ size_of lengths b + slice_index lengths n
  size-push b n = sum_by_push (λ number. slice_index lengths number) b n

  first-push : (b : List ℕ) (n : ℕ) → 0 < length b → first_length lengths (b ++ n ∷ []) ≡ first_length lengths b
  first-push [] n h = absurd (omega arith)
  first-push (x ∷ b) n h = refl

  -- the first record has a bundle
  pub fill_first : AreFilledUpTo lengths limit 1 ([] ++ (0 ∷ []) ∷ [])
  fill_first = record {
    filled = All-cons IsFilled (0 ∷ []) [] (omega arith) (All-nil IsFilled);
    ordered = refl;
    within = All-cons (FitsLimit lengths limit) (0 ∷ []) [] (λ two. absurd (omega arith)) (All-nil (FitsLimit lengths limit));
    full = tt;
  }

  module _ (n : ℕ) (bundles : List (List ℕ)) (b : List ℕ) (h : AreFilledUpTo lengths limit n (bundles ++ b ∷ [])) where
    -- a record that the last bundle has room for
    pub fill_more : 0 < length b → size_of lengths b + slice_index lengths n ≤ limit → AreFilledUpTo lengths limit (n + 1) (bundles ++ (b ++ n ∷ []) ∷ [])
    fill_more some room = record {
      filled = All-push IsFilled bundles (b ++ n ∷ []) (All-front IsFilled bundles b h.filled) (omega (arith, length-append b (n ∷ [])));
      ordered =
          flatten-push bundles (b ++ n ∷ []) ∙ sym (append_assoc (flatten bundles) b (n ∷ []))
          ∙ ap (λ c. c ++ n ∷ []) (sym (flatten-push bundles b) ∙ h.ordered) ∙ sym (numbers-more n);
      within =
          All-push (FitsLimit lengths limit) bundles (b ++ n ∷ []) (All-front (FitsLimit lengths limit) bundles b h.within)
          (λ two. omega (arith, size-push b n));
      full =
          next_other (IsFullBefore lengths limit) bundles b (b ++ n ∷ [])
          (λ x r. subst (λ k. limit < size_of lengths x + k) (sym (first-push b n some)) r) h.full;
    }

    -- a record that the last bundle has no room for
    pub fill_next : limit < size_of lengths b + slice_index lengths n → AreFilledUpTo lengths limit (n + 1) ((bundles ++ b ∷ []) ++ (n ∷ []) ∷ [])
    fill_next passes = record {
      filled = All-push IsFilled (bundles ++ b ∷ []) (n ∷ []) h.filled (omega arith);
      ordered = flatten-push (bundles ++ b ∷ []) (n ∷ []) ∙ ap (λ c. c ++ n ∷ []) h.ordered ∙ sym (numbers-more n);
      within = All-push (FitsLimit lengths limit) (bundles ++ b ∷ []) (n ∷ []) h.within (λ two. absurd (omega arith));
      full = next_push (IsFullBefore lengths limit) bundles b (n ∷ []) passes h.full;
    }

-- ---- how many bundles
length-flatten : (bundles : List (List ℕ)) → All IsFilled bundles → length bundles ≤ length (flatten bundles)
length-flatten [] h = omega arith
length-flatten (b ∷ bundles) h =
    omega (
      arith,
      length-append b (flatten bundles),
      All-head IsFilled b bundles h,
      length-flatten bundles (All-tail IsFilled b bundles h),
    )

-- there are no more bundles than records
pub filled_few : {lengths : List ℕ} {limit count : ℕ} {bundles : List (List ℕ)} → AreFilledUpTo lengths limit count bundles → length bundles ≤ count
filled_few {lengths} {limit} {count} {bundles} h =
    omega (arith, length-flatten bundles h.filled, ap length h.ordered, length-range_with_len 0 count)
