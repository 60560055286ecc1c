-- Bundles that meet the rule of uniform bundles are the same.
use Rattle.std.proofs.Common.{◌≡◌, ℕ, ◌+◌, ◌<◌, ◌≤◌, List, [], ◌∷◌, ◌++◌, length, refl, sym, ap, subst, ◌∙◌, arith, All, slice_index}
use Rattle.std.proofs.lemmas.List.{append_cancel_left}
use Rattle.std.proofs.lemmas.List.Elements.{All-head, All-tail}
use Rattle.std.proofs.lemmas.List.Sums.{sum_by-cons}
use Rattle.dc_split.specs.Bundles.{flatten, size_of, first_length, limit_of, IsFilled, FitsLimit, IsFullBefore, EachToNext}
use Rattle.dc_split.specs.Laws.{UniformIsOne}

module _ (lengths : List ℕ) (limit : ℕ) where
  size-cons : (n : ℕ) (b : List ℕ) → size_of lengths (n ∷ b) ≡ slice_index lengths n + size_of lengths b
  size-cons n b = sum_by-cons (λ number. slice_index lengths number) n b

  -- the rest of a bundle has room behind records of this size
  abbrev HasRoom : ℕ → List ℕ → Type 0
  HasRoom size [] = Unit {0}
  HasRoom size (n ∷ b) = size + size_of lengths (n ∷ b) ≤ limit

  -- the first of these bundles would not fit behind records of this size
  abbrev IsStopped : ℕ → List (List ℕ) → Type 0
  IsStopped size [] = Unit {0}
  IsStopped size (b ∷ bundles) = limit < size + first_length lengths b

  -- a bundle that ends where another goes on has room for the first record of the next
  no_end : (size m : ℕ) (c : List ℕ) (bundles : List (List ℕ)) (more : List ℕ) → All IsFilled bundles → flatten bundles ≡ m ∷ more → HasRoom size (m ∷ c) → IsStopped size bundles → ⊥
  no_end size m c [] more filled e room stopped = cc
  no_end size m c ([] ∷ bundles) more filled e room stopped = let some : 0 < length {A = ℕ} [] = All-head IsFilled [] bundles filled in omega arith
  no_end size m c ((k ∷ b) ∷ bundles) more filled e room stopped =
      let same : k ≡ m = cc in let r : limit < size + slice_index lengths m = subst (λ i. limit < size + slice_index lengths i) same stopped in omega (arith, size-cons m c)

  room_tail : (size n : ℕ) (b : List ℕ) → HasRoom size (n ∷ b) → HasRoom (size + slice_index lengths n) b
  room_tail size n [] room = tt
  room_tail size n (m ∷ b) room = omega (arith, size-cons n (m ∷ b))

  same_rest : (size : ℕ) (b c : List ℕ) (bundles others : List (List ℕ)) → All IsFilled bundles → All IsFilled others → b ++ flatten bundles ≡ c ++ flatten others →
      HasRoom size b → HasRoom size c → IsStopped (size + size_of lengths b) bundles → IsStopped (size + size_of lengths c) others → b ≡ c
  same_rest size [] [] bundles others f g e p q s t = refl
  same_rest size [] (m ∷ c) bundles others f g e p q s t =
      let none : size + size_of lengths [] ≡ size = omega arith in
      absurd (no_end size m c bundles (c ++ flatten others) f e q (subst (λ k. IsStopped k bundles) none s))
  same_rest size (n ∷ b) [] bundles others f g e p q s t =
      let none : size + size_of lengths [] ≡ size = omega arith in
      absurd (no_end size n b others (b ++ flatten bundles) g (sym e) p (subst (λ k. IsStopped k others) none t))
  same_rest size (n ∷ b) (m ∷ c) bundles others f g e p q s t =
      let same : n ≡ m = cc in
      let rests : b ++ flatten bundles ≡ c ++ flatten others = cc in
      let before : size + size_of lengths (n ∷ b) ≡ size + slice_index lengths n + size_of lengths b = omega (arith, size-cons n b) in
      let behind : size + size_of lengths (m ∷ c) ≡ size + slice_index lengths n + size_of lengths c = omega (arith, size-cons m c, ap (slice_index lengths) same) in
      let more : b ≡ c =
      same_rest (size + slice_index lengths n) b c bundles others f g rests (room_tail size n b p)
      (subst (λ k. HasRoom (size + slice_index lengths k) c) (sym same) (room_tail size m c q))
      (subst (λ k. IsStopped k bundles) before s) (subst (λ k. IsStopped k others) behind t) in
      cc

  -- ---- whole bundles
  room_first : (n : ℕ) (b : List ℕ) → FitsLimit lengths limit (n ∷ b) → HasRoom (slice_index lengths n) b
  room_first n [] fits = tt
  room_first n (m ∷ b) fits = omega (arith, size-cons n (m ∷ b), fits (omega arith))

  stopped_first : (n : ℕ) (b : List ℕ) (bundles : List (List ℕ)) → EachToNext (IsFullBefore lengths limit) ((n ∷ b) ∷ bundles) → IsStopped (slice_index lengths n + size_of lengths b) bundles
  stopped_first n b [] full = tt
  stopped_first n b (c ∷ bundles) full = subst (λ k. limit < k + first_length lengths c) (size-cons n b) full.0

  full_tail : (b : List ℕ) (bundles : List (List ℕ)) → EachToNext (IsFullBefore lengths limit) (b ∷ bundles) → EachToNext (IsFullBefore lengths limit) bundles
  full_tail b [] full = tt
  full_tail b (c ∷ bundles) full = full.1

  no_empty : (bundles : List (List ℕ)) → All IsFilled ([] ∷ bundles) → ⊥
  no_empty bundles filled = let some : 0 < length {A = ℕ} [] = All-head IsFilled [] bundles filled in omega arith

  same_all : (bundles others : List (List ℕ)) → All IsFilled bundles → All IsFilled others → flatten bundles ≡ flatten others →
      All (FitsLimit lengths limit) bundles → All (FitsLimit lengths limit) others →
      EachToNext (IsFullBefore lengths limit) bundles → EachToNext (IsFullBefore lengths limit) others → bundles ≡ others
  same_all [] [] f g e h k s t = refl
  same_all [] ([] ∷ others) f g e h k s t = absurd (no_empty others g)
  same_all [] ((m ∷ c) ∷ others) f g e h k s t = cc
  same_all ([] ∷ bundles) others f g e h k s t = absurd (no_empty bundles f)
  same_all ((n ∷ b) ∷ bundles) [] f g e h k s t = cc
  same_all ((n ∷ b) ∷ bundles) ([] ∷ others) f g e h k s t = absurd (no_empty others g)
  same_all ((n ∷ b) ∷ bundles) ((m ∷ c) ∷ others) f g e h k s t =
      let same : n ≡ m = cc in
      let rests : b ++ flatten bundles ≡ c ++ flatten others = cc in
      let filled = All-tail IsFilled (n ∷ b) bundles f in
      let also = All-tail IsFilled (m ∷ c) others g in
      let first : b ≡ c =
      same_rest (slice_index lengths n) b c bundles others filled also rests
      (room_first n b (All-head (FitsLimit lengths limit) (n ∷ b) bundles h))
      (subst (λ i. HasRoom (slice_index lengths i) c) (sym same) (room_first m c (All-head (FitsLimit lengths limit) (m ∷ c) others k)))
      (stopped_first n b bundles s)
      (subst (λ i. IsStopped (slice_index lengths i + size_of lengths c) others) (sym same) (stopped_first m c others t)) in
      let left = append_cancel_left b (flatten bundles) (flatten others) (rests ∙ ap (λ d. d ++ flatten others) (sym first)) in
      let more : bundles ≡ others =
      same_all bundles others filled also left
      (All-tail (FitsLimit lengths limit) (n ∷ b) bundles h) (All-tail (FitsLimit lengths limit) (m ∷ c) others k)
      (full_tail (n ∷ b) bundles s) (full_tail (m ∷ c) others t) in
      cc

pub uniform_is_one : UniformIsOne
uniform_is_one lengths maps bundles others h k =
    same_all lengths (limit_of lengths maps) bundles others h.filled k.filled (h.ordered ∙ sym k.ordered) h.within k.within h.full k.full
