-- Files that are the items that land, each with its item.
use Rattle.std.proofs.Common.{◌≡◌, ℕ, suc, ◌+◌, true, false, ◌⊎◌, inl, inr, cond, Some, List, [], ◌∷◌, length, map, drop, get_or, refl, sym, ap, ap₂, subst, ◌∙◌, arith, slice_get}
use Rattle.std.specs.List.{All, AllZip, filter}
use Rattle.std.proofs.lemmas.Bool.{cases_Bool, cond-true, cond-false}
use Rattle.std.proofs.lemmas.List.Elements.{All-head, All-tail}
use Rattle.dc_decide.specs.Plans.{Decision}
use Rattle.dc_commit.specs.Landing.{is_landing}
use Rattle.dc_commit.specs.declared.landing.Ready.{Ready}
use Rattle.dc_join.specs.Joining.{ready_item}
use Rattle.dc_join.specs.Whole.{landing_from}

module _ {P : Type 0} (Own : Ready P → Type 0) (R : Ready P → Decision → Type 0) (items : List Decision)
    (each : (f : Ready P) (d : Decision) → Own f → slice_get items f.item ≡ Some d → is_landing d ≡ true → R f d) where
  -- what holds of each file with its item holds of them all
  pub paired : (n : ℕ) (ds : List Decision) (fs : List (Ready P)) → ((k : ℕ) → slice_get items (n + k) ≡ slice_get ds k) → map ready_item fs ≡ landing_from n ds → All Own fs → AllZip R fs (filter is_landing ds)
  paired n [] [] at e own = tt
  paired n [] (f ∷ fs) at e own = absurd (omega (arith, ap length e))
  paired n (d ∷ ds) fs at e own =
      let here : n ≡ n + 0 = omega arith in
      by (ap (slice_get items) here ∙ at 0)
      (λ gs a b. paired (n + 1) ds gs (λ k. let next : n + 1 + k ≡ n + suc k = omega arith in ap (slice_get items) next ∙ at (suc k)) a b)
      fs e own (cases_Bool (is_landing d))
    where
      ns : List ℕ
      ns = landing_from (n + 1) ds

      by : slice_get items n ≡ Some d → ((gs : List (Ready P)) → map ready_item gs ≡ ns → All Own gs → AllZip R gs (filter is_landing ds)) →
          (gs : List (Ready P)) → map ready_item gs ≡ cond (is_landing d) (n ∷ ns) ns → All Own gs → (is_landing d ≡ true) ⊎ (is_landing d ≡ false) →
          AllZip R gs (cond (is_landing d) (d ∷ filter is_landing ds) (filter is_landing ds))
      by there rest [] a b (inl t) = absurd (omega (arith, ap length (a ∙ cond-true (is_landing d) (n ∷ ns) ns t)))
      by there rest (f ∷ gs) a b (inl t) =
          let same : f.item ∷ map ready_item gs ≡ n ∷ ns = a ∙ cond-true (is_landing d) (n ∷ ns) ns t in
          let first : f.item ≡ n = ap (λ (xs : List ℕ). get_or xs 0 n) same in
          let later : map ready_item gs ≡ ns = ap (λ (xs : List ℕ). drop 1 xs) same in
          subst (λ (es : List Decision). AllZip R (f ∷ gs) es) (sym (cond-true (is_landing d) (d ∷ filter is_landing ds) (filter is_landing ds) t))
          (each f d (All-head Own f gs b) (ap (slice_get items) first ∙ there) t, rest gs later (All-tail Own f gs b))
      by there rest gs a b (inr f) =
          subst (λ (es : List Decision). AllZip R gs es) (sym (cond-false (is_landing d) (d ∷ filter is_landing ds) (filter is_landing ds) f))
          (rest gs (a ∙ cond-false (is_landing d) (n ∷ ns) ns f) b)

-- the same number of each file and of its item
pub paired_same : {A B : Type 0} (f : A → ℕ) (g : B → ℕ) (xs : List A) (ys : List B) → AllZip (λ x y. f x ≡ g y) xs ys → map f xs ≡ map g ys
paired_same f g [] [] h = refl
paired_same f g [] (y ∷ ys) h = absurd h
paired_same f g (x ∷ xs) [] h = absurd h
paired_same f g (x ∷ xs) (y ∷ ys) h = ap₂ (λ k ks. k ∷ ks) h.0 (paired_same f g xs ys h.1)
