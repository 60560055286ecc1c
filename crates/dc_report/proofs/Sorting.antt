-- Sorted lists.
use Rattle.std.proofs.Common.{◌≡◌, ◌⊎◌, inl, inr, ⊎_elim, List, [], ◌∷◌, ◌++◌, Bool, true, false, cond, refl, sym, ◌∙◌, ap}
use Rattle.std.proofs.lemmas.Bool.{false_from_ne_true}
use Rattle.dc_report.specs.Carrying.{Has, insert_by, sort_by}

abbrev pub IsSorted : {X : Type 0} → (X → X → Bool) → List X → Type 0
IsSorted lt [] = Unit {0}
IsSorted {X} lt (x ∷ xs) = ((y : X) → Has xs y → lt x y ≡ true) × IsSorted lt xs

inserted : {X : Type 0} (b : Bool) (x y z : X) (ys is : List X) → (Has is z → (z ≡ x) ⊎ Has ys z) → Has (cond b (x ∷ y ∷ ys) (y ∷ is)) z → (z ≡ x) ⊎ ((z ≡ y) ⊎ Has ys z)
inserted true x y z ys is ih k = k
inserted false x y z ys is ih (inl e) = inr (inl e)
inserted false x y z ys is ih (inr k) = ⊎_elim (λ e. inl e) (λ g. inr (inr g)) (ih k)

insert_has : {X : Type 0} (lt : X → X → Bool) (x : X) (ys : List X) (z : X) → Has (insert_by lt x ys) z → (z ≡ x) ⊎ Has ys z
insert_has lt x [] z h = h
insert_has lt x (y ∷ ys) z h = inserted (lt x y) x y z ys (insert_by lt x ys) (insert_has lt x ys z) h

has_inserted : {X : Type 0} (b : Bool) (x y z : X) (ys is : List X) → ((z ≡ x) ⊎ Has ys z → Has is z) → (z ≡ x) ⊎ ((z ≡ y) ⊎ Has ys z) → Has (cond b (x ∷ y ∷ ys) (y ∷ is)) z
has_inserted true x y z ys is ih k = k
has_inserted false x y z ys is ih (inl e) = inr (ih (inl e))
has_inserted false x y z ys is ih (inr (inl e)) = inl e
has_inserted false x y z ys is ih (inr (inr k)) = inr (ih (inr k))

has_insert : {X : Type 0} (lt : X → X → Bool) (x : X) (ys : List X) (z : X) → (z ≡ x) ⊎ Has ys z → Has (insert_by lt x ys) z
has_insert lt x [] z h = h
has_insert lt x (y ∷ ys) z h = has_inserted (lt x y) x y z ys (insert_by lt x ys) (has_insert lt x ys z) h

pub sort_has : {X : Type 0} (lt : X → X → Bool) (xs : List X) (z : X) → Has (sort_by lt xs) z → Has xs z
sort_has lt [] z h = h
sort_has lt (x ∷ xs) z h = ⊎_elim (λ e. inl e) (λ k. inr (sort_has lt xs z k)) (insert_has lt x (sort_by lt xs) z h)

pub has_sort : {X : Type 0} (lt : X → X → Bool) (xs : List X) (z : X) → Has xs z → Has (sort_by lt xs) z
has_sort lt [] z h = h
has_sort lt (x ∷ xs) z (inl e) = has_insert lt x (sort_by lt xs) z (inl e)
has_sort lt (x ∷ xs) z (inr k) = has_insert lt x (sort_by lt xs) z (inr (has_sort lt xs z k))

-- any two at different places are in order one way
abbrev pub AreApart : {X : Type 0} → (X → X → Bool) → List X → Type 0
AreApart lt [] = Unit {0}
AreApart {X} lt (x ∷ xs) = ((y : X) → Has xs y → (lt x y ≡ true) ⊎ (lt y x ≡ true)) × AreApart lt xs

abbrev pub IsTransitive : {X : Type 0} → (X → X → Bool) → Type 0
IsTransitive {X} lt = (x y z : X) → lt x y ≡ true → lt y z ≡ true → lt x z ≡ true

insert_cons : {X : Type 0} (lt : X → X → Bool) (x y : X) (ys : List X) (b : Bool) → IsTransitive lt → lt x y ≡ b → IsSorted lt (y ∷ ys) → ((z : X) → (z ≡ y) ⊎ Has ys z → (lt x z ≡ true) ⊎ (lt z x ≡ true)) → IsSorted lt (insert_by lt x ys) → IsSorted lt (cond b (x ∷ y ∷ ys) (y ∷ insert_by lt x ys))
insert_cons {X} lt x y ys true tr e s a ih = (first, s)
  where
    first : (z : X) → (z ≡ y) ⊎ Has ys z → lt x z ≡ true
    first z (inl i) = rw i e
    first z (inr h) = tr x y z e (s.0 z h)
insert_cons {X} lt x y ys false tr e s a ih = (first, ih)
  where
    yx : lt y x ≡ true
    yx = ⊎_elim (λ k. let no : true ≡ false = sym k ∙ e in absurd (cc)) (λ k. k) (a y (inl refl))

    first : (z : X) → Has (insert_by lt x ys) z → lt y z ≡ true
    first z h = ⊎_elim (λ i. rw i yx) (λ k. s.0 z k) (insert_has lt x ys z h)

insert_sorted : {X : Type 0} (lt : X → X → Bool) (x : X) (ys : List X) → IsTransitive lt → IsSorted lt ys → ((z : X) → Has ys z → (lt x z ≡ true) ⊎ (lt z x ≡ true)) → IsSorted lt (insert_by lt x ys)
insert_sorted lt x [] tr s a = ((λ y h. absurd h), tt)
insert_sorted lt x (y ∷ ys) tr s a = insert_cons lt x y ys (lt x y) tr refl s a (insert_sorted lt x ys tr s.1 (λ z h. a z (inr h)))

pub sort_sorted : {X : Type 0} (lt : X → X → Bool) (xs : List X) → IsTransitive lt → AreApart lt xs → IsSorted lt (sort_by lt xs)
sort_sorted lt [] tr a = tt
sort_sorted lt (x ∷ xs) tr a = insert_sorted lt x (sort_by lt xs) tr (sort_sorted lt xs tr a.1) (λ z h. a.0 z (sort_has lt xs z h))

-- ---- an item more at the end
module _ {X : Type 0} (lt : X → X → Bool) (tr : IsTransitive lt) (off : (x : X) → lt x x ≡ false) where
  one_way : (x y : X) → lt x y ≡ true → lt y x ≡ false
  one_way x y e = false_from_ne_true (lt y x) (λ k. let n : true ≡ false = sym (tr x y x e k) ∙ off x in absurd (cc))

  swap_less : (x y z : X) (zs : List X) (c d : Bool) → lt x y ≡ true → lt x z ≡ c → lt y z ≡ d → insert_by lt x (insert_by lt y zs) ≡ insert_by lt y (insert_by lt x zs) → insert_by lt x (insert_by lt y (z ∷ zs)) ≡ insert_by lt y (insert_by lt x (z ∷ zs))
  swap_less x y z zs c true e g h ih = rw (tr x y z e h, h, e, one_way x y e) refl
  swap_less x y z zs true false e g h ih = rw (h, g, one_way x y e, h) refl
  swap_less x y z zs false false e g h ih =
      let a : insert_by lt y (z ∷ zs) ≡ z ∷ insert_by lt y zs = rw h refl in
      let b : insert_by lt x (z ∷ zs) ≡ z ∷ insert_by lt x zs = rw g refl in
      let c : insert_by lt x (z ∷ insert_by lt y zs) ≡ z ∷ insert_by lt x (insert_by lt y zs) = rw g refl in
      let d : insert_by lt y (z ∷ insert_by lt x zs) ≡ z ∷ insert_by lt y (insert_by lt x zs) = rw h refl in
      ap (insert_by lt x) a ∙ c ∙ ap (λ (u : List X). z ∷ u) ih ∙ sym (ap (insert_by lt y) b ∙ d)

  -- two items go in either way round
  insert_swap : (x y : X) (zs : List X) → lt x y ≡ true → insert_by lt x (insert_by lt y zs) ≡ insert_by lt y (insert_by lt x zs)
  insert_swap x y [] e = rw (e, one_way x y e) refl
  insert_swap x y (z ∷ zs) e = swap_less x y z zs (lt x z) (lt y z) e refl refl (insert_swap x y zs e)

  -- the last of a list goes to its place among the others
  pub sort_last : (xs : List X) (x : X) → ((y : X) → Has xs y → (lt x y ≡ true) ⊎ (lt y x ≡ true)) → sort_by lt (xs ++ x ∷ []) ≡ insert_by lt x (sort_by lt xs)
  sort_last [] x a = refl
  sort_last (y ∷ xs) x a =
      ap (insert_by lt y) (sort_last xs x (λ z h. a z (inr h)))
      ∙ ⊎_elim (λ e. sym (insert_swap x y (sort_by lt xs) e)) (λ e. insert_swap y x (sort_by lt xs) e) (a y (inl refl))
