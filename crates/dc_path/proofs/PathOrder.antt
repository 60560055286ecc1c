-- The order of paths, and what is cut from paths in order.
use Rattle.std.proofs.Common.{◌≡◌, ◌⊎◌, inl, inr, ℕ, List, [], ◌∷◌, ◌++◌, Bool, true, false, cond, ◌&&◌, ◌||◌, Option, Some, None, refl, sym, ◌∙◌, ap, arith, append-nil}
use Rattle.std.proofs.lemmas.Bool.{false_from_ne_true}
use Rattle.std.specs.Ordering.{is_lt, ordering_reverse}
use Rattle.std.specs.declared.cmp.Ordering.{Ordering}
use Rattle.std.specs.declared.cmp.Ordering.TheVariants.{Less, Equal, Greater}
use Rattle.dc_path.specs.Names.{same_name}
use Rattle.dc_path.specs.Order.{name_lt, path_lt}
use Rattle.dc_path.specs.Paths.{Names, cut, is_above, path_cmp}
use Rattle.dc_path.proofs.LawProofs.{paths_are_ordered}
use Rattle.dc_path.proofs.OrderLemmas.{name_lt-apart, path_lt-apart, path_lt-cmp, path_lt-trans, name_lt-trans}
use Rattle.dc_path.proofs.PathLemmas.{name_decides, same_name-refl, same_path-refl, cut-append}

-- ---- no path comes before itself, and of two paths one comes before the other
pub name_lt-irrefl : (x : List ℕ) → name_lt x x ≡ false
name_lt-irrefl x = false_from_ne_true (name_lt x x) (λ k. let e : true ≡ false = sym (same_name-refl x) ∙ name_lt-apart x x k in cc)

pub path_lt-irrefl : (p : Names) → path_lt p p ≡ false
path_lt-irrefl p = false_from_ne_true (path_lt p p) (λ k. let e : true ≡ false = sym (same_path-refl p) ∙ path_lt-apart p p k in cc)

pub path_lt-connex : (a b : Names) → (a ≡ b → ⊥) → (path_lt a b ≡ true) ⊎ (path_lt b a ≡ true)
path_lt-connex a b h = by_order (path_cmp a b) refl
  where
    by_order : (o : Ordering) → path_cmp a b ≡ o → (path_lt a b ≡ true) ⊎ (path_lt b a ≡ true)
    by_order Less e = inl (path_lt-cmp a b ∙ ap is_lt e)
    by_order Equal e = absurd (h (paths_are_ordered.1 a b e))
    by_order Greater e = inr (path_lt-cmp b a ∙ ap is_lt (paths_are_ordered.0.antisymm b a ∙ ap ordering_reverse e))

-- ---- fronts of paths in order
-- what is less has no greater prefix
pub cut-less : (a b : Names) → path_lt b a ≡ true → cut a b ≡ None
cut-less [] [] h = cc
cut-less [] (y ∷ b) h = cc
cut-less (x ∷ a) [] h = refl
cut-less (x ∷ a) (y ∷ b) h = let ih = cut-less a b in let e = (name_decides x y).0 in let r = name_lt-irrefl x in grind (arith, ih, e, r)

-- of two prefixes of one path the greater is the longer
pub cut-longer : (b c q r s : Names) → path_lt b c ≡ true → cut b q ≡ Some r → cut c q ≡ Some s → (x : List ℕ) × (u : Names) × (c ≡ b ++ x ∷ u)
cut-longer [] [] q r s h e f = absurd (cc)
cut-longer [] (x ∷ u) q r s h e f = (x, u, refl)
cut-longer (x ∷ b) c [] r s h e f = absurd (cc)
cut-longer (x ∷ b) [] (z ∷ q) r s h e f = absurd (cc)
cut-longer (x ∷ b) (y ∷ c) (z ∷ q) r s h e f =
    let xz : x ≡ z = same_head x z (cut b q) e in
    let yz : y ≡ z = same_head y z (cut c q) f in
    let l : path_lt b c ≡ true = less x y (xz ∙ sym yz) h in
    let ih = cut-longer b c q r s l (tail x z e) (tail y z f) in
    (ih.0, ih.1, grind (arith, ih.2))
  where
    same_head : (x z : List ℕ) (o : Option Names) {r : Names} → cond (same_name x z) o None ≡ Some r → x ≡ z
    same_head x z o e = let k = (name_decides x z).0 in grind (arith, k)

    tail : (x z : List ℕ) {o : Option Names} {r : Names} → cond (same_name x z) o None ≡ Some r → o ≡ Some r
    tail x z e = grind arith

    less : (x y : List ℕ) → x ≡ y → (name_lt x y || (same_name x y && path_lt b c)) ≡ true → path_lt b c ≡ true
    less x y e h = let r = name_lt-irrefl x in let f = same_name-refl x in grind (arith, r, f)

-- ---- being above a path, by what is cut from it
-- there is a rest, and it has a name
abbrev pub is_rest : Option Names → Bool
is_rest None = false
is_rest (Some []) = false
is_rest (Some (x ∷ r)) = true

rest_at : (b c : Bool) (o : Option Names) → c ≡ is_rest o → (b && c) ≡ is_rest (cond b o None)
rest_at true c o e = e
rest_at false c o e = refl

pub is_above-by_cut : (q t : Names) → is_above q t ≡ is_rest (cut q t)
is_above-by_cut [] [] = refl
is_above-by_cut [] (y ∷ t) = refl
is_above-by_cut (x ∷ q) [] = refl
is_above-by_cut (x ∷ q) (y ∷ t) = rest_at (same_name x y) (is_above q t) (cut q t) (is_above-by_cut q t)

-- ---- what is less is no greater, and the comparison says so

pub path_lt-asym : (a b : Names) → path_lt a b ≡ true → path_lt b a ≡ true → ⊥
path_lt-asym a b h k = let e : true ≡ false = sym (path_lt-trans a b a h k) ∙ path_lt-irrefl a in cc

pub less_is : (o : Ordering) → is_lt o ≡ true → o ≡ Less
less_is Less e = refl
less_is Equal e = absurd (cc)
less_is Greater e = absurd (cc)

pub cmp_less : (p q : Names) → path_lt p q ≡ true → path_cmp p q ≡ Less
cmp_less p q h = less_is (path_cmp p q) (sym (path_lt-cmp p q) ∙ h)

pub cmp_greater : (p q : Names) → path_lt q p ≡ true → path_cmp p q ≡ Greater
cmp_greater p q h = paths_are_ordered.0.antisymm p q ∙ ap ordering_reverse (cmp_less q p h)

back_at : (p q : Names) (b : Bool) → path_lt p q ≡ true → path_lt q p ≡ b → b ≡ false
back_at p q false h e = refl
back_at p q true h e = absurd (path_lt-asym p q h e)

pub path_lt-back : (p q : Names) → path_lt p q ≡ true → path_lt q p ≡ false
path_lt-back p q h = back_at p q (path_lt q p) h refl

-- ---- prefixes are less

-- a proper prefix comes first
pub prefix_less : (b : Names) (x : List ℕ) (u : Names) → path_lt b (b ++ x ∷ u) ≡ true
prefix_less [] x u = refl
prefix_less (y ∷ b) x u = let ih = prefix_less b x u in let r = same_name-refl y in grind (arith, ih, r)

-- a prefix is the path itself or less
pub prefix_or_less : (b u q : Names) → q ≡ b ++ u → (u ≡ []) ⊎ (path_lt b q ≡ true)
prefix_or_less b [] q e = inl refl
prefix_or_less b (x ∷ u) q e = inr (rw e (prefix_less b x u))

-- what a front of a prefix is, comes before the path
pub above_lt : (a q t r : Names) → is_above q t ≡ true → cut a q ≡ Some r → path_lt a t ≡ true
above_lt [] [] [] r h e = absurd (cc)
above_lt [] (x ∷ q) [] r h e = absurd (cc)
above_lt [] q (y ∷ t) r h e = refl
above_lt (x ∷ a) [] t r h e = absurd (cc)
above_lt (x ∷ a) (y ∷ q) [] r h e = absurd (cc)
above_lt (x ∷ a) (y ∷ q) (z ∷ t) r h e = let ih = above_lt a q t r in let f = (name_decides x y).0 in let g = (name_decides y z).0 in let i = same_name-refl x in grind (arith, ih, f, g, i)

pub above_less : (d t : Names) → is_above d t ≡ true → path_lt d t ≡ true
above_less d t h = above_lt d d t [] h (rw append-nil at (cut-append d []))

-- nothing comes before the root
pub path_lt-root : (p : Names) → path_lt p [] ≡ false
path_lt-root [] = refl
path_lt-root (x ∷ p) = refl

pub path_lt-below : (front p q : Names) → path_lt (front ++ p) (front ++ q) ≡ path_lt p q
path_lt-below [] p q = refl
path_lt-below (x ∷ front) p q = let ih = path_lt-below front p q in let r = same_name-refl x in let apart = name_lt-apart x x in grind (arith, ih, r, apart)

-- ---- names in order

pub name_lt-back : (x y : List ℕ) → name_lt x y ≡ true → name_lt y x ≡ false
name_lt-back x y h = back_at x y h (name_lt y x) refl
  where
    back_at : (x y : List ℕ) → name_lt x y ≡ true → (b : Bool) → name_lt y x ≡ b → b ≡ false
    back_at x y h true k = let t = name_lt-trans x y x h k in let n = name_lt-irrefl x in cc
    back_at x y h false k = refl
