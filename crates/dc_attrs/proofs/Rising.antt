-- Names that rise, from a place on.
use Rattle.std.proofs.Common.{◌≡◌, ℕ, zero, suc, ◌<◌, ◌≤◌, Bool, true, not, ◌&&◌, List, [], ◌∷◌, length, map, drop, get_or, is_ge, nat_cmp, refl, sym, ap, ap₂, ◌∙◌, arith}
use Rattle.std.specs.Ordering.{is_lt}
use Rattle.std.specs.Cmp.Lexicographic.{slice_cmp}
use Rattle.std.specs.declared.cmp.Ordering.{Ordering}
use Rattle.std.specs.declared.cmp.Ordering.TheVariants.{Less, Equal, Greater}
use Rattle.dc_path.specs.Order.{name_lt}
use Rattle.dc_path.proofs.OrderLemmas.{name_lt-cmp}
use Rattle.dc_attrs.specs.Limits.{rises, name_of}
use Rattle.dc_attrs.specs.declared.attributes.Xattr.{Xattr}

-- the name at a place comes before the next, and the rest rises
rises_more : (xs : List Xattr) (i : ℕ) (d e : Xattr) → suc i < length xs
    → rises (map name_of (drop i xs)) ≡ (name_lt (get_or xs i d).name (get_or xs (suc i) e).name && rises (map name_of (drop (suc i) xs)))
rises_more [] i d e h = absurd (omega arith)
rises_more (x ∷ []) zero d e h = absurd (omega arith)
rises_more (x ∷ y ∷ xs) zero d e h = refl
rises_more (x ∷ xs) (suc i) d e h = rises_more xs i d e (omega arith)

pub rises_end : (xs : List Xattr) (i : ℕ) → length xs ≤ suc i → rises (map name_of (drop i xs)) ≡ true
rises_end [] zero h = refl
rises_end [] (suc i) h = refl
rises_end (x ∷ []) zero h = refl
rises_end (x ∷ y ∷ xs) zero h = absurd (omega arith)
rises_end (x ∷ xs) (suc i) h = rises_end xs i (omega arith)

opposite : (o : Ordering) → is_lt o ≡ not (is_ge o)
opposite Less = refl
opposite Equal = refl
opposite Greater = refl

module _ (xs : List Xattr) (i p : ℕ) (e : suc i ≡ p) where
  -- by the comparison of two names that stand side by side
  pub rises_by : (before name : List ℕ) (d f : Xattr) (r : Bool) → p < length xs → before ≡ (get_or xs i d).name → name ≡ (get_or xs p f).name → r ≡ is_ge (slice_cmp nat_cmp before name)
      → rises (map name_of (drop i xs)) ≡ (not r && rises (map name_of (drop p xs)))
  rises_by before name d f r h b n c =
      rises_more xs i d f (omega arith)
      ∙ ap (λ (q : ℕ). name_lt (get_or xs i d).name (get_or xs q f).name && rises (map name_of (drop q xs))) e
      ∙ ap (λ (t : Bool). t && rises (map name_of (drop p xs)))
      (ap₂ name_lt (sym b) (sym n) ∙ name_lt-cmp before name ∙ opposite (slice_cmp nat_cmp before name) ∙ ap not (sym c))
