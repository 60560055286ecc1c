-- The last name of a path, and what has a name more.
use Rattle.std.proofs.Common.{◌≡◌, ℕ, ◌-◌, List, [], ◌∷◌, ◌++◌, length, false, ◌&&◌, nat_eq, Some, None, slice_get, refl, ◌∙◌, ap, arith}
use Rattle.std.proofs.lemmas.Bool.Decides.{nat_tests}
use Rattle.std.proofs.lemmas.Option.{slice_get-get_or}
use Rattle.dc_path.specs.Names.{same_name}
use Rattle.dc_path.specs.Paths.{Names, is_root, same_path, front_of}
use Rattle.dc_path.proofs.PathLemmas.{ends_in}
use Rattle.dc_listing.specs.Roots.{last_of}

-- ---- the last name
last_more : (p : Names) (x : List ℕ) → last_of (p ++ x ∷ []) ≡ x ∷ []
last_more [] x = refl
last_more (y ∷ []) x = refl
last_more (y ∷ z ∷ p) x = last_more (z ∷ p) x

pub last_is : (p : Names) (x : List ℕ) → slice_get p (length p - 1) ≡ Some x → last_of p ≡ x ∷ []
last_is p x e = ap last_of (ends_in p x e) ∙ last_more (front_of p) x

no_last : (p : Names) → slice_get p (length p - 1) ≡ None → p ≡ []
no_last [] e = refl
no_last (y ∷ p) e = let k = slice_get-get_or (y ∷ p) (length (y ∷ p) - 1) y (omega arith) in cc

pub last_none : (p : Names) → slice_get p (length p - 1) ≡ None → last_of p ≡ []
last_none p e = ap last_of (no_last p e)

pub root_is_empty : (p : Names) → is_root p ≡ nat_eq (length p) 0
root_is_empty [] = refl
root_is_empty (x ∷ p) = grind (arith, nat_tests)

-- ---- two paths by their last names
pub root_is_no_child : (d : Names) (y : List ℕ) → same_path [] (d ++ y ∷ []) ≡ false
root_is_no_child [] y = refl
root_is_no_child (w ∷ d) y = refl

child_is_no_root : (f : Names) (x : List ℕ) → same_path (f ++ x ∷ []) [] ≡ false
child_is_no_root [] x = refl
child_is_no_root (z ∷ f) x = refl

pub ends_are_same : (f d : Names) (x y : List ℕ) → same_path (f ++ x ∷ []) (d ++ y ∷ []) ≡ (same_name x y && same_path f d)
ends_are_same [] [] x y = refl
ends_are_same [] (w ∷ d) x y = let r = root_is_no_child d y in grind (arith, r)
ends_are_same (z ∷ f) [] x y = let r = child_is_no_root f x in grind (arith, r)
ends_are_same (z ∷ f) (w ∷ d) x y = let ih = ends_are_same f d x y in grind (arith, ih)
