-- The loop down to a new path: what is left of it.
use Rattle.std.proofs.Common.{◌≡◌, ◌≤◌, ◌+◌, ℕ, zero, suc, Bool, false, cond, ◌&&◌, not, List, [], ◌∷◌, ◌++◌, length, take, drop, slice_get, map, Option, Some, refl, sym, ◌∙◌, ap, append_assoc, arith}
use Rattle.std.proofs.lemmas.List.{append-nil, map-append}
use Rattle.dc_path.specs.Paths.{Names}
use Rattle.dc_report.specs.Landings.{is_above_last, is_fresh_at, made_along}
use Rattle.dc_report.specs.declared.entries.Move.{Move}
use Rattle.dc_report.specs.declared.entries.Move.TheVariants.{Make}
use Rattle.dc_report.specs.declared.moves.Ground.{Ground}
use Rattle.dc_report.proofs.Lists.{drop_get, drop_past, take_get}

-- what is left makes what all makes
pub record IsWalking (g : Ground) (last : Option Names) (new : Names) (count : ℕ) (front : Names) (fresh : Bool) (before moves : List Move) : Type 0 where
  pub walked : front ≡ take count new
  pub left : moves ++ map Make (made_along g last fresh front (drop count new)) ≡ before ++ map Make (made_along g last false [] new)

module _ (g : Ground) (last : Option Names) (new : Names) where
  pub walk_start : (before : List Move) → IsWalking g last new 0 [] false before before
  walk_start before = record { walked = refl; left = refl }

  -- one path more
  pub walk_more : (count : ℕ) (front : Names) (fresh : Bool) (x : List ℕ) (before ms new_ms : List Move)
      → IsWalking g last new count front fresh before ms → slice_get new count ≡ Some x
      → new_ms ≡ ms ++ map Make (cond (is_fresh_at g front fresh && not (is_above_last last front)) (front ∷ []) [])
      → IsWalking g last new (count + 1) (front ++ x ∷ []) (is_fresh_at g front fresh) before new_ms
  walk_more count front fresh x before ms new_ms w e f = record {
    walked = ap (λ (p : Names). p ++ x ∷ []) w.walked ∙ sym (take_get new count x e);
    left =
        ap (λ (n : List Move). n ++ map Make rest) f ∙ append_assoc ms (map Make here) (map Make rest)
        ∙ ap (λ (n : List Move). ms ++ n) (sym (map-append Make here rest))
        ∙ ap (λ (p : Names). ms ++ map Make (made_along g last fresh front p)) (sym (drop_get new count x e))
        ∙ w.left;
  }
    where
      here : List Names
      here = cond (is_fresh_at g front fresh && not (is_above_last last front)) (front ∷ []) []

      rest : List Names
      rest = made_along g last (is_fresh_at g front fresh) (front ++ x ∷ []) (drop (count + 1) new)

-- what is behind a front on the way
pub walk_parted : (new : Names) (count : ℕ) (x : List ℕ) → slice_get new count ≡ Some x → new ≡ (take count new ++ x ∷ []) ++ drop (count + 1) new
walk_parted [] count x e = absurd (cc)
walk_parted (y ∷ new) zero x e = let k : y ≡ x = cc in ap (λ (z : List ℕ). z ∷ new) k
walk_parted (y ∷ new) (suc count) x e = let s : suc count + 1 ≡ suc (count + 1) = omega arith in rw s (ap (λ (p : Names). y ∷ p) (walk_parted new count x e))

-- at the end all are made
pub walk_end : (g : Ground) (last : Option Names) (new : Names) (count : ℕ) (front : Names) (fresh : Bool) (before ms : List Move)
    → IsWalking g last new count front fresh before ms → length new ≤ count → ms ≡ before ++ map Make (made_along g last false [] new)
walk_end g last new count front fresh before ms w h =
    sym (append-nil ms) ∙ ap (λ (p : Names). ms ++ map Make (made_along g last fresh front p)) (sym (drop_past new count h)) ∙ w.left
