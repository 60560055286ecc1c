-- A plan in which an item is left out is a plan.
use Rattle.std.proofs.Common.{◌≡◌, ℕ, zero, suc, ◌<◌, ◌&&◌, List, [], ◌∷◌, ◌++◌, length, map, take, drop, set, get_or, refl, sym, ◌∙◌, ap, subst, arith}
use Rattle.std.proofs.Math.Seq.{take-append_seam}
use Rattle.std.proofs.lemmas.List.{length-set}
use Rattle.std.specs.List.{list_all, refill}
use Rattle.dc_path.specs.Order.{is_ascending}
use Rattle.dc_path.specs.Paths.{Names}
use Rattle.dc_decide.specs.Plans.{Decision, Decisions, IsPlan, item_rel, is_placed, left_out, left_out_at}

-- what is written back over a whole list is the list
refill_whole : {X : Type 0} (n : ℕ) (xs ws : List X) → length ws ≡ n → refill n xs ws ≡ ws
refill_whole n xs ws h = subst (λ (k : ℕ). take k (ws ++ drop (length ws) xs) ≡ ws) h (take-append_seam ws (drop (length ws) xs))

set_left : (place : ℕ) (ds : List Decision) (d : Decision) → place < length ds → set ds place (left_out (get_or ds place d)) ≡ left_out_at place ds
set_left place [] d h = let n : ⊥ = omega arith in absurd n
set_left zero (x ∷ ds) d h = refl
set_left (suc place) (x ∷ ds) d h = ap (λ (z : List Decision). x ∷ z) (set_left place ds d (omega arith))

left_is : (place : ℕ) (ds lent : List Decision) (d : Decision) → lent ≡ ds → place < length ds → refill (length ds) ds (set lent place (left_out (get_or lent place d))) ≡ left_out_at place ds
left_is place ds lent d same h =
    refill_whole (length ds) ds (set lent place (left_out (get_or lent place d))) (length-set lent place (left_out (get_or lent place d)) ∙ ap length same)
    ∙ ap (λ (z : List Decision). set z place (left_out (get_or z place d))) same
    ∙ set_left place ds d h

same_rels : (place : ℕ) (ds : List Decision) → map item_rel (left_out_at place ds) ≡ map item_rel ds
same_rels place [] = refl
same_rels zero (d ∷ ds) = refl
same_rels (suc place) (d ∷ ds) = ap (λ z. item_rel d ∷ z) (same_rels place ds)

same_length : (place : ℕ) (ds : List Decision) → length (left_out_at place ds) ≡ length ds
same_length place [] = refl
same_length zero (d ∷ ds) = refl
same_length (suc place) (d ∷ ds) = ap suc (same_length place ds)

same_places : (base : Names) (place : ℕ) (ds : List Decision) → list_all (is_placed base) (left_out_at place ds) ≡ list_all (is_placed base) ds
same_places base place [] = refl
same_places base zero (d ∷ ds) = refl
same_places base (suc place) (d ∷ ds) = ap (λ z. is_placed base d && z) (same_places base place ds)

left_plan : (base : Names) (place : ℕ) (ds : List Decision) → IsPlan (record { base = base; items = ds }) → IsPlan (record { base = base; items = left_out_at place ds })
left_plan base place ds p = record {
  ascending = ap is_ascending (same_rels place ds) ∙ p.ascending;
  few = rw (same_length place ds) p.few;
  within = same_places base place ds ∙ p.within;
}

-- the same, as the items are lent, one is written and the list is given back
pub written_is : (place : ℕ) (ds lent : List Decision) (d new : Decision) → lent ≡ ds → new ≡ left_out (get_or lent place d) → (p : Decisions) → ds ≡ p.items → place < length p.items
    → refill (length ds) ds (set lent place new) ≡ left_out_at place p.items
written_is place ds lent d new same is p e short =
    ap (λ (z : Decision). refill (length ds) ds (set lent place z)) is
    ∙ left_is place ds lent d same (subst (λ (z : List Decision). place < length z) (sym e) short)
    ∙ ap (left_out_at place) e

pub written_plan : (base : Names) (place : ℕ) (ds lent : List Decision) (d new : Decision) → lent ≡ ds → new ≡ left_out (get_or lent place d) → place < length ds
    → IsPlan (record { base = base; items = ds }) → IsPlan (record { base = base; items = refill (length ds) ds (set lent place new) })
written_plan base place ds lent d new same is short p =
    subst (λ (z : List Decision). IsPlan (record { base = base; items = z })) (sym (written_is place ds lent d new same is (record { base = base; items = ds }) refl short)) (left_plan base place ds p)
