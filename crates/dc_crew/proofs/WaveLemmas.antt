-- What the workers made for the whole run.
use Rattle.std.proofs.Common.{◌≡◌, ◌⊎◌, ◌==◌, ◌&&◌, eqb-true, map, Less, true≢false, ℕ, zero, suc, ◌+◌, ◌*◌, ◌<◌, ◌≤◌, Bool, true, false, cond, List, [], ◌∷◌, length, All, count_by, refl, sym, ap, ◌∙◌, ⊎_elim, arith}
use Rattle.std.proofs.lemmas.List.Sums.{sum_by-cons}
use Rattle.dc_kills.specs.Entries.{Entry, Attempt}
use Rattle.dc_kills.specs.Plans.{is_same, attempt_cmp, IsInOrder}
use Rattle.std.proofs.lemmas.Map.Keys.{sorted_tail}
use Rattle.std.proofs.lemmas.Map.Views.{All-after_first}
use Rattle.std.proofs.lemmas.List.Elements.{All-head, All-tail}
use Rattle.std.specs.Ordering.{nat_cmp, ordering_then}
use Rattle.std.proofs.lemmas.Bool.Decides.{nat_tests}
use Rattle.dc_pool.specs.Drawing.{weight_below}
use Rattle.dc_pool.specs.Counts.{Gained, last}
use Rattle.dc_fs.specs.Rest.{Rest}
use Rattle.dc_pieces.specs.declared.piece.Piece.{Piece}
use Rattle.dc_crew.specs.declared.states.State.{State}
use Rattle.dc_pieces.specs.declared.parts.Part.{Part}
use Rattle.dc_crew.specs.States.{state_of, tally, parts_of}
use Rattle.dc_crew.specs.Advances.{is_doomed_at, is_reached_entry, failures}
use Rattle.dc_crew.specs.Slots.{RoseTogether, StandStill}
use Rattle.dc_crew.proofs.SumLemmas.{zeros, below_add, below_same, hot_le, count_below}
use Rattle.dc_crew.proofs.MeasureLemmas.{four_failures, gained_less}
use Rattle.dc_crew.proofs.SpentLemmas.{is_spent, IsOnce, reached_spent}

module _ {P : Type 0} where
  parts_some : (n : ℕ) (parts : List (Part P)) → weight_below (λ p. parts_of p parts) n ≤ length parts
  parts_some n [] = let z = zeros n in omega arith
  parts_some n (x ∷ xs) =
      let a = below_same (λ p. parts_of p (x ∷ xs)) (λ p. cond {A = ℕ} (x.piece == p) 1 0 + parts_of p xs) n (λ p _. sum_by-cons (λ (x : Part P). cond {A = ℕ} (x.piece == p) 1 0) x xs) in
      let b = below_add (λ p. cond {A = ℕ} (x.piece == p) 1 0) (λ p. parts_of p xs) n in
      let c = hot_le x.piece n 1 in
      let i = parts_some n xs in
      omega arith

  -- each piece that is there has a part
  pieces_have_parts : (states : List State) (parts : List (Part P)) (n : ℕ) → ((p : ℕ) → p < n → (state_of states p).done ≡ true) → ((p : ℕ) → parts_of p parts ≡ tally (state_of states p).done) → n ≤ length parts
  pieces_have_parts states parts n all once =
      let a = below_same (λ p. parts_of p parts) (λ _. 1) n (λ p h. once p ∙ ap tally (all p h)) in
      let b = count_below n in
      let c = parts_some n parts in
      omega arith

  pub reached_made : {S : Type 0} (f : S → ℕ) (plan : List Entry) (pieces : List Piece) (size : ℕ) (states : List State) (parts : List (Part P)) (dead : ℕ) (old new : List S) → IsOnce plan → length states ≡ length pieces
      → ((p : ℕ) → p < length pieces → ((state_of states p).done ≡ true) ⊎ (4 ≤ (state_of states p).failed))
      → ((p : ℕ) → (state_of states p).done ≡ true → is_doomed_at plan pieces size p ((state_of states p).ended + 1) ≡ false)
      → ((p : ℕ) → parts_of p parts ≡ tally (state_of states p).done)
      → Gained f (length parts + dead) old new → (failures states ≡ 0 → count_by (is_spent pieces size states) plan ≤ dead) → failures states ≡ 0
      → Gained f (length pieces + count_by (is_reached_entry plan pieces size) plan) old new
  reached_made f plan pieces size states parts dead old new unique len whole spared once made spent none =
      let all : (p : ℕ) → p < length states → (state_of states p).done ≡ true = λ p h. ⊎_elim (λ (d : (state_of states p).done ≡ true). d) (λ (four : 4 ≤ (state_of states p).failed). absurd (let x = four_failures states p h four in omega arith)) (whole p (omega arith)) in
      let a = pieces_have_parts states parts (length states) all once in
      let b = reached_spent plan pieces size states unique len all spared in
      let c = spent none in
      gained_less f (length parts + dead) (length pieces + count_by (is_reached_entry plan pieces size) plan) old new made (omega arith)

-- where the two counts stand still, nothing failed
pub no_failures : (n : ℕ) (source source_now target target_now : Rest) → RoseTogether source source_now target target_now n → StandStill source source_now target target_now → n ≡ 0
no_failures n source source_now target target_now r s = let x = r s.forks_below s.desks_below in let a = s.fork_faults in let b = s.desk_faults in omega arith

-- a plan in order has each attempt once
less_not_same : (x y k : Attempt) → attempt_cmp x y ≡ Less → is_same k x ≡ true → cond {A = ℕ} (is_same k y) 1 0 ≡ 0
less_not_same x y k l s = go (is_same k y) refl
  where
    go : (b : Bool) → is_same k y ≡ b → cond {A = ℕ} b 1 0 ≡ 0
    go false e = refl
    go true e =
        let a = both (k.0 == x.0) (k.1 == x.1) s in
        let b = both (k.0 == y.0) (k.1 == y.1) e in
        let p : x.0 ≡ y.0 = sym (eqb-true k.0 x.0 a.0) ∙ eqb-true k.0 y.0 b.0 in
        let q : x.1 ≡ y.1 = sym (eqb-true k.1 x.1 a.1) ∙ eqb-true k.1 y.1 b.1 in
        absurd (same_less x.0 y.0 x.1 y.1 p q l)
      where
        both : (x y : Bool) → (x && y) ≡ true → (x ≡ true) × (y ≡ true)
        both true y h = (refl, h)
        both false y h = absurd (true≢false (sym h))

        same_less : (a b c d : ℕ) → a ≡ b → c ≡ d → ordering_then (nat_cmp a b) (nat_cmp c d) ≡ Less → ⊥
        same_less a b c d e f l = grind (arith, nat_tests)

none_above : (x k : Attempt) (es : List Entry) → All (λ y. attempt_cmp x y ≡ Less) (map (λ (e : Entry). e.0) es) → is_same k x ≡ true → count_by (λ (e : Entry). is_same k e.0) es ≡ 0
none_above x k [] h s = refl
none_above x k (e ∷ es) h s =
    let a = sum_by-cons (λ (e : Entry). cond {A = ℕ} (is_same k e.0) 1 0) e es in
    let z = less_not_same x e.0 k (All-head (λ y. attempt_cmp x y ≡ Less) e.0 (map (λ (e : Entry). e.0) es) h) s in
    let i = none_above x k es (All-tail (λ y. attempt_cmp x y ≡ Less) e.0 (map (λ (e : Entry). e.0) es) h) s in
    omega arith

pub once_in_order : (plan : List Entry) → IsInOrder plan → IsOnce plan
once_in_order [] h k = omega arith
once_in_order (e ∷ es) h k =
    let a = sum_by-cons (λ (e : Entry). cond {A = ℕ} (is_same k e.0) 1 0) e es in
    by_test (is_same k e.0) refl (once_in_order es (sorted_tail attempt_cmp e.0 (map (λ (e : Entry). e.0) es) h) k) a
  where
    by_test : (b : Bool) → is_same k e.0 ≡ b → count_by (λ (f : Entry). is_same k f.0) es ≤ 1 → count_by (λ (f : Entry). is_same k f.0) (e ∷ es) ≡ cond {A = ℕ} (is_same k e.0) 1 0 + count_by (λ (f : Entry). is_same k f.0) es → count_by (λ (f : Entry). is_same k f.0) (e ∷ es) ≤ 1
    by_test true t i a = let z = none_above e.0 k es (All-after_first attempt_cmp e.0 (map (λ (e : Entry). e.0) es) h) t in let c = ap (λ (b : Bool). cond {A = ℕ} b 1 0) t in omega arith
    by_test false t i a = let c = ap (λ (b : Bool). cond {A = ℕ} b 1 0) t in omega arith

four_each : (f : ℕ → ℕ) (n : ℕ) → ((p : ℕ) → f p ≤ 4) → weight_below f n ≤ 4 * n
four_each f zero h = omega arith
four_each f (suc n) h = let i = four_each f n h in let j = h n in omega arith

-- the run fails too seldom to count past the end
pub failures_small : (states : List State) → ((p : ℕ) → (state_of states p).failed ≤ 4) → length states ≤ 8388608 → failures states ≤ last
failures_small states h few = let a = four_each (λ p. (state_of states p).failed) (length states) h in omega arith
