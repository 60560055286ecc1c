-- What is known of each piece after a step.
use Rattle.std.proofs.Common.{◌≡◌, ◌==◌, ◌||◌, ℕ, ◌+◌, ◌≤◌, Bool, cond, List, [], ◌∷◌, ◌++◌, map, reverse, sym, ap, ◌∙◌, arith, append_assoc}
use Rattle.std.proofs.lemmas.List.{reverse-append}
use Rattle.std.proofs.lemmas.Bool.Decides.{nat_tests}
use Rattle.std.proofs.lemmas.List.Sums.{sum_by-append, sum_by-cons}
use mathlib.Core.List.{map-append}
use Rattle.dc_pool.specs.declared.results.Receipt.{Receipt}
use Rattle.dc_crew.specs.declared.crew.Task.{Task}
use Rattle.dc_pieces.specs.declared.parts.Part.{Part}
use Rattle.dc_crew.specs.Jobs.{task_of}
use Rattle.dc_crew.specs.States.{hits, tally, numbers_of, part_for}

pub hits-append : (tasks : List Task) (p : ℕ) (xs ys : List ℕ) → hits tasks p (xs ++ ys) ≡ hits tasks p xs + hits tasks p ys
hits-append tasks p xs ys = sum_by-append _ xs ys

pub hits-one : (tasks : List Task) (p n : ℕ) → hits tasks p (n ∷ []) ≡ tally ((task_of tasks n).piece == p)
hits-one tasks p n = let e = sum_by-cons (λ (m : ℕ). cond {A = ℕ} ((task_of tasks m).piece == p) 1 0) n [] in omega arith

module _ {P : Type 0} where
  pub numbers_popped : (rest all : List (Receipt P)) (r : Receipt P) → all ≡ rest ++ r ∷ [] → numbers_of all ≡ numbers_of rest ++ r.number ∷ []
  numbers_popped rest all r e = ap numbers_of e ∙ map-append (λ (r : Receipt P). r.number) rest (r ∷ [])

  -- a popped receipt, by its piece
  pub hits_popped : (tasks : List Task) (p : ℕ) (rest all : List (Receipt P)) (r : Receipt P) → all ≡ rest ++ r ∷ [] → hits tasks p (numbers_of all) ≡ hits tasks p (numbers_of rest) + tally ((task_of tasks r.number).piece == p)
  hits_popped tasks p rest all r e =
      let a = ap (hits tasks p) (numbers_popped rest all r e) in
      let b = hits-append tasks p (numbers_of rest) (r.number ∷ []) in
      let c = hits-one tasks p r.number in
      omega arith

-- the tally of a piece that is done now
pub done_step : (p q now was rest total : ℕ) (before after : Bool) → after ≡ (p == q || before) → was ≡ rest + tally (q == p) → tally before + was ≡ total → total ≤ 1 → tally after + rest ≡ total
done_step p q now was rest total before after e w t most = grind (arith, nat_tests)

module _ {P : Type 0} where
  -- a part that is kept comes from the last receipt
  pub parts_step : (tasks : List Task) (parts new : List (Part P)) (rest all : List (Receipt P)) (r : Receipt P) (x : Part P) (total : List (Part P)) → all ≡ rest ++ r ∷ [] → new ≡ parts ++ x ∷ [] → x ≡ part_for tasks r
      → parts ++ reverse (map (part_for tasks) all) ≡ total → new ++ reverse (map (part_for tasks) rest) ≡ total
  parts_step tasks parts new rest all r x total e n s t =
      let f = part_for {P = P} tasks in
      let a : reverse (map f all) ≡ f r ∷ reverse (map f rest) = ap (λ rs. reverse (map f rs)) e ∙ (ap reverse (map-append f rest (r ∷ [])) ∙ reverse-append (map f rest) (f r ∷ [])) in
      ap (λ xs. xs ++ reverse (map f rest)) n ∙ (append_assoc parts (x ∷ []) (reverse (map f rest)) ∙ (ap (λ y. parts ++ y ∷ reverse (map f rest)) s ∙ (ap (λ xs. parts ++ xs) (sym a) ∙ t)))
