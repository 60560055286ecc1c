-- Moves below a base, each within the limits of paths.
use Rattle.std.proofs.Common.{◌≡◌, ℕ, ◌+◌, ◌≤◌, List, [], ◌∷◌, ◌++◌, length, drop, map, slice_get, Option, Some, None, Result, Ok, Err, refl, sym, ◌∙◌, ap, append_assoc}
use Rattle.std.proofs.lemmas.List.{append-nil}
use Rattle.std.specs.List.{flat_map}
use Rattle.dc_path.specs.Paths.{Names}
use Rattle.dc_path.specs.Reading.{within_limits}
use Rattle.dc_path.specs.declared.path.PathError.{PathError}
use Rattle.dc_report.specs.Moves.{below, first_passed, limited_move, limited_moves, passed_or, paths_in, unless_passed}
use Rattle.dc_report.specs.declared.entries.Move.{Move}
use Rattle.dc_report.proofs.Lists.{drop_get, drop_past}

-- ---- one list of paths behind another
passed_none : (r : Result Names PathError) (o : Option PathError) → passed_or r o ≡ None → o ≡ None
passed_none (Ok p) o e = e
passed_none (Err f) o e = absurd (cc)

-- nothing passes a limit in the first list
behind_at : (r : Result Names PathError) (o w : Option PathError) (qs : Option PathError) → passed_or r o ≡ None → w ≡ qs → passed_or r w ≡ qs
behind_at (Ok p) o w qs e h = h
behind_at (Err f) o w qs e h = absurd (cc)

first_behind : (ps qs : List Names) → first_passed ps ≡ None → first_passed (ps ++ qs) ≡ first_passed qs
first_behind [] qs e = refl
first_behind (p ∷ ps) qs e =
    behind_at (within_limits p) (first_passed ps) (first_passed (ps ++ qs)) (first_passed qs) e (first_behind ps qs (passed_none (within_limits p) (first_passed ps) e))

-- a path of the first list passes one
before_at : (r : Result Names PathError) (o w : Option PathError) (f : PathError) → (o ≡ Some f → w ≡ Some f) → passed_or r o ≡ Some f → passed_or r w ≡ Some f
before_at (Ok p) o w f h e = h e
before_at (Err g) o w f h e = e

first_before : (ps qs : List Names) (f : PathError) → first_passed ps ≡ Some f → first_passed (ps ++ qs) ≡ Some f
first_before [] qs f e = absurd (cc)
first_before (p ∷ ps) qs f e = before_at (within_limits p) (first_passed ps) (first_passed (ps ++ qs)) f (first_before ps qs f) e

-- ---- one move
move_ok_at : (o : Option PathError) (m n : Move) → unless_passed o m ≡ Ok n → (n ≡ m) × (o ≡ None)
move_ok_at None m n e = (cc, refl)
move_ok_at (Some f) m n e = absurd (cc)

move_err_at : (o : Option PathError) (m : Move) (f : PathError) → unless_passed o m ≡ Err f → o ≡ Some f
move_err_at None m f e = absurd (cc)
move_err_at (Some g) m f e = cc

-- ---- the moves so far: with what is left they are all, and nothing passed a limit
pub record IsBelow (base : Names) (steps : List Move) (count : ℕ) (moves : List Move) : Type 0 where
  pub placed : moves ++ map (below base) (drop count steps) ≡ map (below base) steps
  pub clear : first_passed (flat_map paths_in (map (below base) (drop count steps))) ≡ first_passed (flat_map paths_in (map (below base) steps))

module _ (base : Names) (steps : List Move) (count : ℕ) (moves : List Move) (b : IsBelow base steps count moves) where
  module _ (m : Move) (at : slice_get steps count ≡ Some m) where
    abbrev rest : List Move
    rest = map (below base) (drop (count + 1) steps)

    split : map (below base) (drop count steps) ≡ below base m ∷ rest
    split = ap (map (below base)) (drop_get steps count m at)

    pub below_more : (n : Move) (new : List Move) → limited_move (below base m) ≡ Ok n → new ≡ moves ++ n ∷ [] → IsBelow base steps (count + 1) new
    below_more n new e f =
        let k = move_ok_at (first_passed (paths_in (below base m))) (below base m) n e in
        record {
          placed =
              ap (λ (ms : List Move). ms ++ rest) (f ∙ ap (λ (x : Move). moves ++ x ∷ []) k.0) ∙ append_assoc moves (below base m ∷ []) rest
              ∙ ap (λ (ms : List Move). moves ++ ms) (sym split) ∙ b.placed;
          clear =
              sym (first_behind (paths_in (below base m)) (flat_map paths_in rest) k.1)
              ∙ ap (λ (ms : List Move). first_passed (flat_map paths_in ms)) (sym split) ∙ b.clear;
        }

    pub below_refused : (f : PathError) → limited_move (below base m) ≡ Err f → limited_moves (map (below base) steps) ≡ Err f
    below_refused f e =
        let k = move_err_at (first_passed (paths_in (below base m))) (below base m) f e in
        let all : first_passed (flat_map paths_in (map (below base) steps)) ≡ Some f =
        sym b.clear ∙ ap (λ (ms : List Move). first_passed (flat_map paths_in ms)) split ∙ first_before (paths_in (below base m)) (flat_map paths_in rest) f k in
        ap (λ (o : Option PathError). unless_passed o (map (below base) steps)) all

  pub below_done : length steps ≤ count → limited_moves (map (below base) steps) ≡ Ok moves
  below_done h =
      let none : drop count steps ≡ [] = drop_past steps count h in
      let clear : first_passed (flat_map paths_in (map (below base) steps)) ≡ None = sym b.clear ∙ ap (λ (ms : List Move). first_passed (flat_map paths_in (map (below base) ms))) none in
      let all : map (below base) steps ≡ moves = sym b.placed ∙ ap (λ (ms : List Move). moves ++ map (below base) ms) none ∙ append-nil moves in
      ap (λ (o : Option PathError). unless_passed o (map (below base) steps)) clear ∙ ap (λ (ms : List Move). Ok ms) all
