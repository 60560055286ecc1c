-- The parts of all tests: the entries, the new paths, the places, the parents to be made.
use Rattle.std.proofs.Common.{◌≡◌, ◌≤◌, ◌*◌, List, [], ◌∷◌, ◌++◌, length, map, reverse, drop, Option, Some, Result, Ok, Err, refl, sym, ◌∙◌, ap, arith}
use Rattle.std.proofs.lemmas.List.{map-append, reverse-append}
use Rattle.std.specs.List.{filter_map, list_any}
use Rattle.dc_attrs.specs.Trees.{Tree}
use Rattle.dc_fs.specs.Views.{View}
use Rattle.dc_path.specs.Paths.{Names, same_path}
use Rattle.dc_report.specs.Carrying.{Place, carries_of, is_made, plan}
use Rattle.dc_report.specs.Landings.{ascending, old_in, sources_of}
use Rattle.dc_report.specs.Moves.{root_moves, stage_name}
use Rattle.dc_report.specs.Told.{AreTold}
use Rattle.dc_report.specs.declared.entries.Entry.{Entry}
use Rattle.dc_report.specs.declared.entries.Move.{Move}
use Rattle.dc_replay.specs.Limits.{check_answer, entry_answer, made_answer, moves_answer, new_answer, place_answer, stage_answer, tests_answer}
use Rattle.dc_replay.specs.Replaying.{made_by}
use Rattle.dc_replay.specs.TestAnswers.{Answer, Holds, and_then, first_answer}
use Rattle.dc_replay.specs.Tests.{made_list}
use Rattle.dc_replay.proofs.Bounds.{moves_are_few}
use Rattle.dc_replay.proofs.SourceMaps.{made_behind, sources_few}
use Rattle.dc_replay.proofs.Testing.{made_list_any}
use Rattle.dc_sync.specs.Checks.{Tests, TestsPaths, if_there, renamed}
use Rattle.dc_sync.specs.declared.errors.SyncError.{SyncError}
use Rattle.dc_sync.specs.declared.errors.SyncError.TheVariants as sync_error
use Rattle.dc_sync.proofs.TestLemmas.{lack_tests, paths_tests}
use Rattle.dc_sync.proofs.TestLoops.{Tested, answers_append, tested_as, tested_last, tested_more, tested_start, tested_stop, then_holds}

-- ---- the new paths in the order of their map
in_order : (f : Place → Answer) (ns : List Place) → ((n : Place) → f n ≡ f (renamed n.old n.new)) → map f (reverse ns) ≡ map (λ e. if_there (λ old. f (renamed old e.0)) e.1) (ascending old_in ns)
in_order f [] h = refl
in_order f (n ∷ ns) h =
    ap (map f) (reverse-append (n ∷ []) ns)
    ∙ map-append f (reverse ns) (n ∷ [])
    ∙ rw (in_order f ns h, h n) (sym (map-append (λ e. if_there (λ old. f (renamed old e.0)) e.1) (ascending old_in ns) ((n.new, Some n.old) ∷ [])))

-- ---- the parents to be made
parents_are : (R : List Entry) (moves parents : List Move) → moves ≡ root_moves stage_name R → parents ≡ drop 1 moves → filter_map made_by parents ≡ made_list (plan R) (plan R).news
parents_are R moves parents m p = ap (filter_map made_by) (p ∙ ap (drop 1) m) ∙ made_behind stage_name R

pub parents_made : (R : List Entry) (moves parents : List Move) (q : Names) → moves ≡ root_moves stage_name R → parents ≡ drop 1 moves
    → list_any (λ p. same_path p q) (filter_map made_by parents) ≡ is_made (plan R) (plan R).news q
parents_made R moves parents q m p = ap (list_any (λ u. same_path u q)) (parents_are R moves parents m p) ∙ made_list_any (plan R) (plan R).news q

pub parents_few : (R : List Entry) (moves parents : List Move) → AreTold [] R → moves ≡ root_moves stage_name R → parents ≡ drop 1 moves → length (filter_map made_by parents) ≤ 256 * length R
parents_few R moves parents t m p = let k = ap length (parents_are R moves parents m p) in let l = (moves_are_few stage_name [] R t).made in omega (arith, k, l)

pub renames_few : (R : List Entry) (es : List (Names × Option Names)) → es ≡ sources_of (carries_of R) → length es ≤ length R
renames_few R es e = let k = ap length e in let l = sources_few R in omega (arith, k, l)

-- ---- the parts
three : (xs ys zs : List Answer) → first_answer (xs ++ (ys ++ zs)) ≡ and_then (first_answer xs) (and_then (first_answer ys) (first_answer zs))
three xs ys zs = answers_append xs (ys ++ zs) ∙ ap (and_then (first_answer xs)) (answers_append ys zs)

four : (xs ys zs ws : List Answer) → first_answer (xs ++ (ys ++ (zs ++ ws))) ≡ and_then (first_answer xs) (and_then (first_answer ys) (and_then (first_answer zs) (first_answer ws)))
four xs ys zs ws = answers_append xs (ys ++ (zs ++ ws)) ∙ ap (and_then (first_answer xs)) (three ys zs ws)

module _ (d : Names) (R : List Entry) (es : List (Names × Option Names)) (moves parents : List Move) (e : es ≡ sources_of (carries_of R)) (m : moves ≡ root_moves stage_name R) (p : parents ≡ drop 1 moves) where
  abbrev of_entries : Tree → Answer
  of_entries A = first_answer (map (entry_answer d (plan R) A) R)

  abbrev of_news : Tree → Answer
  of_news A = first_answer (map (λ x. if_there (λ old. new_answer d (plan R) A (renamed old x.0)) x.1) es)

  abbrev of_places : Tree → Answer
  of_places A = first_answer (map (place_answer d (plan R) A) (plan R).places)

  abbrev of_parents : Tree → Answer
  of_parents A = first_answer (map (made_answer d (plan R) A) (filter_map made_by parents))

  news_are : (A : Tree) → first_answer (map (new_answer d (plan R) A) (reverse (plan R).news)) ≡ of_news A
  news_are A = ap first_answer (in_order (new_answer d (plan R) A) (plan R).news (λ n. refl)) ∙ ap (λ xs. first_answer (map (λ x. if_there (λ old. new_answer d (plan R) A (renamed old x.0)) x.1) xs)) (sym e)

  parents_answer : (A : Tree) → first_answer (map (made_answer d (plan R) A) (made_list (plan R) (plan R).news)) ≡ of_parents A
  parents_answer A = ap (λ ps. first_answer (map (made_answer d (plan R) A) ps)) (sym (parents_are R moves parents m p))

  parts : (A : Tree) → tests_answer d R A ≡ and_then (of_entries A) (and_then (of_news A) (and_then (of_places A) (of_parents A)))
  parts A =
      four (map (entry_answer d (plan R) A) R) (map (new_answer d (plan R) A) (reverse (plan R).news)) (map (place_answer d (plan R) A) (plan R).places) (map (made_answer d (plan R) A) (made_list (plan R) (plan R).news))
      ∙ ap (λ (a : Answer). and_then (of_entries A) (and_then a (and_then (of_places A) (first_answer (map (made_answer d (plan R) A) (made_list (plan R) (plan R).news)))))) (news_are A)
      ∙ ap (λ (a : Answer). and_then (of_entries A) (and_then (of_news A) (and_then (of_places A) a))) (parents_answer A)

  module _ (v0 v1 v2 v3 : View) where
    start : Tested v0 v0 d (tests_answer d R) (λ A. and_then (of_entries A) (and_then (of_news A) (and_then (of_places A) (of_parents A))))
    start = tested_start v0 d (tests_answer d R) (λ A. and_then (of_entries A) (and_then (of_news A) (and_then (of_places A) (of_parents A)))) parts

    pub entries_stop : (f : SyncError) → Tests v0 v1 d of_entries (Err f) → Tests v0 v1 d (tests_answer d R) (Err f)
    entries_stop f t = tested_stop v0 v0 v1 d (tests_answer d R) of_entries (λ A. and_then (of_news A) (and_then (of_places A) (of_parents A))) f start t

    after_entries : (x : Unit {0}) → Tests v0 v1 d of_entries (Ok x) → Tested v0 v1 d (tests_answer d R) (λ A. and_then (of_news A) (and_then (of_places A) (of_parents A)))
    after_entries x t = tested_more v0 v0 v1 d (tests_answer d R) of_entries (λ A. and_then (of_news A) (and_then (of_places A) (of_parents A))) x start t

    pub news_stop : (x : Unit {0}) (f : SyncError) → Tests v0 v1 d of_entries (Ok x) → Tests v1 v2 d of_news (Err f) → Tests v0 v2 d (tests_answer d R) (Err f)
    news_stop x f s t = tested_stop v0 v1 v2 d (tests_answer d R) of_news (λ A. and_then (of_places A) (of_parents A)) f (after_entries x s) t

    after_news : (x y : Unit {0}) → Tests v0 v1 d of_entries (Ok x) → Tests v1 v2 d of_news (Ok y) → Tested v0 v2 d (tests_answer d R) (λ A. and_then (of_places A) (of_parents A))
    after_news x y s t = tested_more v0 v1 v2 d (tests_answer d R) of_news (λ A. and_then (of_places A) (of_parents A)) y (after_entries x s) t

    pub places_stop : (x y : Unit {0}) (f : SyncError) → Tests v0 v1 d of_entries (Ok x) → Tests v1 v2 d of_news (Ok y) → Tests v2 v3 d of_places (Err f) → Tests v0 v3 d (tests_answer d R) (Err f)
    places_stop x y f s t u = tested_stop v0 v2 v3 d (tests_answer d R) of_places of_parents f (after_news x y s t) u

    pub parents_last : (v4 : View) (x y z : Unit {0}) (r : Result (Unit {0}) SyncError) → Tests v0 v1 d of_entries (Ok x) → Tests v1 v2 d of_news (Ok y) → Tests v2 v3 d of_places (Ok z) → Tests v3 v4 d of_parents r
        → Tests v0 v4 d (tests_answer d R) r
    parents_last v4 x y z r s t u w =
        tested_last v0 v3 v4 d (tests_answer d R) of_parents r (tested_more v0 v2 v3 d (tests_answer d R) of_places of_parents z (after_news x y s t) u) w

-- ---- the stage, the tree, and the paths of the moves
module _ (d : Names) (R : List Entry) (v0 v1 v2 : View) where
  abbrev of_tree : Tree → Answer
  of_tree A = and_then (tests_answer d R A) (moves_answer stage_name d R)

  begin : Tested v0 v0 d (check_answer stage_name d R) (λ A. and_then (stage_answer stage_name d R A) (of_tree A))
  begin = tested_start v0 d (check_answer stage_name d R) (λ A. and_then (stage_answer stage_name d R A) (of_tree A)) (λ A. refl)

  pub stage_stop : (f : SyncError) → Tests v0 v1 d (stage_answer stage_name d R) (Err f) → Tests v0 v1 d (check_answer stage_name d R) (Err f)
  stage_stop f t = tested_stop v0 v0 v1 d (check_answer stage_name d R) (stage_answer stage_name d R) of_tree f begin t

  after_stage : (x : Unit {0}) → Tests v0 v1 d (stage_answer stage_name d R) (Ok x) → Tested v0 v1 d (check_answer stage_name d R) of_tree
  after_stage x t = tested_more v0 v0 v1 d (check_answer stage_name d R) (stage_answer stage_name d R) of_tree x begin t

  pub tree_stop : (x : Unit {0}) (f : SyncError) → Tests v0 v1 d (stage_answer stage_name d R) (Ok x) → Tests v1 v2 d (tests_answer d R) (Err f) → Tests v0 v2 d (check_answer stage_name d R) (Err f)
  tree_stop x f s t = tested_stop v0 v1 v2 d (check_answer stage_name d R) (tests_answer d R) (λ A. moves_answer stage_name d R) f (after_stage x s) t

  pub moves_last : (x y : Unit {0}) (r : Result (Unit {0}) SyncError) → Tests v0 v1 d (stage_answer stage_name d R) (Ok x) → Tests v1 v2 d (tests_answer d R) (Ok y) → TestsPaths d (moves_answer stage_name d R) r
      → Tests v0 v2 d (check_answer stage_name d R) r
  moves_last x y r s t u =
      tested_last v0 v2 v2 d (check_answer stage_name d R) (λ A. moves_answer stage_name d R) r
      (tested_more v0 v1 v2 d (check_answer stage_name d R) (tests_answer d R) (λ A. moves_answer stage_name d R) y (after_stage x s) t)
      (paths_tests v2 d (λ A. moves_answer stage_name d R) r (λ A. u))

  -- memory ran out between
  pub lack_after : (x : Unit {0}) → Tests v0 v1 d (stage_answer stage_name d R) (Ok x) → Tests v0 v1 d (check_answer stage_name d R) (Err sync_error.Memory)
  lack_after x s = tested_stop v0 v1 v1 d (check_answer stage_name d R) of_tree (λ A. Holds) sync_error.Memory
      (tested_as v0 v1 d (check_answer stage_name d R) of_tree (λ A. and_then (of_tree A) Holds) (λ A. then_holds (of_tree A)) (after_stage x s))
      (paths_tests v1 d of_tree (Err sync_error.Memory) (λ A. lack_tests d (of_tree A)))
