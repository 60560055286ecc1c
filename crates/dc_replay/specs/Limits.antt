-- The tests over a base, each by looks, in their order; then the moves (HDFS-7535).
-- R is the report, P its plan, d the base, A the tree at it, st the name of the stage.
use Rattle.std.specs.Prelude.{◌≡◌, ◌↔◌, ℕ, List, [], ◌∷◌, ◌++◌, true, false, cond, not, ◌&&◌, Option, Some, None, is_some, Ok, map, reverse}
use Rattle.std.specs.List.{flat_map}
use Rattle.dc_attrs.specs.Trees.{Tree, is_dir_node}
use Rattle.dc_path.specs.Paths.{Names, front_of, is_root}
use Rattle.dc_report.specs.Carrying.{Carry, Has, Place, Plan, moved, plan}
use Rattle.dc_report.specs.Moves.{limited_moves, moves_of, paths_in, root_moves}
use Rattle.dc_report.specs.declared.entries.Entry.{Entry}
use Rattle.dc_report.specs.declared.entries.Entry.TheVariants.{Created, Deleted, Modified, Renamed}
use Rattle.dc_replay.specs.Checking.{is_stage_free, look, others}
use Rattle.dc_replay.specs.TestAnswers.{Answer, FalseAt, Holds, LongAt, Taken, and_then, answer_of, first_answer, holds_if, is_long, within, within_look}
use Rattle.dc_replay.specs.Tests.{first_false, has_landing, is_other, made_list, node_at}

-- ---- the tests, in their order
-- 1: the stage
abbrev pub stage_answer : List ℕ → Names → List Entry → Tree → Answer
stage_answer st d R A = within d (st ∷ []) (cond (is_stage_free st R A) Holds Taken)

-- 2: what an entry needs
abbrev pub entry_answer : Names → Plan → Tree → Entry → Answer
entry_answer d P A (Deleted p) = within d p (holds_if (is_some (A p)) p)
entry_answer d P A (Renamed a b) = within d a (holds_if (is_some (A a)) a)
entry_answer d P A (Modified []) = Holds
entry_answer d P A (Modified (x ∷ p)) = within d (x ∷ p) (holds_if (is_some (A (x ∷ p))) (x ∷ p))
entry_answer d P A (Created c) = within d (front_of c) (holds_if (is_dir_node (A (front_of c)) && is_some (moved P.carries (front_of c))) c)

-- 3: nothing else is moved to a new path, and then it has a parent to land in; the root is not looked for
abbrev pub own_answer : Names → Plan → Tree → Place → Answer
own_answer d P A n = let o = look P.carries (others n P.news) n.new in within_look d o (holds_if (not (is_other A n.old o)) n.new)

abbrev pub landing_answer : Names → Plan → Tree → Place → Answer
landing_answer d P A n =
    let q = front_of n.new in
    cond (is_root q) Holds (within_look d (look P.carries P.news q) (holds_if (has_landing P A q) n.new))

abbrev pub new_answer : Names → Plan → Tree → Place → Answer
new_answer d P A n = and_then (own_answer d P A n) (landing_answer d P A n)

-- 4: nothing is moved to a place; one that is taken and too long is told as too long
abbrev pub place_answer : Names → Plan → Tree → Names → Answer
place_answer d P A q = let o = look P.carries P.news q in within_look d o (cond (not (is_some (node_at A o))) Holds (within d q (FalseAt q)))

-- 5: nor to a parent to be made
abbrev pub made_answer : Names → Plan → Tree → Names → Answer
made_answer d P A q = let o = look P.carries P.news q in within_look d o (holds_if (not (is_some (node_at A o))) q)

abbrev pub answers : Names → List Entry → Plan → Tree → List Answer
answers d R P A =
    map (entry_answer d P A) R
    ++ (map (new_answer d P A) (reverse P.news) ++ (map (place_answer d P A) P.places ++ map (made_answer d P A) (made_list P P.news)))

-- the answer of the tests after that of the stage
abbrev pub tests_answer : Names → List Entry → Tree → Answer
tests_answer d R A = first_answer (answers d R (plan R) A)

-- the first path of the moves that is too long, `from` before `to`
abbrev pub moves_answer : List ℕ → Names → List Entry → Answer
moves_answer st d R = first_answer (map (λ p. within d p Holds) (flat_map paths_in (root_moves st R)))

-- the answer of all tests, and then of the moves
abbrev pub check_answer : List ℕ → Names → List Entry → Tree → Answer
check_answer st d R A = and_then (stage_answer st d R A) (and_then (tests_answer d R A) (moves_answer st d R))

-- ---- the paths that are looked for
abbrev pub path_of_look : Option Names → List Names
path_of_look None = []
path_of_look (Some p) = p ∷ []

abbrev pub entry_looks : Entry → List Names
entry_looks (Deleted p) = p ∷ []
entry_looks (Renamed a b) = a ∷ []
entry_looks (Modified []) = []
entry_looks (Modified (x ∷ p)) = (x ∷ p) ∷ []
entry_looks (Created c) = front_of c ∷ []

abbrev pub new_looks : Plan → Place → List Names
new_looks P n = path_of_look (look P.carries (others n P.news) n.new) ++ path_of_look (look P.carries P.news (front_of n.new))

abbrev pub free_looks : Plan → Names → List Names
free_looks P q = path_of_look (look P.carries P.news q)

-- what these tests may look for, and the places
abbrev pub all_looks : List Entry → Plan → List Names
all_looks R P =
    flat_map entry_looks R
    ++ (flat_map (new_looks P) P.news ++ (flat_map (free_looks P) P.places ++ (flat_map (free_looks P) (made_list P P.news) ++ P.places)))

-- none of them is too long
abbrev pub LooksFit : Names → List Entry → Type 0
LooksFit d R = (p : Names) → Has (all_looks R (plan R)) p → is_long d p ≡ false

-- what the answers mean
pub record LimitsHold (st : List ℕ) (d : Names) (R : List Entry) (A : Tree) : Type 0 where
  -- where all holds, the stage is free, no test fails, and no path of the moves is too long
  pub holds : check_answer st d R A ≡ Holds → (is_stage_free st R A ≡ true) × (first_false R A ≡ None) × (limited_moves (moves_of st d R) ≡ Ok (moves_of st d R))
  -- and the other way round, where every path that is looked for fits below the base
  pub all : LooksFit d R → is_long d (st ∷ []) ≡ false → is_stage_free st R A ≡ true → first_false R A ≡ None
      → limited_moves (moves_of st d R) ≡ Ok (moves_of st d R) → check_answer st d R A ≡ Holds
  -- the stage is taken only where its test fails
  pub taken : check_answer st d R A ≡ Taken → is_stage_free st R A ≡ false
  -- a path that is told as false is that at which the first test fails
  pub false_at : (p : Names) → check_answer st d R A ≡ FalseAt p → (is_stage_free st R A ≡ true) × (first_false R A ≡ Some p)
  -- and one that is told as too long is too long
  pub long_at : (p : Names) → check_answer st d R A ≡ LongAt p → is_long d p ≡ true
  -- it is one of those that the tests may look for, where they tell it
  pub looked : (p : Names) → tests_answer d R A ≡ LongAt p → Has (all_looks R (plan R)) p
  -- where every path that is looked for fits, the tests answer as without limits
  pub fits : LooksFit d R → tests_answer d R A ≡ answer_of (first_false R A)
  -- the moves are within the limits exactly where none of their paths is too long
  pub moves : (moves_answer st d R ≡ Holds) ↔ (limited_moves (moves_of st d R) ≡ Ok (moves_of st d R))

abbrev pub LimitsAreExact : Type 0
LimitsAreExact = (st : List ℕ) (d : Names) (R : List Entry) (A : Tree) → LimitsHold st d R A

-- ---- the two looks for a new path
-- What is looked for to find who else is moved to a new path is what is looked for at its parent, with the last name. So where
-- the parent's is too long, that of the new path passes the limit with the same prefix.
abbrev pub LooksShareFront : Type 0
LooksShareFront = (cs : List Carry) (ns : List Place) (n : Place) (front p q : Names) (x : List ℕ) → n.new ≡ front ++ x ∷ []
    → look cs (others n ns) n.new ≡ Some p → look cs ns front ≡ Some q → p ≡ q ++ x ∷ []
