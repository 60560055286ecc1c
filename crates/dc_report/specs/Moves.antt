-- The moves of a report (HDFS-7535).
use Rattle.std.specs.Prelude.{ℕ, not, List, [], ◌∷◌, ◌++◌, Bool, ◌&&◌, Option, Some, None, Result, Ok, Err, codes, zero, suc, ◌+◌, length, map}
use Rattle.std.specs.Int.Digits.{digits_of}
use Rattle.std.specs.List.{filter, flat_map}
use Rattle.dc_path.specs.Paths.{Names}
use Rattle.dc_path.specs.Reading.{within_limits}
use Rattle.dc_path.specs.declared.path.PathError.{PathError}
use Rattle.dc_report.specs.Carrying.{Carry, Place, Plan, carries_of, is_fresh, is_made, plan}
use Rattle.dc_report.specs.declared.entries.Entry.{Entry}
use Rattle.dc_report.specs.declared.entries.Move.{Move}
use Rattle.dc_report.specs.declared.entries.Move.TheVariants.{Clear, Make, Shift}

-- the name of the stage
unfoldable pub stage_name : List ℕ
stage_name = codes ".distcp.stage"

-- the name of the item with this number in the stage: its decimal digits
unfoldable pub label_of : ℕ → List ℕ
label_of zero = 48 ∷ []
label_of (suc n) = map (λ d. d + 48) (digits_of 10 (suc n))

-- from the greatest old path on; a label is the number of paths before
abbrev pub staging : List ℕ → List Carry → List Move
staging stage [] = []
staging stage (c ∷ cs) = staging stage cs ++ Shift c.old (stage ∷ label_of (length cs) ∷ []) ∷ []

-- front, and front with one name more of rest each time, but for all of it
abbrev pub fronts : Names → Names → List Names
fronts front [] = []
fronts front (x ∷ rest) = front ∷ fronts (front ++ x ∷ []) rest

-- the parents of a new path that are to be made and were not made for earlier ones
abbrev pub is_new_parent : Plan → List Place → Names → Bool
is_new_parent P ns q = is_fresh P q && not (is_made P ns q)

-- the parents to be made for a new path, from the shortest on
abbrev pub parents : Plan → List Place → Names → List Names
parents P ns new = filter (is_new_parent P ns) (fronts [] new)

-- from the least new path on
abbrev pub placing : List ℕ → Plan → List Place → List Move
placing stage P [] = []
placing stage P (n ∷ ns) = placing stage P ns ++ (map Make (parents P ns n.new) ++ Shift (stage ∷ label_of n.label ∷ []) n.new ∷ [])

-- all moves: the stage is made, all that is carried goes into it, what is renamed goes to its place, the stage is cleared
abbrev pub moves : List ℕ → Plan → List Move
moves stage P = Make (stage ∷ []) ∷ (staging stage P.carries ++ (placing stage P P.news ++ Clear (stage ∷ []) ∷ []))

-- the move below a base
abbrev pub below : Names → Move → Move
below d (Make p) = Make (d ++ p)
below d (Shift a b) = Shift (d ++ a) (d ++ b)
below d (Clear p) = Clear (d ++ p)

-- no moves where nothing is carried
abbrev pub moves_for : List ℕ → Plan → List Carry → List Move
moves_for stage P [] = []
moves_for stage P (c ∷ cs) = moves stage P

-- the moves of a report below the root
abbrev pub root_moves : List ℕ → List Entry → List Move
root_moves stage R = moves_for stage (plan R) (carries_of R)

-- the moves of a report below the base d
abbrev pub moves_of : List ℕ → Names → List Entry → List Move
moves_of stage d R = map (below d) (root_moves stage R)

-- the paths of a move, `from` before `to`
abbrev pub paths_in : Move → List Names
paths_in (Make p) = p ∷ []
paths_in (Shift a b) = a ∷ b ∷ []
paths_in (Clear p) = p ∷ []

-- the limit that is passed, and else the later one
abbrev pub passed_or : Result Names PathError → Option PathError → Option PathError
passed_or (Ok p) later = later
passed_or (Err e) later = Some e

-- the limit that is passed by the first path that passes one
abbrev pub first_passed : List Names → Option PathError
first_passed [] = None
first_passed (p ∷ ps) = passed_or (within_limits p) (first_passed ps)

-- the answer, unless a limit is passed
abbrev pub unless_passed : {X : Type 0} → Option PathError → X → Result X PathError
unless_passed None x = Ok x
unless_passed (Some e) x = Err e

-- the moves, unless one of their paths passes a limit of `Path`: the first in their order decides
abbrev pub limited_moves : List Move → Result (List Move) PathError
limited_moves ms = unless_passed (first_passed (flat_map paths_in ms)) ms

-- the move, unless one of its paths passes a limit of `Path`
abbrev pub limited_move : Move → Result Move PathError
limited_move m = unless_passed (first_passed (paths_in m)) m
