-- What a test answers over a base, where a path may be too long to be looked for (POSIX.1, PATH_MAX).
-- d is the base. Answers tell paths below it.
use Rattle.std.specs.Prelude.{List, [], ◌∷◌, ◌++◌, Bool, cond, not, Option, Some, None}
use Rattle.dc_path.specs.Paths.{Names, fits}

-- what a test answers: it holds, the stage is taken, the path at which it fails, or a path that is too long to be looked for
pub data Answer : Type 0 where
  Holds : Answer
  Taken : Answer
  FalseAt : (path : Names) → Answer
  LongAt : (path : Names) → Answer

-- under the base the path passes a limit of `Path`
abbrev pub is_long : Names → Names → Bool
is_long d p = not (fits (d ++ p))

-- the answer, unless the path is too long to be looked for
abbrev pub within : Names → Names → Answer → Answer
within d p answer = cond (is_long d p) (LongAt p) answer

-- the same for the path of a look, where there is one
abbrev pub within_look : Names → Option Names → Answer → Answer
within_look d None answer = answer
within_look d (Some p) answer = within d p answer

-- false at the path, unless the test holds
abbrev pub holds_if : Bool → Names → Answer
holds_if b p = cond b Holds (FalseAt p)

-- the first of two that does not hold
abbrev pub and_then : Answer → Answer → Answer
and_then Holds later = later
and_then Taken later = Taken
and_then (FalseAt p) later = FalseAt p
and_then (LongAt p) later = LongAt p

-- the first that does not hold
abbrev pub first_answer : List Answer → Answer
first_answer [] = Holds
first_answer (a ∷ xs) = and_then a (first_answer xs)

-- the answer where no path is too long
abbrev pub answer_of : Option Names → Answer
answer_of None = Holds
answer_of (Some p) = FalseAt p
