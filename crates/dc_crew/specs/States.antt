-- What is known of each piece, and which attempts are due.
use Rattle.std.specs.Prelude.{◌≡◌, ◌==◌, ◌&&◌, ℕ, zero, suc, ◌+◌, ◌<◌, ◌^◌, nat_lt, Bool, false, if◌then◌else◌, not, List, [], ◌∷◌, ◌++◌, length, slice_index_or, map, All, count_by}
use Rattle.std.specs.List.{flat_map}
use Rattle.dc_options.specs.declared.settings.Strategy.{Strategy}
use Rattle.dc_options.specs.declared.settings.Strategy.TheVariants as strategies
use Rattle.dc_split.specs.Bundles.{AreUniform, dynamic_bundles}
use Rattle.dc_kills.specs.Entries.{Entry}
use Rattle.dc_kills.specs.Plans.{stop_in}
use Rattle.dc_crew.specs.Jobs.{task_of, piece_at}
use Rattle.dc_pieces.specs.declared.piece.Piece.{Piece}
use Rattle.dc_crew.specs.declared.crew.Task.{Task}
use Rattle.dc_crew.specs.declared.states.State.{State}
use Rattle.dc_pieces.specs.declared.parts.Part.{Part}
use Rattle.dc_pool.specs.declared.results.Receipt.{Receipt}

abbrev pub no_state : State
no_state = record { ended = 0; failed = 0; done = false }

abbrev pub state_of : List State → ℕ → State
state_of states p = slice_index_or states p no_state

-- an attempt at the piece is due
abbrev pub is_open : State → Bool
is_open s = not s.done && nat_lt s.failed 4

-- the piece is there, and an attempt at it is due
abbrev pub is_due : List State → ℕ → Bool
is_due states p = nat_lt p (length states) && is_open (state_of states p)

abbrev pub next_task : List Entry → ℕ → State → Task
next_task plan p s = record { piece = p; attempt = s.ended + 1; stop = stop_in plan (p, s.ended + 1) }

-- the next attempt at a piece, if one is due
abbrev pub task_for : List Entry → ℕ → State → List Task
task_for plan p s = if is_open s then next_task plan p s ∷ [] else []

-- the next attempts at the pieces below a number
abbrev pub tasks_below : List Entry → List State → ℕ → List Task
tasks_below plan states zero = []
tasks_below plan states (suc n) = tasks_below plan states n ++ task_for plan n (state_of states n)

-- all attempts that are due
abbrev pub tasks_of : List Entry → List State → List Task
tasks_of plan states = tasks_below plan states (length states)

-- the next attempts at the pieces of these tasks that are still due
abbrev pub tasks_again : List Entry → List State → List Task → List Task
tasks_again plan states tasks = flat_map (λ t. task_for plan t.piece (state_of states t.piece)) tasks

-- the numbers of the pieces below a number that are not done
abbrev pub undone_below : List State → ℕ → List ℕ
undone_below states zero = []
undone_below states (suc n) = undone_below states n ++ (if (state_of states n).done then [] else n ∷ [])

-- the numbers of the pieces that are not done
abbrev pub undone : List State → List ℕ
undone states = undone_below states (length states)

-- how many of these numbers are attempts at the piece
abbrev pub hits : List Task → ℕ → List ℕ → ℕ
hits tasks p numbers = count_by (λ n. (task_of tasks n).piece == p) numbers

-- the numbers are those of tasks, and these of pieces that are there
abbrev pub AreKnown : ℕ → List Task → List ℕ → Type 0
AreKnown pieces tasks numbers = All (λ n. n < length tasks) numbers × All (λ t. t.piece < pieces) tasks

abbrev pub SameDone : List State → List State → Type 0
SameDone old new = (p : ℕ) → (state_of new p).done ≡ (state_of old p).done

abbrev pub SameFailed : List State → List State → Type 0
SameFailed old new = (p : ℕ) → (state_of new p).failed ≡ (state_of old p).failed

-- no piece has had so many attempts that a number of 32 bits does not tell them
abbrev pub SmallEnded : List State → Type 0
SmallEnded states = (p : ℕ) → (state_of states p).ended < 2 ^ 31

abbrev pub SameEnded : List State → List State → Type 0
SameEnded old new = (p : ℕ) → (state_of new p).ended ≡ (state_of old p).ended

-- 1 for true
abbrev pub tally : Bool → ℕ
tally b = if b then 1 else 0

module _ {P : Type 0} where
  abbrev pub numbers_of : List (Receipt P) → List ℕ
  numbers_of receipts = map (λ r. r.number) receipts

  -- the part that a receipt gives
  abbrev pub part_for : List Task → Receipt P → Part P
  part_for tasks r = record { piece = (task_of tasks r.number).piece; part = r.value }

  -- how many parts of a piece there are
  abbrev pub parts_of : ℕ → List (Part P) → ℕ
  parts_of p parts = count_by (λ x. x.piece == p) parts

-- the lengths of the pieces of tasks
abbrev pub lengths_of : List Piece → List Task → List ℕ
lengths_of pieces tasks = map (λ t. (piece_at pieces t.piece).length) tasks

-- the tasks are split by the strategy, for so many maps (Hadoop DistCp Guide, "-strategy")
abbrev pub IsSplit : List Piece → List Task → ℕ → Strategy → List (List ℕ) → Type 0
IsSplit pieces tasks maps strategies.Uniform bundles = AreUniform (lengths_of pieces tasks) maps bundles
IsSplit pieces tasks maps strategies.Dynamic bundles = bundles ≡ dynamic_bundles (length tasks) maps
