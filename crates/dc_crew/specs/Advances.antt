-- What a wave brings the pieces on by.
use Rattle.std.specs.Prelude.{◌≡◌, ◌⊎◌, ◌==◌, ◌&&◌, ◌||◌, ⊤, ℕ, zero, suc, ◌+◌, ◌≤◌, ◌<◌, nat_lt, nat_le, Bool, true, false, if◌then◌else◌, List, [], ◌++◌, length, Option, All, count_by}
use Rattle.dc_kills.specs.Entries.{Entry}
use Rattle.dc_kills.specs.Plans.{stop_in, IsInOrder}
use Rattle.dc_kills.specs.declared.stop.Stop.{Stop}
use Rattle.dc_pool.specs.Drawing.{weight_below}
use Rattle.dc_crew.specs.Jobs.{Job, IsPiece, piece_at, step_in, last_of, is_reached, is_late_at, IsPart, IsEnd}
use Rattle.dc_crew.specs.States.{no_state, state_of, tally, is_due, parts_of, hits, numbers_of}
use Rattle.dc_pool.specs.Counts.{last, Gained}
use Rattle.dc_pieces.specs.Pieces.{most_pieces}
use Rattle.dc_pool.specs.declared.results.Wave.{Wave}
use Rattle.dc_crew.specs.declared.crew.Task.{Task}
use Rattle.dc_crew.specs.declared.crew.End.{End}
use Rattle.dc_crew.specs.declared.crew.End.TheVariants as ends
use Rattle.dc_crew.specs.declared.halts.Halt.{Halt}
use Rattle.dc_crew.specs.declared.halts.Halt.TheVariants as halts
use Rattle.dc_pieces.specs.declared.piece.Piece.{Piece}
use Rattle.dc_crew.specs.declared.states.State.{State}
use Rattle.dc_pieces.specs.declared.parts.Part.{Part}

-- the attempt is to be killed
abbrev pub is_doomed_at : List Entry → List Piece → ℕ → ℕ → ℕ → Bool
is_doomed_at plan pieces size p a = is_reached (step_in (stop_in plan (p, a))) (piece_at pieces p).length size

-- after a temporary was made
abbrev pub is_late_in : List Entry → ℕ → ℕ → Bool
is_late_in plan p a = is_late_at (step_in (stop_in plan (p, a)))

-- each attempt that was due was killed, failed, is done, or is due still; at least one is not due still
pub record Advanced (plan : List Entry) (pieces : List Piece) (size : ℕ) (old new : List State) (fell dead : ℕ) : Type 0 where
  pub done_now : ℕ → ℕ
  pub killed_now : ℕ → ℕ
  pub failed_now : ℕ → ℕ
  pub len : length new ≡ length old
  pub ended : (p : ℕ) → (state_of new p).ended ≡ (state_of old p).ended + killed_now p + failed_now p
  pub failed : (p : ℕ) → (state_of new p).failed ≡ (state_of old p).failed + failed_now p
  pub done : (p : ℕ) → tally (state_of new p).done ≡ tally (state_of old p).done + done_now p
  pub within : (p : ℕ) → done_now p + killed_now p + failed_now p ≤ tally (is_due old p)
  pub doomed : (p : ℕ) → 0 < killed_now p → is_doomed_at plan pieces size p ((state_of old p).ended + 1) ≡ true
  pub spared : (p : ℕ) → 0 < done_now p → is_doomed_at plan pieces size p ((state_of old p).ended + 1) ≡ false
  pub moves : (p : ℕ) × (0 < done_now p + killed_now p + failed_now p)
  pub fails : weight_below failed_now (length old) ≤ fell
  pub lates : weight_below (λ p. if is_late_in plan p ((state_of old p).ended + 1) then killed_now p else 0) (length old) ≤ dead

-- how often the pieces have failed
abbrev pub failures : List State → ℕ
failures states = weight_below (λ p. (state_of states p).failed) (length states)

-- the numbers of a wave are those of tasks, each in one list
module _ {P : Type 0} where
  pub record Spread (tasks : List Task) (w : Wave P End) : Type 0 where
    pub done : All (λ n. n < length tasks) (numbers_of w.done)
    pub failed : All (λ n. n < length tasks) w.failed
    pub killed : All (λ n. n < length tasks) w.killed
    pub ended : All (λ r. r.number < length tasks) w.ended
    pub within : (p : ℕ) → hits tasks p (numbers_of w.done) + hits tasks p w.failed + hits tasks p w.killed + hits tasks p w.lost + hits tasks p (numbers_of w.ended) ≡ count_by (λ t. t.piece == p) tasks

  -- each part is right for its piece, by what temporaries hold and their sizes
  abbrev pub IsRight : Job → (P → Option (List ℕ)) → (P → ℕ) → Part P → Type 0
  IsRight job content size x = IsPart job x.piece (content x.part) (size x.part)

  abbrev pub AreRight : Job → (P → Option (List ℕ)) → (P → ℕ) → List (Part P) → Type 0
  AreRight job content size parts = All (IsRight job content size) parts

module _ {S P : Type 0} where
  -- what a wave has brought: the pieces came on, the slots' counts rose for it, and each piece that is done has a right part
  pub record Brought (job : Job) (content : P → Option (List ℕ)) (size_of : P → ℕ) (fault_count make_count : S → ℕ) (plan : List Entry) (size : ℕ) (slots now : List S) (old new : List State) (before after : List (Part P)) : Type 0 where
    pub fell : ℕ
    pub dead : ℕ
    pub more : List (Part P)
    pub advanced : Advanced plan job.pieces size old new fell dead
    pub faults : Gained fault_count fell slots now
    pub makes : Gained make_count (length more + dead) slots now
    pub parts : after ≡ before ++ more
    pub right : AreRight job content size_of more
    pub counts : (p : ℕ) → parts_of p more ≡ advanced.done_now p

-- why a wave ends the run
abbrev pub IsHalt : Job → Halt → Type 0
IsHalt job halts.Memory = ⊤
IsHalt job (halts.Differs p expected found) = IsEnd job p (ends.Differs expected found)
IsHalt job (halts.Changed p) = IsEnd job p ends.Changed
IsHalt job (halts.Failed p) = ⊥

-- a stop at a step that is reached after a temporary was made
abbrev pub is_costly : ℕ → Stop → Bool
is_costly last_one s = nat_lt 0 s.step && nat_le s.step last_one

-- the last step of an attempt at a piece
abbrev pub last_at : List Piece → ℕ → ℕ → ℕ
last_at pieces size p = last_of (piece_at pieces p).length size

-- each attempt below a number is to be killed
abbrev pub dooms_below : List Entry → List Piece → ℕ → ℕ → ℕ → Bool
dooms_below plan pieces size p zero = true
dooms_below plan pieces size p (suc b) = dooms_below plan pieces size p b && (nat_le b 0 || is_doomed_at plan pieces size p b)

-- an entry is reached: its piece exists, its step is one at which a temporary was made, and each lower attempt is to be killed
abbrev pub is_reached_entry : List Entry → List Piece → ℕ → Entry → Bool
is_reached_entry plan pieces size e = nat_lt e.0.0 (length pieces) && (nat_lt 0 e.0.1 && (dooms_below plan pieces size e.0.0 e.0.1 && is_costly (last_at pieces size e.0.0) e.1))

-- each piece is done, or it has failed four times; and it is done unless the copy goes on without it
pub record IsSettled (go_on : Bool) (states : List State) : Type 0 where
  pub each : (p : ℕ) → p < length states → ((state_of states p).done ≡ true) ⊎ (4 ≤ (state_of states p).failed)
  pub few : go_on ≡ false → (p : ℕ) → (state_of states p).failed < 4

module _ {P : Type 0} where
  -- nothing has begun: each piece is of one of so many items, pieces and entries of the plan are few, and each attempt stands in the
  -- plan once
  pub record Begins (items : ℕ) (pieces : List Piece) (plan : List Entry) (states : List State) (parts : List (Part P)) : Type 0 where
    pub each : All (IsPiece items) pieces
    pub few : length pieces ≤ most_pieces
    pub few_entries : length plan ≤ 65536
    pub ordered : IsInOrder plan
    pub len : length states ≡ length pieces
    pub fresh : (p : ℕ) → state_of states p ≡ no_state
    pub none : parts ≡ []

  -- what waves bring, where it is told of a number of failures and of temporaries whether so many are counted: each part is right,
  -- each piece that is done has one, and failures and temporaries are counted. Where nothing has failed, a temporary was made for each
  -- piece, and for each entry of the plan that is reached
  pub record Brings (job : Job) (content : P → Option (List ℕ)) (size_of : P → ℕ) (plan : List Entry) (size : ℕ) (Fails Makes : ℕ → Type 0) (states : List State) (parts : List (Part P)) : Type 0 where
    pub right : AreRight job content size_of parts
    pub once : (p : ℕ) → parts_of p parts ≡ tally (state_of states p).done
    pub failed : Fails (failures states)
    pub made : Makes (length parts)
    pub few : failures states ≤ last
    pub reached : failures states ≡ 0 → Makes (length job.pieces + count_by (is_reached_entry plan job.pieces size) plan)

-- the first piece that is given up: it has failed four times, and no piece before it has
pub record IsGivenUp (states : List State) (p : ℕ) : Type 0 where
  pub there : p < length states
  pub four : 4 ≤ (state_of states p).failed
  pub least : (q : ℕ) → q < p → (state_of states q).failed < 4

-- why the waves end before all pieces are done or given up: as a wave does, or with the first piece that is given up, where this is known
abbrev pub EndsWaves : Job → List State → Type 0 → Halt → Type 0
EndsWaves job states known (halts.Failed p) = IsGivenUp states p × known
EndsWaves job states known h = IsHalt job h
