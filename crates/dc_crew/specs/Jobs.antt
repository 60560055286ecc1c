-- What is copied: pieces of files, the attempts at them, and what is right for each.
use Rattle.std.specs.Prelude.{◌≡◌, ◌≢◌, ℕ, ◌+◌, ◌<◌, ◌^◌, nat_lt, nat_le, Bool, false, ⊤, List, [], length, slice_index_or, map, Option, Some, None, IfSome, All}
use Rattle.std.specs.Int.{div_ceil}
use Rattle.dc_path.specs.Paths.{Names}
use Rattle.dc_attrs.specs.Trees.{Tree}
use Rattle.dc_fs.specs.Temporaries.{told_if}
use Rattle.dc_decide.specs.Plans.{Decision}
use Rattle.dc_pieces.specs.declared.piece.Piece.{Piece}
use Rattle.dc_kills.specs.declared.stop.Stop.{Stop}
use Rattle.dc_attempt.specs.Ranges.{told_range, lies_in}
use Rattle.dc_crew.specs.declared.crew.Task.{Task}
use Rattle.dc_crew.specs.declared.crew.End.{End}
use Rattle.dc_crew.specs.declared.crew.End.TheVariants as ends

-- what is copied: pieces of files at these paths of the source; and what is known of the two stores: the source's tree, where it
-- is told, and whether the target tells the bytes of temporaries
pub record Job : Type 0 where
  pub tree : Option Tree
  pub tells : Bool
  pub paths : List Names
  pub pieces : List Piece

-- the most workers of a copy
abbrev pub most_workers : ℕ
most_workers = 64

-- the path of an item in the source
abbrev pub source_path : Decision → Names
source_path d = d.item.from

-- these pieces of the files of planned items
abbrev pub job_of : Option Tree → Bool → List Decision → List Piece → Job
job_of tree tells items pieces = record { tree = tree; tells = tells; paths = map source_path items; pieces = pieces }

-- a piece of nothing, past the end
abbrev pub no_piece : Piece
no_piece = record { item = 0; from = 0; length = 0 }

abbrev pub piece_at : List Piece → ℕ → Piece
piece_at pieces p = slice_index_or pieces p no_piece

abbrev pub path_at : List Names → ℕ → Names
path_at paths i = slice_index_or paths i []

-- the piece is of one of so many items, and ends within 64 bits
abbrev pub IsPiece : ℕ → Piece → Type 0
IsPiece items p = (p.item < items) × (p.from + p.length < 2 ^ 64)

-- the bytes of a piece of the source, where it is told and they lie in the file
abbrev pub range_of : Job → ℕ → Option (List ℕ)
range_of job p = told_range job.tree (path_at job.paths (piece_at job.pieces p).item) (piece_at job.pieces p).from (piece_at job.pieces p).length

-- the source's tree is told, and the piece lies in its file
abbrev pub has_range : Job → ℕ → Bool
has_range job p = lies_in job.tree (path_at job.paths (piece_at job.pieces p).item) (piece_at job.pieces p).from (piece_at job.pieces p).length

-- a temporary with this content and size is right for a piece: it has as many bytes, which it tells where the target does. Where
-- the source's tree is told and the piece is not empty, they are the piece's
pub record IsPart (job : Job) (p : ℕ) (content : Option (List ℕ)) (size : ℕ) : Type 0 where
  pub bytes : List ℕ
  pub counted : length bytes ≡ (piece_at job.pieces p).length
  pub sized : size ≡ (piece_at job.pieces p).length
  pub told : content ≡ told_if job.tells bytes
  pub range : 0 < (piece_at job.pieces p).length → IfSome job.tree (λ _. range_of job p ≡ Some bytes)

-- an end that is right for a piece: digests differ only where the target tells nothing, and a file has changed only where its
-- tree is not told or the piece does not lie in it
abbrev pub IsEnd : Job → ℕ → End → Type 0
IsEnd job p ends.Memory = ⊤
IsEnd job p (ends.Differs expected found) = (expected ≢ found) × (job.tells ≡ false)
IsEnd job p ends.Changed = has_range job p ≡ false

-- no attempt
abbrev pub no_task : Task
no_task = record { piece = 0; attempt = 0; stop = None }

abbrev pub task_of : List Task → ℕ → Task
task_of tasks n = slice_index_or tasks n no_task

-- each piece is of one of so many items, and each task is at a piece that is there
abbrev pub AreTasks : ℕ → List Piece → List Task → Type 0
AreTasks items pieces tasks = All (IsPiece items) pieces × All (λ t. t.piece < length pieces) tasks

-- the step of a stop
abbrev pub step_in : Option Stop → Option ℕ
step_in None = None
step_in (Some stop) = Some stop.step

-- the worker stops too
abbrev pub stops_with : Option Stop → Bool
stops_with None = false
stops_with (Some stop) = stop.worker_too

-- the last step of an attempt at so many bytes, through a buffer of this size
abbrev pub last_of : ℕ → ℕ → ℕ
last_of count size = div_ceil count size + 3

-- the step is one of an attempt at so many bytes
abbrev pub is_reached : Option ℕ → ℕ → ℕ → Bool
is_reached None count size = false
is_reached (Some step) count size = nat_le step (last_of count size)

-- the step is one after a temporary was made
abbrev pub is_late_at : Option ℕ → Bool
is_late_at None = false
is_late_at (Some step) = nat_lt 0 step

-- the attempt is to be killed: at a step that is reached, unless it ends before
abbrev pub is_doomed : List Piece → ℕ → Task → Bool
is_doomed pieces size t = is_reached (step_in t.stop) (piece_at pieces t.piece).length size

-- with its worker
abbrev pub is_stopper : Task → Bool
is_stopper t = stops_with t.stop

-- after a temporary was made
abbrev pub is_late : Task → Bool
is_late t = is_late_at (step_in t.stop)
