-- The whole of a file (Hadoop, `FileSystem.open` and `FSDataInputStream.readFully`; the limit is this project's).
use Rattle.std.specs.Prelude.{◌≡◌, ℕ, Bool, true, false, ⊤, List, [], length, nat_le, Option, Some, None, unwrap_or, Result, Ok, Err, if◌then◌else◌}
use Rattle.dc_path.specs.Paths.{Names}
use Rattle.dc_attrs.specs.Trees.{Tree, seen, bytes_of}
use Rattle.dc_attrs.specs.declared.shown.Seen.{Seen}
use Rattle.dc_attrs.specs.declared.shown.Seen.TheVariants as seen_as
use Rattle.dc_file.specs.declared.reading.FileError.{FileError}
use Rattle.dc_file.specs.declared.reading.FileError.TheVariants as file_error

-- the most bytes of a file that is read whole
abbrev pub max_bytes : ℕ
max_bytes = 67108864

-- the bytes of a file, where they are within the limit
abbrev pub within_limit : List ℕ → Result (List ℕ) FileError
within_limit bytes = if nat_le (length bytes) max_bytes then Ok bytes else Err file_error.TooBig

-- by what is seen at a path: of a file the bytes that stand there
abbrev pub file_by : Seen → List ℕ → Result (List ℕ) FileError
file_by (seen_as.File n) bytes = within_limit bytes
file_by seen_as.Dir bytes = Err file_error.NoFile
file_by seen_as.Missing bytes = Err file_error.NoFile
file_by seen_as.NotDir bytes = Err file_error.NoFile

-- all bytes of the file at a path, or why there are none: no file stands there, or it is too big
abbrev pub file_at : Tree → Names → Result (List ℕ) FileError
file_at t path = file_by (seen t path) (unwrap_or (bytes_of (t path)) [])

-- What was answered is what was expected, but for faults and want of memory. A store that tells its tree denies nothing.
abbrev pub FileAnswers : Result (List ℕ) FileError → Result (List ℕ) FileError → Type 0
FileAnswers (Ok bytes) expected = expected ≡ Ok bytes
FileAnswers (Err file_error.NoFile) expected = expected ≡ Err file_error.NoFile
FileAnswers (Err file_error.TooBig) expected = expected ≡ Err file_error.TooBig
FileAnswers (Err file_error.Changed) expected = ⊥
FileAnswers (Err file_error.Fault) expected = ⊤
FileAnswers (Err file_error.Memory) expected = ⊤

-- the store failed
abbrev pub is_fault : FileError → Bool
is_fault file_error.NoFile = false
is_fault file_error.TooBig = false
is_fault file_error.Changed = false
is_fault file_error.Fault = true
is_fault file_error.Memory = false

-- ---- the two steps
-- the length of a file that is too big, or of what is no file, is refused so
abbrev pub refused_length : Seen → Option FileError
refused_length (seen_as.File n) = if nat_le n max_bytes then None else Some file_error.TooBig
refused_length seen_as.Dir = Some file_error.NoFile
refused_length seen_as.Missing = Some file_error.NoFile
refused_length seen_as.NotDir = Some file_error.NoFile

-- a look at the length was refused for what is seen there, but for faults
abbrev pub RefusedLength : Seen → FileError → Type 0
RefusedLength shown file_error.Fault = ⊤
RefusedLength shown e = refused_length shown ≡ Some e

-- what was read is all that stands there
abbrev pub IsReadWhole : Option (List ℕ) → List ℕ → Type 0
IsReadWhole bytes read = bytes ≡ Some read
