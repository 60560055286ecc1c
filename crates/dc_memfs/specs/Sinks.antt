-- A sink in memory, and what a write makes of it.
use Rattle.std.specs.Prelude.{ℕ, ◌+◌, Bool, false, ◌||◌, nat_le, nat_lt, List, ◌++◌, length, Option, Some, None}
use Rattle.dc_fs.specs.Causes.{raised}

-- the bytes that it has taken, the first write that fails, how often it was written to, and how often it has failed
pub record Taking : Type 0 where
  pub taken : List ℕ
  pub fail_at : Option ℕ
  pub writes : ℕ
  pub faults : ℕ

-- a write with this number, counted from 1, is to fail
abbrev pub is_due : Option ℕ → ℕ → Bool
is_due None number = false
is_due (Some first) number = nat_le first number

-- the most bytes that are taken in all, where no write is to fail
abbrev pub limit_of : Option ℕ → Option ℕ
limit_of None = Some 1048576
limit_of (Some first) = None

-- the next write fails: it is to fail, or the bytes of both are more than 1,048,576
abbrev pub write_fails : List ℕ → Taking → Bool
write_fails piece s = is_due s.fail_at (raised s.writes) || nat_lt 1048576 (length s.taken + length piece)

-- after a write that took the piece
abbrev pub with_piece : List ℕ → Taking → Taking
with_piece piece s = record s { taken = s.taken ++ piece; writes = raised s.writes }

-- after a write that failed
abbrev pub with_fault : Taking → Taking
with_fault s = record s { writes = raised s.writes; faults = raised s.faults }
