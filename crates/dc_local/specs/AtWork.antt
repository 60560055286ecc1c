-- How long the temporary at work is.
use Rattle.std.specs.Prelude.{ℕ, Option, Some, None}
use Rattle.dc_local.specs.declared.desk.Begun.{Begun}

-- the bytes of the temporary at work, 0 where there is none
abbrev pub bytes_at_work : Option Begun → ℕ
bytes_at_work None = 0
bytes_at_work (Some begun) = begun.bytes
