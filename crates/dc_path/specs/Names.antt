-- What a name is.
use Rattle.std.specs.Prelude.{ℕ, Bool, List, length, nat_lt, nat_le, nat_eq, ◌==◌, ◌&&◌, not, codes}
use Rattle.std.specs.List.{list_all}
use Rattle.std.specs.Str.{is_utf8}
use Rattle.std.specs.Cmp.Lexicographic.{pointwise}

-- neither `/` nor the character 0 (POSIX.1, "Filename")
abbrev pub is_plain : ℕ → Bool
is_plain byte = not (byte == 47) && not (byte == 0)

-- 1 to 255 bytes of UTF-8, each plain, and neither `.` nor `..`
unfoldable pub is_name : List ℕ → Bool
is_name text =
    is_utf8 text && nat_lt 0 (length text) && nat_le (length text) 255 && list_all is_plain text
    && not (pointwise nat_eq text (codes ".")) && not (pointwise nat_eq text (codes ".."))

-- two names are the same bytes
abbrev pub same_name : List ℕ → List ℕ → Bool
same_name = pointwise nat_eq
