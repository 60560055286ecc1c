-- Numbers in decimal digits.
use Rattle.std.specs.Prelude.{ℕ, List, length, Option, Some, None, nat_lt, nat_le, ◌&&◌, if◌then◌else◌}
use Rattle.std.specs.Char.{is_ascii_digit}
use Rattle.std.specs.List.{list_all}
use Rattle.std.specs.Str.Parse.{digits_value}

-- the number that decimal digits write, leading zeros allowed, where it is within these bounds
unfoldable pub number_in : ℕ → ℕ → List ℕ → Option ℕ
number_in least most digits =
    if list_all is_ascii_digit digits && nat_lt 0 (length digits) && nat_le least (digits_value 10 digits) && nat_le (digits_value 10 digits) most
    then Some (digits_value 10 digits) else None
