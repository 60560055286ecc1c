-- The names of a report's file are names.
use Rattle.std.proofs.Common.{◌≡◌, ℕ, ◌+◌, ◌≤◌, true, nat_le, nat_lt, List, ◌++◌, length, length-append, refl, arith, codes, Some, None}
use Rattle.std.proofs.lemmas.Bool.Decides.{nat_tests}
use Rattle.std.proofs.lemmas.Str.{IsUtf8-append, IsUtf8-from_is_utf8, is_utf8-from_IsUtf8}
use Rattle.std.specs.List.{list_all}
use Rattle.std.specs.Str.{chars, is_utf8}
use lib.Utf8.{encode}
use Rattle.dc_path.specs.Names.{is_name, is_plain}
use Rattle.dc_attrs.specs.Trees.{snapshot}
use Rattle.dc_sync.specs.Reading.{file_name}

pub snapshot_is_name : is_name snapshot ≡ true
unfolding is_name is_utf8 chars encode
snapshot_is_name = refl

pub reports_is_name : is_name (codes ".reports") ≡ true
unfolding is_name is_utf8 chars encode
reports_is_name = refl

current_is_name : is_name (codes "current") ≡ true
unfolding is_name is_utf8 chars encode
current_is_name = refl

to_is_text : is_utf8 (codes "to.") ≡ true
unfolding is_utf8 chars encode
to_is_text = refl

-- what a name is, of which two facts are asked
record Parts (text : List ℕ) : Type 0 where
  utf8 : is_utf8 text ≡ true
  plain : list_all is_plain text ≡ true

parts : (text : List ℕ) → is_name text ≡ true → Parts text
unfolding is_name
parts text h = record { utf8 = grind arith; plain = grind arith }

size_tests : (n m : ℕ) → m ≡ 3 + n → n ≤ 252 → (nat_lt 0 m ≡ true) × (nat_le m 255 ≡ true)
size_tests n m e h = (grind (arith, nat_tests), grind (arith, nat_tests))

to_is_name : (to : List ℕ) → is_name to ≡ true → length to ≤ 252 → is_name (codes "to." ++ to) ≡ true
unfolding is_name
to_is_name to n h =
    let p = parts to n in
    let u : is_utf8 (codes "to." ++ to) ≡ true = is_utf8-from_IsUtf8 (codes "to." ++ to) (IsUtf8-append (codes "to.") to (IsUtf8-from_is_utf8 (codes "to.") to_is_text) (IsUtf8-from_is_utf8 to p.utf8)) in
    let l : length (codes "to." ++ to) ≡ 3 + length to = length-append (codes "to.") to in
    let t = size_tests (length to) (length (codes "to." ++ to)) l h in
    rw (u, t.0, t.1, p.plain) refl

pub file_is_name : (to : List ℕ) → is_name to ≡ true → length to ≤ 252 → is_name (file_name (Some to)) ≡ true
file_is_name to n h = to_is_name to n h

pub now_is_name : is_name (file_name None) ≡ true
now_is_name = current_is_name
