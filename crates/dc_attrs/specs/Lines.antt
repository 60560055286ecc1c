-- The line of a path and its attributes: ten fields with a tab between two.
use Rattle.std.specs.Prelude.{◌≡◌, ℕ, ◌+◌, ◌/◌, ◌%◌, ◌<◌, ◌^◌, Bool, List, [], ◌∷◌, ◌++◌, map, codes, decimal, nat_le, ◌==◌, ◌||◌, None, if◌then◌else◌}
use Rattle.std.specs.List.{flat_map, join_with_byte}
use Rattle.percent_encoding.specs.Percent.{percent_encode_byte}
use Rattle.dc_path.specs.Paths.{Names, IsPath, text_of}
use Rattle.dc_attrs.specs.Attributes.{Attributes}
use Rattle.dc_attrs.specs.Limits.{bad_field}
use Rattle.dc_attrs.specs.declared.attributes.Xattr.{Xattr}

-- 0 to 32, 127, `%`, `,` and `=`
unfoldable pub is_escaped : ℕ → Bool
is_escaped byte = nat_le byte 32 || byte == 127 || byte == 37 || byte == 44 || byte == 61

-- `%` and two hexadecimal digits in capitals for these bytes; every other byte stands for itself
unfoldable pub escape : ℕ → List ℕ
escape byte = if is_escaped byte then percent_encode_byte byte else byte ∷ []

abbrev pub escaped : List ℕ → List ℕ
escaped text = flat_map escape text

-- four octal digits
unfoldable pub octal : ℕ → List ℕ
octal mode = (48 + mode / 512 % 8) ∷ (48 + mode / 64 % 8) ∷ (48 + mode / 8 % 8) ∷ (48 + mode % 8) ∷ []

-- `name=value`
abbrev pub pair_of : Xattr → List ℕ
pair_of x = escaped x.name ++ 61 ∷ escaped x.value

-- a comma between two
abbrev pub pairs_of : List Xattr → List ℕ
pairs_of xattrs = join_with_byte 44 (map pair_of xattrs)

-- `=`, path, replication, block size, user, group, mode, access control list, extended attributes, time of the last change
abbrev pub fields_of : Names → Attributes → List (List ℕ)
fields_of path a =
    codes "=" ∷ escaped (text_of path) ∷ decimal a.replication ∷ decimal a.block_size ∷ escaped a.user ∷ escaped a.group
    ∷ octal a.mode ∷ escaped a.acl ∷ pairs_of a.xattrs ∷ decimal a.mtime ∷ []

-- the line, without a line end
unfoldable pub line_of : Names → Attributes → List ℕ
line_of path a = join_with_byte 9 (fields_of path a)

-- a path and attributes within their limits, as those of every `Path` and `Attrs`
pub record HasLine (path : Names) (a : Attributes) : Type 0 where
  pub is_path : IsPath path
  pub within : bad_field a ≡ None
  pub in_range : a.mtime < 2 ^ 64

-- no path and no attributes within their limits have this line
abbrev pub IsNoLine : List ℕ → Type 0
IsNoLine line = (path : Names) (a : Attributes) → HasLine path a → line_of path a ≡ line → ⊥

-- what has the same line is the same path and the same attributes
abbrev pub OneLineEach : Type 0
OneLineEach = (p q : Names) (a b : Attributes) → HasLine p a → HasLine q b → line_of p a ≡ line_of q b → (p ≡ q) × (a ≡ b)
