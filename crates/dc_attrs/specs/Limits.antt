-- The limits of attributes.
use Rattle.std.specs.Prelude.{ℕ, Bool, true, List, [], ◌∷◌, length, map, nat_le, nat_lt, ◌&&◌, not, Option, Some, None, Result, Ok, Err, if◌then◌else◌}
use Rattle.std.specs.List.{list_all}
use Rattle.dc_path.specs.Order.{name_lt}
use Rattle.dc_attrs.specs.Attributes.{Attributes}
use Rattle.dc_attrs.specs.declared.attributes.Xattr.{Xattr}
use Rattle.dc_attrs.specs.declared.attributes.Field.{Field}
use Rattle.dc_attrs.specs.declared.attributes.Field.TheVariants as field
use Rattle.dc_attrs.specs.declared.attributes.AttrsError.{AttrsError}
use Rattle.dc_attrs.specs.declared.attributes.AttrsError.TheVariants.{Bad}

-- a name of 1 to 255 bytes, and a value of at most 4,096
abbrev pub is_xattr : Xattr → Bool
is_xattr x = nat_le 1 (length x.name) && nat_le (length x.name) 255 && nat_le (length x.value) 4096

abbrev pub name_of : Xattr → List ℕ
name_of x = x.name

-- each name comes before the next
abbrev pub rises : List (List ℕ) → Bool
rises [] = true
rises (x ∷ []) = true
rises (x ∷ y ∷ names) = name_lt x y && rises (y ∷ names)

-- at most 32 extended attributes, in strictly ascending order of names
abbrev pub are_xattrs : List Xattr → Bool
are_xattrs xattrs = nat_le (length xattrs) 32 && list_all is_xattr xattrs && rises (map name_of xattrs)

-- the first field that passes its limit
unfoldable pub bad_field : Attributes → Option Field
bad_field a =
    if nat_lt 32767 a.replication then Some field.Replication else
    if nat_lt 1099511627776 a.block_size then Some field.BlockSize else
    if nat_lt 255 (length a.user) then Some field.User else
    if nat_lt 255 (length a.group) then Some field.Group else
    if nat_lt 1023 a.mode then Some field.Mode else
    if nat_lt 4096 (length a.acl) then Some field.Acl else
    if not (are_xattrs a.xattrs) then Some field.Xattrs else None

abbrev pub unless_bad : Attributes → Option Field → Result Attributes AttrsError
unless_bad a None = Ok a
unless_bad a (Some f) = Err (Bad f)

-- the attributes, or the first field that passes its limit
abbrev pub checked : Attributes → Result Attributes AttrsError
checked a = unless_bad a (bad_field a)
