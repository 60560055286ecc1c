-- Whether two parts of trees are the same, but for hidden paths and for attributes that are not kept.
use Rattle.std.specs.Prelude.{◌≡◌, [], ◌∷◌, ◌++◌, Bool, true, false, ◌&&◌, nat_eq, Option}
use Rattle.std.specs.Option.{option_eq}
use Rattle.std.specs.Cmp.Lexicographic.{pointwise}
use Rattle.dc_path.specs.Paths.{Names}
use Rattle.dc_attrs.specs.Keeping.{Kept, kept_by, same_kept}
use Rattle.dc_attrs.specs.Trees.{Node, Tree, is_hidden, bytes_of, attrs_of}

-- the same bytes or none, and the same kept attributes or none: so one kind, or nothing at both
unfoldable pub alike : Kept → Option Node → Option Node → Bool
alike keep o p = option_eq (pointwise nat_eq) (bytes_of o) (bytes_of p) && option_eq (same_kept keep) (attrs_of o) (attrs_of p)

-- the attributes that count at a path: none of the top itself
abbrev pub counted : Kept → Names → Kept
counted keep [] = kept_by []
counted keep (x ∷ rest) = keep

-- what stands at and under two paths is alike at each path that is not hidden
abbrev pub SameUnder : Kept → Tree → Names → Tree → Names → Type 0
SameUnder keep t p u q = (rest : Names) → is_hidden rest ≡ false → alike (counted keep rest) (t (p ++ rest)) (u (q ++ rest)) ≡ true

-- at some path that is not hidden it is not
pub record DiffersUnder (keep : Kept) (t : Tree) (p : Names) (u : Tree) (q : Names) : Type 0 where
  pub rest : Names
  pub shown : is_hidden rest ≡ false
  pub differs : alike (counted keep rest) (t (p ++ rest)) (u (q ++ rest)) ≡ false
