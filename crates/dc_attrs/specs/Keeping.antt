-- Which attributes a copy keeps, by letters (Hadoop DistCp Guide, `-p`), and what attributes become then.
use Rattle.std.specs.Prelude.{ℕ, Bool, false, cond, ◌&&◌, ◌||◌, not, List, codes, nat_eq, Option, Some, None, Result, Ok, Err, position, if◌then◌else◌}
use Rattle.std.specs.List.{list_any}
use Rattle.std.specs.Cmp.Lexicographic.{pointwise}
use Rattle.dc_attrs.specs.Attributes.{Attributes}
use Rattle.dc_attrs.specs.declared.attributes.Xattr.{Xattr}
use Rattle.dc_attrs.specs.declared.keeping.KeepError.{KeepError}
use Rattle.dc_attrs.specs.declared.keeping.KeepError.TheVariants.{UnknownLetter}

-- the attributes that are kept
pub record Kept : Type 0 where
  pub replication : Bool
  pub block_size : Bool
  pub user : Bool
  pub group : Bool
  pub mode : Bool
  pub acl : Bool
  pub xattrs : Bool
  pub mtime : Bool

-- the text has this letter
abbrev pub has_letter : List ℕ → ℕ → Bool
has_letter text letter = list_any (λ byte. nat_eq byte letter) text

-- one of the eight letters
abbrev pub is_letter : ℕ → Bool
is_letter byte = has_letter (codes "rbugpaxt") byte

-- what letters keep; `a` brings `p` with it
unfoldable pub kept_by : List ℕ → Kept
kept_by text = record {
  replication = has_letter text 114;  -- r
  block_size = has_letter text 98;  -- b
  user = has_letter text 117;  -- u
  group = has_letter text 103;  -- g
  mode = has_letter text 112 || has_letter text 97;  -- p, a
  acl = has_letter text 97;  -- a
  xattrs = has_letter text 120;  -- x
  mtime = has_letter text 116;  -- t
}

abbrev pub unless_unknown : Option ℕ → Kept → Result Kept KeepError
unless_unknown None keep = Ok keep
unless_unknown (Some place) keep = Err (UnknownLetter place)

-- what letters keep, or the place of the first that is none of the eight
abbrev pub read_letters : List ℕ → Result Kept KeepError
read_letters text = unless_unknown (position (λ byte. not (is_letter byte)) text) (kept_by text)

-- this letter's attribute is kept; another letter has none
unfoldable pub keeps : Kept → ℕ → Bool
keeps keep letter =
    if nat_eq letter 114 then keep.replication else
    if nat_eq letter 98 then keep.block_size else
    if nat_eq letter 117 then keep.user else
    if nat_eq letter 103 then keep.group else
    if nat_eq letter 112 then keep.mode else
    if nat_eq letter 97 then keep.acl else
    if nat_eq letter 120 then keep.xattrs else
    if nat_eq letter 116 then keep.mtime else false

-- the second attributes with the values of the first where they are kept
unfoldable pub overlay : Kept → Attributes → Attributes → Attributes
overlay keep source onto =
    let from : Bool → Attributes = λ kept. cond kept source onto in
    record {
      replication = (from keep.replication).replication;
      block_size = (from keep.block_size).block_size;
      user = (from keep.user).user;
      group = (from keep.group).group;
      mode = (from keep.mode).mode;
      acl = (from keep.acl).acl;
      xattrs = (from keep.xattrs).xattrs;
      mtime = (from keep.mtime).mtime;
    }

-- two extended attributes with the same name and the same value
abbrev pub same_xattr : Xattr → Xattr → Bool
same_xattr x y = pointwise nat_eq x.name y.name && pointwise nat_eq x.value y.value

-- two attributes have the same values where they are kept
unfoldable pub same_kept : Kept → Attributes → Attributes → Bool
same_kept keep a b =
    (not keep.replication || nat_eq a.replication b.replication)
    && (not keep.block_size || nat_eq a.block_size b.block_size)
    && (not keep.user || pointwise nat_eq a.user b.user)
    && (not keep.group || pointwise nat_eq a.group b.group)
    && (not keep.mode || nat_eq a.mode b.mode)
    && (not keep.acl || pointwise nat_eq a.acl b.acl)
    && (not keep.xattrs || pointwise same_xattr a.xattrs b.xattrs)
    && (not keep.mtime || nat_eq a.mtime b.mtime)
