-- The copy decision (Hadoop DistCp, `CopyMapper.checkUpdate` and `CopyMapper.canSkip`): what becomes of a listed item, by
-- what the target has at its place. Files are compared by their lengths, their block sizes and MD5.
use Rattle.std.specs.Prelude.{◌≡◌, ℕ, Bool, true, false, cond, not, ◌&&◌, ◌||◌, nat_eq, nat_lt, List, length, take, Option, Some, None, IfSome}
use Rattle.std.specs.Cmp.Lexicographic.{pointwise}
use Rattle.md5.specs.Md5.{md5}
use Rattle.dc_path.specs.Paths.{Names}
use Rattle.dc_attrs.specs.Attributes.{Attributes}
use Rattle.dc_attrs.specs.Trees.{Node, Dir, File, Tree, IsTree, attrs_of}
use Rattle.dc_attrs.specs.declared.shown.Seen.{Seen}
use Rattle.dc_attrs.specs.declared.shown.Seen.TheVariants as seen_as
use Rattle.dc_options.specs.Settings.{Settings}
use Rattle.dc_listing.specs.Entries.{Entry}
use Rattle.dc_listing.specs.Listed.{Origin, entry_at}
use Rattle.dc_listing.specs.Walks.{IsShown}
use Rattle.dc_decide.specs.Plans.{Decision, is_extend}
use Rattle.dc_decide.specs.declared.action.Action.{Action}
use Rattle.dc_decide.specs.declared.action.Action.TheVariants as action
use Rattle.dc_decide.specs.declared.deciding.Decided.{Decided}

-- ---- two files
-- the digests of two byte strings are equal
abbrev pub same_digest : List ℕ → List ℕ → Bool
same_digest a b = pointwise nat_eq (md5 a) (md5 b)

-- the target's file has the length, the block size if that is kept, and the digest unless that is passed over
abbrev pub is_current : Settings → List ℕ → Attributes → List ℕ → Attributes → Bool
is_current o bytes attrs old old_attrs =
    nat_eq (length bytes) (length old)
    && (not o.keep.block_size || nat_eq attrs.block_size old_attrs.block_size)
    && (o.skip_crc || same_digest bytes old)

-- the target's file is shorter, and has the digest of as many first bytes of the source's
abbrev pub is_front : List ℕ → List ℕ → Bool
is_front bytes old = nat_lt (length old) (length bytes) && same_digest (take (length old) bytes) old

-- what becomes of a file over a file of the target
abbrev pub action_over : Settings → List ℕ → Attributes → List ℕ → Attributes → Action
action_over o bytes attrs old old_attrs =
    cond o.overwrite action.Replace
    (cond (not o.update) action.Skip
    (cond (is_current o bytes attrs old old_attrs) action.Skip
    (cond (o.append && is_front bytes old) (action.Extend (length old))
    action.Replace)))

-- ---- an item
-- what becomes of what is listed, by what the target has at its place; over the other kind it is a clash, and of no use
abbrev pub action_of : Settings → Node → Option Node → Action
action_of o (Dir a) old = action.Folder
action_of o (File b a) None = action.Replace
action_of o (File b a) (Some (Dir c)) = action.Replace
action_of o (File b a) (Some (File old c)) = action_over o b a old c

-- the decision on what is listed at a path under the target, over what the target has at its place
abbrev pub decided : Settings → Names → Origin → Option Node → Decision
decided o rel origin old = record { item = entry_at rel origin; action = action_of o origin.node old; before = attrs_of old; out = false }

-- what becomes of an item by the options and by whether anything stands at its place; none where the two files decide
abbrev pub action_by : Settings → Bool → Bool → Option Action
action_by o dir there = cond dir (Some action.Folder) (cond (not there || o.overwrite) (Some action.Replace) (cond o.update None (Some action.Skip)))

-- for every store: the action is the one that the options settle, and files are added to only where that is asked for
pub record Obeys (o : Settings) (dir there : Bool) (act : Action) : Type 0 where
  pub settled : IfSome (action_by o dir there) (λ a. act ≡ a)
  pub appends : is_extend act ≡ true → o.append ≡ true

-- the target shows the other kind, or a file on the way
abbrev pub clashes : Bool → Seen → Bool
clashes dir seen_as.Dir = not dir
clashes dir (seen_as.File n) = dir
clashes dir seen_as.Missing = false
clashes dir seen_as.NotDir = true

-- an item with what was decided on it
abbrev pub decision_of : Entry → Decided → Decision
decision_of entry d = record { item = entry; action = d.action; before = d.before; out = false }

-- what was decided on an item that stands in the source as it is listed, by the target's tree
abbrev pub DecidesAs : Settings → Entry → Names → Decided → Tree → Tree → Type 0
DecidesAs o entry place d s t = IsTree t → (shown : IsShown s entry) → decision_of entry d ≡ decided o entry.rel (record { from = entry.from; node = shown.node }) (t place)
