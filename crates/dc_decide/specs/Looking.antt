-- How often the stores are asked, and what is asked of them.
use Rattle.std.specs.Prelude.{◌≡◌, ◌⊎◌, ℕ, ◌+◌, ◌≤◌, Bool, true, false, cond, not, ◌&&◌, ◌||◌, nat_eq, nat_lt, List, take, Option, Some, None, IfSome}
use Rattle.dc_path.specs.Paths.{Names}
use Rattle.dc_attrs.specs.Trees.{Node, Tree, IsTree, bytes_of}
use Rattle.dc_attrs.specs.declared.shown.Seen.{Seen}
use Rattle.dc_attrs.specs.declared.shown.Seen.TheVariants as seen_as
use Rattle.dc_fs.specs.Looks.{status_of}
use Rattle.dc_fs.specs.declared.store.Status.{Status}
use Rattle.dc_options.specs.Settings.{Settings}
use Rattle.dc_listing.specs.Entries.{Entry}
use Rattle.dc_listing.specs.Walks.{IsShown}
use Rattle.dc_decide.specs.Deciding.{same_digest, clashes}
use Rattle.dc_decide.specs.declared.action.Action.{Action}
use Rattle.dc_decide.specs.declared.action.Action.TheVariants as action

-- ---- when digests are asked for
-- the options leave it to the two files what becomes of the item
abbrev pub may_ask : Settings → Entry → Bool
may_ask o entry = not entry.dir && (not o.overwrite && o.update)

-- the files have one length, and one block size if that is kept
abbrev pub same_sizes : Settings → Entry → Status → Bool
same_sizes o entry status = nat_eq entry.length status.length && (not o.keep.block_size || nat_eq entry.attrs.block_size status.attrs.block_size)

-- sizes alone do not decide: digests of the whole files do, or of as many first bytes as the target's shorter file has
abbrev pub asks_over : Settings → Entry → Status → Bool
asks_over o entry status = cond (same_sizes o entry status) (not o.skip_crc) (o.append && nat_lt status.length entry.length)

-- digests are asked for over what the target shows at the place
abbrev pub asks : Settings → Entry → Status → Bool
asks o entry status = may_ask o entry && asks_over o entry status

-- the same, by what stands at the place
abbrev pub asks_of : Settings → Entry → Option Node → Bool
asks_of o entry None = false
asks_of o entry (Some node) = asks o entry (status_of node)

-- one digest of each file, where digests are asked for
abbrev pub once_if : Bool → ℕ
once_if b = cond b 1 0

-- the looks at the source are digests alone; the target is looked at so often besides
pub record LooksFew (besides : ℕ) (asked : Bool) (source_before source_now target_before target_now : ℕ) : Type 0 where
  pub source : source_now ≤ source_before + once_if asked
  pub target : target_now ≤ target_before + (besides + once_if asked)

-- ---- what stores deny
-- a source that tells its tree denied that the item stands as it is listed: it does not
abbrev pub SourceDenies : Option Tree → Entry → Type 0
SourceDenies told entry = IfSome told (λ s. IsTree s → IsShown s entry → ⊥)

-- the path at which a store denied what it showed: the item's in the source, or its place in a target that tells no tree
abbrev pub IsDenied : Option Tree → Option Tree → Entry → Names → Names → Type 0
IsDenied source target entry place path = ((path ≡ entry.from) × SourceDenies source entry) ⊎ ((path ≡ place) × (target ≡ None))

-- ---- the decision by sizes and two comparisons of digests
-- the digests of so many first bytes of the two files are equal
abbrev pub same_fronts : ℕ → Option (List ℕ) → Option (List ℕ) → Bool
same_fronts n None old = false
same_fronts n (Some bytes) None = false
same_fronts n (Some bytes) (Some old) = same_digest (take n bytes) (take n old)

abbrev pub fronts_at : Tree → Names → Tree → Names → ℕ → Bool
fronts_at s from t place n = same_fronts n (bytes_of (s from)) (bytes_of (t place))

-- the action, where the digests of the whole files and of their fronts are so compared
abbrev pub action_at : Settings → Entry → Status → Bool → Bool → Action
action_at o entry status whole front =
    cond o.overwrite action.Replace
    (cond (not o.update) action.Skip
    (cond (same_sizes o entry status && (o.skip_crc || whole)) action.Skip
    (cond (o.append && (nat_lt status.length entry.length && front)) (action.Extend status.length)
    action.Replace)))

-- the action for a file over what the target shows at the place
abbrev pub action_on : Settings → Entry → Status → Names → Tree → Tree → Action
action_on o entry status place s t = action_at o entry status (fronts_at s entry.from t place entry.length) (fronts_at s entry.from t place status.length)

-- nothing stands there
abbrev pub is_missing : Seen → Bool
is_missing seen_as.Missing = true
is_missing seen_as.Dir = false
is_missing (seen_as.File n) = false
is_missing seen_as.NotDir = false

-- what is seen there is of the item's kind
abbrev pub is_over : Bool → Seen → Bool
is_over dir shown = not (clashes dir shown) && not (is_missing shown)
