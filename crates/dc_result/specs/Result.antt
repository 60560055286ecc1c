-- The tree that a copy leaves (Hadoop DistCp, `CopyMapper` and `CopyCommitter`): what stands at each path of the store.
use Rattle.std.specs.Prelude.{◌≡◌, ◌↔◌, ℕ, Bool, true, false, cond, not, ◌&&◌, IsTrue, IsSomeAnd, List, [], ◌++◌, drop, Option, Some, None, unwrap_or}
use Rattle.dc_path.specs.Paths.{Names, cut, at_cut, is_root, is_above}
use Rattle.dc_attrs.specs.Attributes.{Attributes}
use Rattle.dc_attrs.specs.Keeping.{Kept, overlay}
use Rattle.dc_attrs.specs.Trees.{Node, Dir, File, Tree, IsThere, attrs_of, bytes_of, is_hidden, made}
use Rattle.dc_options.specs.Settings.{Settings}
use Rattle.dc_listing.specs.Listed.{Origin}
use Rattle.dc_decide.specs.Deciding.{action_of}
use Rattle.dc_decide.specs.declared.action.Action.{Action}
use Rattle.dc_decide.specs.declared.action.Action.TheVariants as action
use Rattle.dc_commit.specs.Settings.{attrs_under}
use Rattle.dc_result.specs.Jobs.{Job, in_run, lists_file, at_target}

-- ---- what is copied
-- the bytes of a copied file: the target's, the source's, or the target's and behind them the source's from there on
abbrev pub bytes_after : Action → List ℕ → List ℕ → List ℕ
bytes_after action.Folder bytes old = old
bytes_after action.Skip bytes old = old
bytes_after action.Replace bytes old = bytes
bytes_after (action.Extend from) bytes old = old ++ drop from bytes

-- the kept attributes of the source, over the target's, or over the defaults of what is new or replaced
abbrev pub attrs_after : Kept → Action → Attributes → Option Node → Attributes
attrs_after keep act attrs old = overlay keep attrs (attrs_under act (attrs_of old))

-- what is listed, copied over what the target had, by what was decided on it
abbrev pub copied_by : Kept → Node → Option Node → Action → Node
copied_by keep (Dir a) old act = Dir (attrs_after keep act a old)
copied_by keep (File b a) old act = File (bytes_after act b (unwrap_or (bytes_of old) [])) (attrs_after keep act a old)

-- what is listed, copied over what the target had
abbrev pub copied : Settings → Node → Option Node → Node
copied o node old = copied_by o.keep node old (action_of o node old)

-- ---- the tree
-- at a path at or under the base: what is listed is copied; else the base is made, what goes is gone, and the rest stays
abbrev pub result_on : Settings → Option Origin → Bool → Bool → Option Node → Option Node
result_on o (Some origin) base gone old = Some (copied o origin.node old)
result_on o None true gone old = made old
result_on o None false true old = None
result_on o None false false old = old

-- the base itself, unless a file is listed at the root path
abbrev pub is_base : Job → Names → Bool
is_base job rel = is_root rel && not (lists_file job [])

-- The tree in which the items stand under the base: what goes there is given. Missing directories above the target are
-- made, and every other path is as before.
abbrev pub built : Job → (Names → Bool) → Tree
built job gone p = at_cut (cut job.base p)
    (cond (is_above p job.target) (made (job.before p)) (job.before p))
    (λ rel. result_on job.settings (in_run job rel) (is_base job rel) (gone rel) (job.before p))

-- the tree in which they stand at the target
abbrev pub result : Job → (Names → Bool) → Tree
result job gone = built (at_target job) gone

-- ---- what goes
-- A path under the base goes (Hadoop DistCp Guide, `-delete`): nothing is listed at it or under it, and nothing that is
-- hidden stands at it or under it.
pub record Goes (job : Job) (rel : Names) : Type 0 where
  pub asked : job.settings.delete ≡ true
  pub below : is_root rel ≡ false
  pub unlisted : (rest : Names) → job.listing (rel ++ rest) ≡ None
  pub unhidden : (rest : Names) → IsThere job.before (job.base ++ (rel ++ rest)) → is_hidden (rel ++ rest) ≡ false

-- of all that stands under the base, exactly this goes
abbrev pub AreGone : Job → (Names → Bool) → Type 0
AreGone job gone = (rel : Names) → IsThere job.before (job.base ++ rel) → IsTrue (gone rel) ↔ Goes job rel

-- the tree is told, and at each path it is the one in which the items stand under the base
abbrev pub IsBuilt : Job → Option Tree → Type 0
IsBuilt job new = (gone : Names → Bool) × AreGone job gone × IsSomeAnd new (λ t. (p : Names) → t p ≡ built job gone p)

-- the tree is told, and at each path it is the result
abbrev pub IsResult : Job → Option Tree → Type 0
IsResult job new = IsBuilt (at_target job) new
