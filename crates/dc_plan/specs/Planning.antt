-- What becomes of all items of a copy (Hadoop DistCp, `CopyMapper`), and which clash ends it.
use Rattle.std.specs.Prelude.{◌≡◌, Bool, true, false, List, ◌∷◌, ◌++◌, Option, ⊤, Contains}
use Rattle.std.specs.List.{list_any}
use Rattle.std.specs.Option.{is_some}
use Rattle.dc_path.specs.Paths.{Names}
use Rattle.dc_attrs.specs.Trees.{Tree, seen}
use Rattle.dc_options.specs.Settings.{Settings}
use Rattle.dc_listing.specs.Entries.{Entry}
use Rattle.dc_decide.specs.Deciding.{Obeys, clashes, decided}
use Rattle.dc_decide.specs.Looking.{IsDenied}
use Rattle.dc_decide.specs.Plans.{Decision, clashing}
use Rattle.dc_listing.specs.Walks.{IsShown}
use Rattle.dc_attrs.specs.Trees.{IsTree}
use Rattle.dc_plan.specs.declared.planning.PlanError.{PlanError}
use Rattle.dc_plan.specs.declared.planning.PlanError.TheVariants as plan_error

-- ---- one item
abbrev pub item_of : Decision → Entry
item_of d = d.item

-- it clashes with what the target has at its place
abbrev pub clashes_in : Tree → Names → Entry → Bool
clashes_in t base entry = clashes entry.dir (seen t (base ++ entry.rel))

-- for every store: the copy goes on without an item only where that is asked for, and does nothing with it then; every other
-- action is one that the options allow
pub record IsAsked (o : Settings) (d : Decision) : Type 0 where
  pub allowed : o.ignore ≡ false → d.out ≡ false
  pub left_out : d.out ≡ true → d ≡ clashing d.item
  pub obeys : d.out ≡ false → Obeys o d.item.dir (is_some d.before) d.action

-- the copy goes on without the item exactly where it clashes
abbrev pub IsOutByClash : Tree → Names → Decision → Type 0
IsOutByClash t base d = d.out ≡ clashes_in t base d.item

-- what the copy goes on with is decided by what stands in the source and at its place in the target
abbrev pub IsDecidedOn : Settings → Names → Tree → Tree → Decision → Type 0
IsDecidedOn o base s t d = d.out ≡ false → IsTree t → (shown : IsShown s d.item) →
    d ≡ decided o d.item.rel (record { from = d.item.from; node = shown.node }) (t (base ++ d.item.rel))

-- ---- errors
abbrev pub is_source_fault : PlanError → Bool
is_source_fault (plan_error.Clash rel) = false
is_source_fault plan_error.SourceFault = true
is_source_fault plan_error.TargetFault = false
is_source_fault (plan_error.Changed path) = false
is_source_fault plan_error.Memory = false

abbrev pub is_target_fault : PlanError → Bool
is_target_fault (plan_error.Clash rel) = false
is_target_fault plan_error.SourceFault = false
is_target_fault plan_error.TargetFault = true
is_target_fault (plan_error.Changed path) = false
is_target_fault plan_error.Memory = false

-- a fact of the item that clashes
abbrev pub IfClash : PlanError → (Names → Type 0) → Type 0
IfClash (plan_error.Clash rel) P = P rel
IfClash plan_error.SourceFault P = ⊤
IfClash plan_error.TargetFault P = ⊤
IfClash (plan_error.Changed path) P = ⊤
IfClash plan_error.Memory P = ⊤

-- a fact of the path at which a store denied what it showed
abbrev pub IfChanged : PlanError → (Names → Type 0) → Type 0
IfChanged (plan_error.Clash rel) P = ⊤
IfChanged plan_error.SourceFault P = ⊤
IfChanged plan_error.TargetFault P = ⊤
IfChanged (plan_error.Changed path) P = P path
IfChanged plan_error.Memory P = ⊤

-- the first of these items that clashes has this path
pub record IsFirstClash (t : Tree) (base : Names) (items : List Entry) (rel : Names) : Type 0 where
  pub before : List Entry
  pub item : Entry
  pub behind : List Entry
  pub all : items ≡ before ++ item ∷ behind
  pub named : rel ≡ item.rel
  pub here : clashes_in t base item ≡ true
  pub first : list_any (clashes_in t base) before ≡ false

-- a store denied what it showed of one of these items
pub record IsDeniedAmong (source target : Option Tree) (base : Names) (items : List Entry) (path : Names) : Type 0 where
  pub item : Entry
  pub listed : Contains items item
  pub denied : IsDenied source target item (base ++ item.rel) path
