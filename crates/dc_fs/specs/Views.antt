-- What a store tells at one moment, and what a call that only looks at it keeps.
use Rattle.std.specs.Prelude.{◌≡◌, ◌≤◌, ℕ, Bool, true, Option, Result, IfErr, IfSome, OnOk}
use Rattle.dc_attrs.specs.Trees.{Tree, IsTree}
use Rattle.dc_fs.specs.Causes.{Rose, steady_at}
use Rattle.dc_fs.specs.Rest.{Rest}
use Rattle.dc_fs.specs.declared.store.Store.{Ghosts}

-- what a store tells: its tree, what it keeps besides, its count of faults, and whether it never fails
pub record View : Type 0 where
  pub tree : Option Tree
  pub rest : Rest
  pub faults : ℕ
  pub steady : Bool

-- the view of a store, by the members of its trait
abbrev pub view : {S : Type 0} → Ghosts S → S → View
view of store = record { tree = of.tree store; rest = of.rest store; faults = of.faults store; steady = of.steady store }

-- the count has not fallen, an error that is a fault comes only where it rose, and after Ok it is as it was
pub record HasCauseIf {T E : Type 0} (before now : ℕ) (result : Result T E) (is_fault : E → Bool) : Type 0 where
  pub later : before ≤ now
  pub rose : IfErr result (λ e. is_fault e ≡ true → Rose before now)
  pub still : OnOk result (now ≡ before)

-- a call only looked: the tree and the rest stay, and a fault has its cause
pub record OnlyLooks {T E : Type 0} (old new : View) (result : Result T E) (is_fault : E → Bool) : Type 0 where
  pub tree : new.tree ≡ old.tree
  pub rest : new.rest ≡ old.rest
  pub cause : HasCauseIf old.faults new.faults result is_fault
  pub calm : steady_at new.steady new.faults ≡ steady_at old.steady old.faults

-- where both stores tell a tree, this holds of the two
abbrev pub BothTell : Option Tree → Option Tree → (Tree → Tree → Type 0) → Type 0
BothTell source target P = IfSome source (λ s. IfSome target (λ t. P s t))

-- where both tell a tree of directories, this holds of the two
abbrev pub BothTrees : Option Tree → Option Tree → (Tree → Tree → Type 0) → Type 0
BothTrees source target P = IfSome source (λ s. IsTree s → IfSome target (λ t. IsTree t → P s t))
