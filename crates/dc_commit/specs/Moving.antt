-- The move of the work path to its place, after which the whole result stands there or nothing of it (Hadoop DistCp, `CopyCommitter`, atomic commit).
use Rattle.std.specs.Prelude.{◌≡◌, ◌⊎◌, ℕ, ◌≤◌, Bool, true, false, Option, Some, None, ⊤}
use Rattle.dc_attrs.specs.Trees.{Tree}
use Rattle.dc_attrs.specs.declared.shown.Seen.{Seen}
use Rattle.dc_attrs.specs.declared.shown.Seen.TheVariants as seen_as
use Rattle.dc_fs.specs.Causes.{counted, Rose, steady_at}
use Rattle.dc_fs.specs.Rest.{Rest}
use Rattle.dc_fs.specs.Views.{View}
use Rattle.dc_commit.specs.declared.moving.Moved.{Moved}
use Rattle.dc_commit.specs.declared.moving.Moved.TheVariants as move
use Rattle.dc_commit.specs.declared.moving.Look.{Look}
use Rattle.dc_commit.specs.declared.moving.Look.TheVariants as look

-- ---- the tree
-- what is seen stands
abbrev pub stands : Seen → Bool
stands seen_as.Dir = true
stands (seen_as.File length) = true
stands seen_as.Missing = false
stands seen_as.NotDir = false

-- what looks at a path say of what is seen there
abbrev pub Shows : Look → Seen → Type 0
Shows look.There seen = stands seen ≡ true
Shows look.Absent seen = stands seen ≡ false
Shows look.Unknown seen = ⊤

-- the tree after a move: done, as it was, or either
abbrev pub AfterMove : Moved → Tree → Tree → Option Tree → Type 0
AfterMove move.Moved old done new = new ≡ Some done
AfterMove move.NotMoved old done new = new ≡ Some old
AfterMove move.Memory old done new = new ≡ Some old
AfterMove move.Uncertain old done new = (new ≡ Some old) ⊎ (new ≡ Some done)
AfterMove move.Changed old done new = ⊥

-- after one try: none asks for the next, and has left the tree as it was
abbrev pub AfterTry : Option Moved → Tree → Tree → Option Tree → Type 0
AfterTry None old done new = new ≡ Some old
AfterTry (Some moved) old done new = AfterMove moved old done new

-- ---- counts
-- a count rose by so many, or stands at its last value
abbrev pub RoseBy : ℕ → ℕ → ℕ → Type 0
RoseBy many before now = counted before many ≤ now

-- three looks failed
abbrev pub LookCause : Look → ℕ → ℕ → Type 0
LookCause look.There before now = ⊤
LookCause look.Absent before now = ⊤
LookCause look.Unknown before now = RoseBy 3 before now

-- by the views before and after: that it was not moved comes only of three renames that failed, which count as faults too, and
-- that nothing is known only of one that failed and of three looks that did
abbrev pub MoveCause : Moved → View → View → Type 0
MoveCause move.Moved old new = ⊤
MoveCause move.Memory old new = ⊤
MoveCause move.Changed old new = ⊤
MoveCause move.NotMoved old new = RoseBy 3 old.faults new.faults × RoseBy 3 old.rest.rename_faults new.rest.rename_faults
MoveCause move.Uncertain old new = RoseBy 4 old.faults new.faults × Rose old.rest.rename_faults new.rest.rename_faults

-- of one try: the next is asked for only where a rename failed, and no try says that it was not moved
abbrev pub TryCause : Option Moved → View → View → Type 0
TryCause None old new = Rose old.faults new.faults × Rose old.rest.rename_faults new.rest.rename_faults
TryCause (Some move.NotMoved) old new = ⊥
TryCause (Some moved) old new = MoveCause moved old new

abbrev pub with_rename_faults : ℕ → Rest → Rest
with_rename_faults n rest = record rest { rename_faults = n }

-- all that the target keeps besides its tree stays, but that renames may have failed
pub record KeepsButRenames (old new : View) : Type 0 where
  pub rest : new.rest ≡ with_rename_faults new.rest.rename_faults old.rest
  pub renames : old.rest.rename_faults ≤ new.rest.rename_faults
  pub later : old.faults ≤ new.faults
  pub calm : steady_at new.steady new.faults ≡ steady_at old.steady old.faults
