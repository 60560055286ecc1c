-- What a desk shows while a temporary is filled on it.
use Rattle.std.specs.Prelude.{◌≡◌, ℕ, Bool, List, Option, None}
use Rattle.dc_fs.specs.Causes.{raised}
use Rattle.dc_fs.specs.declared.desk.Desk.{Ghosts}

-- what a desk shows: whether it tells, the temporary at work and its size, how many were made, how often it has failed
pub record Bench : Type 0 where
  pub tells : Bool
  pub current : Option (Option (List ℕ))
  pub size : ℕ
  pub made : ℕ
  pub faults : ℕ

-- what a desk shows, by the members of its trait
abbrev pub bench : {D P : Type 0} → Ghosts D P → D → Bench
bench of desk = record { tells = of.tells desk; current = of.current desk; size = of.size desk; made = of.made desk; faults = of.faults desk }

-- one temporary more was made, and none is at work
pub record IsCleared (old new : Bench) : Type 0 where
  pub counted : new.made ≡ raised old.made
  pub none : new.current ≡ None
