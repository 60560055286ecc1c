-- What an answer of `work` says.
use Rattle.std.specs.Prelude.{◌≡◌, Bool, true, false}
use Rattle.dc_pool.specs.declared.crew.Worked.{Worked}
use Rattle.dc_pool.specs.declared.crew.Worked.TheVariants.{Done, Failed, Killed, Ended}

module _ {R E : Type 0} where
  -- A receipt or an end is right. A number is killed only where it is to be killed, with its worker exactly where that is said, and it is
  -- done only where it is not to be killed
  abbrev pub Answers : (R → Type 0) → (E → Type 0) → Bool → Bool → Worked R E → Type 0
  Answers right right_end doomed stops (Done receipt) = right receipt × (doomed ≡ false)
  Answers right right_end doomed stops Failed = Unit {0}
  Answers right right_end doomed stops (Killed worker_too) = (doomed ≡ true) × (worker_too ≡ stops)
  Answers right right_end doomed stops (Ended end) = right_end end
