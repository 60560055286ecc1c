-- What a line adds to a plan: words for private functions.
use Rattle.std.specs.Prelude.{◌≡◌, ℕ, ◌+◌, List, length, Some, None, cond}
use Rattle.dc_kills.specs.Entries.{Attempt, Entry, entry_from}
use Rattle.dc_kills.specs.Plans.{is_same, stop_in, IsInOrder}

-- a plan has gained the entry of a line, whose attempt it did not stop before
pub record GainsLine (old new : List Entry) (line : List ℕ) : Type 0 where
  pub entry : Entry
  pub spelt : entry_from line ≡ Some entry
  pub fresh : stop_in old entry.0 ≡ None
  pub stops : (attempt : Attempt) → stop_in new attempt ≡ cond (is_same entry.0 attempt) (Some entry.1) (stop_in old attempt)
  pub counted : length new ≡ length old + 1
  pub ordered : IsInOrder new
