-- Words for private functions of the grammar.
use Rattle.std.specs.Prelude.{ℕ, List, Option, Some, None}
use Rattle.std.specs.Borrow.{Bor}
use Rattle.dc_report.specs.Grammar.{Split}

-- the texts before and behind a place
abbrev pub split_of : Option (Bor (List ℕ) × Bor (List ℕ)) → Option Split
split_of None = None
split_of (Some parts) = Some (parts.0.now, parts.1.now)
