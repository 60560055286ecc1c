-- The limit of a walk of the target.
use Rattle.std.specs.Prelude.{ℕ}
use Rattle.dc_listing.specs.Walks.{max_items}

-- the most paths below the base that a walk meets: as many as a listing may have entries
abbrev pub max_paths : ℕ
max_paths = max_items
