-- What `RegexPatterns` keeps, and what a build makes of it.
use Rattle.std.specs.Prelude.{ℕ, Bool, Option}
use Rattle.dc_path.specs.Causes.{has_come, raised}

-- from which build on it refuses for size, how many it has begun, and how many it has refused for size
pub record Building : Type 0 where
  pub refuse_at : Option ℕ
  pub builds : ℕ
  pub refused : ℕ

-- the next build is to be refused for size
abbrev pub is_due : Building → Bool
is_due b = has_come b.refuse_at (raised b.builds)

-- after a build that was not refused for size
abbrev pub with_build : Building → Building
with_build b = record b { builds = raised b.builds }

-- after a build that was
abbrev pub with_refusal : Building → Building
with_refusal b = record b { builds = raised b.builds; refused = raised b.refused }
