-- Why the waves end before all pieces are done.
use Rattle.std.specs.Prelude.{◌≡◌, ℕ, ◌+◌, ◌≤◌, List, All, Contains}
use Rattle.dc_pool.specs.declared.results.Receipt.{Receipt}
use Rattle.dc_crew.specs.declared.crew.Task.{Task}
use Rattle.dc_crew.specs.declared.crew.End.{End}
use Rattle.dc_crew.specs.declared.crew.End.TheVariants as ends
use Rattle.dc_crew.specs.declared.halts.Halt.{Halt}
use Rattle.dc_crew.specs.declared.halts.Halt.TheVariants as halts
use Rattle.dc_crew.specs.Jobs.{task_of}

abbrev pub halt_of : ℕ → End → Halt
halt_of p ends.Memory = halts.Memory
halt_of p (ends.Differs expected found) = halts.Differs p expected found
halt_of p ends.Changed = halts.Changed p

-- memory before all pieces, and these in order
abbrev pub rank : Halt → ℕ
rank halts.Memory = 0
rank (halts.Differs p expected found) = p + 1
rank (halts.Changed p) = p + 1
rank (halts.Failed p) = p + 1

abbrev pub halt_at : List Task → Receipt End → Halt
halt_at tasks r = halt_of (task_of tasks r.number).piece r.value

-- the halt is that of one of these ends, and none comes before it
pub record IsEarliest (tasks : List Task) (ended : List (Receipt End)) (h : Halt) : Type 0 where
  pub receipt : Receipt End
  pub there : Contains ended receipt
  pub is : h ≡ halt_at tasks receipt
  pub least : All (λ r. rank h ≤ rank (halt_at tasks r)) ended
