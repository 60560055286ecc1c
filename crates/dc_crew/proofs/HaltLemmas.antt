-- Which end comes first.
use Rattle.std.proofs.Common.{◌≡◌, ◌⊎◌, ℕ, ◌+◌, ◌<◌, ◌≤◌, List, take, length, get_or, All, ap, ◌∙◌, ⊎_elim, arith}
use Rattle.std.specs.List.{Contains}
use Rattle.std.proofs.lemmas.List.Elements.{All-more, All-weaker, Contains-get_or}
use Rattle.dc_pool.specs.declared.results.Receipt.{Receipt}
use Rattle.dc_crew.specs.declared.crew.Task.{Task}
use Rattle.dc_crew.specs.declared.crew.End.{End}
use Rattle.dc_crew.specs.declared.halts.Halt.{Halt}
use Rattle.dc_crew.specs.Halts.{rank, halt_at}

pub there_step : (tasks : List Task) (ended : List (Receipt End)) (i : ℕ) (d : Receipt End) (best next new : Halt) → i < length ended → next ≡ halt_at tasks (get_or ended i d) → (new ≡ best) ⊎ (new ≡ next)
    → ((r : Receipt End) × Contains ended r × (best ≡ halt_at tasks r)) → (r : Receipt End) × Contains ended r × (new ≡ halt_at tasks r)
there_step tasks ended i d best next new within is either was =
    ⊎_elim (λ (e : new ≡ best). (was.0, was.1, e ∙ was.2)) (λ (e : new ≡ next). (get_or ended i d, Contains-get_or ended i d within, e ∙ is)) either

pub least_step : (tasks : List Task) (ended : List (Receipt End)) (i : ℕ) (d : Receipt End) (best next new : Halt) → i < length ended → next ≡ halt_at tasks (get_or ended i d) → rank new ≤ rank best → rank new ≤ rank next
    → All (λ r. rank best ≤ rank (halt_at tasks r)) (take i ended) → All (λ r. rank new ≤ rank (halt_at tasks r)) (take (i + 1) ended)
least_step tasks ended i d best next new within is low low' was =
    All-more (λ r. rank new ≤ rank (halt_at tasks r)) ended i d within
    (All-weaker (λ r. rank best ≤ rank (halt_at tasks r)) (λ r. rank new ≤ rank (halt_at tasks r)) (λ r h. omega arith) (take i ended) was)
    (let e = ap rank is in omega arith)
