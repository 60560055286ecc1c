-- A wave that is ended has a cause.
use Rattle.std.proofs.Common.{◌≡◌, ◌≢◌, ℕ, Bool, true, false, List, All, refl, sym, ap, ◌∙◌, subst, true≢false}
use Rattle.std.proofs.lemmas.List.Elements.{All-contains}
use Rattle.dc_pool.specs.declared.results.Receipt.{Receipt}
use Rattle.dc_crew.specs.declared.crew.Task.{Task}
use Rattle.dc_crew.specs.declared.crew.End.{End}
use Rattle.dc_crew.specs.declared.crew.End.TheVariants as ends
use Rattle.dc_crew.specs.declared.halts.Halt.{Halt}
use Rattle.dc_crew.specs.declared.halts.Halt.TheVariants as halts
use Rattle.dc_crew.specs.Jobs.{Job, task_of, IsEnd}
use Rattle.dc_crew.specs.Halts.{halt_of, IsEarliest}
use Rattle.dc_crew.specs.Advances.{IsHalt}

by_end : (job : Job) (p : ℕ) (e : End) → IsEnd job p e → IsHalt job (halt_of p e)
by_end job p ends.Memory h = tt
by_end job p (ends.Differs expected found) h = h
by_end job p ends.Changed h = h

abbrev is_memory : Halt → Bool
is_memory halts.Memory = true
is_memory (halts.Differs p e f) = false
is_memory (halts.Changed p) = false
is_memory (halts.Failed p) = false

pub halt_is_right : (job : Job) (tasks : List Task) (ended : List (Receipt End)) (h : Halt)
    → All (λ r. IsEnd job (task_of tasks r.number).piece r.value) ended → (h ≢ halts.Memory → IsEarliest tasks ended h) → IsHalt job h
halt_is_right job tasks ended h all why = go h refl
  where
    found : h ≢ halts.Memory → IsHalt job h
    found n =
        let i = why n in
        let r = i.receipt in
        subst (IsHalt job) (sym i.is) (by_end job (task_of tasks r.number).piece r.value (All-contains (λ (r : Receipt End). IsEnd job (task_of tasks r.number).piece r.value) ended r all i.there))

    go : (k : Halt) → h ≡ k → IsHalt job k
    go halts.Memory e = tt
    go (halts.Differs p x y) e = subst (IsHalt job) e (found (λ m. true≢false (ap is_memory (sym m ∙ e))))
    go (halts.Changed p) e = subst (IsHalt job) e (found (λ m. true≢false (ap is_memory (sym m ∙ e))))
    go (halts.Failed p) e = subst (IsHalt job) e (found (λ m. true≢false (ap is_memory (sym m ∙ e))))
