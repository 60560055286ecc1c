-- What is counted of a copy is what lands in it, and what it goes on without.
use Rattle.std.proofs.Common.{◌≡◌, ℕ, ◌+◌, List, length, filter, sum_by, sym}
use Rattle.std.proofs.lemmas.List.{length-map}
use Rattle.std.proofs.lemmas.List.Folds.{fold-map}
use Rattle.dc_fs.specs.declared.target.Landed.{Landed}
use Rattle.dc_decide.specs.Plans.{Decision, Decisions, item_rel}
use Rattle.dc_commit.specs.Landing.{is_landing}
use Rattle.dc_result.specs.Effects.{effect_of, effects}
use Rattle.dc_engine.specs.Counting.{copied_of, bytes_copied_of, failed_of, is_out, paths_out}

-- the files that are counted are those that land
pub copied_are_effects : (plan : Decisions) → copied_of plan.items ≡ length (effects plan)
copied_are_effects plan = sym (length-map (filter is_landing plan.items) (effect_of plan.base))

-- and so are their bytes
pub bytes_are_effects : (plan : Decisions) → bytes_copied_of plan.items ≡ sum_by (λ (one : Landed). one.bytes) (effects plan)
bytes_are_effects plan = sym (fold-map (λ (sum : ℕ) (one : Landed). sum + one.bytes) (effect_of plan.base) 0 (filter is_landing plan.items))

-- as many items have failed as paths are told
pub failed_are_told : (items : List Decision) → failed_of items ≡ length (paths_out items)
failed_are_told items = sym (length-map (filter is_out items) item_rel)
