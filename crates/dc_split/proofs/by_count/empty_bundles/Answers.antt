-- An empty bundle more.
use Rattle.std.proofs.Common.{[], ◌∷◌, ◌++◌, arith, rules, ap, sym, ◌∙◌, ◌≡◌}
use Rattle.std.proofs.lemmas.List.FromFn.{map-range_with_len_more}
use Rattle.dc_split.proofs.by_count.empty_bundles.Goals as goal

pub loop-place-preserved : goal.loop-place-preserved
loop-place-preserved c =
    let pushed : c.push.new.self.items ≡ c.loop-place.bundles.items ++ [] ∷ [] = search rules in
    pushed ∙ ap (λ b. b ++ [] ∷ []) c.loop-place.invariant ∙ sym (map-range_with_len_more (λ _. []) 0 c.loop-place._place c.loop-place._place (omega arith))
