use Rattle.std.proofs.Common.{◌∙◌, ◌++◌, ◌∷◌, [], List, ℕ, ap, sym, arith}
use Rattle.std.proofs.lemmas.List.FromFn.{map-range_with_len_more}
use Rattle.dc_cli.specs.Drills.{file_byte}
use Rattle.dc_cli.proofs.drills.content.Goals as goal

pub loop-place-preserved : goal.loop-place-preserved
loop-place-preserved c =
    c.in_ok-push.ensures.items
    ∙ ap (λ (number : ℕ). c.loop-place.bytes.items ++ file_byte c.args.seed number c.loop-place.place ∷ []) c.from-2.ensures
    ∙ ap (λ (bytes : List ℕ). bytes ++ file_byte c.args.seed c.args.number c.loop-place.place ∷ []) c.loop-place.invariant
    ∙ sym (map-range_with_len_more (file_byte c.args.seed c.args.number) 0 c.loop-place.place c.loop-place.place (omega arith))
