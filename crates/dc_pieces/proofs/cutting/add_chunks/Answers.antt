-- One chunk more.
use Rattle.std.proofs.Common.{◌≡◌, ◌*◌, ◌-◌, min, [], ◌∷◌, ◌++◌, map, ap, sym, ◌∙◌, arith, rules, append_assoc}
use Rattle.std.specs.List.{range_with_len}
use Rattle.std.proofs.lemmas.List.FromFn.{map-range_with_len_more}
use Rattle.dc_pieces.specs.Cutting.{chunk_at}
use Rattle.dc_pieces.proofs.cutting.add_chunks.Goals as goal

pub loop-place-preserved : goal.loop-place-preserved
loop-place-preserved c =
    let place = c.loop-place.place in
    let chunk = chunk_at c.args.item c.args.size c.args.length in
    let least : c.min.result ≡ min c.args.size (c.args.length - place * c.args.size) = search rules in
    let pushed : c.push.new.self.items ≡ c.loop-place.pieces.items ++ (record { item = c.args.item; from = place * c.args.size; length = c.min.result }) ∷ [] = search rules in
    pushed
    ∙ ap (λ bytes. c.loop-place.pieces.items ++ (record { item = c.args.item; from = place * c.args.size; length = bytes }) ∷ []) least
    ∙ ap (λ ps. ps ++ chunk place ∷ []) c.loop-place.invariant
    ∙ append_assoc c.args.pieces.now.items (map chunk (range_with_len 0 place)) (chunk place ∷ [])
    ∙ ap (λ ps. c.args.pieces.now.items ++ ps) (sym (map-range_with_len_more chunk 0 place place (omega arith)))
