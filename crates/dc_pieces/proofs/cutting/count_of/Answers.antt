-- As many chunks as the file has, rounded up.
use Rattle.std.proofs.Common.{◌∙◌, sym, ap, length}
use Rattle.std.specs.Int.{div_ceil}
use Rattle.std.proofs.lemmas.List.FromFn.{length-map-range_with_len}
use Rattle.dc_pieces.specs.Cuts.{cut_pieces}
use Rattle.dc_pieces.specs.Cutting.{chunk_at}
use Rattle.dc_pieces.proofs.cutting.count_of.Goals as goal

pub returns-in-Chunks : goal.returns-in-Chunks
returns-in-Chunks c = λ item.
    c.div_ceil.ensures
    ∙ sym (length-map-range_with_len (chunk_at item c.in-Chunks.size c.in-Chunks.length) 0 (div_ceil c.in-Chunks.length c.in-Chunks.size))
    ∙ ap (λ cut. length (cut_pieces item cut)) (sym c.in-Chunks.is)
