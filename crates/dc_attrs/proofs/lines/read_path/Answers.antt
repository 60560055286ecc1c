-- The text of a path reads as that path.
use Rattle.std.proofs.Common.{◌≡◌, ◌≢◌, Ok, Err, sym, ap, ◌∙◌}
use Rattle.dc_path.specs.Paths.{text_of}
use Rattle.dc_path.specs.Reading.{path_from}
use Rattle.dc_path.specs.declared.path.PathError.TheVariants as path_error
use Rattle.dc_path.proofs.LawProofs.{text_reads_back}
use Rattle.dc_attrs.proofs.lines.read_path.Goals as goal

pub returns-in-Ok : goal.returns-in-Ok
returns-in-Ok c = λ y h.
    let reads : path_from c.as_str.result.now ≡ Ok y = ap path_from (c.as_str.ensures ∙ c.in_ok-text.ensures (text_of y) h.1) ∙ text_reads_back y h.0 in
    let is : Ok c.in-Ok.path ≡ Ok y = sym c.in-Ok.ensures ∙ reads in
    cc

pub returns : goal.returns
returns c = λ ne y h.
    let reads : path_from c.as_str.result.now ≡ Ok y = ap path_from (c.as_str.ensures ∙ c.in_ok-text.ensures (text_of y) h.1) ∙ text_reads_back y h.0 in
    let apart : c.in-Err.error ≢ path_error.Memory = λ m. ne (c.path_refused.ensures m) in
    let is : Ok y ≡ Err c.in-Err.error = sym reads ∙ c.in-Err.ensures apart in
    cc
