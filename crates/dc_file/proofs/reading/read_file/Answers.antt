use Rattle.dc_file.proofs.FileLemmas.{refused_told}
use Rattle.std.proofs.lemmas.Result.{err_from_is_err_and}
use Rattle.dc_file.proofs.reading.read_file.Goals as goal

pub returns-in_err-length-clause-file : goal.returns-in_err-length-clause-file
returns-in_err-length-clause-file g c =
    let p = err_from_is_err_and c.from_residual.result c.from_residual.ensures.1 in
    rw (p.1, p.2) (refused_told (g.S.Store.tree c.args.store.now) c.args.path.now c.in_err-length.field-0.0 c.in_err-length.ensures.refused)
