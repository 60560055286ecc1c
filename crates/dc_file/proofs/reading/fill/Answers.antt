use Rattle.dc_file.proofs.FileLemmas.{whole_told, short_silent, silent}
use Rattle.dc_file.specs.declared.reading.FileError.TheVariants as file_error
use Rattle.dc_file.proofs.reading.fill.Goals as goal

pub returns-then-count-into-clause-read : goal.returns-then-count-into-clause-read
returns-then-count-into-clause-read g c =
    whole_told (g.S.Store.tree c.args.store.now) c.args.path.now c.args.into.now c.read_at.new.into c.in-Ok.count c.requires.file c.read_at.auto.into c.if-count-into.true c.in-Ok.ensures.read

pub returns-else-count-into-clause-told : goal.returns-else-count-into-clause-told
returns-else-count-into-clause-told g c =
    silent (g.S.Store.tree c.args.store.now) c.args.path.now file_error.Changed
    (short_silent (g.S.Store.tree c.args.store.now) c.args.path.now c.args.into.now c.read_at.new.into c.in-Ok.count c.requires.file c.read_at.auto.into c.if-count-into.false c.in-Ok.ensures.read)

pub returns-else-count-into-clause-changed : goal.returns-else-count-into-clause-changed
returns-else-count-into-clause-changed g c = λ _.
    short_silent (g.S.Store.tree c.args.store.now) c.args.path.now c.args.into.now c.read_at.new.into c.in-Ok.count c.requires.file c.read_at.auto.into c.if-count-into.false c.in-Ok.ensures.read
