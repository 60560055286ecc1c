use Rattle.dc_tree.specs.Arena.{tree_of}
use Rattle.dc_memfs.proofs.ChangeLemmas.{with_dir_ok}
use Rattle.dc_memfs.proofs.target.make_default_dir.Goals as goal

pub make_dir-requires : goal.make_dir-requires
make_dir-requires c = record { fits = c.default_dir.ensures.fits }

pub returns-clause-ok : goal.returns-clause-ok
returns-clause-ok c =
    with_dir_ok (tree_of c.args.tree.now) (tree_of c.make_dir.new.self) c.args.path.now c.make_dir.result (rw (← c.default_dir.ensures.value) c.make_dir.ensures.ok) c.make_dir.ensures.answers
