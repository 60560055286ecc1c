use Rattle.std.proofs.Common.{sym, ap}
use Rattle.dc_tree.specs.Arena.{tree_of}
use Rattle.dc_fs.specs.Looks.{status_of}
use Rattle.std.specs.Option.{option_map}
use Rattle.dc_memfs.proofs.LookLemmas.{dir_attrs, file_attrs, dir_there, file_there, file_shows}
use Rattle.dc_memfs.proofs.looks.status.Goals as goal

pub attrs_at-requires : goal.attrs_at-requires
attrs_at-requires c = dir_attrs (tree_of c.args.tree.now) c.args.path.now (sym c.in-Dir.ensures.value)

pub attrs_at-requires-in-File : goal.attrs_at-requires-in-File
attrs_at-requires-in-File c = file_attrs (tree_of c.args.tree.now) c.args.path.now c.in-File.length (sym c.in-File.ensures.value)

pub returns-in_ok-attrs-in-Dir-clause-fits : goal.returns-in_ok-attrs-in-Dir-clause-fits
returns-in_ok-attrs-in-Dir-clause-fits c = c.kind.ensures.fits.dirs c.args.path.now c.in_ok-attrs-in-Dir.attrs (dir_there (tree_of c.args.tree.now) c.args.path.now c.in_ok-attrs-in-Dir.attrs (sym c.in-Dir.ensures.value) c.in_ok-attrs-in-Dir.ensures)

pub returns-in_ok-attrs-in-Dir-clause-shows : goal.returns-in_ok-attrs-in-Dir-clause-shows
returns-in_ok-attrs-in-Dir-clause-shows c = ap (option_map status_of) (dir_there (tree_of c.args.tree.now) c.args.path.now c.in_ok-attrs-in-Dir.attrs (sym c.in-Dir.ensures.value) c.in_ok-attrs-in-Dir.ensures)

pub returns-in_ok-attrs-in-File-clause-fits : goal.returns-in_ok-attrs-in-File-clause-fits
returns-in_ok-attrs-in-File-clause-fits c =
    let there = file_there (tree_of c.args.tree.now) c.args.path.now c.in-File.length c.in_ok-attrs-in-File.attrs (sym c.in-File.ensures.value) c.in_ok-attrs-in-File.ensures in
    c.kind.ensures.fits.files c.args.path.now there.0 c.in_ok-attrs-in-File.attrs there.1

pub returns-in_ok-attrs-in-File-clause-shows : goal.returns-in_ok-attrs-in-File-clause-shows
returns-in_ok-attrs-in-File-clause-shows c =
    file_shows (tree_of c.args.tree.now) c.args.path.now c.in-File.length c.in_ok-attrs-in-File.attrs (sym c.in-File.ensures.value) c.in_ok-attrs-in-File.ensures
