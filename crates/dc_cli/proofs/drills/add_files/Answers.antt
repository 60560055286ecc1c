use Rattle.std.proofs.Common.{min, ◌%◌, ltb-true, sym, length}
use Rattle.dc_cli.proofs.DrillLemmas.{dir_is}
use Rattle.dc_cli.proofs.drills.add_files.Goals as goal

pub add_file-requires : goal.add_file-requires
add_file-requires c =
    dir_is c.args.dirs.now (min c.args.count 4) (c.loop-number.number % 4) c.in-Some.dir.now c.requires
    (ltb-true (c.loop-number.number % 4) (length c.args.dirs.now) (sym c.in-Some.ensures.lookup.0)) c.in-Some.ensures.lookup.1
