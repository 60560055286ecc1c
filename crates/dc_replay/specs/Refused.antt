-- Why a tree refuses a move (POSIX.1: EEXIST, ENOENT, ENOTDIR, EINVAL of mkdir and rename).
use Rattle.std.specs.Prelude.{Option}
use Rattle.dc_attrs.specs.Trees.{Tree}
use Rattle.dc_attrs.specs.Refusals.{refused_dir, refused_rename, refused_remove}
use Rattle.dc_attrs.specs.declared.refusals.TreeError.{TreeError}
use Rattle.dc_report.specs.declared.entries.Move.{Move}
use Rattle.dc_report.specs.declared.entries.Move.TheVariants.{Make, Shift, Clear}

-- why the tree refuses the move, in the tree's own order; none where it does not
abbrev pub refused : Tree → Move → Option TreeError
refused t (Make p) = refused_dir t p
refused t (Shift a b) = refused_rename t a b
refused t (Clear p) = refused_remove t p
