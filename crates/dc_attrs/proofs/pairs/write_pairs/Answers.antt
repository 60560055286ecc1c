-- The first one, and each other behind a comma.
use Rattle.std.proofs.Common.{string_bytes}
use Rattle.dc_attrs.proofs.Fields.{written_pairs, written_none}
use Rattle.dc_attrs.proofs.pairs.write_pairs.Goals as goal

pub returns : goal.returns
returns c =
    written_pairs c.args.xattrs.now c.first-item.result (string_bytes c.args.line.now) (string_bytes c.write_pair.new.line) (string_bytes c.write_more.new.line) c.in-len1-up.len_at_least c.first-item.is c.in_ok-write_pair.ensures c.in_ok-write_more.ensures

pub returns-in_default : goal.returns-in_default
returns-in_default c = written_none c.args.xattrs.now (string_bytes c.args.line.now) c.in_default.len_below
