-- No other path and attributes have this line.
use Rattle.std.proofs.Common.{◌∙◌}
use Rattle.dc_attrs.proofs.Fields.{same_path_read, same_attrs_read, only_memory}
use Rattle.dc_attrs.proofs.laws.read_back.Goals as goal

pub returns-clause-path : goal.returns-clause-path
returns-clause-path c =
    same_path_read c.args.path.now c.args.attrs.now c.in_ok-line.ensures.has c.as_str.result.now (c.as_str.ensures ∙ c.in_ok-line.ensures.line) c.read_line.result c.read_line.ensures.has c.read_line.ensures.line

pub returns-clause-attrs : goal.returns-clause-attrs
returns-clause-attrs c =
    same_attrs_read c.args.path.now c.args.attrs.now c.in_ok-line.ensures.has c.as_str.result.now (c.as_str.ensures ∙ c.in_ok-line.ensures.line) c.read_line.result c.read_line.ensures.has c.read_line.ensures.line

pub returns-clause-error : goal.returns-clause-error
returns-clause-error c =
    only_memory c.args.path.now c.args.attrs.now c.in_ok-line.ensures.has c.as_str.result.now (c.as_str.ensures ∙ c.in_ok-line.ensures.line) c.read_line.result c.read_line.ensures.bad
