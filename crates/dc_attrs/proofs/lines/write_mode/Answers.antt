-- Each digit is one byte.
use Rattle.std.proofs.Common.{string_bytes}
use Rattle.dc_attrs.proofs.Fields.{octal_written}
use Rattle.dc_attrs.proofs.lines.write_mode.Goals as goal

pub returns : goal.returns
returns c =
    octal_written c.args.mode c.octal_digit.result c.octal_digit-2.result c.octal_digit-3.result c.octal_digit-4.result
    (string_bytes c.args.line.now) (string_bytes c.push_str.new.self) (string_bytes c.push.new.self) (string_bytes c.push-2.new.self) (string_bytes c.push-3.new.self) (string_bytes c.push-4.new.self)
    c.in_ok-push_str.ensures.bytes c.in_ok-push.ensures.bytes c.in_ok-push-2.ensures.bytes c.in_ok-push-3.ensures.bytes c.in_ok-push-4.ensures.bytes
    c.octal_digit.ensures c.octal_digit-2.ensures c.octal_digit-3.ensures c.octal_digit-4.ensures
