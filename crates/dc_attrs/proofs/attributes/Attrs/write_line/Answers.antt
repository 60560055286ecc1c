-- The line is put together field by field.
use Rattle.std.proofs.Common.{◌++◌, ◌∷◌, List, ℕ, ap, ◌∙◌, string_bytes}
use Rattle.std.specs.Fmt.{decimal}
use Rattle.dc_attrs.specs.Lines.{escaped, octal, pairs_of}
use Rattle.dc_attrs.specs.declared.attributes.Xattr.{Xattr}
use Rattle.dc_attrs.proofs.Fields.{line_written}
use Rattle.dc_attrs.proofs.attributes.Attrs.write_line.Goals as goal

pub returns-clause-line : goal.returns-clause-line
returns-clause-line c =
    c.in_ok-read.ensures ∙ c.as_str-2.ensures.value ∙ line_written c.args.path.now c.args.self.now
    (string_bytes c.in_ok-line.line) (string_bytes c.push_str.new.self) (string_bytes c.write_text.new.line) (string_bytes c.write_number.new.line) (string_bytes c.write_number-2.new.line) (string_bytes c.write_text-2.new.line) (string_bytes c.write_text-3.new.line) (string_bytes c.write_mode.new.line) (string_bytes c.write_text-4.new.line) (string_bytes c.push_str-2.new.self) (string_bytes c.write_pairs.new.line) (string_bytes c.write_number-3.new.line)
    (c.in_ok-line.ensures.bytes)
    (c.in_ok-push_str.ensures.bytes)
    (c.in_ok-write_text.ensures ∙ ap (λ (t : List ℕ). string_bytes c.push_str.new.self ++ 9 ∷ escaped t) (c.as_str.ensures ∙ c.in_ok-text.ensures))
    (c.in_ok-write_number.ensures ∙ ap (λ (t : ℕ). string_bytes c.write_text.new.line ++ 9 ∷ decimal t) (c.replication.ensures.value))
    (c.in_ok-write_number-2.ensures ∙ ap (λ (t : ℕ). string_bytes c.write_number.new.line ++ 9 ∷ decimal t) (c.block_size.ensures.value))
    (c.in_ok-write_text-2.ensures ∙ ap (λ (t : List ℕ). string_bytes c.write_number-2.new.line ++ 9 ∷ escaped t) (c.user.ensures.value))
    (c.in_ok-write_text-3.ensures ∙ ap (λ (t : List ℕ). string_bytes c.write_text-2.new.line ++ 9 ∷ escaped t) (c.group.ensures.value))
    (c.in_ok-write_mode.ensures ∙ ap (λ (t : ℕ). string_bytes c.write_text-3.new.line ++ 9 ∷ octal t) (c.mode.ensures.value))
    (c.in_ok-write_text-4.ensures ∙ ap (λ (t : List ℕ). string_bytes c.write_mode.new.line ++ 9 ∷ escaped t) (c.acl.ensures.value))
    (c.in_ok-push_str-2.ensures.bytes)
    (c.in_ok-write_pairs.ensures ∙ ap (λ (t : List Xattr). string_bytes c.push_str-2.new.self ++ pairs_of t) (c.xattrs.ensures.value))
    (c.in_ok-write_number-3.ensures ∙ ap (λ (t : ℕ). string_bytes c.write_pairs.new.line ++ 9 ∷ decimal t) (c.mtime.ensures))
