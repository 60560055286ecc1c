-- The tag, the tab and the text are the line.
use Rattle.std.proofs.Common.{◌≡◌, ◌-◌, true, false, length, get_or, take, drop, sym, ◌∙◌, rules, subst}
use Rattle.std.proofs.lemmas.Str.{is_utf8-from_IsUtf8}
use Rattle.std.specs.Str.{is_utf8, IsUtf8}
use Rattle.std.proofs.lemmas.List.{take_rest}
use Rattle.dc_report.proofs.PathTexts.{line_tagged}
use Rattle.dc_report.proofs.Texts.{not_utf8}
use Rattle.dc_report.proofs.grammar.read_entry.Goals as goal

pub returns-in-Ok : goal.returns-in-Ok
returns-in-Ok c =
    let line = c.args.line.now in
    let all : take (length line - 2) (drop 2 line) ≡ drop 2 line = take_rest line 2 in
    let rest : c.in-Ok.text.now ≡ drop 2 line = c.in-Ok.ensures.cases.0 ∙ all in
    let utf8 : is_utf8 (drop 2 line) ≡ true = is_utf8-from_IsUtf8 (drop 2 line) (subst IsUtf8 all c.in-Ok.ensures.cases.1) in
    let tab : get_or line 1 0 ≡ 9 = search rules in
    rw (line_tagged line c.in-9.len_at_least tab true utf8, ← rest) c.read_tagged.ensures

pub returns-in-Err : goal.returns-in-Err
returns-in-Err c =
    let line = c.args.line.now in
    let all : take (length line - 2) (drop 2 line) ≡ drop 2 line = take_rest line 2 in
    let no : is_utf8 (drop 2 line) ≡ false = not_utf8 (drop 2 line) (λ h. c.in-Err.ensures.cases.0 (subst IsUtf8 (sym all) h)) in
    let tab : get_or line 1 0 ≡ 9 = search rules in
    sym (line_tagged line c.in-9.len_at_least tab false no)
