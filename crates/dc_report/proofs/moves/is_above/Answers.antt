-- The lengths tell whether a prefix is a proper one.
use Rattle.std.proofs.Common.{◌≡◌, ◌∙◌, ◌<◌, ◌≤◌, length, false, nat_lt, sym, arith}
use Rattle.std.proofs.lemmas.Bool.Decides.{nat_tests}
use Rattle.dc_path.proofs.Fronts.{above_longer, above_shorter}
use Rattle.dc_report.proofs.moves.is_above.Goals as goal

pub returns-then-len : goal.returns-then-len
returns-then-len c =
    let h : length c.args.path.now < length c.in-Some.new.now = omega arith in
    rw c.in-Some.is (c.starts_with.ensures ∙ sym (above_longer c.args.path.now c.in-Some.new.now h))

pub returns-else-len : goal.returns-else-len
returns-else-len c =
    let h : length c.in-Some.new.now ≤ length c.args.path.now = omega arith in
    let no : nat_lt c.len.result c.len-in-Some.result ≡ false = grind (arith, nat_tests) in
    rw c.in-Some.is (no ∙ sym (above_shorter c.args.path.now c.in-Some.new.now h))
