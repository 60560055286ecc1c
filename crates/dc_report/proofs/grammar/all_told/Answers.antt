-- A name that may not stand in a report decides.
use Rattle.std.proofs.Common.{◌≡◌, false, true, sym, arith}
use Rattle.dc_report.specs.Grammar.{is_told}
use Rattle.dc_report.proofs.Lists.{list_all-miss, list_all-more}
use Rattle.dc_report.proofs.grammar.all_told.Goals as goal

pub returns-then-not-is_told : goal.returns-then-not-is_told
returns-then-not-is_told c =
    let no : is_told c.in-Some.name.now ≡ false = grind arith in
    sym (list_all-miss is_told c.args.path.now c.loop-place.place c.in-Some.name.now (sym c.in-Some.ensures) no)

pub loop-place-preserved : goal.loop-place-preserved
loop-place-preserved c =
    let yes : is_told c.in-Some.name.now ≡ true = grind arith in
    list_all-more is_told c.args.path.now c.loop-place.place c.in-Some.name.now (sym c.in-Some.ensures) yes c.loop-place.invariant
