-- A name that cannot be read back decides.
use Rattle.std.proofs.Common.{◌≡◌, false, true, sym, arith}
use Rattle.dc_report.specs.Writing.{is_ambiguous}
use Rattle.dc_report.proofs.Lists.{list_any-more}
use Rattle.dc_report.proofs.writing.has_ambiguous.Goals as goal
use Rattle.std.proofs.lemmas.Map.Keys.{any_passes_from_place}

pub returns-then-is_ambiguous : goal.returns-then-is_ambiguous
returns-then-is_ambiguous c =
    let yes : is_ambiguous c.in-Some.name.now ≡ true = grind arith in
    sym (any_passes_from_place is_ambiguous c.args.path.now c.loop-place.place c.in-Some.name.now (sym c.in-Some.ensures) yes)

pub loop-place-preserved : goal.loop-place-preserved
loop-place-preserved c =
    let clear : is_ambiguous c.in-Some.name.now ≡ false = grind arith in
    list_any-more is_ambiguous c.args.path.now c.loop-place.place c.in-Some.name.now (sym c.in-Some.ensures) clear c.loop-place.invariant
