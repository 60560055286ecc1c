-- The number of an item is written as a name, and its path passes no limit.
use Rattle.std.proofs.Common.{◌≡◌, rules, rules}
use Rattle.dc_report.specs.Moves.{label_of}
use Rattle.dc_report.proofs.Labels.{label_decimal}
use Rattle.dc_report.proofs.LabelNames.{label_is_name, slot_within}
use Rattle.dc_report.proofs.moves.slot.Goals as goal

pub name_of-requires : goal.name_of-requires
name_of-requires c =
    let l = label_decimal c.args.label c.ranges.label.fits in
    let e : c.as_str.result.now ≡ label_of c.args.label = search (rules, l) in
    rw e (label_is_name c.args.label c.ranges.label.fits)

pub child_within-requires : goal.child_within-requires
child_within-requires c =
    let l = label_decimal c.args.label c.ranges.label.fits in
    let e : c.in_ok-name.name ≡ label_of c.args.label = search (rules, l) in
    rw (c.requires, e) (slot_within c.args.label c.ranges.label.fits)

pub returns : goal.returns
returns c =
    let l = label_decimal c.args.label c.ranges.label.fits in
    let e : c.in_ok-name.name ≡ label_of c.args.label = search (rules, l) in
    let h = c.child_within.ensures in
    rw (c.requires, e) at h
