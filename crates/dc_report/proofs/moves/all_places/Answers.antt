-- An entry more.
use Rattle.std.proofs.Common.{◌≡◌, List, Some, length, refl, subst}
use Rattle.std.proofs.lemmas.Option.{slice_get_read}
use Rattle.std.specs.BTreeSet.{contains}
use Rattle.std.specs.List.{slice_get}
use Rattle.dc_path.specs.Paths.{path_cmp}
use Rattle.dc_report.specs.Carries.{carries_in}
use Rattle.dc_report.specs.Carrying.{place_of}
use Rattle.dc_report.specs.declared.entries.Entry.{Entry}
use Rattle.dc_report.proofs.PlaceSets.{places_more}
use Rattle.dc_report.proofs.moves.all_places.Goals as goal

pub loop-entry-preserved : goal.loop-entry-preserved
loop-entry-preserved c = λ q is.
    let items = c.as_slice-entry-items.result.now in
    let i = c.loop-entry.entry-index in
    let e = c.entry-item.result in
    let got = slice_get_read items (length items) i e refl c.loop-entry-test.true c.entry-item.is in
    let at = subst (λ (es : List Entry). slice_get es i ≡ Some e) c.as_slice-entry-items.ensures got in
    places_more (place_of (carries_in c.args.carries.now.entries)) c.args.entries.now i e q (contains path_cmp c.loop-entry.places q) (contains path_cmp c.add_place.new.places q) at
    (c.loop-entry.invariant q is) (c.in_ok-add_place.ensures q is)
