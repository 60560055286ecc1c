-- A place is added, unless it passes the limits.
use Rattle.std.proofs.Common.{◌≡◌, Option, Result, Ok, Some, ap, ◌∙◌}
use Rattle.std.specs.BTreeSet.{contains}
use Rattle.dc_path.specs.Paths.{Names, path_cmp}
use Rattle.dc_path.specs.declared.path.PathError.{PathError}
use Rattle.dc_report.specs.Carries.{carries_in}
use Rattle.dc_report.specs.Carrying.{place, place_of}
use Rattle.dc_report.proofs.PlaceSets.{limited_some, place_added, place_outside}
use Rattle.dc_report.proofs.moves.add_place.Goals as goal

pub returns-in_ok-insert-in-Ok-Some : goal.returns-in_ok-insert-in-Ok-Some
returns-in_ok-insert-in-Ok-Some c = λ q _.
    let cs = carries_in c.args.carries.now.entries in
    let found : place cs c.in-Created.path ≡ Some c.in-Ok-Some.found =
    limited_some (place cs c.in-Created.path) c.in-Ok-Some.found
    (c.in-Ok-Some.ensures ∙ ap (λ (o : Option Names). let r : Result (Option Names) PathError = Ok o in r) c.in-Ok-Some.field-0-is) in
    place_added (contains path_cmp c.args.places.now q) c.in-Ok-Some.found q (contains path_cmp c.insert.new.self q) (place_of cs c.args.entry.now)
    (c.in_ok-insert-in-Ok-Some.ensures.updates.0 q) (ap (place_of cs) c.in-Created.is ∙ found)

pub returns-in_ok-no_memory-in-Err : goal.returns-in_ok-no_memory-in-Err
returns-in_ok-no_memory-in-Err c = λ q is.
    let cs = carries_in c.args.carries.now.entries in
    let outside = place_outside (contains path_cmp c.args.places.now q) q (place cs c.in-Created.path) c.in-Err.error (c.in-Err.ensures c.in_ok-no_memory-in-Err.ensures) is in
    rw c.in-Created.is outside
