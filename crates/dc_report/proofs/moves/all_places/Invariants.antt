-- What is known of the loop over the entries.
use Rattle.std.proofs.Common.{◌≡◌, take}
use Rattle.std.specs.BTreeSet.{contains}
use Rattle.std.specs.List.{filter_map, list_any}
use Rattle.dc_path.specs.Paths.{IsPath, Names, path_cmp, same_path}
use Rattle.dc_report.specs.Carries.{carries_in}
use Rattle.dc_report.specs.Carrying.{place_of}
use Rattle.dc_report.proofs.moves.all_places.Given as goal

-- the set has the places of the entries so far
abbrev pub invariant-loop-entry : goal.invariant-loop-entry
invariant-loop-entry l =
    (q : Names) → IsPath q → contains path_cmp l.places q ≡ list_any (λ c. same_path c q) (filter_map (place_of (carries_in l.carries.entries)) (take l.entry-index l.entries))
