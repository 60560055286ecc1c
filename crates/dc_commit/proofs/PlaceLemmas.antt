-- Places of a plan's items are within the limits of a path.
use Rattle.std.proofs.Common.{◌≡◌, ℕ, ◌<◌, true, nat_le, List, length, get_or, arith}
use Rattle.std.proofs.lemmas.Bool.Decides.{nat_tests}
use Rattle.std.specs.Cmp.{first_so, second_so}
use Rattle.std.specs.List.{list_all}
use Rattle.dc_path.specs.Paths.{Names, IsWithin, joined}
use Rattle.dc_decide.specs.Plans.{Decision, is_placed}
use Rattle.dc_commit.specs.Settings.{place_of}
use Rattle.dc_commit.proofs.StepLemmas.{all_at}

pub item_within : (base : Names) (items : List Decision) (i : ℕ) (d : Decision) → d ≡ get_or items i d → i < length items → list_all (is_placed base) items ≡ true → IsWithin (place_of base d)
item_within base items i d is h all =
    let fit = all_at (is_placed base) items i d is h all in
    let a = first_so (nat_le (length (place_of base d)) 256) (nat_le (length (joined (place_of base d))) 4096) fit in
    let b = second_so (nat_le (length (place_of base d)) 256) (nat_le (length (joined (place_of base d))) 4096) fit in
    record { few = grind (arith, nat_tests, a); short = grind (arith, nat_tests, b) }
