-- Where no file is cut, a plan has no more pieces than items.
use Rattle.std.proofs.Common.{ℕ, ◌+◌, ◌≤◌, Bool, true, false, cond, List, [], ◌∷◌, length, arith, length-append}
use Rattle.dc_listing.specs.Entries.{Entry}
use Rattle.dc_decide.specs.Plans.{Decision, Decisions}
use Rattle.dc_decide.specs.declared.action.Action.{Action}
use Rattle.dc_decide.specs.declared.action.Action.TheVariants as action
use Rattle.dc_pieces.specs.Cutting.{pieces_by, pieces_of, pieces_from, plan_pieces}

one_by : (item : ℕ) (entry : Entry) (act : Action) → length (pieces_by 0 item entry act) ≤ 1
one_by item entry action.Folder = omega arith
one_by item entry action.Skip = omega arith
one_by item entry action.Replace = omega arith
one_by item entry (action.Extend from) = omega arith

one_of : (item : ℕ) (entry : Entry) (act : Action) (out : Bool) → length (cond out [] (pieces_by 0 item entry act)) ≤ 1
one_of item entry act true = omega arith
one_of item entry act false = one_by item entry act

few_from : (item : ℕ) (ds : List Decision) → length (pieces_from 0 item ds) ≤ length ds
few_from item [] = omega arith
few_from item (d ∷ ds) =
    let one = one_of item d.item d.action d.out in
    let rest = few_from (item + 1) ds in
    let both = length-append (pieces_of 0 item d) (pieces_from 0 (item + 1) ds) in
    omega (arith, one, rest, both)

pub few_pieces : (plan : Decisions) → length (plan_pieces 0 plan) ≤ length plan.items
few_pieces plan = few_from 0 plan.items
