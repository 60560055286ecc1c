-- The renamed items by new path, and the walk down to a new path.
use Rattle.std.specs.Prelude.{ℕ, ◌≡◌, Bool, false, cond, not, ◌&&◌, ◌||◌, List, [], ◌∷◌, ◌++◌, map, Option, Some, None}
use Rattle.std.specs.Option.{is_some}
use Rattle.std.specs.BTreeMap.{BTreeMap, get, insert_entry}
use Rattle.std.specs.BTreeSet.{contains}
use Rattle.dc_path.specs.Paths.{Names, is_above, path_cmp, same_path}
use Rattle.dc_report.specs.Carrying.{Carry, Has, Place, items_of, new_gt, sort_by}
use Rattle.dc_report.specs.Moves.{label_of}
use Rattle.dc_report.specs.declared.entries.Move.{Move}
use Rattle.dc_report.specs.declared.entries.Move.TheVariants.{Make, Shift}
use Rattle.dc_report.specs.declared.moves.Ground.{Ground}

-- new paths with what f tells of their items, the last first
abbrev pub ascending : {V : Type 0} → (Place → V) → List Place → List (Names × V)
ascending f [] = []
ascending f (n ∷ ns) = ascending f ns ++ (n.new, f n) ∷ []

-- the number of an item in the stage
abbrev pub label_in : Place → ℕ
label_in n = n.label

-- where an item stood
abbrev pub old_in : Place → Option Names
old_in n = Some n.old

-- the new paths of renamed items, ascending, each with the number of the item in the stage
abbrev pub landings_of : List Carry → List (Names × ℕ)
landings_of cs = ascending label_in (sort_by new_gt (items_of cs))

-- the same, each with the old path of the item
abbrev pub sources_of : List Carry → List (Names × Option Names)
sources_of cs = ascending old_in (sort_by new_gt (items_of cs))

-- no two carries have one new path
abbrev pub NewsDiffer : List Carry → Type 0
NewsDiffer [] = Unit {0}
NewsDiffer (c ∷ cs) = ((d : Carry) (b : Names) → Has cs d → c.new ≡ Some b → d.new ≡ Some b → ⊥) × NewsDiffer cs

-- the entries with a new path more, where there is one
abbrev pub landed : {V : Type 0} → Option Names → V → List (Names × V) → List (Names × V)
landed None value entries = entries
landed (Some new) value entries = insert_entry path_cmp entries new value

-- what is created stands at this path
abbrev pub is_at : Option Names → Names → Bool
is_at None q = false
is_at (Some c) q = same_path c q

-- the path is a new path of the landings
abbrev pub is_landing : BTreeMap Names ℕ → Names → Bool
is_landing landings q = is_some (get path_cmp landings q)

-- the path is a proper prefix of the new path before, where there is one
abbrev pub is_above_last : Option Names → Names → Bool
is_above_last None q = false
is_above_last (Some new) q = is_above q new

-- whether a path is to be made, by whether its parent is: a place is, and else a new path is not
abbrev pub is_fresh_at : Ground → Names → Bool → Bool
is_fresh_at g q before = contains path_cmp g.places q || (not (is_landing g.landings q) && before)

-- the paths to be made from front on down the rest, but for the last and for those above the new path before
abbrev pub made_along : Ground → Option Names → Bool → Names → Names → List Names
made_along g last fresh front [] = []
made_along g last fresh front (x ∷ rest) =
    cond (is_fresh_at g front fresh && not (is_above_last last front)) (front ∷ []) [] ++ made_along g last (is_fresh_at g front fresh) (front ++ x ∷ []) rest

-- the moves of a landing: its parents are made, and the item comes from the stage
abbrev pub landing_moves : List ℕ → Ground → Option Names → Names × ℕ → List Move
landing_moves stage g last n = map Make (made_along g last false [] n.0) ++ Shift (stage ∷ label_of n.1 ∷ []) n.0 ∷ []

-- the moves of all landings, each behind the one before
abbrev pub landings_moves : List ℕ → Ground → Option Names → List (Names × ℕ) → List Move
landings_moves stage g last [] = []
landings_moves stage g last (n ∷ ns) = landing_moves stage g last n ++ landings_moves stage g (Some n.0) ns
