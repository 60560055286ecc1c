-- How a line of a report spells an entry (HDFS Snapshots, "Get Snapshots Difference Report").
use Rattle.std.specs.Prelude.{ℕ, Bool, List, [], ◌∷◌, Option, Some, None, Result, Ok, Err, drop, codes, nat_eq, ◌==◌, ◌&&◌, not, if◌then◌else◌}
use Rattle.std.specs.List.{list_all, list_any, starts_with, ends_with}
use Rattle.std.specs.Option.{is_some, option_map}
use Rattle.std.specs.Str.{is_utf8}
use Rattle.std.specs.Cmp.Lexicographic.{pointwise}
use Rattle.dc_path.specs.Names.{same_name}
use Rattle.dc_path.specs.Paths.{Names, dotted_of, is_root}
use Rattle.dc_path.specs.Reading.{path_from}
use Rattle.dc_path.specs.declared.path.PathError.{PathError}
use Rattle.dc_report.specs.declared.entries.Entry.{Entry}
use Rattle.dc_report.specs.declared.entries.Entry.TheVariants.{Deleted, Renamed, Created, Modified}

-- a text, as what stands before and behind a place in it
abbrev pub Split : Type 0
Split = List ℕ × List ℕ

-- nothing, and what follows the ` -> ` that the text begins with
abbrev pub arrow_at : List ℕ → Option Split
arrow_at text = if starts_with nat_eq text (codes " -> ") then Some ([], drop 4 text) else None

-- a later place, and else the front
abbrev pub later_arrow : ℕ → Option Split → Option Split → Option Split
later_arrow b (Some parts) front = Some (b ∷ parts.0, parts.1)
later_arrow b None front = front

-- what stands before and behind the last ` -> ` of a text
abbrev pub last_arrow : List ℕ → Option Split
last_arrow [] = None
last_arrow (b ∷ text) = later_arrow b (last_arrow text) (arrow_at (b ∷ text))

abbrev pub has_tab : List ℕ → Bool
has_tab text = list_any (λ b. b == 9) text

abbrev pub has_arrow : List ℕ → Bool
has_arrow text = is_some (last_arrow text)

-- a name that a report may have: it is not `.snapshot`, and holds no tab and no ` -> `
unfoldable pub is_told : List ℕ → Bool
is_told name = not (pointwise nat_eq name (codes ".snapshot")) && not (has_tab name) && not (has_arrow name)

-- the path, where it is spelled like this and its names may stand in a report
abbrev pub if_spelt : List ℕ → Result Names PathError → Option Names
if_spelt text (Ok path) = if same_name (dotted_of path) text && list_all is_told path then Some path else None
if_spelt text (Err e) = None

-- the path that a text spells: `.`, or `./` and names with one `/` between two
unfoldable pub path_in : List ℕ → Option Names
path_in text = if same_name text (codes ".") then Some [] else if_spelt text (path_from (drop 1 text))

-- a path that is not the root
abbrev pub below_root : Option Names → Option Names
below_root None = None
below_root (Some path) = if is_root path then None else Some path

abbrev pub renamed_by : Option Names → Option Names → Option Entry
renamed_by (Some from) (Some to) = Some (Renamed from to)
renamed_by (Some from) None = None
renamed_by None to = None

abbrev pub renamed_at : Option Split → Option Entry
renamed_at None = None
renamed_at (Some parts) = renamed_by (below_root (path_in parts.0)) (below_root (path_in parts.1))

-- what the text behind `+`, `-`, `M` or `R` and a tab spells
unfoldable pub entry_by : ℕ → List ℕ → Option Entry
entry_by tag text =
    if tag == 43 then option_map Created (below_root (path_in text)) else
    if tag == 45 then option_map Deleted (below_root (path_in text)) else
    if tag == 77 then option_map Modified (path_in text) else
    if tag == 82 then renamed_at (last_arrow text) else None

-- the entry that a line spells; none where it is of no such form
abbrev pub entry_from : List ℕ → Option Entry
entry_from [] = None
entry_from (tag ∷ []) = None
entry_from (tag ∷ tab ∷ text) = if tab == 9 && is_utf8 text then entry_by tag text else None

-- the first line: `Difference between `, anything, and `:`
unfoldable pub is_heading : List ℕ → Bool
is_heading line = is_utf8 line && starts_with nat_eq line (codes "Difference between ") && ends_with nat_eq line (codes ":")
