-- What a report is written as.
use Rattle.std.specs.Prelude.{◌≡◌, ℕ, Bool, List, [], ◌∷◌, ◌++◌, Option, Some, None, Result, Ok, Err, ◌==◌, ◌||◌, ◌&&◌, not, if◌then◌else◌}
use Rattle.std.specs.List.{list_any, flat_map, find}
use Rattle.dc_path.specs.Paths.{Names, dotted_of}
use Rattle.dc_report.specs.declared.entries.Entry.{Entry}
use Rattle.dc_report.specs.declared.entries.Entry.TheVariants.{Deleted, Renamed, Created, Modified}
use Rattle.dc_report.specs.declared.writing.WriteReportError.{WriteReportError}
use Rattle.dc_report.specs.declared.writing.WriteReportError.TheVariants.{BadHead, Ambiguous}
use Rattle.dc_report.specs.Grammar.{has_arrow, is_heading}

-- a tab or a line feed
abbrev pub is_break : ℕ → Bool
is_break b = b == 9 || b == 10

-- a name that cannot be read back: it holds a tab, a line feed or ` -> `
unfoldable pub is_ambiguous : List ℕ → Bool
is_ambiguous name = list_any is_break name || has_arrow name

-- the line of an entry, without its line feed: `+`, `-`, `M` or `R`, a tab and the path, for a rename followed by ` -> ` and the new path
abbrev pub line_of : Entry → List ℕ
line_of (Created p) = 43 ∷ 9 ∷ dotted_of p
line_of (Deleted p) = 45 ∷ 9 ∷ dotted_of p
line_of (Modified p) = 77 ∷ 9 ∷ dotted_of p
line_of (Renamed a b) = 82 ∷ 9 ∷ (dotted_of a ++ (32 ∷ 45 ∷ 62 ∷ 32 ∷ dotted_of b))

-- the lines of entries, each with its line feed
abbrev pub lines_with_feeds : List Entry → List ℕ
lines_with_feeds entries = flat_map (λ entry. line_of entry ++ 10 ∷ []) entries

-- the paths of an entry, in the order of its line
abbrev pub paths_of : Entry → List Names
paths_of (Created p) = p ∷ []
paths_of (Deleted p) = p ∷ []
paths_of (Modified p) = p ∷ []
paths_of (Renamed a b) = a ∷ b ∷ []

-- a path with a name that cannot be read back
abbrev pub has_ambiguous : Names → Bool
has_ambiguous path = list_any is_ambiguous path

-- the first path with such a name
abbrev pub first_ambiguous : List Entry → Option Names
first_ambiguous entries = find has_ambiguous (flat_map paths_of entries)

abbrev pub unless_ambiguous : Option Names → List ℕ → Result (List ℕ) WriteReportError
unless_ambiguous None text = Ok text
unless_ambiguous (Some path) text = Err (Ambiguous path)

-- a heading that is one line
abbrev pub is_heading_line : List ℕ → Bool
is_heading_line heading = is_heading heading && not (list_any (λ b. b == 10) heading)

-- the text of a report with this heading, or why there is none
abbrev pub written : List ℕ → List Entry → Result (List ℕ) WriteReportError
written heading entries =
    if is_heading_line heading then unless_ambiguous (first_ambiguous entries) (heading ++ 10 ∷ lines_with_feeds entries) else Err BadHead

-- the error names this path
abbrev pub IsRefusedFor : WriteReportError → Option Names → Type 0
IsRefusedFor e None = ⊥
IsRefusedFor e (Some path) = e ≡ Ambiguous path
