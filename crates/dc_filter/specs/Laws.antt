-- What it means that a pattern is found.
use Rattle.std.specs.Prelude.{ℕ, List, Option, Some, None, IsTrue, IsCharBoundary}
use Rattle.regex_syntax.specs.Brackets.{Nested}
use Rattle.regex_syntax.specs.Grammar.{Names}
use Rattle.regex.specs.Patterns.{Re, Matches}
use Rattle.dc_filter.specs.Forms.{reading, finds}

-- what was read matches the part of the text from the one place to the other
abbrev pub MatchesPart : Option (Nested Re × Names) → List ℕ → ℕ → ℕ → Type 0
MatchesPart None text start end = ⊥
MatchesPart (Some (re, names)) text start end = Matches text re.value start end

-- where a line is found in a text, it matches a part of it
abbrev pub FoundMatches : Type 0
FoundMatches = (line text : List ℕ) → IsTrue (finds line text) → (start : ℕ) × (end : ℕ) × MatchesPart (reading line) text start end

-- where a line matches a part of a text that starts between characters, it is found there
abbrev pub MatchesAreFound : Type 0
MatchesAreFound = (line text : List ℕ) (start end : ℕ) → IsCharBoundary text start → MatchesPart (reading line) text start end → IsTrue (finds line text)
