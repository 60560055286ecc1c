-- The laws of patterns.
use Rattle.std.proofs.Common.{◌≡◌, ℕ, List, Option, Some, None, IsTrue, IsSome, IsCharBoundary, is_some, refl, arith}
use Rattle.regex_syntax.specs.Brackets.{Nested}
use Rattle.regex_syntax.specs.Grammar.{Names}
use Rattle.regex.specs.Patterns.{Re, Match, find_str}
use Rattle.regex.proofs.ForCallers.{find_str_sound, find_str_complete}
use Rattle.dc_filter.specs.Forms.{reading, is_found, finds}
use Rattle.dc_filter.specs.Laws.{MatchesPart, FoundMatches, MatchesAreFound}

some_at : (o : Option Match) → IsTrue (is_some o) → (m : Match) × (o ≡ Some m)
some_at None h = cc
some_at (Some m) h = (m, refl)

some_of : (o : Option Match) → IsSome o → IsTrue (is_some o)
some_of None h = cc
some_of (Some m) h = refl

sound_by : (o : Option (Nested Re × Names)) (text : List ℕ) → IsTrue (is_found o text) → (start : ℕ) × (end : ℕ) × MatchesPart o text start end
sound_by None text h = cc
sound_by (Some (re, names)) text h =
    let found = some_at (find_str re.value text 0) h in
    (found.0.start, found.0.trace.end, (find_str_sound re.value text 0 found.0 found.1).1)

complete_by : (o : Option (Nested Re × Names)) (text : List ℕ) (start end : ℕ) → IsCharBoundary text start → MatchesPart o text start end → IsTrue (is_found o text)
complete_by None text start end cut h = absurd h
complete_by (Some (re, names)) text start end cut h = some_of _ (find_str_complete re.value text 0 start end (omega arith) cut h)

pub sound : FoundMatches
unfolding finds
sound line text h = sound_by (reading line) text h

pub complete : MatchesAreFound
unfolding finds
complete line text start end cut h = complete_by (reading line) text start end cut h

-- the laws, for the function that states them
pub ruleset laws = (sound, complete)
