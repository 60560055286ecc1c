-- From the clauses of `regex` to the words for lines.
use Rattle.std.proofs.Common.{◌≡◌, ◌≢◌, ℕ, ◌<◌, ◌≤◌, List, length, get_or, Bool, true, false, Option, None, Some, IsSomeAnd, IfSome, is_some, IsUtf8, refl, inl, inr}
use Rattle.std.specs.Str.{is_utf8}
use Rattle.std.proofs.lemmas.Str.{is_utf8-from_IsUtf8, IsUtf8-from_is_utf8}
use Rattle.std.proofs.lemmas.Bool.{le-leb, lt-leb}
use Rattle.regex_syntax.specs.Brackets.{Nested}
use Rattle.regex_syntax.specs.Grammar.{Names, group_count}
use Rattle.regex_syntax.specs.Verdict.{Reads, Refuses}
use Rattle.regex_syntax.specs.Captures.{SameCaptures}
use Rattle.regex_syntax.specs.declared.error.ErrorKind.{ErrorKind}
use Rattle.regex_syntax.specs.declared.error.ErrorKind.TheVariants.{OutOfMemory}
use Rattle.regex.specs.Failures.{IsPattern}
use Rattle.regex.specs.Patterns.{Re, default_config, find_str}
use Rattle.regex.specs.Strings.{regex_pattern, regex_source, regex_config, IsReadFromSource}
use Rattle.regex.specs.declared.string.regex.Regex.{Regex}
use Rattle.regex.proofs.ForCallers.{is_match_alike}
use Rattle.dc_filter.specs.Forms.{reading, is_shallow, is_pattern, is_found, finds}

-- what `regex` says of a reading: it is within the limit, and the tree matches as it does
abbrev IsReadAs : Option (Nested Re × Names) → Re → Names → Type 0
IsReadAs o tree names = IsSomeAnd o (λ (re, found). (re.depth ≤ 250) × SameCaptures tree re.value × (names ≡ found) × (group_count tree ≤ length names))

-- what was read so is within the limit
shallow_by : (o : Option (Nested Re × Names)) (tree : Re) (names : Names) → IsReadAs o tree names → is_shallow o ≡ true
shallow_by None tree names h = absurd h
shallow_by (Some (re, found)) tree names h = le-leb re.depth 250 h.0

-- what was built is a pattern
pub is_pattern-of_read : (r : Regex) → regex_config r ≡ default_config → IsReadFromSource r → is_pattern (regex_source r) ≡ true
unfolding Reads is_pattern
is_pattern-of_read r config is_read = shallow_by _ (regex_pattern r) _ (rw config at is_read)

-- what is too big to build is a pattern
pub is_pattern-of_kind : (line : List ℕ) → IsPattern default_config line → is_pattern line ≡ true
unfolding Reads is_pattern
is_pattern-of_kind line h = shallow_by _ _ h.1 h.2

-- the tree is found where what was read is
found_by : (text : List ℕ) → ((k : ℕ) → get_or text k 0 < 256) → (o : Option (Nested Re × Names)) (tree : Re) (names : Names) →
    IsReadAs o tree names → is_some (find_str tree text 0) ≡ is_found o text
found_by text bytes None tree names h = absurd h
found_by text bytes (Some (re, found)) tree names h = is_match_alike h.1 text bytes true 0

-- what was built matches where its line is found
pub finds-of_read : (r : Regex) → regex_config r ≡ default_config → IsReadFromSource r → (text : List ℕ) →
    ((k : ℕ) → get_or text k 0 < 256) → is_some (find_str (regex_pattern r) text 0) ≡ finds (regex_source r) text
unfolding Reads finds
finds-of_read r config is_read text bytes = found_by text bytes _ (regex_pattern r) _ (rw config at is_read)

-- what is nested too deep, and what the grammar does not read, is no pattern
deep_by : (o : Option (Nested Re × Names)) → IfSome o (λ (re, _). 250 < re.depth) → is_shallow o ≡ false
deep_by None h = refl
deep_by (Some (re, names)) h = lt-leb re.depth 250 h

none_by : (o : Option (Nested Re × Names)) → o ≡ None → is_shallow o ≡ false
none_by None h = refl
none_by (Some x) h = cc

-- what is refused, and not for memory, is no pattern
pub no_pattern : (line : List ℕ) (kind : ErrorKind) → Refuses default_config line kind → kind ≢ OutOfMemory → is_pattern line ≡ false
unfolding Refuses is_pattern
no_pattern line kind h other = elim h [
  | inl e ↦ absurd (other e)
  | inr (inl none) ↦ none_by (reading line) none
  | inr (inr (e, deep)) ↦ deep_by (reading line) deep
]

-- what is not UTF-8, as a test
pub not_utf8 : (bs : List ℕ) → ¬ (IsUtf8 bs) → is_utf8 bs ≡ false
not_utf8 bs h = by (is_utf8 bs) refl
  where
    by : (b : Bool) → is_utf8 bs ≡ b → b ≡ false
    by false e = refl
    by true e = absurd (h (IsUtf8-from_is_utf8 bs e))

-- what the search knows of bytes that are a text or none
pub ruleset texts = (is_utf8-from_IsUtf8, not_utf8)
