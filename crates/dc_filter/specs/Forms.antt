-- Which lines are patterns, and in which texts they are found, by the grammar and the meaning of Rust's `regex`.
use Rattle.std.specs.Prelude.{◌≡◌, ◌-◌, ℕ, Bool, false, nat_le, ◌&&◌, List, ◌++◌, length, take, drop, map, Option, None, Some, is_some, chars, codes}
use Rattle.std.specs.List.{list_any}
use Rattle.std.specs.Str.{is_utf8}
use Rattle.regex_syntax.specs.Brackets.{Nested}
use Rattle.regex_syntax.specs.Grammar.{Names, read}
use Rattle.regex.specs.Patterns.{Re, default_config, find_str}

-- what the grammar reads in a line, under the default options
abbrev pub reading : List ℕ → Option (Nested Re × Names)
reading line = read default_config (chars line)

-- what was read is nested at most 250 deep
abbrev pub is_shallow : Option (Nested Re × Names) → Bool
is_shallow None = false
is_shallow (Some (re, names)) = nat_le re.depth 250

-- the grammar reads the line, nested at most 250 deep
unfoldable pub is_pattern : List ℕ → Bool
is_pattern line = is_shallow (reading line)

-- what was read is found in the text
abbrev pub is_found : Option (Nested Re × Names) → List ℕ → Bool
is_found None text = false
is_found (Some (re, names)) text = is_some (find_str re.value text 0)

-- the pattern of the line matches somewhere in the text
unfoldable pub finds : List ℕ → List ℕ → Bool
finds line text = is_found (reading line) text

-- the wrapped form of a line, which matches whole texts alone: `\A(?:` line `)\z`
abbrev pub wrapped : List ℕ → List ℕ
wrapped line = codes "\\A(?:" ++ line ++ codes ")\\z"

-- the line is UTF-8, and it and its wrapped form are patterns
unfoldable pub is_good_line : List ℕ → Bool
is_good_line line = is_utf8 line && is_pattern line && is_pattern (wrapped line)

-- the wrapped form of some line is found in the text
abbrev pub any_finds : List (List ℕ) → List ℕ → Bool
any_finds lines text = list_any (λ line. finds (wrapped line) text) lines

-- the line in a wrapped form
abbrev pub unwrapped : List ℕ → List ℕ
unwrapped form = take (length form - 8) (drop 5 form)

-- the lines in wrapped forms
abbrev pub lines_in : List (List ℕ) → List (List ℕ)
lines_in forms = map unwrapped forms

-- these are the wrapped forms of lines
abbrev pub AreForms : List (List ℕ) → Type 0
AreForms forms = forms ≡ map wrapped (lines_in forms)
