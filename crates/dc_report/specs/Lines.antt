-- Texts without the line feeds at their end.
use Rattle.std.specs.Prelude.{ℕ, List, [], ◌∷◌, ◌==◌, if◌then◌else◌}

-- a byte in front of a text without line feeds at its end
abbrev pub onto_unended : ℕ → List ℕ → List ℕ
onto_unended b [] = if b == 10 then [] else b ∷ []
onto_unended b (c ∷ text) = b ∷ c ∷ text

-- the text without the line feeds at its end
abbrev pub unended : List ℕ → List ℕ
unended [] = []
unended (b ∷ text) = onto_unended b (unended text)
