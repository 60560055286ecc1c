-- What the definitions say together.
use Rattle.std.specs.Prelude.{ℕ, ◌≡◌, List}
use Rattle.dc_split.specs.Bundles.{AreUniform}

-- the rule of uniform bundles leaves one answer
abbrev pub UniformIsOne : Type 0
UniformIsOne = (lengths : List ℕ) (maps : ℕ) (bundles others : List (List ℕ)) → AreUniform lengths maps bundles → AreUniform lengths maps others → bundles ≡ others
