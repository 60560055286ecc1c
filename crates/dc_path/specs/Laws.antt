-- What the definitions say together.
use Rattle.std.specs.Prelude.{◌≡◌, ◌++◌, ◌↔◌, Ok, Some}
use Rattle.std.specs.Cmp.{IsTotalOrder}
use Rattle.std.specs.FinMap.{IsAntisymmetric}
use Rattle.std.specs.Ordering.{is_lt}
use Rattle.dc_path.specs.Order.{path_lt}
use Rattle.dc_path.specs.Paths.{Names, IsPath, text_of, cut, path_cmp}
use Rattle.dc_path.specs.Reading.{path_from}

-- the text of a path reads as that path
abbrev pub TextReadsBack : Type 0
TextReadsBack = (names : Names) → IsPath names → path_from (text_of names) ≡ Ok names

-- what is cut from a path is what follows the front in it
abbrev pub CutIsRest : Type 0
CutIsRest = (front path rest : Names) → (cut front path ≡ Some rest) ↔ (path ≡ front ++ rest)

-- paths are in one order, in which only equal paths tie
abbrev pub PathsAreOrdered : Type 0
PathsAreOrdered = IsTotalOrder path_cmp × IsAntisymmetric path_cmp

-- the test of the order is the order
abbrev pub LessIsOrder : Type 0
LessIsOrder = (p q : Names) → path_lt p q ≡ is_lt (path_cmp p q)
