-- A part that is added to files in a row, as the code works it out.
use Rattle.std.specs.Prelude.{ℕ, Bool, false, cond, nat_eq, List, [], ◌∷◌, ◌++◌}
use Rattle.dc_commit.specs.declared.landing.Ready.{Ready}
use Rattle.dc_join.specs.Joining.{Bit}

module _ {P : Type 0} where
  -- the last file is this item
  abbrev pub is_last : ℕ → List (Ready P) → Bool
  is_last item [] = false
  is_last item (f ∷ []) = nat_eq f.item item
  is_last item (f ∷ g ∷ fs) = is_last item (g ∷ fs)

  -- the file with one part
  abbrev pub begun : ℕ → P → Ready P
  begun item part = record { item = item; parts = part ∷ [] }

  -- the file with a part more at its end
  abbrev pub longer : P → Ready P → Ready P
  longer part f = record { item = f.item; parts = f.parts ++ part ∷ [] }

  -- the last file has a part more at its end
  abbrev pub with_more : P → List (Ready P) → List (Ready P)
  with_more part [] = []
  with_more part (f ∷ []) = longer part f ∷ []
  with_more part (f ∷ g ∷ fs) = f ∷ with_more part (g ∷ fs)

  -- a part goes to the last file where that is its item, and else begins a file
  abbrev pub added : ℕ → P → List (Ready P) → List (Ready P)
  added item part files = cond (is_last item files) (with_more part files) (files ++ begun item part ∷ [])

  -- one after the other
  abbrev pub grouped : List (Ready P) → List (Bit P) → List (Ready P)
  grouped files [] = files
  grouped files (b ∷ bits) = grouped (added b.item b.part files) bits
