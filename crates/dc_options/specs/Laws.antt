-- What the definitions say together of the order of words, of letters and of values.
use Rattle.std.specs.Prelude.{◌≡◌, ℕ, zero, suc, true, ◌||◌, List, [], ◌∷◌, ◌++◌, length, codes, Some, Ok}
use Rattle.std.specs.Option.{is_some}
use Rattle.dc_options.specs.Table.{flag_of, wanted}
use Rattle.dc_options.specs.Words.{heads}
use Rattle.dc_options.specs.Settings.{Settings}
use Rattle.dc_options.specs.Reading.{options}
use Rattle.dc_options.specs.declared.table.Flag.TheVariants as flag

-- how many values are still owed behind words, where so many are owed before them
abbrev pub owed : ℕ → List (List ℕ) → ℕ
owed n [] = n
owed zero (word ∷ words) = owed (wanted (flag_of word)) words
owed (suc n) (word ∷ words) = owed n words

-- a word has all its values
abbrev pub IsWhole : List ℕ → List (List ℕ) → Type 0
IsWhole word values = length values ≡ wanted (flag_of word)

-- a word that begins with `-p` is that option, whatever follows
abbrev pub LettersAreOneOption : Type 0
LettersAreOneOption = (letters : List ℕ) → flag_of (codes "-p" ++ letters) ≡ Some flag.Keep

-- values are the words that follow, whatever they begin with
abbrev pub ValuesFollow : Type 0
ValuesFollow = (word : List ℕ) (values rest : List (List ℕ)) → IsWhole word values → heads 0 ((word ∷ values) ++ rest) ≡ record { word = word; values = values } ∷ heads 0 rest

-- an option with its values may change places with what stands beside it
abbrev pub OrderIsFree : Type 0
OrderIsFree =
    (before after : List (List ℕ)) (x y : List ℕ) (xs ys : List (List ℕ)) (s : Settings)
    → owed 0 before ≡ 0 → IsWhole x xs → IsWhole y ys → (is_some (flag_of x) || is_some (flag_of y)) ≡ true
    → options (before ++ ((x ∷ xs) ++ ((y ∷ ys) ++ after))) ≡ Ok s → options (before ++ ((y ∷ ys) ++ ((x ∷ xs) ++ after))) ≡ Ok s
