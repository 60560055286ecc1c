-- Where an option stands among the words.
use Rattle.std.proofs.Common.{◌≡◌, ◌≤◌, ℕ, zero, suc, ◌-◌, Bool, true, false, cond, List, [], ◌∷◌, take, drop, length, Option, Some, None, refl, sym, ap, subst, get_or, ◌∙◌, arith, rules}
use denote.Enum.Bare.{same_true}
use Rattle.dc_options.specs.contracts.table.Flag.{the_type}
use Rattle.dc_options.specs.Table.{flag_of, wanted, needs_of, count_of}
use Rattle.dc_options.specs.Words.{Head, heads, head_at, head_of, is_flag}
use Rattle.dc_options.specs.Given.{words_from}
use Rattle.dc_options.specs.Settings.{values_of, values_in}
use Rattle.dc_options.specs.declared.table.Flag.{Flag}
use Rattle.dc_options.proofs.WordLemmas.{rest_all}

pub is_flag-true : (f : Flag) (o : Option Flag) → is_flag f o ≡ true → o ≡ Some f
is_flag-true f None h = absurd (cc)
is_flag-true f (Some g) h = ap Some (same_true the_type (search rules) g f h)

-- where an option is given, and the words from there on
abbrev IsFound : Flag → Option Head → Option (List (List ℕ)) → Type 0
IsFound f head None = head ≡ None
IsFound f head (Some []) = ⊥
IsFound f head (Some (word ∷ words)) = (head ≡ Some (head_at word words)) × (flag_of word ≡ Some f)

found-at : (f : Flag) (word : List ℕ) (words : List (List ℕ)) (b : Bool) (other : Option Head) (rest : Option (List (List ℕ))) → is_flag f (flag_of word) ≡ b → IsFound f other rest → IsFound f (cond b (Some (head_at word words)) other) (cond b (Some (word ∷ words)) rest)
found-at f word words true other rest e h = (refl, is_flag-true f (flag_of word) e)
found-at f word words false other rest e h = h

found : (f : Flag) (n : ℕ) (words : List (List ℕ)) → IsFound f (head_of f (heads n words)) (words_from f n words)
found f n [] = refl
found f (suc n) (word ∷ words) = found f n words
found f zero (word ∷ words) = found-at f word words (is_flag f (flag_of word)) (head_of f (heads (wanted (flag_of word)) words)) (words_from f (wanted (flag_of word)) words) refl (found f (wanted (flag_of word)) words)

found-none : (f : Flag) (head : Option Head) (o : Option (List (List ℕ))) → o ≡ None → IsFound f head o → head ≡ None
found-none f head None e h = h
found-none f head (Some ws) e h = absurd (cc)

-- the option is not given
pub no_head : (f : Flag) (words : List (List ℕ)) → words_from f 0 words ≡ None → head_of f (heads 0 words) ≡ None
no_head f words e = found-none f (head_of f (heads 0 words)) (words_from f 0 words) e (found f 0 words)

pub no_values : (f : Flag) (words : List (List ℕ)) → words_from f 0 words ≡ None → values_of f (heads 0 words) ≡ []
unfolding values_of
no_values f words e = ap values_in (no_head f words e)

found-some : (f : Flag) (head : Option Head) (o : Option (List (List ℕ))) (ws : List (List ℕ)) → o ≡ Some ws → IsFound f head o → IsFound f head (Some ws)
found-some f head o ws e h = subst (IsFound f head) e h

pub found_here : (f : Flag) (words ws : List (List ℕ)) → words_from f 0 words ≡ Some ws → IsFound f (head_of f (heads 0 words)) (Some ws)
found_here f words ws e = found-some f (head_of f (heads 0 words)) (words_from f 0 words) ws e (found f 0 words)

-- the words from the option on are not none
pub found_word : (f : Flag) (words ws : List (List ℕ)) → words_from f 0 words ≡ Some ws → 1 ≤ length ws
found_word f words ws e = by ws (found_here f words ws e)
  where
    by : (xs : List (List ℕ)) → IsFound f (head_of f (heads 0 words)) (Some xs) → 1 ≤ length xs
    by [] h = absurd h
    by (x ∷ xs) h = omega arith

-- its values are the first that follow
pub found_values : (f : Flag) (words ws : List (List ℕ)) → words_from f 0 words ≡ Some ws → values_of f (heads 0 words) ≡ take (count_of (needs_of f)) (take (length ws - 1) (drop 1 ws))
unfolding values_of
found_values f words ws e = by ws (found_here f words ws e)
  where
    by : (xs : List (List ℕ)) → IsFound f (head_of f (heads 0 words)) (Some xs) → values_in (head_of f (heads 0 words)) ≡ take (count_of (needs_of f)) (take (length xs - 1) (drop 1 xs))
    by [] h = absurd h
    by (x ∷ xs) h = ap values_in h.0 ∙ ap (λ o. take (wanted o) xs) h.1 ∙ ap (λ ys. take (count_of (needs_of f)) ys) (sym (rest_all 1 (x ∷ xs)))

-- its word is the first
pub found_head : (f : Flag) (words ws : List (List ℕ)) (word : List ℕ) → words_from f 0 words ≡ Some ws → word ≡ get_or ws 0 word → (values : List (List ℕ)) × (head_of f (heads 0 words) ≡ Some (record { word = word; values = values }))
found_head f words ws word e is = by ws (found_here f words ws e) is
  where
    by : (xs : List (List ℕ)) → IsFound f (head_of f (heads 0 words)) (Some xs) → word ≡ get_or xs 0 word → (values : List (List ℕ)) × (head_of f (heads 0 words) ≡ Some (record { word = word; values = values }))
    by [] h i = absurd h
    by (x ∷ xs) h i = (take (wanted (flag_of x)) xs, h.0 ∙ ap (λ (w : List ℕ). Some (let hd : Head = record { word = w; values = take (wanted (flag_of x)) xs } in hd)) (sym i))
