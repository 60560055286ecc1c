-- Words, read one after the other.
use Rattle.std.proofs.Common.{◌≡◌, ℕ, zero, suc, ◌+◌, ◌-◌, ◌<◌, ◌≤◌, List, [], ◌∷◌, ◌++◌, take, drop, length, get_or, Option, Some, None, Ok, Err, refl, sym, ap, ◌∙◌, append_assoc, drop-cons, add-one, length-drop, arith}
use Rattle.std.proofs.lemmas.List.{append-nil, take_all}
use Rattle.std.specs.List.{cons_option}
use Rattle.std.specs.Option.{option_or}
use Rattle.dc_path.specs.Paths.{Names}
use Rattle.dc_options.specs.Table.{flag_of, wanted}
use Rattle.dc_options.specs.Words.{Head, heads, head_at, refused_head, first_refused, given, paths, path_by}
use Rattle.dc_options.specs.Given.{given_by, given_after}
use Rattle.dc_options.specs.Reading.{unless}
use Rattle.dc_options.specs.declared.table.Flag.{Flag}
use Rattle.dc_options.specs.declared.words.Given.{Given}
use Rattle.dc_options.specs.declared.errors.OptionError.{OptionError}

-- one item more, and then the others
one_more : {A : Type 0} (xs : List A) (o : Option A) (ys : List A) → xs ++ cons_option o ys ≡ (xs ++ cons_option o []) ++ ys
one_more xs None ys = ap (λ zs. zs ++ ys) (sym (append-nil xs))
one_more xs (Some x) ys = sym (append_assoc xs (x ∷ []) ys)

-- ---- a word that is no value
pub given_refused : (flags : List Flag) (before : List Names) (h : Head) (hs : List Head) (e : OptionError) → refused_head flags h ≡ Some e → given_after flags before (h ∷ hs) ≡ Err e
given_refused flags before h hs e r =
    ap (λ why. unless (option_or why (first_refused (flags ++ cons_option (flag_of h.word) []) hs)) (let all : Given = record { flags = flags ++ given (h ∷ hs); paths = before ++ paths (h ∷ hs) } in all)) r

pub given_more : (flags : List Flag) (before : List Names) (h : Head) (hs : List Head) → refused_head flags h ≡ None
    → given_after flags before (h ∷ hs) ≡ given_after (flags ++ cons_option (flag_of h.word) []) (before ++ cons_option (path_by (flag_of h.word) h.word) []) hs
given_more flags before h hs r =
    let more = flags ++ cons_option (flag_of h.word) [] in
    ap (λ why. unless (option_or why (first_refused more hs)) (let all : Given = record { flags = flags ++ given (h ∷ hs); paths = before ++ paths (h ∷ hs) } in all)) r
    ∙ ap (λ fs. unless (first_refused more hs) (let all : Given = record { flags = fs; paths = before ++ paths (h ∷ hs) } in all)) (one_more flags (flag_of h.word) (given hs))
    ∙ ap (λ ps. unless (first_refused more hs) (let all : Given = record { flags = more ++ given hs; paths = ps } in all)) (one_more before (path_by (flag_of h.word) h.word) (paths hs))

-- ---- the words from a place on
pub heads_word : (i : ℕ) (words : List (List ℕ)) (word : List ℕ) → i < length words → word ≡ get_or words i word → heads 0 (drop i words) ≡ head_at word (drop (i + 1) words) ∷ heads (wanted (flag_of word)) (drop (i + 1) words)
heads_word i words word h is = rw add-one (ap (heads 0) (drop-cons words i word h ∙ ap (λ (w : List ℕ). w ∷ drop (suc i) words) (sym is)))

-- all that follows a place
pub rest_all : (k : ℕ) (xs : List (List ℕ)) → take (length xs - k) (drop k xs) ≡ drop k xs
rest_all k xs = take_all (length xs - k) (drop k xs) (omega (arith, length-drop k xs))

unless-err : {A : Type 0} (o : Option OptionError) (x : A) (e : OptionError) → unless o x ≡ Err e → o ≡ Some e
unless-err None x e h = absurd (cc)
unless-err (Some f) x e h = cc

unless-ok : {A : Type 0} (o : Option OptionError) (x y : A) → unless o x ≡ Ok y → (o ≡ None) × (x ≡ y)
unless-ok None x y h = (refl, cc)
unless-ok (Some f) x y h = absurd (cc)

-- the word at a place, where no word there is a value
here : (words : List (List ℕ)) (i skip : ℕ) (word : List ℕ) → i < length words → word ≡ get_or words i word → skip ≤ 0 → heads skip (drop i words) ≡ head_at word (drop (i + 1) words) ∷ heads (wanted (flag_of word)) (drop (i + 1) words)
here words i zero word h is z = heads_word i words word h is
here words i (suc n) word h is z = absurd (omega (arith, z))

pub word_stops : (words : List (List ℕ)) (i skip : ℕ) (word : List ℕ) (flags : List Flag) (before : List Names) (e : OptionError) → i < length words → word ≡ get_or words i word → skip ≤ 0
    → given_by (heads 0 words) ≡ given_after flags before (heads skip (drop i words))
    → unless (refused_head flags (head_at word (take (length words - (i + 1)) (drop (i + 1) words)))) (wanted (flag_of word)) ≡ Err e
    → given_by (heads 0 words) ≡ Err e
word_stops words i skip word flags before e h is z goes r =
    goes ∙ ap (given_after flags before) (here words i skip word h is z)
    ∙ given_refused flags before (head_at word (drop (i + 1) words)) (heads (wanted (flag_of word)) (drop (i + 1) words)) e
    (ap (λ after. refused_head flags (head_at word after)) (sym (rest_all (i + 1) words)) ∙ unless-err _ _ e r)

pub word_goes : (words : List (List ℕ)) (i skip n : ℕ) (word : List ℕ) (flags more : List Flag) (before others : List Names) → i < length words → word ≡ get_or words i word → skip ≤ 0
    → given_by (heads 0 words) ≡ given_after flags before (heads skip (drop i words))
    → unless (refused_head flags (head_at word (take (length words - (i + 1)) (drop (i + 1) words)))) (wanted (flag_of word)) ≡ Ok n
    → more ≡ flags ++ cons_option (flag_of word) [] → others ≡ before ++ cons_option (path_by (flag_of word) word) []
    → given_by (heads 0 words) ≡ given_after more others (heads n (drop (i + 1) words))
word_goes words i skip n word flags more before others h is z goes r em eo =
    let u = unless-ok _ _ n r in
    goes ∙ ap (given_after flags before) (here words i skip word h is z)
    ∙ given_more flags before (head_at word (drop (i + 1) words)) (heads (wanted (flag_of word)) (drop (i + 1) words))
    (ap (λ after. refused_head flags (head_at word after)) (sym (rest_all (i + 1) words)) ∙ u.0)
    ∙ ap (λ fs. given_after fs (before ++ cons_option (path_by (flag_of word) word) []) (heads (wanted (flag_of word)) (drop (i + 1) words))) (sym em)
    ∙ ap (λ ps. given_after more ps (heads (wanted (flag_of word)) (drop (i + 1) words))) (sym eo)
    ∙ ap (λ k. given_after more others (heads k (drop (i + 1) words))) u.1
