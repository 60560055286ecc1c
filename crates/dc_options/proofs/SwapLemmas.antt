-- Two neighbours that change places: what is refused, given and set stays the same.
use Rattle.std.proofs.Common.{◌≡◌, ℕ, Bool, true, false, cond, ◌||◌, List, [], ◌∷◌, ◌++◌, length, nat_lt, Option, Some, None, refl, sym, ap, ◌∙◌, subst, rules}
use Rattle.std.proofs.Math.Bool.{or_comm}
use Rattle.std.proofs.lemmas.List.Folds.{list_any-append}
use Rattle.std.specs.List.{list_any, cons_option}
use Rattle.std.specs.Option.{option_or, is_some}
use denote.Enum.Bare.{same_true, true_same}
use Rattle.dc_path.specs.Paths.{Names}
use Rattle.dc_options.specs.contracts.table.Flag.{the_type}
use Rattle.dc_options.specs.Table.{flag_of, needs_of, count_of, same_flag, is_among}
use Rattle.dc_options.specs.Values.{refused_value}
use Rattle.dc_options.specs.Words.{Head, refused_by, refused_head, first_refused, given, paths, path_by, is_flag, head_of}
use Rattle.dc_options.specs.declared.table.Flag.{Flag}
use Rattle.dc_options.specs.declared.errors.OptionError.{OptionError}
use Rattle.dc_options.specs.declared.errors.OptionError.TheVariants as error
use Rattle.dc_options.proofs.LookLemmas.{is_flag-true}
use Rattle.std.proofs.lemmas.Bool.{or_parts}

-- ---- options are compared both ways
same_flip : (f g : Flag) (b : Bool) → same_flag f g ≡ false → same_flag g f ≡ b → b ≡ false
same_flip f g false e h = refl
same_flip f g true e h = let k : false ≡ true = sym e ∙ true_same the_type f g (sym (same_true the_type (search rules) g f h)) in absurd (cc)

-- two words are not one option
abbrev pub Apart : Option Flag → Option Flag → Type 0
Apart o p = (f g : Flag) → o ≡ Some f → p ≡ Some g → same_flag f g ≡ false

-- ---- the options before matter as a set
abbrev Alike : List Flag → List Flag → Type 0
Alike fs gs = (f : Flag) → is_among f fs ≡ is_among f gs

alike_more : (fs gs more : List Flag) → Alike fs gs → Alike (fs ++ more) (gs ++ more)
alike_more fs gs more h f = list_any-append (λ g. same_flag g f) fs more ∙ ap (λ b. b || is_among f more) (h f) ∙ sym (list_any-append (λ g. same_flag g f) gs more)

alike_by : (o : Option Flag) (h : Head) (fs gs : List Flag) → Alike fs gs → refused_by fs o h ≡ refused_by gs o h
alike_by None h fs gs a = refl
alike_by (Some f) h fs gs a = ap (λ b. cond b (Some (error.Repeated h.word)) (cond (nat_lt (length h.values) (count_of (needs_of f))) (Some (error.NeedsValue h.word)) (refused_value (needs_of f) h.word h.values))) (a f)

alike_first : (hs : List Head) (fs gs : List Flag) → Alike fs gs → first_refused fs hs ≡ first_refused gs hs
alike_first [] fs gs a = refl
alike_first (h ∷ hs) fs gs a =
    ap (λ why. option_or why (first_refused (fs ++ cons_option (flag_of h.word) []) hs)) (alike_by (flag_of h.word) h fs gs a)
    ∙ ap (option_or (refused_head gs h)) (alike_first hs (fs ++ cons_option (flag_of h.word) []) (gs ++ cons_option (flag_of h.word) []) (alike_more fs gs (cons_option (flag_of h.word) []) a))

or_swap : (a b c : Bool) → ((a || b) || c) ≡ ((a || c) || b)
or_swap true b c = refl
or_swap false b c = or_comm b c

alike_swap : (fs xs ys : List Flag) → Alike ((fs ++ xs) ++ ys) ((fs ++ ys) ++ xs)
alike_swap fs xs ys f =
    let t : Flag → Bool = λ g. same_flag g f in
    list_any-append t (fs ++ xs) ys ∙ ap (λ b. b || list_any t ys) (list_any-append t fs xs)
    ∙ or_swap (list_any t fs) (list_any t xs) (list_any t ys)
    ∙ sym (list_any-append t (fs ++ ys) xs ∙ ap (λ b. b || list_any t xs) (list_any-append t fs ys))

-- ---- none is refused
none_first : (o p : Option OptionError) → option_or o p ≡ None → o ≡ None
none_first None p e = refl
none_first (Some x) p e = absurd (cc)

none_second : (o p : Option OptionError) → option_or o p ≡ None → p ≡ None
none_second None p e = e
none_second (Some x) p e = absurd (cc)

both_none : (o p : Option OptionError) → o ≡ None → p ≡ None → option_or o p ≡ None
both_none o p e h = ap (λ x. option_or x p) e ∙ h

cond_false : (b : Bool) (x : OptionError) (o : Option OptionError) → cond b (Some x) o ≡ None → (b ≡ false) × (o ≡ None)
cond_false true x o e = absurd (cc)
cond_false false x o e = (refl, e)

-- a word that is not refused behind more options is not refused behind fewer
fewer : (o : Option Flag) (h : Head) (fs more : List Flag) → refused_by (fs ++ more) o h ≡ None → refused_by fs o h ≡ None
fewer None h fs more e = e
fewer (Some f) h fs more e =
    let k = cond_false (is_among f (fs ++ more)) (error.Repeated h.word) _ e in
    let a : is_among f fs ≡ false = (or_parts (is_among f fs) (is_among f more) (sym (list_any-append (λ g. same_flag g f) fs more) ∙ k.0)).0 in
    ap (λ b. cond b (Some (error.Repeated h.word)) (cond (nat_lt (length h.values) (count_of (needs_of f))) (Some (error.NeedsValue h.word)) (refused_value (needs_of f) h.word h.values))) a ∙ k.1

-- it is not refused behind another option that is not its own
beside : (o p : Option Flag) (h : Head) (fs : List Flag) → Apart o p → refused_by fs o h ≡ None → refused_by (fs ++ cons_option p []) o h ≡ None
beside None p h fs apart e = e
beside (Some f) p h fs apart e =
    let k = cond_false (is_among f fs) (error.Repeated h.word) _ e in
    let a : is_among f (fs ++ cons_option p []) ≡ false = list_any-append (λ g. same_flag g f) fs (cons_option p []) ∙ ap (λ b. b || is_among f (cons_option p [])) k.0 ∙ alone p apart in
    ap (λ b. cond b (Some (error.Repeated h.word)) (cond (nat_lt (length h.values) (count_of (needs_of f))) (Some (error.NeedsValue h.word)) (refused_value (needs_of f) h.word h.values))) a ∙ k.1
  where
    alone : (p : Option Flag) → Apart (Some f) p → is_among f (cons_option p []) ≡ false
    alone None apart = refl
    alone (Some g) apart = ap (λ b. b || false) (same_flip f g (same_flag g f) (apart f g refl refl) refl)

among_last : (f : Flag) (fs : List Flag) (g : Flag) → is_among g (fs ++ f ∷ []) ≡ false → same_flag f g ≡ false
among_last f fs g e = (or_parts (same_flag f g) false (or_parts (is_among g fs) (same_flag f g || false) (sym (list_any-append (λ h. same_flag h g) fs (f ∷ [])) ∙ e)).1).0

-- two words of which none is refused are not one option
apart_by : (o p : Option Flag) (k : Head) (fs : List Flag) → refused_by (fs ++ cons_option o []) p k ≡ None → Apart o p
apart_by o p k fs e f g of pg =
    among_last f fs g (cond_false (is_among g (fs ++ f ∷ [])) (error.Repeated k.word) _
    (subst (λ (q : Option Flag). refused_by (fs ++ f ∷ []) q k ≡ None) pg (subst (λ (q : Option Flag). refused_by (fs ++ cons_option q []) p k ≡ None) of e))).0

-- ---- two neighbours change places
swap_two : (h k : Head) (hs : List Head) (fs : List Flag) → first_refused fs (h ∷ k ∷ hs) ≡ None → first_refused fs (k ∷ h ∷ hs) ≡ None
swap_two h k hs fs e =
    let o = flag_of h.word in let p = flag_of k.word in
    let fo : List Flag = fs ++ cons_option o [] in let fp : List Flag = fs ++ cons_option p [] in
    let eh = none_first (refused_head fs h) (first_refused fo (k ∷ hs)) e in
    let rest = none_second (refused_head fs h) (first_refused fo (k ∷ hs)) e in
    let ek = none_first (refused_head fo k) (first_refused (fo ++ cons_option p []) hs) rest in
    let last = none_second (refused_head fo k) (first_refused (fo ++ cons_option p []) hs) rest in
    both_none (refused_head fs k) (first_refused fp (h ∷ hs)) (fewer p k fs (cons_option o []) ek)
    (both_none (refused_head fp h) (first_refused (fp ++ cons_option o []) hs) (beside o p h fs (apart_by o p k fs ek) eh)
    (alike_first hs (fp ++ cons_option o []) (fo ++ cons_option p []) (alike_swap fs (cons_option p []) (cons_option o [])) ∙ last))

pub swap_first : (before : List Head) (h k : Head) (after : List Head) (fs : List Flag) → first_refused fs (before ++ h ∷ k ∷ after) ≡ None → first_refused fs (before ++ k ∷ h ∷ after) ≡ None
swap_first [] h k after fs e = swap_two h k after fs e
swap_first (b ∷ before) h k after fs e =
    let more : List Flag = fs ++ cons_option (flag_of b.word) [] in
    both_none (refused_head fs b) (first_refused more (before ++ k ∷ h ∷ after)) (none_first (refused_head fs b) (first_refused more (before ++ h ∷ k ∷ after)) e)
    (swap_first before h k after more (none_second (refused_head fs b) (first_refused more (before ++ h ∷ k ∷ after)) e))

pub apart_in : (before : List Head) (h k : Head) (after : List Head) (fs : List Flag) → first_refused fs (before ++ h ∷ k ∷ after) ≡ None → Apart (flag_of h.word) (flag_of k.word)
apart_in [] h k after fs e =
    let fo : List Flag = fs ++ cons_option (flag_of h.word) [] in
    apart_by (flag_of h.word) (flag_of k.word) k fs
    (none_first (refused_head fo k) (first_refused (fo ++ cons_option (flag_of k.word) []) after) (none_second (refused_head fs h) (first_refused fo (k ∷ after)) e))
apart_in (b ∷ before) h k after fs e =
    let more : List Flag = fs ++ cons_option (flag_of b.word) [] in
    apart_in before h k after more (none_second (refused_head fs b) (first_refused more (before ++ h ∷ k ∷ after)) e)

-- ---- what is given stays
find_two : {A : Type 0} (a b : Bool) (x y : A) (o : Option A) → (a ≡ true → b ≡ true → ⊥) → cond a (Some x) (cond b (Some y) o) ≡ cond b (Some y) (cond a (Some x) o)
find_two true true x y o n = absurd (n refl refl)
find_two true false x y o n = refl
find_two false b x y o n = refl

not_both : (o p : Option Flag) (f : Flag) → Apart o p → is_flag f o ≡ true → is_flag f p ≡ true → ⊥
not_both o p f apart e h = let k : false ≡ true = sym (apart f f (is_flag-true f o e) (is_flag-true f p h)) ∙ true_same the_type f f refl in cc

pub swap_head : (before : List Head) (h k : Head) (after : List Head) (f : Flag) → Apart (flag_of h.word) (flag_of k.word) → head_of f (before ++ h ∷ k ∷ after) ≡ head_of f (before ++ k ∷ h ∷ after)
swap_head [] h k after f apart = find_two (is_flag f (flag_of h.word)) (is_flag f (flag_of k.word)) h k (head_of f after) (not_both (flag_of h.word) (flag_of k.word) f apart)
swap_head (b ∷ before) h k after f apart = ap (λ o. cond (is_flag f (flag_of b.word)) (Some b) o) (swap_head before h k after f apart)

among_two : (f : Flag) (o p : Option Flag) (fs : List Flag) → is_among f (cons_option o (cons_option p fs)) ≡ is_among f (cons_option p (cons_option o fs))
among_two f None p fs = refl
among_two f (Some g) None fs = refl
among_two f (Some g) (Some h) fs = swapped (same_flag g f) (same_flag h f) (is_among f fs)
  where
    swapped : (a b c : Bool) → (a || (b || c)) ≡ (b || (a || c))
    swapped true true c = refl
    swapped true false c = refl
    swapped false b c = refl

among_cons : (f : Flag) (o : Option Flag) (fs gs : List Flag) → is_among f fs ≡ is_among f gs → is_among f (cons_option o fs) ≡ is_among f (cons_option o gs)
among_cons f None fs gs e = e
among_cons f (Some g) fs gs e = ap (λ b. same_flag g f || b) e

pub swap_given : (before : List Head) (h k : Head) (after : List Head) (f : Flag) → is_among f (given (before ++ h ∷ k ∷ after)) ≡ is_among f (given (before ++ k ∷ h ∷ after))
swap_given [] h k after f = among_two f (flag_of h.word) (flag_of k.word) (given after)
swap_given (b ∷ before) h k after f = among_cons f (flag_of b.word) (given (before ++ h ∷ k ∷ after)) (given (before ++ k ∷ h ∷ after)) (swap_given before h k after f)

paths_two : (o p : Option Flag) (x y : List ℕ) (ps : List Names) → (is_some o || is_some p) ≡ true → cons_option (path_by o x) (cons_option (path_by p y) ps) ≡ cons_option (path_by p y) (cons_option (path_by o x) ps)
paths_two None None x y ps e = absurd (cc)
paths_two None (Some g) x y ps e = refl
paths_two (Some f) p x y ps e = refl

pub swap_paths : (before : List Head) (h k : Head) (after : List Head) → (is_some (flag_of h.word) || is_some (flag_of k.word)) ≡ true → paths (before ++ h ∷ k ∷ after) ≡ paths (before ++ k ∷ h ∷ after)
swap_paths [] h k after e = paths_two (flag_of h.word) (flag_of k.word) h.word k.word (paths after) e
swap_paths (b ∷ before) h k after e = ap (cons_option (path_by (flag_of b.word) b.word)) (swap_paths before h k after e)
