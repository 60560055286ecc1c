-- The laws of options.
use Rattle.std.proofs.Common.{◌≡◌, ◌≤◌, ◌-◌, ℕ, zero, suc, Bool, true, ◌||◌, List, [], ◌∷◌, ◌++◌, length, take, get_or, Option, Some, None, Result, Ok, refl, sym, ap, ◌∙◌, unwrap_or, arith}
use Rattle.std.proofs.Math.Path.{fun_ext}
use Rattle.std.proofs.Math.Seq.{take-append_seam}
use Rattle.std.proofs.lemmas.List.{take-append-le}
use Rattle.std.specs.Option.{option_or, is_some}
use Rattle.dc_path.specs.Paths.{Names}
use Rattle.dc_options.specs.Table.{flag_of, wanted, needs_of, is_among}
use Rattle.dc_options.specs.Words.{Head, heads, head_at, first_refused, given, paths, head_of}
use Rattle.dc_options.specs.Sets.{refused_set}
use Rattle.dc_options.specs.Settings.{Settings, settings_with, settings, keep_in, values_in, values_of, number_or, number_by, path_in, sync_in, names_in, strategy_in}
use Rattle.dc_options.specs.Values.{first}
use Rattle.dc_options.specs.Reading.{unless, refused}
use Rattle.dc_options.specs.Laws.{LettersAreOneOption, ValuesFollow, OrderIsFree, IsWhole, owed}
use Rattle.dc_options.specs.declared.table.Flag.{Flag}
use Rattle.dc_options.specs.declared.table.Flag.TheVariants as flag
use Rattle.dc_options.specs.declared.errors.OptionError.{OptionError}
use Rattle.dc_options.proofs.SwapLemmas.{swap_first, apart_in, swap_head, swap_given, swap_paths}

pub letters_are_one : LettersAreOneOption
unfolding flag_of
letters_are_one letters = refl

-- ---- words and their values
after_values : (values rest : List (List ℕ)) (n : ℕ) → length values ≡ n → heads n (values ++ rest) ≡ heads 0 rest
after_values [] rest n h = ap (λ k. heads k rest) (sym h)
after_values (v ∷ values) rest zero h = absurd (omega (arith, h))
after_values (v ∷ values) rest (suc n) h = after_values values rest n (omega (arith, h))

pub values_follow : ValuesFollow
values_follow word values rest h =
    ap (λ vs. (let hd : Head = record { word = word; values = vs } in hd) ∷ heads (wanted (flag_of word)) (values ++ rest))
    (ap (λ n. take n (values ++ rest)) (sym h) ∙ take-append_seam values rest)
    ∙ ap (λ hs. (let hd : Head = record { word = word; values = values } in hd) ∷ hs) (after_values values rest (wanted (flag_of word)) h)

-- no more is owed than stands there
owed_room : (words : List (List ℕ)) (n : ℕ) → owed n words ≡ 0 → n ≤ length words
owed_room words zero h = omega arith
owed_room [] (suc n) h = absurd (omega (arith, h))
owed_room (word ∷ words) (suc n) h = let k = owed_room words n h in omega (arith, k)

-- words behind which nothing is owed stand for themselves
heads_front : (before rest : List (List ℕ)) (n : ℕ) → owed n before ≡ 0 → heads n (before ++ rest) ≡ heads n before ++ heads 0 rest
heads_front [] rest n h = ap (λ k. heads k rest) h
heads_front (word ∷ before) rest (suc n) h = heads_front before rest n h
heads_front (word ∷ before) rest zero h =
    ap (λ vs. (let hd : Head = record { word = word; values = vs } in hd) ∷ heads (wanted (flag_of word)) (before ++ rest))
    (take-append-le (wanted (flag_of word)) before rest (owed_room before (wanted (flag_of word)) h))
    ∙ ap (λ hs. head_at word before ∷ hs) (heads_front before rest (wanted (flag_of word)) h)

two_heads : (before after : List (List ℕ)) (x y : List ℕ) (xs ys : List (List ℕ)) → owed 0 before ≡ 0 → IsWhole x xs → IsWhole y ys
    → heads 0 (before ++ ((x ∷ xs) ++ ((y ∷ ys) ++ after))) ≡ heads 0 before ++ record { word = x; values = xs } ∷ record { word = y; values = ys } ∷ heads 0 after
two_heads before after x y xs ys o wx wy =
    heads_front before ((x ∷ xs) ++ ((y ∷ ys) ++ after)) 0 o
    ∙ ap (λ hs. heads 0 before ++ hs) (values_follow x xs ((y ∷ ys) ++ after) wx ∙ ap (λ hs. (let hd : Head = record { word = x; values = xs } in hd) ∷ hs) (values_follow y ys after wy))

-- ---- what is set, by which options are given and where
by_looks : (Flag → Bool) → (Flag → Option Head) → List Names → Settings
by_looks has at ps = record {
  ignore = has flag.Ignore;
  keep = keep_in (at flag.Keep);
  maps = number_at flag.Maps 20;
  update = has flag.Update;
  overwrite = has flag.Overwrite;
  append = has flag.Append;
  delete = has flag.Delete;
  skip_crc = has flag.SkipCrc;
  atomic = has flag.Atomic;
  tmp = path_in (values_in (at flag.Tmp));
  sync = sync_in (names_in (values_in (at flag.Diff))) (names_in (values_in (at flag.Rdiff)));
  list = path_in (values_in (at flag.Files));
  filters = path_in (values_in (at flag.Filters));
  kills = path_in (values_in (at flag.Kills));
  strategy = strategy_in (values_in (at flag.Strategy));
  blocks = number_at flag.Blocks 0;
  buffer = number_at flag.Buffer 8192;
  sources = take (length ps - 1) ps;
  target = get_or ps (length ps - 1) [];
}
  where
    number_at : Flag → ℕ → ℕ
    number_at f other = unwrap_or (number_by (needs_of f) (first (values_in (at f)))) other

settings_by : (hs : List Head) → settings hs ≡ by_looks (λ f. is_among f (given hs)) (λ f. head_of f hs) (paths hs)
unfolding settings_with number_or values_of by_looks
settings_by hs = refl

none_of : (o : Option OptionError) (s t : Settings) → unless o s ≡ Ok t → (o ≡ None) × (s ≡ t)
none_of None s t e = (refl, cc)
none_of (Some x) s t e = absurd (cc)

first_none : (o p : Option OptionError) → option_or o p ≡ None → (o ≡ None) × (p ≡ None)
first_none None p e = (refl, e)
first_none (Some x) p e = absurd (cc)

same_set : (hs ks : List Head) → ((f : Flag) → is_among f (given hs) ≡ is_among f (given ks)) → paths hs ≡ paths ks → refused_set (λ f. is_among f (given hs)) (length (paths hs)) ≡ refused_set (λ f. is_among f (given ks)) (length (paths ks))
same_set hs ks g p =
    let same : ◌≡◌ {A = Flag → Bool} (λ f. is_among f (given hs)) (λ f. is_among f (given ks)) = fun_ext g in
    ap (λ has. refused_set has (length (paths hs))) same ∙ ap (λ ps. refused_set (λ f. is_among f (given ks)) (length ps)) p

same_settings : (hs ks : List Head) → ((f : Flag) → is_among f (given hs) ≡ is_among f (given ks)) → ((f : Flag) → head_of f hs ≡ head_of f ks) → paths hs ≡ paths ks → settings hs ≡ settings ks
same_settings hs ks g a p =
    let same : ◌≡◌ {A = Flag → Bool} (λ f. is_among f (given hs)) (λ f. is_among f (given ks)) = fun_ext g in
    let there : ◌≡◌ {A = Flag → Option Head} (λ f. head_of f hs) (λ f. head_of f ks) = fun_ext a in
    settings_by hs
    ∙ ap (λ has. by_looks has (λ f. head_of f hs) (paths hs)) same
    ∙ ap (λ at. by_looks (λ f. is_among f (given ks)) at (paths hs)) there
    ∙ ap (by_looks (λ f. is_among f (given ks)) (λ f. head_of f ks)) p
    ∙ sym (settings_by ks)

swap_accepted : (before : List Head) (h k : Head) (after : List Head) (s : Settings) → (is_some (flag_of h.word) || is_some (flag_of k.word)) ≡ true
    → unless (refused (before ++ h ∷ k ∷ after)) (settings (before ++ h ∷ k ∷ after)) ≡ Ok s → unless (refused (before ++ k ∷ h ∷ after)) (settings (before ++ k ∷ h ∷ after)) ≡ Ok s
swap_accepted before h k after s one e =
    let hs : List Head = before ++ h ∷ k ∷ after in let ks : List Head = before ++ k ∷ h ∷ after in
    let n = none_of (refused hs) (settings hs) s e in
    let f = first_none (first_refused [] hs) (refused_set (λ f. is_among f (given hs)) (length (paths hs))) n.0 in
    let apart = apart_in before h k after [] f.0 in
    let p = swap_paths before h k after one in
    let fine : refused ks ≡ None = ap (λ o. option_or o (refused_set (λ f. is_among f (given ks)) (length (paths ks)))) (swap_first before h k after [] f.0) ∙ sym (same_set hs ks (swap_given before h k after) p) ∙ f.1 in
    ap (λ o. unless o (settings ks)) fine
    ∙ ap Ok (sym (same_settings hs ks (swap_given before h k after) (λ f. swap_head before h k after f apart) p) ∙ n.1)

pub order_is_free : OrderIsFree
order_is_free before after x y xs ys s o wx wy one e =
    let swap : List Head → Result Settings OptionError = λ hs. unless (refused hs) (settings hs) in
    ap swap (two_heads before after y x ys xs o wy wx)
    ∙ swap_accepted (heads 0 before) (record { word = x; values = xs }) (record { word = y; values = ys }) (heads 0 after) s one
    (sym (ap swap (two_heads before after x y xs ys o wx wy)) ∙ e)

-- the laws that the contract states
pub ruleset laws = (letters_are_one, values_follow, order_is_free)
