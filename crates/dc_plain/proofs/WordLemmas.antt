-- Two words that are paths ask for a plain copy.
use Rattle.std.proofs.Common.{◌≡◌, ℕ, Bool, true, false, List, [], ◌∷◌, ◌==◌, None, Ok, Err, if◌then◌else◌, refl, sym, ap, ◌∙◌, arith}
use Rattle.dc_path.specs.Numbers.{number_in}
use Rattle.dc_path.specs.Paths.{Names}
use Rattle.dc_path.specs.Reading.{path_from, path_of, parts_of}
use Rattle.dc_path.specs.declared.path.PathError.TheVariants.{Relative}
use Rattle.dc_options.specs.Reading.{options}
use Rattle.dc_options.specs.Table.{flag_of, flags, word_of, needs_of}
use Rattle.dc_options.specs.Sets.{refused_set, mode_sets, report_sets, file_sets, path_sets}
use Rattle.dc_options.specs.Settings.{settings_with, values_of, number_or}
use Rattle.dc_plain.specs.Plain.{plain}
use Rattle.dc_plain.specs.Laws.{WordsArePlain}

-- ---- a word that is a path begins with `/`
abbrev StartsAtRoot : List ℕ → Type 0
StartsAtRoot word = (bytes : List ℕ) × (word ≡ 47 ∷ bytes)

root_by : (byte : ℕ) (bytes : List ℕ) (path : Names) (is : Bool) → (byte == 47) ≡ is → (if is then path_of (parts_of (byte ∷ bytes)) else Err Relative) ≡ Ok path → StartsAtRoot (byte ∷ bytes)
root_by byte bytes path true e h = let same : byte ≡ 47 = grind (arith) in (bytes, ap (λ b. b ∷ bytes) same)
root_by byte bytes path false e h = absurd (cc)

starts_at_root : (word : List ℕ) (path : Names) → path_from word ≡ Ok path → StartsAtRoot word
starts_at_root [] path h = absurd (cc)
starts_at_root (byte ∷ bytes) path h = root_by byte bytes path _ refl h

-- so it is no option
no_option : (bytes : List ℕ) → flag_of (47 ∷ bytes) ≡ None
unfolding flag_of flags word_of
no_option bytes = refl

words_read : (a b : List ℕ) (source target : Names) → path_from (47 ∷ a) ≡ Ok source → path_from (47 ∷ b) ≡ Ok target → options ((47 ∷ a) ∷ (47 ∷ b) ∷ []) ≡ Ok (plain source target)
unfolding flag_of flags word_of needs_of number_in refused_set mode_sets report_sets file_sets path_sets settings_with values_of number_or
words_read a b source target e f = rw (e, f) refl

pub words_are_plain : WordsArePlain
words_are_plain one other source target e f =
    let a = starts_at_root one source e in
    let b = starts_at_root other target f in
    ap (λ word. options (word ∷ other ∷ [])) a.1 ∙ ap (λ word. options ((47 ∷ a.0) ∷ word ∷ [])) b.1
    ∙ words_read a.0 b.0 source target (sym (ap path_from a.1) ∙ e) (sym (ap path_from b.1) ∙ f)
