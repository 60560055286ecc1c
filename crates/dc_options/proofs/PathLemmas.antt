-- Options that may be given together have a path.
use Rattle.std.proofs.Common.{◌≡◌, ℕ, Bool, true, false, cond, ◌&&◌, ◌||◌, [], ◌∷◌, nat_lt, Option, Some, None, Result, Ok, refl, subst, ap, ◌∙◌}
use Rattle.std.specs.Option.{option_or}
use Rattle.dc_options.specs.Sets.{mode_sets, report_sets, file_sets, path_sets, first_set, refused_set}
use Rattle.dc_options.specs.Reading.{unless}
use Rattle.dc_options.specs.declared.table.Flag.{Flag}
use Rattle.dc_options.specs.declared.table.Flag.TheVariants as flag
use Rattle.dc_options.specs.declared.errors.OptionError.{OptionError}
use Rattle.dc_options.specs.declared.errors.OptionError.TheVariants as error

no_paths-by : (b c : Bool) → first_set ((b && nat_lt 1 0, error.FilesWithSources) ∷ (nat_lt 0 (cond b 1 2), error.NoPaths) ∷ (c && nat_lt 2 0, error.OneSource) ∷ []) ≡ Some error.NoPaths
no_paths-by true c = refl
no_paths-by false c = refl

no_paths : (has : Flag → Bool) → first_set (path_sets has 0) ≡ Some error.NoPaths
unfolding path_sets
no_paths has = no_paths-by (has flag.Files) (has flag.Diff || has flag.Rdiff)

last_of : (a b c : Option OptionError) (e : OptionError) → ◌≡◌ {A = Result (Unit {0}) OptionError} (unless (option_or a (option_or b (option_or c (Some e)))) tt) (Ok tt) → ⊥
last_of (Some x) b c e h = cc
last_of None (Some x) c e h = cc
last_of None None (Some x) e h = cc
last_of None None None e h = cc

pub some_path : (has : Flag → Bool) (n : ℕ) → ◌≡◌ {A = Result (Unit {0}) OptionError} (unless (refused_set has n) tt) (Ok tt) → n ≡ 0 → ⊥
unfolding refused_set
some_path has n h e =
    last_of (first_set (mode_sets has)) (first_set (report_sets has)) (first_set (file_sets has)) error.NoPaths
    (subst (λ (o : Option OptionError). ◌≡◌ {A = Result (Unit {0}) OptionError} (unless (option_or (first_set (mode_sets has)) (option_or (first_set (report_sets has)) (option_or (first_set (file_sets has)) o))) tt) (Ok tt))
    (ap (λ k. first_set (path_sets has k)) e ∙ no_paths has) h)
