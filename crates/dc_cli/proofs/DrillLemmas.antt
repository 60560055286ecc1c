-- A drill: what its texts read as, and what its tree is.
use Rattle.std.proofs.Common.{◌≡◌, ◌<◌, ℕ, Bool, true, false, cond, ◌||◌, List, [], ◌∷◌, ◌++◌, map, length, codes, min, Option, Some, None, Ok, refl, sym, ap, ◌∙◌, subst, arith, rules, get_or, append_assoc, add-one, IfSome, zero, suc}
use Rattle.std.specs.List.{list_any, range_with_len}
use Rattle.std.specs.Str.{IsAscii, is_utf8}
use Rattle.std.proofs.lemmas.List.Folds.{list_any-append}
use Rattle.std.proofs.lemmas.List.FromFn.{map-range_with_len_more, length-map-range_with_len, get_or-map-range_with_len}
use Rattle.std.proofs.Math.Bool.{or-false}
use Rattle.std.proofs.lemmas.Str.{is_utf8-from_IsUtf8, IsUtf8-from_ascii}
use Rattle.std.proofs.Math.Path.{fun_ext}
use Rattle.dc_path.specs.Names.{is_name}
use Rattle.dc_path.specs.Paths.{Names, same_path}
use Rattle.dc_path.specs.Reading.{path_from}
use Rattle.dc_path.proofs.LawProofs.{text_reads_back}
use Rattle.dc_attrs.specs.Attributes.{default_file, default_dir}
use Rattle.dc_attrs.specs.Trees.{Dir, File, Tree}
use Rattle.dc_options.specs.Reading.{options}
use Rattle.dc_plain.specs.Laws.{WordsArePlain}
use Rattle.dc_plain.specs.Plain.{plain}
use Rattle.dc_cli.specs.Drills.{drill_source, drill_target, drill_tree, dir_path, file_path, file_bytes, file_or}
use Rattle.dc_cli.specs.DrillSteps.{way_tree, with_dirs, with_files}

-- ---- paths
ascii_name : (bs : List ℕ) → IsAscii bs → is_utf8 bs ≡ true
ascii_name bs a = is_utf8-from_IsUtf8 bs (IsUtf8-from_ascii bs a)

src_name : is_name (codes "src") ≡ true
unfolding is_name
src_name = rw (ascii_name (codes "src") (search rules)) refl

snapshot_name : is_name (codes ".snapshot") ≡ true
unfolding is_name
snapshot_name = rw (ascii_name (codes ".snapshot") (search rules)) refl

s1_name : is_name (codes "s1") ≡ true
unfolding is_name
s1_name = rw (ascii_name (codes "s1") (search rules)) refl

dst_name : is_name (codes "dst") ≡ true
unfolding is_name
dst_name = rw (ascii_name (codes "dst") (search rules)) refl

source_reads : path_from (codes "/src/.snapshot/s1") ≡ Ok drill_source
source_reads = text_reads_back drill_source (record { named = rw (src_name, snapshot_name, s1_name) refl; few = omega arith; short = omega arith })

target_reads : path_from (codes "/dst") ≡ Ok drill_target
target_reads = text_reads_back drill_target (record { named = rw dst_name refl; few = omega arith; short = omega arith })

-- the words of a drill ask for a plain copy
pub drill_asks : WordsArePlain → options (codes "/src/.snapshot/s1" ∷ codes "/dst" ∷ []) ≡ Ok (plain drill_source drill_target)
drill_asks law = law (codes "/src/.snapshot/s1") (codes "/dst") drill_source drill_target source_reads target_reads

-- ---- directories
pub dirs_more : (f : ℕ → Names) (n : ℕ) → map f (range_with_len 0 (suc n)) ≡ map f (range_with_len 0 n) ++ f n ∷ []
dirs_more f n = ap (λ (m : ℕ). map f (range_with_len 0 m)) (sym (add-one n)) ∙ map-range_with_len_more f 0 n n (omega arith)

pub dir_is : (dirs : List Names) (m k : ℕ) (dir : Names) → dirs ≡ map dir_path (range_with_len 0 m) → k < length dirs → dir ≡ get_or dirs k dir → dir ≡ dir_path k
dir_is dirs m k dir e h is =
    let within : k < m = omega (arith, h, ap length e, length-map-range_with_len dir_path 0 m) in
    is ∙ ap (λ (ds : List Names). get_or ds k dir) e ∙ get_or-map-range_with_len dir_path 0 m k k dir within (omega arith)

-- ---- the tree
pub of_told : (P : Tree → Type 0) (told : Option Tree) (t : Tree) → told ≡ Some t → IfSome told P → P t
of_told P told t e h = subst (λ (o : Option Tree). IfSome o P) e h

files_at : (seed n : ℕ) (t : Tree) (p : Names) → with_files seed n t p ≡ file_or seed n p (t p)
files_at seed zero t p = refl
files_at seed (suc n) t p = ap (cond (same_path (file_path n) p) (Some (File (file_bytes seed n) default_file))) (files_at seed n t p)

either : {A : Type 0} (a b : Bool) (x y : A) → cond a x (cond b x y) ≡ cond (b || a) x y
either true true x y = refl
either true false x y = refl
either false true x y = refl
either false false x y = refl

way_at : {A : Type 0} (a b c d : Bool) (x y : A) → cond d x (cond c x (cond b x (cond a x y))) ≡ cond (a || (b || (c || (d || false)))) x y
way_at true true true true x y = refl
way_at true true true false x y = refl
way_at true true false true x y = refl
way_at true true false false x y = refl
way_at true false true true x y = refl
way_at true false true false x y = refl
way_at true false false true x y = refl
way_at true false false false x y = refl
way_at false true true true x y = refl
way_at false true true false x y = refl
way_at false true false true x y = refl
way_at false true false false x y = refl
way_at false false true true x y = refl
way_at false false true false x y = refl
way_at false false false true x y = refl
way_at false false false false x y = refl

abbrev way_dirs : List Names
way_dirs = [] ∷ (codes "src" ∷ []) ∷ (codes "src" ∷ codes ".snapshot" ∷ []) ∷ drill_source ∷ []

any_more : (test : Names → Bool) (n : ℕ) → list_any test (way_dirs ++ map dir_path (range_with_len 0 (suc n))) ≡ (list_any test (way_dirs ++ map dir_path (range_with_len 0 n)) || test (dir_path n))
any_more test n =
    ap (λ (ds : List Names). list_any test (way_dirs ++ ds)) (dirs_more dir_path n)
    ∙ ap (list_any test) (sym (append_assoc way_dirs (map dir_path (range_with_len 0 n)) (dir_path n ∷ [])))
    ∙ list_any-append test (way_dirs ++ map dir_path (range_with_len 0 n)) (dir_path n ∷ [])
    ∙ ap (λ (b : Bool). list_any test (way_dirs ++ map dir_path (range_with_len 0 n)) || b) (or-false (test (dir_path n)))

dirs_at : (n : ℕ) (p : Names) → with_dirs n way_tree p ≡ cond (list_any (λ dir. same_path dir p) (way_dirs ++ map dir_path (range_with_len 0 n))) (Some (Dir default_dir)) None
dirs_at zero p = way_at (same_path [] p) (same_path (codes "src" ∷ []) p) (same_path (codes "src" ∷ codes ".snapshot" ∷ []) p) (same_path drill_source p) (Some (Dir default_dir)) None
dirs_at (suc n) p =
    ap (cond (same_path (dir_path n) p) (Some (Dir default_dir))) (dirs_at n p)
    ∙ either (same_path (dir_path n) p) (list_any (λ dir. same_path dir p) (way_dirs ++ map dir_path (range_with_len 0 n))) (Some (Dir default_dir)) None
    ∙ ap (λ (b : Bool). cond b (Some (Dir default_dir)) None) (sym (any_more (λ dir. same_path dir p) n))

pub tree_is : (seed count : ℕ) → with_files seed count (with_dirs (min count 4) way_tree) ≡ drill_tree seed count
tree_is seed count = fun_ext (λ p. files_at seed count (with_dirs (min count 4) way_tree) p ∙ ap (file_or seed count p) (dirs_at (min count 4) p))
