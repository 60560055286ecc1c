-- What a drill copies: few paths, and short ones; so nothing refuses it.
use Rattle.std.proofs.Common.{◌≡◌, ◌<◌, ◌≤◌, ◌%◌, ℕ, zero, suc, Bool, true, false, cond, ◌||◌, List, [], ◌∷◌, ◌++◌, map, length, codes, min, Option, Some, None, refl, sym, ap, ◌∙◌, subst, arith, length-append}
use Rattle.std.specs.Fmt.{decimal}
use Rattle.std.specs.Option.{is_some}
use Rattle.std.specs.List.{list_any, range_with_len}
use Rattle.std.proofs.lemmas.Bool.{or_right}
use Rattle.std.proofs.lemmas.Bool.Decides.{nat_tests}
use Rattle.std.proofs.lemmas.Fmt.{length-decimal-le}
use Rattle.std.proofs.lemmas.List.Folds.{list_any-append}
use Rattle.dc_path.specs.Found.{has_path}
use Rattle.dc_path.specs.Paths.{Names, same_path, joined, fits}
use Rattle.dc_path.proofs.Joins.{length-joined-append, length-joined-one}
use Rattle.dc_path.proofs.PathLemmas.{same_path-true}
use Rattle.dc_attrs.specs.Attributes.{default_file, default_dir}
use Rattle.dc_attrs.specs.Trees.{Node, Dir, File, IsTree, is_hidden}
use Rattle.dc_plain.specs.Plain.{IsListable, IsPlain, copied_from}
use Rattle.dc_cli.specs.Drills.{drill_source, drill_target, drill_tree, dir_path, file_bytes, file_or}
use Rattle.dc_cli.proofs.DrillLemmas.{dirs_more}

-- ---- the paths of a drill under its directory
abbrev dir_rel : ℕ → Names
dir_rel number = (codes "d" ++ decimal number) ∷ []

abbrev file_rel : ℕ → Names
file_rel number = (codes "d" ++ decimal (number % 4)) ∷ (codes "f" ++ decimal number) ∷ []

abbrev rels_below : (ℕ → Names) → ℕ → List Names
rels_below rel zero = []
rels_below rel (suc number) = rel number ∷ rels_below rel number

length_rels : (rel : ℕ → Names) (n : ℕ) → length (rels_below rel n) ≡ n
length_rels rel zero = refl
length_rels rel (suc n) = ap (λ k. suc k) (length_rels rel n)

abbrev drill_rels : ℕ → List Names
drill_rels count = rels_below file_rel count ++ rels_below dir_rel (min count 4)

-- a file stands where its path is one of them
file_step : (n : Node) (o : Option Node) (is among other : Bool) → (is_some o ≡ true → (among || other) ≡ true) → is_some (cond is (Some n) o) ≡ true → ((is || among) || other) ≡ true
file_step n o true among other ih h = refl
file_step n o false among other ih h = ih h

file_found : (seed n : ℕ) (q : Names) (other : Option Node) → is_some (file_or seed n (drill_source ++ q) other) ≡ true → (has_path (rels_below file_rel n) q || is_some other) ≡ true
file_found seed zero q other h = h
file_found seed (suc n) q other h =
    file_step (File (file_bytes seed n) default_file) (file_or seed n (drill_source ++ q) other) (same_path (file_rel n) q) (has_path (rels_below file_rel n) q) (is_some other) (file_found seed n q other) h

-- and so does a directory
dir_step : (before is among : Bool) → (before ≡ true → among ≡ true) → (before || (is || false)) ≡ true → (is || among) ≡ true
dir_step true is among ih h = or_right is among (ih refl)
dir_step false true among ih h = refl
dir_step false false among ih h = absurd (cc)

dir_found : (n : ℕ) (q : Names) → list_any (λ dir. same_path dir (drill_source ++ q)) (map dir_path (range_with_len 0 n)) ≡ true → has_path (rels_below dir_rel n) q ≡ true
dir_found zero q h = absurd (cc)
dir_found (suc n) q h =
    dir_step (list_any (λ dir. same_path dir (drill_source ++ q)) (map dir_path (range_with_len 0 n))) (same_path (dir_rel n) q) (has_path (rels_below dir_rel n) q) (dir_found n q)
    (sym (list_any-append (λ dir. same_path dir (drill_source ++ q)) (map dir_path (range_with_len 0 n)) (dir_path n ∷ [])) ∙ sym (ap (list_any (λ dir. same_path dir (drill_source ++ q))) (dirs_more dir_path n)) ∙ h)

some_if : (b : Bool) → is_some (cond b (Some (Dir default_dir)) None) ≡ true → b ≡ true
some_if true h = refl
some_if false h = absurd (cc)

not_hidden : {A : Type 0} (b : Bool) (o : Option A) → is_some (cond b None o) ≡ true → is_some o ≡ true
not_hidden true o h = absurd (cc)
not_hidden false o h = h

either_true : (a b c : Bool) → (a || b) ≡ true → (b ≡ true → c ≡ true) → (a || c) ≡ true
either_true true b c h f = refl
either_true false b c h f = f h

-- all that is copied is among them
either_of : (seed count : ℕ) (q : Names) → is_some (copied_from (drill_tree seed count) drill_source q) ≡ true → (has_path (rels_below file_rel count) q || has_path (rels_below dir_rel (min count 4)) q) ≡ true
either_of seed count [] h = absurd (cc)
either_of seed count (x ∷ q) h =
    either_true (has_path (rels_below file_rel count) (x ∷ q)) _ (has_path (rels_below dir_rel (min count 4)) (x ∷ q))
    (file_found seed count (x ∷ q) _ (not_hidden (is_hidden (x ∷ q)) (drill_tree seed count (drill_source ++ x ∷ q)) h))
    (λ d. dir_found (min count 4) (x ∷ q) (some_if _ d))

drill_copies : (seed count : ℕ) (q : Names) → is_some (copied_from (drill_tree seed count) drill_source q) ≡ true → has_path (drill_rels count) q ≡ true
drill_copies seed count q h = list_any-append (λ p. same_path p q) (rels_below file_rel count) (rels_below dir_rel (min count 4)) ∙ either_of seed count q h

-- ---- each of them is short
each_step : (P : Names → Type 0) (p q : Names) (is among : Bool) → same_path p q ≡ is → (is || among) ≡ true → P p → (among ≡ true → P q) → P q
each_step P p q true among e h here ih = subst P (same_path-true p q e) here
each_step P p q false among e h here ih = ih h

each : (P : Names → Type 0) (rel : ℕ → Names) (n : ℕ) (q : Names) → has_path (rels_below rel n) q ≡ true → ((k : ℕ) → k < n → P (rel k)) → P q
each P rel zero q h all = absurd (cc)
each P rel (suc n) q h all =
    each_step P (rel n) q (same_path (rel n) q) (has_path (rels_below rel n) q) refl h (all n (omega arith)) (λ k. each P rel n q k (λ m l. all m (omega (arith, l))))

fits_by : (p : Names) → length p ≤ 256 → length (joined p) ≤ 4096 → fits p ≡ true
fits_by p few short = grind (arith, nat_tests, few, short)

-- the path is within the limits, in the source and under the target
abbrev BothFit : Names → Type 0
BothFit q = (fits (drill_source ++ q) ≡ true) × (fits (drill_target ++ q) ≡ true)

file_fits : (k : ℕ) → k < 200000 → BothFit (file_rel k)
file_fits k l =
    let d = codes "d" ++ decimal (k % 4) in
    let f = codes "f" ++ decimal k in
    let dl = length-decimal-le 6 (k % 4) (omega arith) (omega arith) (omega arith) in
    let fl = length-decimal-le 6 k (omega arith) (omega (arith, l)) (omega (arith, l)) in
    let one = length-joined-append (d ∷ []) (f ∷ []) in
    let inside : length (joined (file_rel k)) ≤ 100 = omega (arith, one, length-joined-one d, length-joined-one f, length-append (codes "d") (decimal (k % 4)), length-append (codes "f") (decimal k), dl, fl) in (
      fits_by (drill_source ++ file_rel k) (omega arith) (omega (arith, length-joined-append drill_source (file_rel k), inside)),
      fits_by (drill_target ++ file_rel k) (omega arith) (omega (arith, length-joined-append drill_target (file_rel k), inside)),
    )

dir_fits : (k : ℕ) → k < 4 → BothFit (dir_rel k)
dir_fits k l =
    let d = codes "d" ++ decimal k in
    let dl = length-decimal-le 6 k (omega arith) (omega (arith, l)) (omega (arith, l)) in
    let inside : length (joined (dir_rel k)) ≤ 100 = omega (arith, length-joined-one d, length-append (codes "d") (decimal k), dl) in (
      fits_by (drill_source ++ dir_rel k) (omega arith) (omega (arith, length-joined-append drill_source (dir_rel k), inside)),
      fits_by (drill_target ++ dir_rel k) (omega arith) (omega (arith, length-joined-append drill_target (dir_rel k), inside)),
    )

or_case : {P : Type 0} (a b : Bool) → (a || b) ≡ true → (a ≡ true → P) → (b ≡ true → P) → P
or_case true b h f g = f refl
or_case false b h f g = g h

drill_fits : (seed count : ℕ) (q : Names) → count ≤ 200000 → is_some (copied_from (drill_tree seed count) drill_source q) ≡ true → BothFit q
drill_fits seed count q few h =
    or_case (has_path (rels_below file_rel count) q) (has_path (rels_below dir_rel (min count 4)) q) (either_of seed count q h)
    (λ f. each BothFit file_rel count q f (λ k l. file_fits k (omega (arith, l, few))))
    (λ d. each BothFit dir_rel (min count 4) q d (λ k l. dir_fits k (omega (arith, l))))

pub drill_listable : (seed count : ℕ) → count ≤ 200000 → IsListable (drill_tree seed count) drill_source drill_target
drill_listable seed count few = record {
  from = λ q h. (drill_fits seed count q few h).0;
  to = λ q h. (drill_fits seed count q few h).1;
  rels = drill_rels count;
  all = drill_copies seed count;
  few = omega (arith, few, length-append (rels_below file_rel count) (rels_below dir_rel (min count 4)), length_rels file_rel count, length_rels dir_rel (min count 4));
}

-- ---- what stands at the source
past_files : (seed n : ℕ) (other : Option Node) → file_or seed n drill_source other ≡ other
past_files seed zero other = refl
past_files seed (suc n) other = past_files seed n other

pub drill_plain : (seed count : ℕ) → IsTree (drill_tree seed count) → IsPlain (drill_tree seed count) drill_source drill_target
drill_plain seed count tree = record { tree = tree; dir = (default_dir, past_files seed count _); within = refl; below = refl; shown = refl }
