-- The roots that options give are put at the root path or by one name, and a file at the root path only where it is alone.
use Rattle.std.proofs.Common.{◌≡◌, ℕ, ◌≤◌, List, [], ◌∷◌, ◌++◌, length, length-append, Bool, true, false, cond, Option, Some, None, Result, Ok, Err, refl, sym, ◌∙◌, ap, subst, arith}
use Rattle.std.proofs.lemmas.Bool.{eqb-true}
use Rattle.std.specs.Cmp.{first_so}
use Rattle.dc_path.specs.Paths.{Names}
use Rattle.dc_attrs.specs.Trees.{Tree, IsTree, is_dir_node, seen}
use Rattle.dc_attrs.specs.declared.shown.Seen.{Seen}
use Rattle.dc_attrs.specs.declared.shown.Seen.TheVariants as seen_as
use Rattle.dc_listing.specs.Roots.{Placing, and_then, dir_root, is_absent, is_put_on, last_of, placing_of, prefix_of, root_at, roots_at, snapshot_in, snapshot_path}
use Rattle.dc_listing.specs.declared.item.ListError.{ListError}
use Rattle.dc_listing.specs.declared.item.ListError.TheVariants as list_error
use Rattle.dc_listing.specs.declared.item.Root.{Root}
use Rattle.dc_result.specs.Planning.{RootsArePlaced}
use Rattle.dc_result.proofs.KindLemmas.{shown_dir, stands_dir}

-- ---- the last name
last_short : (p : Names) → length (last_of p) ≤ 1
last_short [] = omega arith
last_short (x ∷ []) = omega arith
last_short (x ∷ y ∷ p) = last_short (y ∷ p)

last_empty : (p : Names) → last_of p ≡ [] → p ≡ []
last_empty [] h = refl
last_empty (x ∷ []) h = absurd (cc)
last_empty (x ∷ y ∷ p) h = let e : y ∷ p ≡ [] = last_empty (y ∷ p) h in absurd (cc)

-- ---- one root
-- it is put at the root path or by one name, and a file at the root path only where one source is read
record IsPut (p : Placing) (s : Tree) (root : Root) : Type 0 where
  short : length root.prefix ≤ 1
  alone : root.prefix ≡ [] → is_dir_node (s root.source) ≡ false → p.only ≡ true

pub then_ok : {A B E : Type 0} (r : Result A E) (f : A → Result B E) (y : B) → and_then r f ≡ Ok y → (x : A) × (r ≡ Ok x) × (f x ≡ Ok y)
then_ok (Ok x) f y h = (x, refl, h)
then_ok (Err e) f y h = absurd (cc)

put_on : (p : Placing) (s : Tree) (source : Names) (shown : Seen) → seen s source ≡ shown → is_put_on p shown ≡ true → is_dir_node (s source) ≡ false → p.only ≡ true
put_on p s source seen_as.Dir e h d = let f : true ≡ false = sym (shown_dir s source e) ∙ d in absurd (cc)
put_on p s source (seen_as.File n) e h d = first_so _ _ h
put_on p s source seen_as.Missing e h d = absurd (cc)
put_on p s source seen_as.NotDir e h d = absurd (cc)

plain_put : (p : Placing) (s : Tree) (source : Names) (b : Bool) → is_put_on p (seen s source) ≡ b → IsTree s → IsPut p s (record { source = source; prefix = cond b [] (last_of source) })
plain_put p s source true e v = record { short = omega arith; alone = λ i d. put_on p s source (seen s source) refl e d }
plain_put p s source false e v = record {
  short = last_short source;
  alone = λ i d. let f : true ≡ false = sym (stands_dir s [] v.root) ∙ ap (λ (q : Names). is_dir_node (s q)) (sym (last_empty source i)) ∙ d in absurd (cc);
}

plain_is : (p : Placing) (s : Tree) (source : Names) (root : Root) (refusal : ListError) (b : Bool) → IsTree s → cond {A = Result Root ListError} b (Err refusal) (Ok (record { source = source; prefix = prefix_of p (seen s source) source })) ≡ Ok root → IsPut p s root
plain_is p s source root refusal true v h = absurd (cc)
plain_is p s source root refusal false v h =
    let e : record { source = source; prefix = prefix_of p (seen s source) source } ≡ root = cc in
    subst (IsPut p s) e (plain_put p s source (is_put_on p (seen s source)) refl v)

dir_put : (p : Placing) (s : Tree) (path : Names) (shown : Seen) (root : Root) → seen s path ≡ shown → dir_root path shown ≡ Ok root → IsPut p s root
dir_put p s path seen_as.Dir root e h =
    let r : record { source = path; prefix = [] } ≡ root = cc in
    subst (IsPut p s) r (record { short = omega arith; alone = λ i d. let f : true ≡ false = sym (shown_dir s path e) ∙ d in absurd (cc) })
dir_put p s path (seen_as.File n) root e h = absurd (cc)
dir_put p s path seen_as.Missing root e h = absurd (cc)
dir_put p s path seen_as.NotDir root e h = absurd (cc)

root_put : (p : Placing) (s : Tree) (at : Option (List ℕ)) (source : Names) (root : Root) → IsTree s → root_at p s at source ≡ Ok root → IsPut p s root
root_put p s None source root v h = plain_is p s source root (list_error.NoSource source) (is_absent (seen s source)) v h
root_put p s (Some name) source root v h =
    let k = then_ok (snapshot_path source name) (λ path. dir_root path (seen s path)) root h in
    dir_put p s k.0 (seen s k.0) root refl k.2

-- ---- all roots
abbrev ArePut : Placing → Tree → List Root → Type 0
ArePut p s [] = Unit {0}
ArePut p s (root ∷ roots) = IsPut p s root × ArePut p s roots

all_put : (p : Placing) (s : Tree) (at : Option (List ℕ)) (sources : List Names) (roots : List Root) → IsTree s → roots_at p s at sources ≡ Ok roots → ArePut p s roots × (length roots ≡ length sources)
all_put p s at [] roots v h = let e : [] ≡ roots = cc in subst (λ (rs : List Root). ArePut p s rs × (length rs ≡ length {A = Names} [])) e (tt, refl)
all_put p s at (source ∷ sources) roots v h =
    let a = then_ok (root_at p s at source) (λ root. and_then (roots_at p s at sources) (λ roots. Ok (root ∷ roots))) roots h in
    let b = then_ok (roots_at p s at sources) (λ roots. Ok (a.0 ∷ roots)) roots a.2 in
    let rest = all_put p s at sources b.0 v b.1 in
    let e : a.0 ∷ b.0 ≡ roots = cc in
    subst (λ (rs : List Root). ArePut p s rs × (length rs ≡ length (source ∷ sources))) e ((root_put p s at source a.0 v a.1, rest.0), (let n = rest.1 in omega (arith, n)))

put_at : (p : Placing) (s : Tree) (before behind : List Root) (root : Root) → ArePut p s (before ++ root ∷ behind) → IsPut p s root
put_at p s [] behind root a = a.0
put_at p s (r ∷ before) behind root a = put_at p s before behind root a.1

alone_is : (before behind : List Root) (root : Root) → length (before ++ root ∷ behind) ≡ 1 → before ++ root ∷ behind ≡ root ∷ []
alone_is [] [] root h = refl
alone_is [] (r ∷ behind) root h = absurd (omega (arith, h))
alone_is (r ∷ before) behind root h = let n = length-append before (root ∷ behind) in absurd (omega (arith, n, h))

pub roots_are_placed : RootsArePlaced
roots_are_placed settings target s sources roots v h =
    let k = all_put (placing_of settings sources target) s (snapshot_in settings.sync) sources roots v h in
    record {
      tree = v;
      short = λ before behind root e. (put_at (placing_of settings sources target) s before behind root (subst (ArePut (placing_of settings sources target) s) e k.0)).short;
      alone = λ before behind root e i d.
          let one = (put_at (placing_of settings sources target) s before behind root (subst (ArePut (placing_of settings sources target) s) e k.0)).alone i d in
          e ∙ alone_is before behind root (ap length (sym e) ∙ k.1 ∙ eqb-true (length sources) 1 one);
    }
