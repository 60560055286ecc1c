-- The roots of sources stand.
use Rattle.std.proofs.Common.{◌≡◌, ℕ, Bool, true, false, cond, List, [], ◌∷◌, Option, Some, None, IfSome, Result, Ok, Err, refl, subst}
use Rattle.std.proofs.lemmas.List.Elements.{All-nil, All-cons}
use Rattle.dc_path.specs.Paths.{Names}
use Rattle.dc_attrs.specs.Trees.{Tree, Dir, File, seen, IsThere}
use Rattle.dc_attrs.specs.declared.shown.Seen.{Seen}
use Rattle.dc_attrs.specs.declared.shown.Seen.TheVariants as seen_as
use Rattle.dc_attrs.proofs.TreeLemmas.{dir_at, file_at, seen_from-Dir, seen_from-File}
use Rattle.dc_listing.specs.Listing.{AllStand}
use Rattle.dc_fs.specs.Views.{BothTell}
use Rattle.dc_listing.specs.Roots.{Placing, is_absent, prefix_of, and_then, plain_root, dir_root, snapshot_path, root_at, roots_at}
use Rattle.dc_listing.specs.declared.item.Root.{Root}
use Rattle.dc_listing.specs.declared.item.ListError.{ListError}
use Rattle.dc_listing.specs.declared.item.ListError.TheVariants as list_error

abbrev the_root : Result Root ListError → Result Root ListError
the_root answer = answer

-- what is seen stands
seen_there : (s : Tree) (p : Names) (shown : Seen) → seen s p ≡ shown → is_absent shown ≡ false → IsThere s p
seen_there s p seen_as.Dir e h = let d = dir_at (s p) (seen_from-Dir s [] p e) in (Dir d.0, d.1)
seen_there s p (seen_as.File n) e h = let f = file_at (s p) n (seen_from-File s [] p n e) in (File f.0 f.1, f.2)
seen_there s p seen_as.Missing e h = absurd (cc)
seen_there s p seen_as.NotDir e h = absurd (cc)

same_root : (a b : Root) → the_root (Ok a) ≡ the_root (Ok b) → a ≡ b
same_root a b h = cc

plain_stands : (p : Placing) (s : Tree) (source : Names) (root : Root) → plain_root p s source ≡ Ok root → IsThere s root.source
plain_stands p s source root h = by (is_absent (seen s source)) refl h
  where
    put : Root
    put = record { source = source; prefix = prefix_of p (seen s source) source }

    by : (b : Bool) → is_absent (seen s source) ≡ b → cond b (Err (list_error.NoSource source)) (Ok put) ≡ Ok root → IsThere s root.source
    by true e k = absurd (cc)
    by false e k = subst (λ (r : Root). IsThere s r.source) (same_root put root k) (seen_there s source (seen s source) refl e)

dir_stands : (s : Tree) (path : Names) (shown : Seen) (root : Root) → seen s path ≡ shown → dir_root path shown ≡ Ok root → IsThere s root.source
dir_stands s path seen_as.Dir root e h = subst (λ (r : Root). IsThere s r.source) (same_root (record { source = path; prefix = [] }) root h) (seen_there s path seen_as.Dir e refl)
dir_stands s path (seen_as.File n) root e h = absurd (cc)
dir_stands s path seen_as.Missing root e h = absurd (cc)
dir_stands s path seen_as.NotDir root e h = absurd (cc)

snapshot_stands : (s : Tree) (path : Result Names ListError) (root : Root) → and_then path (λ p. dir_root p (seen s p)) ≡ Ok root → IsThere s root.source
snapshot_stands s (Ok path) root h = dir_stands s path (seen s path) root refl h
snapshot_stands s (Err e) root h = absurd (cc)

root_stands : (p : Placing) (s : Tree) (at : Option (List ℕ)) (source : Names) (root : Root) → root_at p s at source ≡ Ok root → IsThere s root.source
root_stands p s None source root h = plain_stands p s source root h
root_stands p s (Some name) source root h = snapshot_stands s (snapshot_path source name) root h

-- an answer after another is one after an answer
parts : (one : Result Root ListError) (more : Result (List Root) ListError) (roots : List Root) → and_then one (λ root. and_then more (λ rest. Ok (root ∷ rest))) ≡ Ok roots
    → (root : Root) × (rest : List Root) × (one ≡ Ok root) × (more ≡ Ok rest) × (root ∷ rest ≡ roots)
parts (Ok root) (Ok rest) roots h = let k : root ∷ rest ≡ roots = cc in (root, rest, refl, refl, k)
parts (Ok root) (Err e) roots h = absurd (cc)
parts (Err e) more roots h = absurd (cc)

all_stand : (p : Placing) (s : Tree) (at : Option (List ℕ)) (sources : List Names) (roots : List Root) → roots_at p s at sources ≡ Ok roots → AllStand s roots
all_stand p s at [] roots h = let none : [] ≡ roots = cc in subst (λ (rs : List Root). AllStand s rs) none (All-nil (λ (root : Root). IsThere s root.source))
all_stand p s at (source ∷ sources) roots h =
    let k = parts (root_at p s at source) (roots_at p s at sources) roots h in
    subst (λ (rs : List Root). AllStand s rs) k.4 (All-cons (λ (root : Root). IsThere s root.source) k.0 k.1 (root_stands p s at source k.0 k.2) (all_stand p s at sources k.1 k.3))

pub stand_told : (source target : Option Tree) (p : Placing) (at : Option (List ℕ)) (sources : List Names) (roots : List Root) → IfSome source (λ s. roots_at p s at sources ≡ Ok roots) → BothTell source target (λ s t. AllStand s roots)
stand_told None target p at sources roots h = tt
stand_told (Some s) None p at sources roots h = tt
stand_told (Some s) (Some t) p at sources roots h = all_stand p s at sources roots h
