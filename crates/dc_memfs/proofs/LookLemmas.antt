-- What stands where a look shows a directory or a file, and the names that listings show.
use Rattle.std.proofs.Common.{◌≡◌, ◌∙◌, ℕ, Bool, true, false, cond, ◌&&◌, List, [], ◌∷◌, length, Option, Some, IsSome, refl, sym, ap}
use Rattle.std.specs.Option.{option_map}
use Rattle.std.specs.List.{filter, list_all}
use Rattle.std.specs.Cmp.Lexicographic.{same_text}
use Rattle.std.proofs.lemmas.Map.Views.{any-filter_same}
use Rattle.dc_path.specs.Names.{same_name}
use Rattle.dc_path.specs.Paths.{Names}
use Rattle.dc_attrs.specs.Attributes.{Attributes}
use Rattle.dc_attrs.specs.Trees.{Node, Dir, File, Tree, seen, seen_node, bytes_of, attrs_of}
use Rattle.dc_attrs.proofs.TreeLemmas.{seen_from-Dir, seen_from-File, dir_at, file_at}
use Rattle.dc_attrs.specs.declared.shown.Seen.TheVariants as seen_as
use Rattle.dc_tree.specs.Children.{AreChildren}
use Rattle.dc_fs.specs.Looks.{status_of, IsStatusOf, is_shown, AreNames}

pub dir_attrs : (t : Tree) (p : Names) → seen t p ≡ seen_as.Dir → IsSome (attrs_of (t p))
dir_attrs t p h = let d = dir_at (t p) (seen_from-Dir t [] p h) in rw d.1 refl

pub file_attrs : (t : Tree) (p : Names) (n : ℕ) → seen t p ≡ seen_as.File n → IsSome (attrs_of (t p))
file_attrs t p n h = let f = file_at (t p) n (seen_from-File t [] p n h) in rw f.2 refl

pub file_bytes : (t : Tree) (p : Names) (n : ℕ) → seen t p ≡ seen_as.File n → IsSome (bytes_of (t p))
file_bytes t p n h = let f = file_at (t p) n (seen_from-File t [] p n h) in rw f.2 refl

-- a look that shows a file shows what stands there
pub seen_file : (t : Tree) (p : Names) (n : ℕ) → seen t p ≡ seen_as.File n → seen_node (t p) ≡ seen_as.File n
seen_file t p n h = seen_from-File t [] p n h

same_attrs : (o : Option Node) (a b : Attributes) → attrs_of o ≡ Some a → o ≡ Some (Dir b) → o ≡ Some (Dir a)
same_attrs o a b h e = let f : attrs_of (Some (Dir b)) ≡ Some a = ap attrs_of (sym e) ∙ h in let g : b ≡ a = cc in rw (← g) e

same_file : (o : Option Node) (c : List ℕ) (a b : Attributes) → attrs_of o ≡ Some a → o ≡ Some (File c b) → o ≡ Some (File c a)
same_file o c a b h e = let f : attrs_of (Some (File c b)) ≡ Some a = ap attrs_of (sym e) ∙ h in let g : b ≡ a = cc in rw (← g) e

-- the directory that stands there has these attributes
pub dir_there : (t : Tree) (p : Names) (a : Attributes) → seen t p ≡ seen_as.Dir → attrs_of (t p) ≡ Some a → t p ≡ Some (Dir a)
dir_there t p a h e = let d = dir_at (t p) (seen_from-Dir t [] p h) in same_attrs (t p) a d.0 e d.1

-- the file that stands there has these attributes
pub file_there : (t : Tree) (p : Names) (n : ℕ) (a : Attributes) → seen t p ≡ seen_as.File n → attrs_of (t p) ≡ Some a → (b : List ℕ) × (t p ≡ Some (File b a)) × (length b ≡ n)
file_there t p n a h e = let f = file_at (t p) n (seen_from-File t [] p n h) in (f.0, same_file (t p) f.0 a f.1 e f.2, f.3)

pub file_shows : (t : Tree) (p : Names) (n : ℕ) (a : Attributes) → seen t p ≡ seen_as.File n → attrs_of (t p) ≡ Some a → IsStatusOf (t p) (record { dir = false; length = n; attrs = a })
file_shows t p n a h e = let f = file_there t p n a h e in rw (← f.2) (ap (option_map status_of) f.1)

-- ---- the names that listings show
shown_or_not : (x : List ℕ) (names : Names) (b : Bool) → is_shown x ≡ b → list_all is_shown (filter is_shown names) ≡ true → list_all is_shown (cond b (x ∷ filter is_shown names) (filter is_shown names)) ≡ true
shown_or_not x names true e h = rw e h
shown_or_not x names false e h = h

pub all_shown : (names : Names) → list_all is_shown (filter is_shown names) ≡ true
all_shown [] = refl
all_shown (x ∷ names) = shown_or_not x names (is_shown x) refl (all_shown names)

pub shown_names : (t : Tree) (p names : Names) → AreChildren t p names → AreNames t p (filter is_shown names)
shown_names t p names h x = any-filter_same (same_name x) is_shown (is_shown x) (λ k e. ap is_shown (sym (same_text x k (sym e)))) names ∙ ap (λ b. is_shown x && b) (sym (h.all x))
