-- Which attributes fit what a look showed.
use Rattle.std.proofs.Common.{◌≡◌, ℕ, [], true, Option, Some, None, refl, sym, ◌∙◌, ap}
use Rattle.dc_path.specs.Paths.{Names}
use Rattle.dc_attrs.specs.Attributes.{Attributes, fits_file, fits_dir}
use Rattle.dc_attrs.specs.Trees.{Node, Dir, File, Tree, IsTree, seen, seen_node}
use Rattle.dc_attrs.specs.declared.shown.Seen.TheVariants as seen_as
use Rattle.dc_attrs.proofs.TreeLemmas.{seen_from-Dir, seen_from-File, seen_from-there, dir_at, file_at}
use Rattle.dc_attrs.specs.Fitting.{fits_at}
-- the attributes of what is new fit
pub use Rattle.dc_attrs.proofs.DefaultLemmas.{default_dir_fits, default_file_fits}

-- attributes of a directory fit where a directory was seen
pub fits_seen_dir : (t : Tree) (p : Names) (a : Attributes) → seen t p ≡ seen_as.Dir → fits_dir a ≡ true → fits_at (t p) a ≡ true
fits_seen_dir t p a h f = let d = dir_at (t p) (seen_from-Dir t [] p h) in ap (λ (o : Option Node). fits_at o a) d.1 ∙ f

-- attributes of a file fit where a file was seen
pub fits_seen_file : (t : Tree) (p : Names) (a : Attributes) (n : ℕ) → seen t p ≡ seen_as.File n → fits_file a ≡ true → fits_at (t p) a ≡ true
fits_seen_file t p a n h f = let d = file_at (t p) n (seen_from-File t [] p n h) in ap (λ (o : Option Node). fits_at o a) d.2 ∙ f

seen_none : (t : Tree) (p : Names) (o : Option Node) → IsTree t → t p ≡ o → ((n : Node) → seen t p ≡ seen_node (Some n) → ⊥) → o ≡ None
seen_none t p None v e apart = refl
seen_none t p (Some n) v e apart = absurd (apart n (seen_from-there t [] p n v e))

not_missing : (n : Node) → seen_as.Missing ≡ seen_node (Some n) → ⊥
not_missing (Dir a) e = cc
not_missing (File b a) e = cc

not_cut_off : (n : Node) → seen_as.NotDir ≡ seen_node (Some n) → ⊥
not_cut_off (Dir a) e = cc
not_cut_off (File b a) e = cc

-- where nothing was seen all attributes fit
pub fits_missing : (t : Tree) (p : Names) (a : Attributes) → IsTree t → seen t p ≡ seen_as.Missing → fits_at (t p) a ≡ true
fits_missing t p a v h = ap (λ (o : Option Node). fits_at o a) (seen_none t p (t p) v refl (λ n e. not_missing n (sym h ∙ e)))

pub fits_cut_off : (t : Tree) (p : Names) (a : Attributes) → IsTree t → seen t p ≡ seen_as.NotDir → fits_at (t p) a ≡ true
fits_cut_off t p a v h = ap (λ (o : Option Node). fits_at o a) (seen_none t p (t p) v refl (λ n e. not_cut_off n (sym h ∙ e)))

pub ruleset fitting = (default_dir_fits, default_file_fits, fits_seen_dir, fits_seen_file, fits_missing, fits_cut_off)
