-- The tree of an arena is a tree, with attributes that fit.
use Rattle.std.proofs.Common.{true, ◌≡◌, ◌≢◌, ℕ, List, [], ◌∷◌, ◌++◌, Option, Some, None, refl, sym, ◌∙◌, ap, subst}
use Rattle.std.specs.Option.{option_and_then}
use Rattle.dc_attrs.specs.Trees.{Tree, Node, Dir, File}
use Rattle.dc_tree.specs.Arena.{Cell, link, node, reach, tree_of, IsArena, IsDirNode}
use Rattle.dc_attrs.specs.Trees.{IsTree}
use Rattle.dc_tree.specs.Places.{IsWhole}
use Rattle.dc_attrs.specs.Fitting.{is_fitting, HasFittingAttrs}
use Rattle.dc_path.specs.Paths.{Names}
use Rattle.dc_tree.proofs.Graph.{reach_before, reached_live, then_from}
use Rattle.dc_tree.proofs.Ways.{tree_of-is, tree_here}

holds_dir : (cells : List Cell) (k : ℕ) (x : List ℕ) (c : ℕ) (o : Option Node) → IsArena cells → node cells k ≡ o → o ≢ None → link cells k x ≡ Some c → IsDirNode o
holds_dir cells k x c None f e n h = absurd (n refl)
holds_dir cells k x c (Some (Dir a)) f e n h = (a, refl)
holds_dir cells k x c (Some (File b a)) f e n h = let l = f.leaves k x b a e in cc

-- the root is a directory, and so is the parent of each other path
pub root_is_dir : (cells : List Cell) → IsArena cells → IsDirNode (tree_of cells [])
root_is_dir cells f = (f.root.0, ap (λ (t : Tree). t []) (tree_of-is cells) ∙ f.root.1)

pub parent_is_dir : (cells : List Cell) (p : List (List ℕ)) (x : List ℕ) (v : Node) → IsArena cells → tree_of cells (p ++ x ∷ []) ≡ Some v → IsDirNode (tree_of cells p)
parent_is_dir cells p x v f e =
    let t = then_from (node cells) (reach (link cells) 0 (p ++ x ∷ [])) v (sym (ap (λ (t : Tree). t (p ++ x ∷ [])) (tree_of-is cells)) ∙ e) in
    let s = reach_before (link cells) 0 p x t.0 t.1 in
    subst IsDirNode (sym (tree_here cells p s.0 s.1)) (holds_dir cells s.0 x t.0 (node cells s.0) f refl (reached_live (link cells) (node cells) f p s.0 s.1) s.2)

pub is_tree : (cells : List Cell) → IsArena cells → IsTree (tree_of cells)
is_tree cells f = record { root = root_is_dir cells f; parents = λ p x v e. parent_is_dir cells p x v f e }

-- what stands at a path has the attributes of a cell
fits_from : (cells : List Cell) (o : Option ℕ) → IsArena cells → is_fitting (option_and_then (node cells) o) ≡ true
fits_from cells None f = refl
fits_from cells (Some k) f = f.fits k

fits_path : (cells : List Cell) (p : Names) → IsArena cells → is_fitting (tree_of cells p) ≡ true
fits_path cells p f = ap (λ (t : Tree). is_fitting (t p)) (tree_of-is cells) ∙ fits_from cells (reach (link cells) 0 p) f

pub is_fitting_tree : (cells : List Cell) → IsArena cells → HasFittingAttrs (tree_of cells)
is_fitting_tree cells f = record {
  dirs = λ p a e. ap is_fitting (sym e) ∙ fits_path cells p f;
  files = λ p b a e. ap is_fitting (sym e) ∙ fits_path cells p f;
}

pub whole : (cells : List Cell) → IsArena cells → IsWhole cells
whole cells f = (f, is_tree cells f)
