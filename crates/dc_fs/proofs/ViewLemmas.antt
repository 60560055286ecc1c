-- What is said of stores that tell trees, of the trees that they tell.
use Rattle.std.proofs.Common.{◌≡◌, Option, Some, IfSome, subst}
use Rattle.dc_attrs.specs.Trees.{Tree, IsTree}
use Rattle.dc_fs.specs.Views.{BothTrees}

-- a fact of a tree that is told
pub one_tree : (P : Tree → Type 0) (told : Option Tree) (t : Tree) → told ≡ Some t → IsTree t → IfSome told (λ s. IsTree s → P s) → P t
one_tree P told t e is h = subst (λ o. IfSome o (λ s. IsTree s → P s)) e h is

-- a fact of two trees that are told
pub both_trees : (P : Tree → Tree → Type 0) (source target : Option Tree) (s t : Tree) → source ≡ Some s → target ≡ Some t → IsTree s → IsTree t → BothTrees source target P → P s t
both_trees P source target s t e f v w h = one_tree (P s) target t f w (one_tree (λ s. IfSome target (λ t. IsTree t → P s t)) source s e v h)
