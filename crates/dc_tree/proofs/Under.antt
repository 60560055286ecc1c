-- Two parts of trees by the slots of their tops.
use Rattle.std.proofs.Common.{◌≡◌, ℕ, List, [], ◌++◌, Bool, true, false, Option, Some, None, refl, sym, ◌∙◌, ap}
use Rattle.std.specs.Option.{option_and_then}
use Rattle.dc_path.specs.Paths.{Names}
use Rattle.dc_attrs.specs.Keeping.{Kept, kept_by}
use Rattle.dc_attrs.specs.Trees.{Node, Tree}
use Rattle.dc_tree.specs.Arena.{Cell, link, node, reach, tree_of, IsArena}
use Rattle.dc_tree.specs.Same.{alike, counted, SameUnder, DiffersUnder}
use Rattle.dc_tree.specs.Walking.{node_from, SameBelow, DiffersBelow}
use Rattle.dc_tree.proofs.Graph.{reach_on, reach_off, reached_live}
use Rattle.dc_tree.proofs.Ways.{tree_of-is}
use Rattle.dc_tree.proofs.Whole.{both_absent, first_alone, second_alone}

-- a path that ends at nothing leads to no slot
pub no_slot : (cells : List Cell) (p : Names) (o : Option ℕ) → IsArena cells → reach (link cells) 0 p ≡ o → option_and_then (node cells) o ≡ None → o ≡ None
no_slot cells p None f r e = refl
no_slot cells p (Some k) f r e = absurd (reached_live (link cells) (node cells) f p k r e)

pub slot_absent : (cells : List Cell) (p : Names) → IsArena cells → tree_of cells p ≡ None → None ≡ reach (link cells) 0 p
slot_absent cells p f e = sym (no_slot cells p (reach (link cells) 0 p) f refl (sym (ap (λ (t : Tree). t p) (tree_of-is cells)) ∙ e))

stands_at : (cells : List Cell) (p : Names) (o : Option ℕ) → reach (link cells) 0 p ≡ o → tree_of cells p ≡ option_and_then (node cells) o
stands_at cells p o e = ap (λ (t : Tree). t p) (tree_of-is cells) ∙ ap (option_and_then (node cells)) e

below_slot : (cells : List Cell) (p : Names) (k : ℕ) (r : Names) → reach (link cells) 0 p ≡ Some k → tree_of cells (p ++ r) ≡ node_from cells k r
below_slot cells p k r e = stands_at cells (p ++ r) (reach (link cells) k r) (reach_on (link cells) 0 p r k e)

below_none : (cells : List Cell) (p r : Names) → reach (link cells) 0 p ≡ None → tree_of cells (p ++ r) ≡ None
below_none cells p r e = stands_at cells (p ++ r) None (reach_off (link cells) 0 p r e)

both : (keep : Kept) (o p v w : Option Node) (is : Bool) → o ≡ v → p ≡ w → alike keep v w ≡ is → alike keep o p ≡ is
both keep o p v w is e f h = ap (λ (o : Option Node). alike keep o p) e ∙ ap (alike keep v) f ∙ h

module _ (keep : Kept) (a b : List Cell) (p q : Names) where
  pub same_slots : (i j : ℕ) → reach (link a) 0 p ≡ Some i → reach (link b) 0 q ≡ Some j → SameBelow keep a i b j → SameUnder keep (tree_of a) p (tree_of b) q
  same_slots i j e f s r h = both (counted keep r) (tree_of a (p ++ r)) (tree_of b (q ++ r)) (node_from a i r) (node_from b j r) true (below_slot a p i r e) (below_slot b q j r f) (s r h)

  pub slots_differ : (i j : ℕ) → reach (link a) 0 p ≡ Some i → reach (link b) 0 q ≡ Some j → DiffersBelow keep a i b j → DiffersUnder keep (tree_of a) p (tree_of b) q
  slots_differ i j e f d = record {
    rest = d.0;
    shown = d.1;
    differs = both (counted keep d.0) (tree_of a (p ++ d.0)) (tree_of b (q ++ d.0)) (node_from a i d.0) (node_from b j d.0) false (below_slot a p i d.0 e) (below_slot b q j d.0 f) d.2;
  }

  pub no_slots : reach (link a) 0 p ≡ None → reach (link b) 0 q ≡ None → SameUnder keep (tree_of a) p (tree_of b) q
  no_slots e f r h = both (counted keep r) (tree_of a (p ++ r)) (tree_of b (q ++ r)) None None true (below_none a p r e) (below_none b q r f) (both_absent (counted keep r))

  pub first_slot : (i : ℕ) → IsArena a → reach (link a) 0 p ≡ Some i → reach (link b) 0 q ≡ None → DiffersUnder keep (tree_of a) p (tree_of b) q
  first_slot i g e f = record {
    rest = [];
    shown = refl;
    differs = both (kept_by []) (tree_of a (p ++ [])) (tree_of b (q ++ [])) (node a i) None false (below_slot a p i [] e) (below_none b q [] f) (first_alone (kept_by []) (node a i) (reached_live (link a) (node a) g p i e));
  }

  pub second_slot : (j : ℕ) → IsArena b → reach (link a) 0 p ≡ None → reach (link b) 0 q ≡ Some j → DiffersUnder keep (tree_of a) p (tree_of b) q
  second_slot j g e f = record {
    rest = [];
    shown = refl;
    differs = both (kept_by []) (tree_of a (p ++ [])) (tree_of b (q ++ [])) None (node b j) false (below_none a p [] e) (below_slot b q j [] f) (second_alone (kept_by []) (node b j) (reached_live (link b) (node b) g q j f));
  }
