-- The names under a path, and equal arenas.
use Rattle.std.proofs.Common.{◌≡◌, ◌≢◌, ℕ, ◌+◌, ◌<◌, List, [], ◌∷◌, ◌++◌, Bool, true, false, cond, ◌||◌, Option, Some, None, length, refl, sym, ◌∙◌, ap, subst, arith, map, zero, suc, get_or, take, add-one}
use Rattle.std.specs.Option.{is_some, option_and_then}
use Rattle.std.specs.List.{list_any}
use Rattle.std.specs.Map.{keys_of}
use Rattle.std.specs.List.Sorted.{IsStrictlySortedBy}
use Rattle.std.specs.BTreeMap.{BTreeMap, keys, IsOrdered}
use Rattle.std.specs.Ordering.{nat_cmp, is_eq}
use Rattle.std.specs.Cmp.Lexicographic.{slice_cmp}
use Rattle.std.proofs.lemmas.Map.Text.{is_eq-slice_cmp}
use Rattle.dc_tree.specs.declared.slots.Slot.{Slot}
use Rattle.dc_attrs.specs.Trees.{Node, Tree}
use Rattle.dc_path.specs.Names.{same_name}
use Rattle.dc_tree.specs.Arena.{Cell, cell_of, cell_at, links_of, find, link, node, reach, tree_of, IsArena}
use Rattle.dc_tree.specs.Children.{IsNames, AreChildren}
use Rattle.dc_tree.proofs.Cells.{link_is}
use Rattle.dc_tree.proofs.Graph.{reach_next}
use Rattle.dc_tree.proofs.Ways.{tree_of-is}

some_cond : (b : Bool) (v : ℕ) (o : Option ℕ) (c : Bool) → is_some o ≡ c → is_some (cond b (Some v) o) ≡ (b || c)
some_cond true v o c e = refl
some_cond false v o c e = e

pub find_names : (x : List ℕ) (links : List (List ℕ × ℕ)) → is_some (find x links) ≡ list_any (same_name x) (keys_of links)
find_names x [] = refl
find_names x (e ∷ links) = some_cond (is_eq (slice_cmp nat_cmp x e.0)) e.1 (find x links) (list_any (same_name x) (keys_of links)) (find_names x links) ∙ ap (λ b. b || list_any (same_name x) (keys_of links)) (is_eq-slice_cmp x e.0)

pub names_are : (cells : List Cell) (at : ℕ) (c : Cell) (m : BTreeMap (List ℕ) ℕ) (names : List (List ℕ)) → cell_at cells at ≡ c → links_of c ≡ m.entries → IsOrdered (slice_cmp nat_cmp) m → names ≡ keys m → IsNames (λ x. is_some (link cells at x)) names
names_are cells at c m names is links sorted e = record {
  ascending = subst (IsStrictlySortedBy (slice_cmp nat_cmp)) (sym e) sorted;
  all = λ x. ap is_some (link_is cells at c x is ∙ ap (find x) links) ∙ find_names x m.entries ∙ ap (list_any (same_name x)) (sym e);
}

pub no_names : (cells : List Cell) (at : ℕ) (c : Cell) (names : List (List ℕ)) → cell_at cells at ≡ c → links_of c ≡ [] → names ≡ [] → IsStrictlySortedBy (slice_cmp nat_cmp) [] → IsNames (λ x. is_some (link cells at x)) names
no_names cells at c names is links e sorted = record {
  ascending = subst (IsStrictlySortedBy (slice_cmp nat_cmp)) (sym e) sorted;
  all = λ x. ap is_some (link_is cells at c x is ∙ ap (find x) links) ∙ ap (list_any (same_name x)) (sym e);
}

there_some : (o : Option Node) → o ≢ None → is_some o ≡ true
there_some None h = absurd (h refl)
there_some (Some v) h = refl

linked_some : (cells : List Cell) (at : ℕ) (x : List ℕ) (o : Option ℕ) → IsArena cells → link cells at x ≡ o → is_some (option_and_then (node cells) o) ≡ is_some o
linked_some cells at x None f e = refl
linked_some cells at x (Some c) f e = there_some (node cells c) (f.live at x c e)

child_some : (cells : List Cell) (p : List (List ℕ)) (at : ℕ) (x : List ℕ) → IsArena cells → reach (link cells) 0 p ≡ Some at → is_some (tree_of cells (p ++ x ∷ [])) ≡ is_some (link cells at x)
child_some cells p at x f r = ap is_some (ap (λ (t : Tree). t (p ++ x ∷ [])) (tree_of-is cells) ∙ ap (option_and_then (node cells)) (reach_next (link cells) 0 p x at r)) ∙ linked_some cells at x (link cells at x) f refl

pub are_children : (cells : List Cell) (p : List (List ℕ)) (at : ℕ) (names : List (List ℕ)) → IsArena cells → reach (link cells) 0 p ≡ Some at → IsNames (λ x. is_some (link cells at x)) names → AreChildren (tree_of cells) p names
are_children cells p at names f r n = record {
  ascending = n.ascending;
  all = λ x. child_some cells p at x f r ∙ n.all x;
}

take_map : (slots : List Slot) (i : ℕ) (s : Slot) → i < length slots → s ≡ get_or slots i s → take (suc i) (map cell_of slots) ≡ take i (map cell_of slots) ++ cell_of s ∷ []
take_map [] i s h e = absurd (omega arith)
take_map (t ∷ slots) zero s h e = ap (λ (s : Slot). cell_of s ∷ []) (sym e)
take_map (t ∷ slots) (suc i) s h e = ap (λ (cs : List Cell). cell_of t ∷ cs) (take_map slots i s (omega arith) e)

map_push : (xs : List Slot) (s : Slot) → map cell_of (xs ++ s ∷ []) ≡ map cell_of xs ++ cell_of s ∷ []
map_push [] s = refl
map_push (x ∷ xs) s = ap (λ (cs : List Cell). cell_of x ∷ cs) (map_push xs s)

pub one_copied : (slots old new : List Slot) (i : ℕ) (s t : Slot) → i < length slots → s ≡ get_or slots i s → cell_of t ≡ cell_of s → new ≡ old ++ t ∷ [] → map cell_of old ≡ take i (map cell_of slots) → map cell_of new ≡ take (i + 1) (map cell_of slots)
one_copied slots old new i s t h e c n inv =
    ap (map cell_of) n ∙ map_push old t ∙ ap (λ (cs : List Cell). cs ++ cell_of t ∷ []) inv ∙ ap (λ (c : Cell). take i (map cell_of slots) ++ c ∷ []) c
    ∙ sym (take_map slots i s h e) ∙ ap (λ (n : ℕ). take n (map cell_of slots)) (sym (add-one i))

pub no_order : IsStrictlySortedBy (slice_cmp nat_cmp) []
unfolding IsStrictlySortedBy
no_order = tt
