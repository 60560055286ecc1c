-- Slots and cells: what a read says of a cell, and what a write makes of the cells.
use Rattle.std.proofs.Common.{◌≡◌, ℕ, ◌+◌, ◌<◌, List, [], ◌∷◌, ◌++◌, true, false, Option, Some, None, length, refl, sym, ◌∙◌, ap, subst, arith, map, zero, suc, get_or, slice_get, add-one, take, drop}
use Rattle.std.proofs.Math.ListN.{set}
use Rattle.std.specs.BTreeMap.{BTreeMap, UpdatesBy}
use Rattle.std.specs.Ordering.{nat_cmp, is_eq}
use Rattle.std.specs.Cmp.Lexicographic.{slice_cmp}
use Rattle.std.proofs.lemmas.Map.Text.{is_eq-slice_cmp}
use Rattle.dc_tree.proofs.Graph.{Spot, here, away, spot}
use Rattle.dc_path.proofs.PathLemmas.{NameCase, same, other, name_case}
use Rattle.std.proofs.Math.Path.{fun_ext}
use Rattle.std.proofs.lemmas.Bool.Decides.{nat_tests}
use Rattle.std.specs.Prelude.{nat_lt}
use Rattle.dc_attrs.specs.Attributes.{Attributes}
use Rattle.dc_attrs.specs.Trees.{Node, Dir, File}
use Rattle.dc_tree.specs.Arena.{Cell, DirCell, GoneCell, cell_of, cell_at, node_of, links_of, find, node, link, way_on, way_from, IsDirNode}
use Rattle.dc_tree.specs.Edits.{Links, Nodes, Puts, Child, Adds, Edit, Pops, PopsAt}
use Rattle.dc_tree.specs.declared.slots.Slot.{Slot}
use Rattle.dc_tree.specs.declared.slots.Popped.{Popped}
use Rattle.dc_tree.specs.declared.slots.Popped.TheVariants as popped
use Rattle.dc_tree.specs.declared.slots.Way.{Way}
use Rattle.dc_tree.specs.declared.slots.Way.TheVariants as way_is

pub cell_there : (slots : List Slot) (k : ℕ) (s : Slot) → slice_get slots k ≡ Some s → cell_at (map cell_of slots) k ≡ cell_of s
cell_there [] k s e = cc
cell_there (x ∷ slots) zero s e = let h : x ≡ s = cc in ap cell_of h
cell_there (x ∷ slots) (suc k) s e = cell_there slots k s e

pub cell_past : (slots : List Slot) (k : ℕ) → slice_get slots k ≡ None → cell_at (map cell_of slots) k ≡ GoneCell []
cell_past [] k e = refl
cell_past (x ∷ slots) zero e = cc
cell_past (x ∷ slots) (suc k) e = cell_past slots k e

pub node_is : (cells : List Cell) (k : ℕ) (c : Cell) → cell_at cells k ≡ c → node cells k ≡ node_of c
unfolding node
node_is cells k c e = ap node_of e

pub link_is : (cells : List Cell) (k : ℕ) (c : Cell) (x : List ℕ) → cell_at cells k ≡ c → link cells k x ≡ find x (links_of c)
unfolding link
link_is cells k c x e = ap (λ c. find x (links_of c)) e

-- the step of a way from a cell that is known
pub step_is : (cells : List Cell) (k : ℕ) (c : Cell) (x : List ℕ) (f : ℕ → Way) → cell_at cells k ≡ c → way_on (node cells k) (link cells k x) f ≡ way_on (node_of c) (find x (links_of c)) f
step_is cells k c x f e = ap (λ (n : Option Node). way_on n (link cells k x) f) (node_is cells k c e) ∙ ap (λ (o : Option ℕ). way_on (node_of c) o f) (link_is cells k c x e)

-- the same by what a read of a slice says
pub cell_read : (slots : List Slot) (k : ℕ) (s : Slot) → true ≡ nat_lt k (length slots) → s ≡ get_or slots k s → cell_at (map cell_of slots) k ≡ cell_of s
cell_read [] k s b e = let h : k < 0 = grind (arith, nat_tests) in absurd (omega arith)
cell_read (x ∷ slots) zero s b e = ap cell_of (sym e)
cell_read (x ∷ slots) (suc k) s b e = let h : true ≡ nat_lt k (length slots) = grind (arith, nat_tests) in cell_read slots k s h e

pub cell_out : (slots : List Slot) (k : ℕ) → false ≡ nat_lt k (length slots) → cell_at (map cell_of slots) k ≡ GoneCell []
cell_out [] k b = refl
cell_out (x ∷ slots) zero b = let h : true ≡ nat_lt 0 (suc (length slots)) = grind (arith, nat_tests) in cc
cell_out (x ∷ slots) (suc k) b = let h : false ≡ nat_lt k (length slots) = grind (arith, nat_tests) in cell_out slots k h

-- a step that goes on, and one that stops
pub way_go : (o : Option Node) (l : Option ℕ) (f : ℕ → Way) (k : ℕ) → way_on o l (λ c. way_is.At c) ≡ way_is.At k → way_on o l f ≡ f k
way_go None l f k e = cc
way_go (Some (File b a)) l f k e = cc
way_go (Some (Dir a)) None f k e = cc
way_go (Some (Dir a)) (Some c) f k e = let h : c ≡ k = cc in ap f h

pub way_stop : (o : Option Node) (l : Option ℕ) (f : ℕ → Way) (w : Way) → way_on o l (λ c. way_is.At c) ≡ w → ((k : ℕ) → w ≡ way_is.At k → ⊥) → way_on o l f ≡ w
way_stop None l f w e s = e
way_stop (Some (File b a)) l f w e s = e
way_stop (Some (Dir a)) None f w e s = e
way_stop (Some (Dir a)) (Some c) f w e s = absurd (s c (sym e))

drop_at : (p : List (List ℕ)) (n i : ℕ) (x : List ℕ) → slice_get p i ≡ Some x → i < n → drop i (take n p) ≡ x ∷ drop (suc i) (take n p)
drop_at [] n i x e h = cc
drop_at (y ∷ p) zero i x e h = absurd (omega arith)
drop_at (y ∷ p) (suc n) zero x e h = let k : y ≡ x = cc in ap (λ (z : List ℕ). z ∷ take n p) k
drop_at (y ∷ p) (suc n) (suc i) x e h = drop_at p n i x e (omega arith)

pub way_first : (cells : List Cell) (at : ℕ) (p : List (List ℕ)) (n i : ℕ) (x : List ℕ) → slice_get p i ≡ Some x → i < n → way_from cells at (drop i (take n p)) ≡ way_on (node cells at) (link cells at x) (λ c. way_from cells c (drop (i + 1) (take n p)))
way_first cells at p n i x e h = ap (way_from cells at) (drop_at p n i x e h) ∙ ap (λ (j : ℕ). way_on (node cells at) (link cells at x) (λ c. way_from cells c (drop j (take n p)))) (sym (add-one i))

-- one slot is put in place of another

set_here : (slots : List Slot) (i : ℕ) (t : Slot) → i < length slots → cell_at (map cell_of (set slots i t)) i ≡ cell_of t
set_here [] i t h = absurd (omega arith)
set_here (x ∷ slots) zero t h = refl
set_here (x ∷ slots) (suc i) t h = set_here slots i t (omega arith)

set_other : (slots : List Slot) (i : ℕ) (t : Slot) (k : ℕ) → (k ≡ i → ⊥) → cell_at (map cell_of (set slots i t)) k ≡ cell_at (map cell_of slots) k
set_other [] i t k e = refl
set_other (x ∷ slots) zero t zero e = absurd (e refl)
set_other (x ∷ slots) zero t (suc k) e = refl
set_other (x ∷ slots) (suc i) t zero e = refl
set_other (x ∷ slots) (suc i) t (suc k) e = set_other slots i t k (λ h. e (ap (λ n. suc n) h))

pub puts : (slots : List Slot) (i : ℕ) (t : Slot) → i < length slots → Puts (map cell_of slots) i (cell_of t) (map cell_of (set slots i t))
puts slots i t h = record { here = set_here slots i t h; others = set_other slots i t }

pub within : (slots : List Slot) (i : ℕ) → IsDirNode (node (map cell_of slots) i) → i < length slots
unfolding node
within [] i (a, e) = cc
within (x ∷ slots) zero (a, e) = omega arith
within (x ∷ slots) (suc i) (a, e) = let h : i < length slots = within slots i (a, e) in omega arith

pub within_some : (slots : List Slot) (i : ℕ) (v : Node) → node (map cell_of slots) i ≡ Some v → i < length slots
unfolding node
within_some [] i v e = cc
within_some (x ∷ slots) zero v e = omega arith
within_some (x ∷ slots) (suc i) v e = let h : i < length slots = within_some slots i v e in omega arith

links_others : (old new : List Cell) (at : ℕ) (name : List ℕ) (to : Option ℕ) (b c : Cell) → cell_at old at ≡ b → Child b name to c → Puts old at c new → (k : ℕ) (x : List ℕ) → Spot k at → (k ≡ at → x ≡ name → ⊥) → find x (links_of (cell_at new k)) ≡ find x (links_of (cell_at old k))
links_others old new at name to b c is d p k x (here e) apart =
    ap (λ (j : ℕ). find x (links_of (cell_at new j))) e ∙ ap (λ c. find x (links_of c)) p.here ∙ d.others x (λ h. apart e h) ∙ sym (ap (λ (j : ℕ). find x (links_of (cell_at old j))) e ∙ ap (λ c. find x (links_of c)) is)
links_others old new at name to b c is d p k x (away e) apart = ap (λ c. find x (links_of c)) (p.others k e)

nodes_kept : (old new : List Cell) (at : ℕ) (b c : Cell) → cell_at old at ≡ b → node_of c ≡ node_of b → Puts old at c new → (k : ℕ) → Spot k at → node_of (cell_at new k) ≡ node_of (cell_at old k)
nodes_kept old new at b c is n p k (here e) =
    ap (λ (j : ℕ). node_of (cell_at new j)) e ∙ ap node_of p.here ∙ n ∙ sym (ap (λ (j : ℕ). node_of (cell_at old j)) e ∙ ap node_of is)
nodes_kept old new at b c is n p k (away e) = ap node_of (p.others k e)

pub links_set : (old new : List Cell) (at : ℕ) (name : List ℕ) (to : Option ℕ) (b c : Cell) → cell_at old at ≡ b → Child b name to c → Puts old at c new → Links old at name to new
unfolding link node
links_set old new at name to b c is d p = record {
  set = record { here = ap (λ c. find name (links_of c)) p.here ∙ d.here; others = λ k x apart. links_others old new at name to b c is d p k x (spot k at) apart };
  nodes = fun_ext (λ k. nodes_kept old new at b c is d.node p k (spot k at));
}

links_kept : (old new : List Cell) (at : ℕ) (b c : Cell) → cell_at old at ≡ b → ((x : List ℕ) → find x (links_of c) ≡ find x (links_of b)) → Puts old at c new → (k : ℕ) (x : List ℕ) → Spot k at → find x (links_of (cell_at new k)) ≡ find x (links_of (cell_at old k))
links_kept old new at b c is n p k x (here e) =
    ap (λ (j : ℕ). find x (links_of (cell_at new j))) e ∙ ap (λ c. find x (links_of c)) p.here ∙ n x ∙ sym (ap (λ (j : ℕ). find x (links_of (cell_at old j))) e ∙ ap (λ c. find x (links_of c)) is)
links_kept old new at b c is n p k x (away e) = ap (λ c. find x (links_of c)) (p.others k e)

pub nodes_set : (old new : List Cell) (at : ℕ) (b c : Cell) → cell_at old at ≡ b → ((x : List ℕ) → find x (links_of c) ≡ find x (links_of b)) → Puts old at c new → Nodes old at (node_of c) new
unfolding link node
nodes_set old new at b c is n p = record {
  links = fun_ext (λ k. fun_ext (λ x. links_kept old new at b c is n p k x (spot k at)));
  put = record { here = ap node_of p.here; others = λ k e. ap node_of (p.others k e) };
}

-- a cell with nothing in it at the end changes nothing
pub pushed : (slots : List Slot) (t : Slot) → cell_of t ≡ GoneCell [] → (k : ℕ) → cell_at (map cell_of (slots ++ t ∷ [])) k ≡ cell_at (map cell_of slots) k
pushed [] t e zero = e
pushed [] t e (suc k) = refl
pushed (x ∷ slots) t e zero = refl
pushed (x ∷ slots) t e (suc k) = pushed slots t e k

-- a link is set in one slot

differ_at : (x name : List ℕ) → NameCase name x → (x ≡ name → ⊥) → is_eq (slice_cmp nat_cmp name x) ≡ false
differ_at x name (same t e) apart = absurd (apart (sym e))
differ_at x name (other t e) apart = is_eq-slice_cmp name x ∙ t

pub child_set : (a : Attributes) (m n : BTreeMap (List ℕ) ℕ) (name : List ℕ) (to : Option ℕ) → UpdatesBy (slice_cmp nat_cmp) (slice_cmp nat_cmp name) m n to → Child (DirCell a m.entries) name to (DirCell a n.entries)
child_set a m n name to u = record { node = refl; here = u.1; others = λ x apart. u.2 x (differ_at x name (name_case name x) apart) }

pub cell_get : (slots : List Slot) (i : ℕ) (t : Slot) → i < length slots → t ≡ get_or slots i t → cell_at (map cell_of slots) i ≡ cell_of t
cell_get slots i t h e = cell_read slots i t (let k : true ≡ nat_lt i (length slots) = grind (arith, nat_tests) in k) e

pub dir_slot : (slots : List Slot) (i : ℕ) (t : Slot) → IsDirNode (node (map cell_of slots) i) → t ≡ get_or slots i t → IsDirNode (node_of (cell_of t))
dir_slot slots i t d e = (d.0, sym (node_is (map cell_of slots) i (cell_of t) (cell_get slots i t (within slots i d) e)) ∙ d.1)

pub links_put : (slots : List Slot) (i : ℕ) (t u : Slot) (name : List ℕ) (to : Option ℕ) → IsDirNode (node (map cell_of slots) i) → t ≡ get_or slots i t → Child (cell_of t) name to (cell_of u) → Links (map cell_of slots) i name to (map cell_of (set slots i u))
links_put slots i t u name to d e c = links_set (map cell_of slots) (map cell_of (set slots i u)) i name to (cell_of t) (cell_of u) (cell_get slots i t (within slots i d) e) c (puts slots i u (within slots i d))

pub same_put : (slots : List Slot) (i : ℕ) (t u : Slot) → t ≡ get_or slots i t → cell_of u ≡ cell_of t → map cell_of (set slots i u) ≡ map cell_of slots
same_put [] i t u e c = refl
same_put (x ∷ slots) zero t u e c = ap (λ (y : Cell). y ∷ map cell_of slots) (c ∙ ap cell_of e)
same_put (x ∷ slots) (suc i) t u e c = ap (λ (ys : List Cell). cell_of x ∷ ys) (same_put slots i t u e c)

-- what the cells say is what each cell says
pub same_links : (old new : List Cell) → cell_at new ≡ cell_at old → link new ≡ link old
unfolding link
same_links old new e = ap {B = ℕ → List ℕ → Option ℕ} (λ (f : ℕ → Cell) (k : ℕ) (x : List ℕ). find x (links_of (f k))) e

pub same_nodes : (old new : List Cell) → cell_at new ≡ cell_at old → node new ≡ node old
unfolding node
same_nodes old new e = ap {B = ℕ → Option Node} (λ (f : ℕ → Cell) (k : ℕ). node_of (f k)) e

-- a link that is set where cells are as before is set in what was before
pub links_from : (old one new : List Cell) (at : ℕ) (name : List ℕ) (to : Option ℕ) → cell_at one ≡ cell_at old → Links one at name to new → Links old at name to new
links_from old one new at name to kept h = record {
  set = record {
    here = h.set.here;
    others = λ k x apart. h.set.others k x apart ∙ ap (λ (g : ℕ → List ℕ → Option ℕ). g k x) (same_links old one kept);
  };
  nodes = h.nodes ∙ same_nodes old one kept;
}

-- a new cell is hung at a link: the link is set, and the cell is put where nothing was
module _ (old two new : List Cell) (at c : ℕ) (name : List ℕ) (cell : Cell) (blank : cell_at old c ≡ GoneCell []) (dir : IsDirNode (node old at)) (bare : links_of cell ≡ []) (set : Links old at name (Some c) two) (put : Puts two c cell new) where
  no_node : node old c ≡ None
  no_node = node_is old c (GoneCell []) blank

  no_links : (x : List ℕ) → link old c x ≡ None
  no_links x = link_is old c (GoneCell []) x blank

  not_dir : c ≡ at → ⊥
  not_dir e = let h : node old at ≡ None = sym (ap (node old) e) ∙ no_node in let d = dir.1 in cc

  two_bare : (x : List ℕ) → find x (links_of (cell_at two c)) ≡ None
  two_bare x = sym (link_is two c (cell_at two c) x refl) ∙ set.set.others c x (λ e _. not_dir e) ∙ no_links x

  last : Nodes two c (node_of cell) new
  last = nodes_set two new c (cell_at two c) cell refl (λ x. ap (find x) bare ∙ sym (two_bare x)) put

  pub adds_link : link new at name ≡ Some c
  adds_link = ap (λ (g : ℕ → List ℕ → Option ℕ). g at name) last.links ∙ set.set.here

  pub adds : Adds old at name (node_of cell) new
  adds = record {
    cell = c;
    nothing = no_node;
    bare = no_links;
    set = record {
      here = adds_link;
      others = λ k x apart. ap (λ (g : ℕ → List ℕ → Option ℕ). g k x) last.links ∙ set.set.others k x apart;
    };
    put = record {
      here = last.put.here;
      others = λ k apart. last.put.others k apart ∙ ap (λ (n : ℕ → Option Node). n k) set.nodes;
    };
  }

-- a slot is edited
pub edited : (slots : List Slot) (i : ℕ) (t u : Slot) (to : Option Node) → i < length slots → t ≡ get_or slots i t → Edit (cell_of t) to (cell_of u) → Nodes (map cell_of slots) i to (map cell_of (set slots i u))
edited slots i t u to h e d =
    let is = cell_get slots i t h e in
    subst (λ (o : Option Node). Nodes (map cell_of slots) i o (map cell_of (set slots i u))) d.node
    (nodes_set (map cell_of slots) (map cell_of (set slots i u)) i (cell_of t) (cell_of u) is (λ x. ap (find x) d.links) (puts slots i u h))

pub node_slot : (slots : List Slot) (i : ℕ) (t : Slot) → i < length slots → t ≡ get_or slots i t → node (map cell_of slots) i ≡ node_of (cell_of t)
node_slot slots i t h e = node_is (map cell_of slots) i (cell_of t) (cell_get slots i t h e)

pub edited_by : (f : Option Node → Option Node) (slots : List Slot) (i : ℕ) (t u : Slot) → i < length slots → t ≡ get_or slots i t → Edit (cell_of t) (f (node_of (cell_of t))) (cell_of u) → Nodes (map cell_of slots) i (f (node (map cell_of slots) i)) (map cell_of (set slots i u))
edited_by f slots i t u h e d = subst (λ (o : Option Node). Nodes (map cell_of slots) i (f o) (map cell_of (set slots i u))) (sym (node_slot slots i t h e)) (edited slots i t u (f (node_of (cell_of t))) h e d)

pub popped_at : (slots : List Slot) (i : ℕ) (t u : Slot) (r : Popped) → i < length slots → t ≡ get_or slots i t → Pops (cell_of t) r (cell_of u) → PopsAt (map cell_of slots) i r (map cell_of (set slots i u))
popped_at slots i t u (popped.Child c) h e (x, f, n, d) =
    let is = cell_get slots i t h e in
    (x, link_is (map cell_of slots) i (cell_of t) x is ∙ f, node_is (map cell_of slots) i (cell_of t) is ∙ n, links_set (map cell_of slots) (map cell_of (set slots i u)) i x None (cell_of t) (cell_of u) is d (puts slots i u h))
popped_at slots i t u (popped.Bare next) h e d = same_put slots i t u e d
popped_at slots i t u popped.Kept h e d = same_put slots i t u e d

pub pops_child : (m n : BTreeMap (List ℕ) ℕ) (x : List ℕ) (c : ℕ) → find x m.entries ≡ Some c → UpdatesBy (slice_cmp nat_cmp) (slice_cmp nat_cmp x) m n None → Pops (GoneCell m.entries) (popped.Child c) (GoneCell n.entries)
pops_child m n x c f u = (x, f, refl, record { node = refl; here = u.1; others = λ y apart. u.2 y (differ_at y x (name_case x y) apart) })

pub length_cells : (slots : List Slot) → length (map cell_of slots) ≡ length slots
length_cells [] = refl
length_cells (s ∷ slots) = ap (λ n. suc n) (length_cells slots)
