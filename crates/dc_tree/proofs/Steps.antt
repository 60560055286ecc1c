-- The steps of the calls, from cells to trees.
use Rattle.std.proofs.Common.{true, ◌≡◌, ℕ, ◌-◌, List, [], ◌∷◌, ◌++◌, Option, Some, None, IsSome, Result, Ok, Err, length, refl, sym, ◌∙◌, ap, subst, slice_get, zero, suc, cond}
use Rattle.std.proofs.Math.Path.{fun_ext}
use Rattle.std.specs.Result.{OnOk, OnErr}
use Rattle.std.specs.Option.{option_and_then}
use Rattle.dc_attrs.specs.Attributes.{Attributes}
use Rattle.dc_attrs.specs.declared.shown.Seen.TheVariants as seen_as
use Rattle.dc_attrs.specs.Trees.{seen_node, Node, Dir, File, Tree, with_node, without, moved, updated, appended, with_attrs}
use Rattle.dc_path.specs.Paths.{front_of, cut}
use Rattle.dc_attrs.specs.Fitting.{is_fitting, fits_at}
use Rattle.dc_attrs.specs.Attributes.{fits_dir}
use Rattle.dc_tree.specs.Arena.{Cell, DirCell, FileCell, cell_at, node_of, links_of, find, link, node, reach, tree_of, IsForest, IsArena, IsFileNode}
use Rattle.dc_tree.specs.Places.{IsVacant, IsTaken, IsAt}
use Rattle.dc_tree.specs.Edits.{Adds, Nodes, Puts, Links, Relinked, Keeps}
use Rattle.dc_tree.proofs.Graph.{Link, IsOrphan, cut_orphan, forest_cut, kept_below, reached_live, was_link}
use Rattle.dc_tree.proofs.Ops.{graph_tree, IsMaking, forest_made, tree_made, forest_renode, tree_with, forest_gone, tree_gone, tree_cut, IsMoving, forest_moved, tree_moved, PathCase, path_case, same_paths, two_paths, moved_here, moved_rest}
use Rattle.dc_tree.specs.declared.homes.Home.{Home}
use Rattle.dc_tree.specs.Homes.{home_at, AreHomes, Rehomed}
use Rattle.dc_tree.proofs.Homing.{homes_set, homes_same}
use Rattle.dc_tree.proofs.Cells.{nodes_set, link_is, node_is, same_links, same_nodes}
use Rattle.dc_tree.proofs.Ways.{tree_of-is}

pub on_either : {T E P R G : Type 0} (r : Result T E) → OnOk r P → OnErr r R → (P → G) → (R → G) → G
on_either (Ok x) p r f g = f p
on_either (Err e) p r f g = g r

pub some_of : (o : Option Node) → IsSome o → (v : Node) × (o ≡ Some v)
some_of None h = cc
some_of (Some v) h = (v, refl)

-- cells that say the same are the same tree
pub same_arena : (old new : List Cell) → cell_at new ≡ cell_at old → IsArena old → IsArena new
same_arena old new e f = subst (λ (n : ℕ → Option Node). IsForest (link new) n) (sym (same_nodes old new e)) (subst (λ (g : Link). IsForest g (node old)) (sym (same_links old new e)) f)

pub same_tree : (old new : List Cell) → cell_at new ≡ cell_at old → tree_of new ≡ tree_of old
same_tree old new e = tree_of-is new ∙ ap (λ (g : Link). graph_tree g (node new)) (same_links old new e) ∙ ap (graph_tree (link old)) (same_nodes old new e) ∙ sym (tree_of-is old)

-- a new cell is hung at a path where nothing stands

making : (old new : List Cell) (p : List (List ℕ)) (parent : ℕ) (name : List ℕ) (v : Node) (w : IsVacant old p parent) → Some name ≡ slice_get p (length p - 1) → (a : Adds old parent name (Some v) new) → is_fitting (Some v) ≡ true → IsMaking (link old) (link new) (node old) (node new) (front_of p) parent w.under.name a.cell v
making old new p parent name v w e a fits =
    let same : Some name ≡ Some w.under.name = e ∙ w.under.last in
    let named : name ≡ w.under.name = cc in
    record {
      forest = w.forest;
      there = w.under.there;
      dir = w.under.dir;
      vacant = w.vacant;
      nothing = a.nothing;
      bare = a.bare;
      set = subst (λ (x : List ℕ). Relinked (link old) (link new) parent x (Some a.cell)) named a.set;
      put = a.put;
      fits = fits;
    }

pub hung_arena : (old new : List Cell) (p : List (List ℕ)) (parent : ℕ) (name : List ℕ) (v : Node) → IsVacant old p parent → Some name ≡ slice_get p (length p - 1) → Adds old parent name (Some v) new → is_fitting (Some v) ≡ true → IsArena new
hung_arena old new p parent name v w e a fits = forest_made (link old) (link new) (node old) (node new) (front_of p) parent w.under.name a.cell v (making old new p parent name v w e a fits)

pub same_homes : (old new : List Cell) (was now : List (Option Home)) → cell_at new ≡ cell_at old → home_at now ≡ home_at was → AreHomes (link old) was → AreHomes (link new) now
same_homes old new was now e s = homes_same (link old) (link new) was now (same_links old new e) s

pub hung_tree : (old new : List Cell) (p : List (List ℕ)) (parent : ℕ) (name : List ℕ) (v : Node) → IsVacant old p parent → Some name ≡ slice_get p (length p - 1) → Adds old parent name (Some v) new → is_fitting (Some v) ≡ true → tree_of new ≡ with_node (tree_of old) p v
hung_tree old new p parent name v w e a fits =
    tree_of-is new ∙ tree_made (link old) (link new) (node old) (node new) (front_of p) parent w.under.name a.cell v (making old new p parent name v w e a fits)
    ∙ ap (λ (q : List (List ℕ)). with_node (graph_tree (link old) (node old)) q v) (sym w.under.is) ∙ ap (λ (t : Tree). with_node t p v) (sym (tree_of-is old))

-- a node is changed where it stands

pub data SameKind (o : Option Node) (v : Node) : Type 0 where
  dirs : (a b : Attributes) → o ≡ Some (Dir a) → v ≡ Dir b → SameKind o v
  files : (b : List ℕ) (a : Attributes) (c : List ℕ) (d : Attributes) → o ≡ Some (File b a) → v ≡ File c d → SameKind o v

kind_root : (old : List Cell) (at : ℕ) (v : Node) → IsArena old → SameKind (node old at) v → at ≡ 0 → (a : Attributes) × (v ≡ Dir a)
kind_root old at v f (dirs a b o e) z = (b, e)
kind_root old at v f (files b a c d o e) z = let r = f.root.1 in let h : node old 0 ≡ Some (File b a) = sym (ap (node old) z) ∙ o in cc

kind_leaf : (old : List Cell) (at : ℕ) (v : Node) → IsArena old → SameKind (node old at) v → (b : List ℕ) (a : Attributes) → v ≡ File b a → (x : List ℕ) → link old at x ≡ None
kind_leaf old at v f (dirs a b o e) c d h x = cc
kind_leaf old at v f (files b a c d o e) k l h x = f.leaves at x b a o

pub renoded_arena : (old new : List Cell) (at : ℕ) (v : Node) → IsArena old → SameKind (node old at) v → is_fitting (Some v) ≡ true → Nodes old at (Some v) new → IsArena new
renoded_arena old new at v f k fits n = subst (λ (g : Link). IsForest g (node new)) (sym n.links) (forest_renode (link old) (node old) (node new) at v f n.put (kind_root old at v f k) (kind_leaf old at v f k) fits)

pub renoded_tree : (old new : List Cell) (at : ℕ) (v : Node) (p : List (List ℕ)) → IsAt old p at → Nodes old at (Some v) new → tree_of new ≡ with_node (tree_of old) p v
renoded_tree old new at v p w n =
    tree_of-is new ∙ ap (λ (g : Link). graph_tree g (node new)) n.links ∙ tree_with (link old) (node old) (node new) at v p w.forest w.at n.put
    ∙ ap (λ (t : Tree). with_node t p v) (sym (tree_of-is old))

file_bare : (old : List Cell) (at : ℕ) → IsArena old → IsFileNode (node old at) → (x : List ℕ) → find x (links_of (cell_at old at)) ≡ None
file_bare old at f (b, a, e) x = sym (link_is old at (cell_at old at) x refl) ∙ f.leaves at x b a e

pub file_put : (old new : List Cell) (at : ℕ) (b : List ℕ) (a : Attributes) → IsArena old → IsFileNode (node old at) → Puts old at (FileCell b a) new → Nodes old at (Some (File b a)) new
file_put old new at b a f k p = nodes_set old new at (cell_at old at) (FileCell b a) refl (λ x. sym (file_bare old at f k x)) p

pub file_kind : (o : Option Node) (b : List ℕ) (a : Attributes) → IsFileNode o → SameKind o (File b a)
file_kind o b a (c, d, e) = files c d b a e refl

-- the root alone

bare_link : (a : Attributes) (k : ℕ) (x : List ℕ) → find x (links_of (cell_at (DirCell a [] ∷ []) k)) ≡ None
bare_link a zero x = refl
bare_link a (suc k) x = refl

bare_links : (a : Attributes) (k : ℕ) (x : List ℕ) → link (DirCell a [] ∷ []) k x ≡ None
unfolding link
bare_links a k x = bare_link a k x

bare_file : (a : Attributes) (k : ℕ) (b : List ℕ) (d : Attributes) → node_of (cell_at (DirCell a [] ∷ []) k) ≡ Some (File b d) → ⊥
bare_file a zero b d e = cc
bare_file a (suc k) b d e = cc

bare_fits : (a : Attributes) → fits_dir a ≡ true → (k : ℕ) → is_fitting (node_of (cell_at (DirCell a [] ∷ []) k)) ≡ true
bare_fits a h zero = h
bare_fits a h (suc k) = refl

pub root_arena : (a : Attributes) → fits_dir a ≡ true → IsArena (DirCell a [] ∷ [])
unfolding node
root_arena a h = record {
  root = (a, refl);
  live = λ k x c e. let n = bare_links a k x in cc;
  no_root = λ k x e. let n = bare_links a k x in cc;
  apart = λ k x l y c d e. let n = bare_links a k x in cc;
  leaves = λ k x b d e. bare_links a k x;
  fits = bare_fits a h;
}

pub root_leads_nowhere : {A : Type 0} (a : Attributes) (k : ℕ) (x : List ℕ) (c : ℕ) → link (DirCell a [] ∷ []) k x ≡ Some c → A
root_leads_nowhere a k x c e = let n = bare_links a k x in cc

root_at : (a : Attributes) (q : List (List ℕ)) → graph_tree (link (DirCell a [] ∷ [])) (node (DirCell a [] ∷ [])) q ≡ with_node (λ q. None) [] (Dir a) q
root_at a [] = node_is (DirCell a [] ∷ []) 0 (DirCell a []) refl
root_at a (x ∷ q) = ap (λ (o : Option ℕ). option_and_then (node (DirCell a [] ∷ [])) (option_and_then (λ k. reach (link (DirCell a [] ∷ [])) k q) o)) (bare_links a 0 x)

pub root_tree : (a : Attributes) → tree_of (DirCell a [] ∷ []) ≡ with_node (λ q. None) [] (Dir a)
root_tree a = tree_of-is (DirCell a [] ∷ []) ∙ fun_ext (root_at a)

-- a cell that was given up is drained

pub keeps_same : (old new : List Cell) → new ≡ old → Keeps old new
keeps_same old new e = record { fewer = λ k x c h. sym (ap (λ (cells : List Cell). link cells k x) e) ∙ h; arena = λ f. subst IsArena (sym e) f; tree = λ f. ap tree_of e }

pub keeps_on : (old one new : List Cell) → Keeps old one → Keeps one new → Keeps old new
keeps_on old one new k l = record { fewer = λ i x c h. k.fewer i x c (l.fewer i x c h); arena = λ f. l.arena (k.arena f); tree = λ f. l.tree (k.arena f) ∙ k.tree f }

module _ (old one : List Cell) (at : ℕ) (x : List ℕ) (c : ℕ) (held : link old at x ≡ Some c) (gone : node old at ≡ None) (l : Links old at x None one) where
  popped_arena : IsArena old → IsArena one
  popped_arena f = subst (λ (n : ℕ → Option Node). IsForest (link one) n) (sym l.nodes) (forest_cut (link old) (link one) (node old) at x f l.set)

  popped_tree : IsArena old → tree_of one ≡ tree_of old
  popped_tree f = tree_of-is one ∙ ap (graph_tree (link one)) l.nodes
      ∙ fun_ext (λ q. ap (option_and_then (node old)) (kept_below (link old) (link one) at x None l.set 0 (λ p e. reached_live (link old) (node old) f p at e gone) q))
      ∙ sym (tree_of-is old)

  pub keeps_popped : Keeps old one
  keeps_popped = record { fewer = was_link (link old) (link one) at x l.set; arena = popped_arena; tree = popped_tree }

  pub popped_orphan : IsArena old → IsOrphan (link one) c
  popped_orphan f = cut_orphan (link old) (link one) (node old) at x c f l.set held

  pub popped_not_root : IsArena old → c ≡ 0 → ⊥
  popped_not_root f e = f.no_root at x (held ∙ ap (λ (j : ℕ). Some j) e)

-- an orphan is given up
pub orphan_arena : (old new : List Cell) (c : ℕ) → IsArena old → IsOrphan (link old) c → (c ≡ 0 → ⊥) → Nodes old c None new → IsArena new
orphan_arena old new c f o z n = subst (λ (g : Link). IsForest g (node new)) (sym n.links) (forest_gone (link old) (node old) (node new) c f n.put o z)

pub orphan_tree : (old new : List Cell) (c : ℕ) → IsOrphan (link old) c → (c ≡ 0 → ⊥) → Nodes old c None new → tree_of new ≡ tree_of old
orphan_tree old new c o z n = tree_of-is new ∙ ap (λ (g : Link). graph_tree g (node new)) n.links ∙ tree_gone (link old) (node old) (node new) c n.put o z ∙ sym (tree_of-is old)

pub keeps_dismissed : (old one two : List Cell) (at : ℕ) (x : List ℕ) (c : ℕ) → link old at x ≡ Some c → node old at ≡ None → Links old at x None one → Nodes one c None two → Keeps old two
keeps_dismissed old one two at x c held gone l n = record {
  fewer = λ k y d e. was_link (link old) (link one) at x l.set k y d (sym (ap (λ (g : Link). g k y) n.links) ∙ e);
  arena = λ f. orphan_arena one two c (popped_arena old one at x c held gone l f) (popped_orphan old one at x c held gone l f) (popped_not_root old one at x c held gone l f) n;
  tree = λ f. orphan_tree one two c (popped_orphan old one at x c held gone l f) (popped_not_root old one at x c held gone l f) n ∙ popped_tree old one at x c held gone l f;
}

-- what stands at a path is changed by a function

updated_at : (f : Option Node → Option Node) (t : Tree) (p : List (List ℕ)) (v : Node) → f (t p) ≡ Some v → (q : List (List ℕ)) → PathCase p q → with_node t p v q ≡ updated t p f q
updated_at f t p v e q (same_paths b is) = ap (λ b. cond b (Some v) (t q)) b ∙ sym e ∙ ap (λ (r : List (List ℕ)). f (t r)) is ∙ sym (ap (λ b. cond b (f (t q)) (t q)) b)
updated_at f t p v e q (two_paths b differ) = ap (λ b. cond b (Some v) (t q)) b ∙ sym (ap (λ b. cond b (f (t q)) (t q)) b)

updated_is : (f : Option Node → Option Node) (t : Tree) (p : List (List ℕ)) (v : Node) → f (t p) ≡ Some v → with_node t p v ≡ updated t p f
updated_is f t p v e = fun_ext (λ q. updated_at f t p v e q (path_case p q))

pub updated_tree : (f : Option Node → Option Node) (old new : List Cell) (at : ℕ) (p : List (List ℕ)) (v : Node) → IsAt old p at → f (node old at) ≡ Some v → Nodes old at (f (node old at)) new → tree_of new ≡ updated (tree_of old) p f
updated_tree f old new at p v w e n =
    renoded_tree old new at v p w (subst (λ (o : Option Node). Nodes old at o new) e n) ∙ updated_is f (tree_of old) p v (ap f w.node ∙ e)

dressed : (attrs : Attributes) (o : Option Node) (w : Node) → o ≡ Some w → (v : Node) × (with_attrs attrs o ≡ Some v) × SameKind o v
dressed attrs None w e = cc
dressed attrs (Some (Dir a)) w e = (Dir attrs, refl, dirs a attrs refl refl)
dressed attrs (Some (File b a)) w e = (File b attrs, refl, files b a b attrs refl refl)

pub dressed_arena : (old new : List Cell) (at : ℕ) (attrs : Attributes) (w : Node) → IsArena old → node old at ≡ Some w → fits_at (node old at) attrs ≡ true → Nodes old at (with_attrs attrs (node old at)) new → IsArena new
dressed_arena old new at attrs w f e fits n =
    let d = dressed attrs (node old at) w e in
    renoded_arena old new at d.0 f d.2 (sym (ap is_fitting d.1) ∙ fits) (subst (λ (o : Option Node). Nodes old at o new) d.1 n)

pub dressed_tree : (old new : List Cell) (at : ℕ) (attrs : Attributes) (p : List (List ℕ)) → IsAt old p at → Nodes old at (with_attrs attrs (node old at)) new → tree_of new ≡ updated (tree_of old) p (with_attrs attrs)
dressed_tree old new at attrs p w n =
    let d = dressed attrs (node old at) w.there.0 w.there.1 in
    updated_tree (with_attrs attrs) old new at p d.0 w d.1 n

longer : (more : List ℕ) (o : Option Node) → IsFileNode o → (v : Node) × (appended more o ≡ Some v) × SameKind o v
longer more o (b, a, e) = (File (b ++ more) a, ap (appended more) e, files b a (b ++ more) a e refl)

longer_fits : (more : List ℕ) (o : Option Node) → is_fitting o ≡ true → is_fitting (appended more o) ≡ true
longer_fits more None h = h
longer_fits more (Some (Dir a)) h = h
longer_fits more (Some (File b a)) h = h

pub longer_arena : (old new : List Cell) (at : ℕ) (more : List ℕ) → IsArena old → IsFileNode (node old at) → Nodes old at (appended more (node old at)) new → IsArena new
longer_arena old new at more f k n =
    let d = longer more (node old at) k in
    renoded_arena old new at d.0 f d.2 (sym (ap is_fitting d.1) ∙ longer_fits more (node old at) (f.fits at)) (subst (λ (o : Option Node). Nodes old at o new) d.1 n)

pub longer_tree : (old new : List Cell) (at : ℕ) (more : List ℕ) (p : List (List ℕ)) → IsAt old p at → IsFileNode (node old at) → Nodes old at (appended more (node old at)) new → tree_of new ≡ updated (tree_of old) p (appended more)
longer_tree old new at more p w k n =
    let d = longer more (node old at) k in
    updated_tree (appended more) old new at p d.0 w d.1 n

-- what is at a path is taken out, given up and drained

named : (old : List Cell) (p : List (List ℕ)) (parent child : ℕ) (name : List ℕ) (w : IsTaken old p parent child) → Some name ≡ slice_get p (length p - 1) → name ≡ w.under.name
named old p parent child name w e = let same : Some name ≡ Some w.under.name = e ∙ w.under.last in cc

pub taken_held : (old : List Cell) (p : List (List ℕ)) (parent child : ℕ) (name : List ℕ) (w : IsTaken old p parent child) → Some name ≡ slice_get p (length p - 1) → link old parent name ≡ Some child
taken_held old p parent child name w e = ap (link old parent) (named old p parent child name w e) ∙ w.held

module _ (old one two : List Cell) (p : List (List ℕ)) (parent child : ℕ) (name : List ℕ) (w : IsTaken old p parent child) (e : Some name ≡ slice_get p (length p - 1)) (l : Links old parent name None one) (n : Nodes one child None two) where
  held : link old parent name ≡ Some child
  held = taken_held old p parent child name w e

  cut_arena : IsArena one
  cut_arena = subst (λ (n : ℕ → Option Node). IsForest (link one) n) (sym l.nodes) (forest_cut (link old) (link one) (node old) parent name w.stands.forest l.set)

  cut_out : IsOrphan (link one) child
  cut_out = cut_orphan (link old) (link one) (node old) parent name child w.stands.forest l.set held

  not_root : child ≡ 0 → ⊥
  not_root z = w.stands.forest.no_root parent name (held ∙ ap (λ (j : ℕ). Some j) z)

  pub unhung_arena : IsArena two
  unhung_arena = orphan_arena one two child cut_arena cut_out not_root n

  pub unhung_tree : tree_of two ≡ without (tree_of old) p
  unhung_tree =
      orphan_tree one two child cut_out not_root n
      ∙ tree_of-is one ∙ ap (graph_tree (link one)) l.nodes ∙ tree_cut (link old) (link one) (node old) (front_of p) parent name w.stands.forest w.under.there l.set
      ∙ ap (without (graph_tree (link old) (node old))) (ap (λ (x : List ℕ). front_of p ++ x ∷ []) (named old p parent child name w e) ∙ sym w.under.is)
      ∙ ap (λ (t : Tree). without t p) (sym (tree_of-is old))

-- what is at one path is hung at another

module _ (old one two : List Cell) (p q : List (List ℕ)) (a c b : ℕ) (x y : List ℕ) (w : IsTaken old p a c) (v : IsVacant old q b) (e : Some x ≡ slice_get p (length p - 1)) (f : Some y ≡ slice_get q (length q - 1)) (apart : cut p q ≡ None) (l : Links old b y (Some c) one) (m : Links one a x None two) where
  y_is : y ≡ v.under.name
  y_is = let same : Some y ≡ Some v.under.name = f ∙ v.under.last in cc

  x_is : x ≡ w.under.name
  x_is = named old p a c x w e

  p_is : front_of p ++ x ∷ [] ≡ p
  p_is = ap (λ (x : List ℕ). front_of p ++ x ∷ []) x_is ∙ sym w.under.is

  q_is : front_of q ++ y ∷ [] ≡ q
  q_is = ap (λ (x : List ℕ). front_of q ++ x ∷ []) y_is ∙ sym v.under.is

  moving : IsMoving (link old) (link one) (link two) (node old) (front_of p) a x c (front_of q) b y
  moving = record {
    forest = w.stands.forest;
    from = w.under.there;
    held = ap (link old a) x_is ∙ w.held;
    to = v.under.there;
    dir = v.under.dir;
    vacant = ap (link old b) y_is ∙ v.vacant;
    apart = ap (λ (d : List (List ℕ)). cut d (front_of q ++ y ∷ [])) p_is ∙ ap (cut p) q_is ∙ apart;
    first = l.set;
    second = m.set;
  }

  nodes : node two ≡ node old
  nodes = m.nodes ∙ l.nodes

  pub rehung_arena : IsArena two
  rehung_arena = subst (λ (n : ℕ → Option Node). IsForest (link two) n) (sym nodes) (forest_moved (link old) (link one) (link two) (node old) (front_of p) a x c (front_of q) b y moving)

  pub rehung_homes : (was now : List (Option Home)) → AreHomes (link old) was → Rehomed was now c (record { parent = b; name = y }) → AreHomes (link two) now
  rehung_homes was now h r =
      let forest = forest_moved (link old) (link one) (link two) (node old) (front_of p) a x c (front_of q) b y moving in
      let here = moved_here (link old) (link one) (link two) (node old) (front_of p) a x c (front_of q) b y moving in
      let rest = moved_rest (link old) (link one) (link two) (node old) (front_of p) a x c (front_of q) b y moving in
      homes_set (link old) (link two) (node old) was now b y c forest h here (λ k z d apart e. rest k z d apart e) r

  pub rehung_tree : tree_of two ≡ moved (tree_of old) p q
  rehung_tree =
      tree_of-is two ∙ ap (graph_tree (link two)) nodes ∙ tree_moved (link old) (link one) (link two) (node old) (front_of p) a x c (front_of q) b y moving
      ∙ ap (λ (d : List (List ℕ)). moved (graph_tree (link old) (node old)) d (front_of q ++ y ∷ [])) p_is ∙ ap (moved (graph_tree (link old) (node old)) p) q_is
      ∙ ap (λ (t : Tree). moved t p q) (sym (tree_of-is old))

pub seen_file : (o : Option Node) (n : ℕ) → seen_as.File n ≡ seen_node o → IsFileNode o
seen_file None n e = cc
seen_file (Some (Dir a)) n e = cc
seen_file (Some (File b a)) n e = (b, a, refl)
