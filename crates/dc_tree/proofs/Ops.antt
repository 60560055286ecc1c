-- What a change of a graph makes of its tree: a node changed where it stands, a link cut, added or moved.
use Rattle.std.proofs.Common.{◌≡◌, ◌≢◌, ℕ, List, [], ◌∷◌, ◌++◌, Bool, true, false, cond, Option, Some, None, nat_eq, ◌&&◌, refl, sym, ◌∙◌, ap}
use Rattle.std.proofs.Math.Path.{fun_ext}
use Rattle.std.specs.Option.{option_and_then}
use Rattle.std.proofs.lemmas.Bool.{eq-eqb, eqb-true}
use Rattle.std.proofs.lemmas.List.{append-nil}
use Rattle.dc_attrs.specs.Attributes.{Attributes}
use Rattle.dc_attrs.specs.Trees.{Node, Dir, File, Tree, with_node, without, moved}
use Rattle.dc_path.specs.Names.{same_name}
use Rattle.dc_path.specs.Paths.{same_path, cut, at_cut}
use Rattle.dc_attrs.specs.Fitting.{is_fitting}
use Rattle.dc_tree.specs.Arena.{reach, IsForest}
use Rattle.dc_tree.specs.Edits.{Relinked, Renoded}
use Rattle.dc_path.proofs.PathLemmas.{path_decides, cut-append, append-cut, not_longer, Last, empty, ended, last_case, same_name-refl, name_decides, cut_more}
use Rattle.dc_tree.proofs.Graph.{Link, one_path, reached_live, reach_next, reach_on, reach_off, reach_before, relinked, kept_below, forest_cut, forest_add, IsOrphan, cut_orphan, LinkCase, this, elsewhere, link_case, Spot, here, away, spot, was_link}

abbrev pub graph_tree : Link → (ℕ → Option Node) → Tree
graph_tree g n p = option_and_then n (reach g 0 p)

pub data PathCase (p q : List (List ℕ)) : Type 0 where
  same_paths : same_path p q ≡ true → p ≡ q → PathCase p q
  two_paths : same_path p q ≡ false → (p ≡ q → ⊥) → PathCase p q

path_case_at : (p q : List (List ℕ)) (b : Bool) → same_path p q ≡ b → PathCase p q
path_case_at p q true e = same_paths e ((path_decides p q).0 e)
path_case_at p q false e = two_paths e (λ h. let f : same_path p q ≡ true = (path_decides p q).1 h in cc)

pub path_case : (p q : List (List ℕ)) → PathCase p q
path_case p q = path_case_at p q (same_path p q) refl

-- a node is changed where it stands

then_others : (n m : ℕ → Option Node) (at : ℕ) (to : Option Node) → Renoded n m at to → (o : Option ℕ) → (o ≡ Some at → ⊥) → option_and_then m o ≡ option_and_then n o
then_others n m at to r None e = refl
then_others n m at to r (Some k) e = r.others k (λ ka. e (ap (λ (j : ℕ). Some j) ka))

unreached : (g : Link) (n m : ℕ → Option Node) (at : ℕ) (to : Option Node) → Renoded n m at to → ((p : List (List ℕ)) → reach g 0 p ≡ Some at → ⊥) → graph_tree g m ≡ graph_tree g n
unreached g n m at to r out = fun_ext (λ p. then_others n m at to r (reach g 0 p) (out p))

with_at : (g : Link) (n m : ℕ → Option Node) (at : ℕ) (v : Node) (p q : List (List ℕ)) → IsForest g n → reach g 0 p ≡ Some at → Renoded n m at (Some v) → PathCase p q → graph_tree g m q ≡ with_node (graph_tree g n) p v q
with_at g n m at v p q f there r (same_paths t e) =
    let to : graph_tree g m q ≡ Some v = ap (option_and_then m) (ap (reach g 0) (sym e) ∙ there) ∙ r.here in
    to ∙ sym (ap (λ b. cond b (Some v) (graph_tree g n q)) t)
with_at g n m at v p q f there r (two_paths t e) =
    then_others n m at (Some v) r (reach g 0 q) (λ h. e (one_path g n f p q at there h)) ∙ sym (ap (λ b. cond b (Some v) (graph_tree g n q)) t)

pub tree_with : (g : Link) (n m : ℕ → Option Node) (at : ℕ) (v : Node) (p : List (List ℕ)) → IsForest g n → reach g 0 p ≡ Some at → Renoded n m at (Some v) → graph_tree g m ≡ with_node (graph_tree g n) p v
tree_with g n m at v p f there r = fun_ext (λ q. with_at g n m at v p q f there r (path_case p q))

renode_live : (n m : ℕ → Option Node) (at : ℕ) (v : Node) → Renoded n m at (Some v) → (c : ℕ) → Spot c at → n c ≢ None → m c ≢ None
renode_live n m at v r c (here e) h w = let k : m c ≡ Some v = ap m e ∙ r.here in cc
renode_live n m at v r c (away e) h w = h (sym (r.others c e) ∙ w)

renode_root : (g : Link) (n m : ℕ → Option Node) (at : ℕ) (v : Node) → IsForest g n → Renoded n m at (Some v) → ((at ≡ 0) → (a : Attributes) × (v ≡ Dir a)) → Spot 0 at → (a : Attributes) × (m 0 ≡ Some (Dir a))
renode_root g n m at v f r dir (here e) = let d = dir (sym e) in (d.0, ap m e ∙ r.here ∙ ap (λ (w : Node). Some w) d.1)
renode_root g n m at v f r dir (away e) = (f.root.0, r.others 0 e ∙ f.root.1)

renode_leaves : (g : Link) (n m : ℕ → Option Node) (at : ℕ) (v : Node) → IsForest g n → Renoded n m at (Some v) → ((b : List ℕ) (a : Attributes) → v ≡ File b a → (x : List ℕ) → g at x ≡ None) → (k : ℕ) (x : List ℕ) (b : List ℕ) (a : Attributes) → Spot k at → m k ≡ Some (File b a) → g k x ≡ None
renode_leaves g n m at v f r leaf k x b a (here e) w =
    let h : Some v ≡ Some (File b a) = sym (ap m e ∙ r.here) ∙ w in
    let i : v ≡ File b a = cc in
    ap (λ (j : ℕ). g j x) e ∙ leaf b a i x
renode_leaves g n m at v f r leaf k x b a (away e) w = f.leaves k x b a (sym (r.others k e) ∙ w)

renode_fits : (n m : ℕ → Option Node) (at : ℕ) (to : Option Node) → ((k : ℕ) → is_fitting (n k) ≡ true) → Renoded n m at to → is_fitting to ≡ true → (k : ℕ) → Spot k at → is_fitting (m k) ≡ true
renode_fits n m at to f r fits k (here e) = ap is_fitting (ap m e ∙ r.here) ∙ fits
renode_fits n m at to f r fits k (away e) = ap is_fitting (r.others k e) ∙ f k

pub forest_renode : (g : Link) (n m : ℕ → Option Node) (at : ℕ) (v : Node) → IsForest g n → Renoded n m at (Some v) → ((at ≡ 0) → (a : Attributes) × (v ≡ Dir a)) → ((b : List ℕ) (a : Attributes) → v ≡ File b a → (x : List ℕ) → g at x ≡ None) → is_fitting (Some v) ≡ true → IsForest g m
forest_renode g n m at v f r dir leaf fits = record {
  root = renode_root g n m at v f r dir (spot 0 at);
  live = λ k x c e. renode_live n m at v r c (spot c at) (f.live k x c e);
  no_root = f.no_root;
  apart = f.apart;
  leaves = λ k x b a w. renode_leaves g n m at v f r leaf k x b a (spot k at) w;
  fits = λ k. renode_fits n m at (Some v) f.fits r fits k (spot k at);
}

-- a cell to which nothing leads is given up

orphan_last : (g : Link) (at : ℕ) → IsOrphan g at → (at ≡ 0 → ⊥) → (p : List (List ℕ)) → Last p → reach g 0 p ≡ Some at → ⊥
orphan_last g at orphan apart p (empty e) w = let h : Some 0 ≡ Some at = sym (ap (reach g 0) e) ∙ w in let i : at ≡ 0 = cc in apart i
orphan_last g at orphan apart p (ended r x e) w = let s = reach_before g 0 r x at (sym (ap (reach g 0) e) ∙ w) in orphan s.0 x s.2

pub orphan_out : (g : Link) (at : ℕ) → IsOrphan g at → (at ≡ 0 → ⊥) → (p : List (List ℕ)) → reach g 0 p ≡ Some at → ⊥
orphan_out g at orphan apart p = orphan_last g at orphan apart p (last_case p)

gone_leaves : (g : Link) (n m : ℕ → Option Node) (at : ℕ) → IsForest g n → Renoded n m at None → (k : ℕ) (x : List ℕ) (b : List ℕ) (a : Attributes) → Spot k at → m k ≡ Some (File b a) → g k x ≡ None
gone_leaves g n m at f r k x b a (here e) w = let h : m k ≡ None = ap m e ∙ r.here in cc
gone_leaves g n m at f r k x b a (away e) w = f.leaves k x b a (sym (r.others k e) ∙ w)

pub forest_gone : (g : Link) (n m : ℕ → Option Node) (at : ℕ) → IsForest g n → Renoded n m at None → IsOrphan g at → (at ≡ 0 → ⊥) → IsForest g m
forest_gone g n m at f r orphan apart = record {
  root = (f.root.0, r.others 0 (λ e. apart (sym e)) ∙ f.root.1);
  live = λ k x c e w. f.live k x c e (sym (r.others c (λ i. orphan k x (e ∙ ap (λ (j : ℕ). Some j) i))) ∙ w);
  no_root = f.no_root;
  apart = f.apart;
  leaves = λ k x b a w. gone_leaves g n m at f r k x b a (spot k at) w;
  fits = λ k. renode_fits n m at None f.fits r refl k (spot k at);
}

pub tree_gone : (g : Link) (n m : ℕ → Option Node) (at : ℕ) → Renoded n m at None → IsOrphan g at → (at ≡ 0 → ⊥) → graph_tree g m ≡ graph_tree g n
tree_gone g n m at r orphan apart = unreached g n m at None r (orphan_out g at orphan apart)

-- a link is cut: what stood at its path or below it is gone

then_cut : (n : ℕ → Option Node) (o : Option (List (List ℕ))) (k : Option ℕ) → option_and_then n (at_cut o k (λ r. None)) ≡ at_cut o (option_and_then n k) (λ r. None)
then_cut n None k = refl
then_cut n (Some r) k = refl

pub tree_cut : (g h : Link) (n : ℕ → Option Node) (front : List (List ℕ)) (at : ℕ) (name : List ℕ) → IsForest g n → reach g 0 front ≡ Some at → Relinked g h at name None → graph_tree h n ≡ without (graph_tree g n) (front ++ name ∷ [])
tree_cut g h n front at name f there r = fun_ext (λ q. ap (option_and_then n) (relinked g h n front at name None (record { forest = f; there = there; set = r }) q) ∙ then_cut n (cut (front ++ name ∷ []) q) (reach g 0 q))

-- a link is added: what hangs at it stands at its path and below it

pub record IsAdding (g h : Link) (n : ℕ → Option Node) (front : List (List ℕ)) (at : ℕ) (name : List ℕ) (c : ℕ) : Type 0 where
  pub forest : IsForest g n
  pub there : reach g 0 front ≡ Some at
  pub set : Relinked g h at name (Some c)
  pub outside : (r : List (List ℕ)) → reach g c r ≡ Some at → ⊥

then_at : (n : ℕ → Option Node) (o : Option (List (List ℕ))) (k : Option ℕ) (f : List (List ℕ) → Option ℕ) → option_and_then n (at_cut o k f) ≡ at_cut o (option_and_then n k) (λ r. option_and_then n (f r))
then_at n None k f = refl
then_at n (Some r) k f = refl

at_same : {A : Type 0} (o : Option (List (List ℕ))) (a : A) (f k : List (List ℕ) → A) → ((r : List (List ℕ)) → f r ≡ k r) → at_cut o a f ≡ at_cut o a k
at_same None a f k e = refl
at_same (Some r) a f k e = e r

pub tree_add : (g h : Link) (n : ℕ → Option Node) (front : List (List ℕ)) (at : ℕ) (name : List ℕ) (c : ℕ) → IsAdding g h n front at name c → (q : List (List ℕ)) → graph_tree h n q ≡ at_cut (cut (front ++ name ∷ []) q) (graph_tree g n q) (λ r. option_and_then n (reach g c r))
tree_add g h n front at name c a q =
    ap (option_and_then n) (relinked g h n front at name (Some c) (record { forest = a.forest; there = a.there; set = a.set }) q)
    ∙ then_at n (cut (front ++ name ∷ []) q) (reach g 0 q) (λ r. reach h c r)
    ∙ at_same (cut (front ++ name ∷ []) q) (graph_tree g n q) (λ r. option_and_then n (reach h c r)) (λ r. option_and_then n (reach g c r)) (λ r. ap (option_and_then n) (kept_below g h at name (Some c) a.set c a.outside r))

-- a new cell is hung under a directory

pub record IsMaking (g h : Link) (n m : ℕ → Option Node) (front : List (List ℕ)) (at : ℕ) (name : List ℕ) (c : ℕ) (v : Node) : Type 0 where
  pub forest : IsForest g n
  pub there : reach g 0 front ≡ Some at
  pub dir : (a : Attributes) × (n at ≡ Some (Dir a))
  pub vacant : g at name ≡ None
  pub nothing : n c ≡ None
  pub bare : (x : List ℕ) → g c x ≡ None
  pub set : Relinked g h at name (Some c)
  pub put : Renoded n m c (Some v)
  pub fits : is_fitting (Some v) ≡ true

module _ (g h : Link) (n m : ℕ → Option Node) (front : List (List ℕ)) (at : ℕ) (name : List ℕ) (c : ℕ) (v : Node) (w : IsMaking g h n m front at name c v) where
  not_at : at ≡ c → ⊥
  not_at e = let k : n at ≡ None = ap n e ∙ w.nothing in let l = w.dir.1 in cc

  not_root : c ≡ 0 → ⊥
  not_root e = let k : n 0 ≡ None = ap n (sym e) ∙ w.nothing in let l = w.forest.root.1 in cc

  bare_out : (r : List (List ℕ)) → reach g c r ≡ Some at → ⊥
  bare_out [] e = let k : at ≡ c = cc in not_at k
  bare_out (x ∷ r) e = let k : option_and_then (λ k. reach g k r) (g c x) ≡ None = ap (option_and_then (λ (k : ℕ). reach g k r)) (w.bare x) in cc

  made_forest : IsForest g m
  made_forest = forest_renode g n m c v w.forest w.put (λ e. absurd (not_root e)) (λ b a e x. w.bare x) w.fits

  pub forest_made : IsForest h m
  forest_made =
      let there : m c ≡ Some v = w.put.here in
      forest_add g h m at name c w.dir.0 made_forest w.set (w.put.others at not_at ∙ w.dir.1) (λ k x e. w.forest.live k x c e w.nothing) (λ e. cc) not_root

  made_same : graph_tree g m ≡ graph_tree g n
  made_same = unreached g n m c (Some v) w.put (λ p e. reached_live g n w.forest p c e w.nothing)

  made_at : (q : List (List ℕ)) (o : Option (List (List ℕ))) → cut (front ++ name ∷ []) q ≡ o → PathCase (front ++ name ∷ []) q → at_cut o (graph_tree g m q) (λ r. option_and_then m (reach g c r)) ≡ with_node (graph_tree g n) (front ++ name ∷ []) v q
  made_at q None e (same_paths t is) =
      let whole : cut (front ++ name ∷ []) q ≡ Some [] = ap (cut (front ++ name ∷ [])) (sym is ∙ sym (append-nil (front ++ name ∷ []))) ∙ cut-append (front ++ name ∷ []) [] in cc
  made_at q None e (two_paths t differ) = ap (λ (t : Tree). t q) made_same ∙ sym (ap (λ b. cond b (Some v) (graph_tree g n q)) t)
  made_at q (Some []) e (same_paths t is) = w.put.here ∙ sym (ap (λ b. cond b (Some v) (graph_tree g n q)) t)
  made_at q (Some []) e (two_paths t differ) = absurd (differ (sym (append-cut (front ++ name ∷ []) q [] e ∙ append-nil (front ++ name ∷ []))))
  made_at q (Some (x ∷ r)) e (same_paths t is) =
      let whole : cut (front ++ name ∷ []) q ≡ Some [] = ap (cut (front ++ name ∷ [])) (sym is ∙ sym (append-nil (front ++ name ∷ []))) ∙ cut-append (front ++ name ∷ []) [] in cc
  made_at q (Some (x ∷ r)) e (two_paths t differ) =
      let none : graph_tree g n q ≡ None = ap (option_and_then n) (ap (reach g 0) (append-cut (front ++ name ∷ []) q (x ∷ r) e) ∙ reach_off g 0 (front ++ name ∷ []) (x ∷ r) (reach_next g 0 front name at w.there ∙ w.vacant)) in
      ap (λ (o : Option ℕ). option_and_then m (option_and_then (λ k. reach g k r) o)) (w.bare x) ∙ sym none ∙ sym (ap (λ b. cond b (Some v) (graph_tree g n q)) t)

  pub tree_made : graph_tree h m ≡ with_node (graph_tree g n) (front ++ name ∷ []) v
  tree_made = fun_ext (λ q. tree_add g h m front at name c (record { forest = made_forest; there = w.there; set = w.set; outside = bare_out }) q
      ∙ made_at q (cut (front ++ name ∷ []) q) refl (path_case (front ++ name ∷ []) q))

-- what hangs at one path is hung at another

abbrev pub unlinked : Link → ℕ → List ℕ → Link
unlinked g a x k z = cond (nat_eq k a && same_name z x) None (g k z)

unlinked_other : (g : Link) (a : ℕ) (x : List ℕ) (k : ℕ) (z : List ℕ) (b d : Bool) → nat_eq k a ≡ b → same_name z x ≡ d → (b ≡ true → d ≡ true → ⊥) → cond (nat_eq k a && same_name z x) None (g k z) ≡ g k z
unlinked_other g a x k z true true e f apart = absurd (apart refl refl)
unlinked_other g a x k z true false e f apart = ap (λ b. cond (b && same_name z x) None (g k z)) e ∙ ap (λ b. cond b None (g k z)) f
unlinked_other g a x k z false d e f apart = ap (λ b. cond (b && same_name z x) None (g k z)) e

unlinked_at : (g : Link) (a : ℕ) (x : List ℕ) → Relinked g (unlinked g a x) a x None
unlinked_at g a x = record {
  here = ap (λ b. cond (b && same_name x x) None (g a x)) (eq-eqb a a refl) ∙ ap (λ b. cond b None (g a x)) (same_name-refl x);
  others = λ k z apart. unlinked_other g a x k z (nat_eq k a) (same_name z x) refl refl (λ s t. apart (eqb-true k a s) ((name_decides z x).0 t));
}

pub record IsMoving (g l h : Link) (n : ℕ → Option Node) (pa : List (List ℕ)) (a : ℕ) (x : List ℕ) (c : ℕ) (pb : List (List ℕ)) (b : ℕ) (y : List ℕ) : Type 0 where
  pub forest : IsForest g n
  pub from : reach g 0 pa ≡ Some a
  pub held : g a x ≡ Some c
  pub to : reach g 0 pb ≡ Some b
  pub dir : (d : Attributes) × (n b ≡ Some (Dir d))
  pub vacant : g b y ≡ None
  pub apart : cut (pa ++ x ∷ []) (pb ++ y ∷ []) ≡ None
  pub first : Relinked g l b y (Some c)
  pub second : Relinked l h a x None

module _ (g l h : Link) (n : ℕ → Option Node) (pa : List (List ℕ)) (a : ℕ) (x : List ℕ) (c : ℕ) (pb : List (List ℕ)) (b : ℕ) (y : List ℕ) (w : IsMoving g l h n pa a x c pb b y) where
  two_links : b ≡ a → y ≡ x → ⊥
  two_links e f = let k : g b y ≡ Some c = ap (λ (j : ℕ). g j y) e ∙ ap (g a) f ∙ w.held in let v = w.vacant in cc

  moved_other : (k : ℕ) (z : List ℕ) → (k ≡ b → z ≡ y → ⊥) → LinkCase k z a x → h k z ≡ unlinked g a x k z
  moved_other k z apart (this e f) = ap (λ (j : ℕ). h j z) e ∙ ap (h a) f ∙ w.second.here ∙ sym (ap (λ (j : ℕ). unlinked g a x j z) e ∙ ap (unlinked g a x a) f ∙ (unlinked_at g a x).here)
  moved_other k z apart (elsewhere e) = w.second.others k z e ∙ w.first.others k z apart ∙ sym ((unlinked_at g a x).others k z e)

  moved_link : Relinked (unlinked g a x) h b y (Some c)
  moved_link = record {
    here = w.second.others b y two_links ∙ w.first.here;
    others = λ k z apart. moved_other k z apart (link_case k z a x);
  }

  pub moved_here : h b y ≡ Some c
  moved_here = w.second.others b y two_links ∙ w.first.here

  pub moved_rest : (k : ℕ) (z : List ℕ) (d : ℕ) → (k ≡ b → z ≡ y → ⊥) → h k z ≡ Some d → g k z ≡ Some d
  moved_rest k z d apart e = sym (w.first.others k z apart) ∙ was_link l h a x w.second k z d e

  middle : IsForest (unlinked g a x) n
  middle = forest_cut g (unlinked g a x) n a x w.forest (unlinked_at g a x)

  pub forest_moved : IsForest h n
  forest_moved = forest_add (unlinked g a x) h n b y c w.dir.0 middle moved_link w.dir.1 (cut_orphan g (unlinked g a x) n a x c w.forest (unlinked_at g a x) w.held) (w.forest.live a x c w.held) (λ e. w.forest.no_root a x (w.held ∙ ap (λ (j : ℕ). Some j) e))

  hangs : (r : List (List ℕ)) → reach g 0 ((pa ++ x ∷ []) ++ r) ≡ reach g c r
  hangs r = reach_on g 0 (pa ++ x ∷ []) r c (reach_next g 0 pa x a w.from ∙ w.held)

  not_above : (r : List (List ℕ)) → reach g c r ≡ Some a → ⊥
  not_above r e = not_longer pa x r (one_path g n w.forest pa ((pa ++ x ∷ []) ++ r) a w.from (hangs r ∙ e))

  kept : (r : List (List ℕ)) → reach (unlinked g a x) c r ≡ reach g c r
  kept = kept_below g (unlinked g a x) a x None (unlinked_at g a x) c not_above

  front_apart_at : (o : Option (List (List ℕ))) → cut (pa ++ x ∷ []) pb ≡ o → cut (pa ++ x ∷ []) pb ≡ None
  front_apart_at None e = e
  front_apart_at (Some r) e = let k = cut_more (pa ++ x ∷ []) pb r y e in let v = w.apart in cc

  front_apart : cut (pa ++ x ∷ []) pb ≡ None
  front_apart = front_apart_at (cut (pa ++ x ∷ []) pb) refl

  middle_to : reach (unlinked g a x) 0 pb ≡ Some b
  middle_to = relinked g (unlinked g a x) n pa a x None (record { forest = w.forest; there = w.from; set = unlinked_at g a x }) pb ∙ ap (λ (o : Option (List (List ℕ))). at_cut o (reach g 0 pb) (λ r. None)) front_apart ∙ w.to

  not_into : (r : List (List ℕ)) → reach (unlinked g a x) c r ≡ Some b → ⊥
  not_into r e =
      let is : pb ≡ (pa ++ x ∷ []) ++ r = one_path g n w.forest pb ((pa ++ x ∷ []) ++ r) b w.to (hangs r ∙ sym (kept r) ∙ e) in
      let k : cut (pa ++ x ∷ []) pb ≡ Some r = ap (cut (pa ++ x ∷ [])) is ∙ cut-append (pa ++ x ∷ []) r in
      let v = front_apart in cc

  pub tree_moved : graph_tree h n ≡ moved (graph_tree g n) (pa ++ x ∷ []) (pb ++ y ∷ [])
  tree_moved = fun_ext (λ q.
      tree_add (unlinked g a x) h n pb b y c (record { forest = middle; there = middle_to; set = moved_link; outside = not_into }) q
      ∙ ap (λ (t : Tree). at_cut (cut (pb ++ y ∷ []) q) (t q) (λ r. option_and_then n (reach (unlinked g a x) c r))) (tree_cut g (unlinked g a x) n pa a x w.forest w.from (unlinked_at g a x))
      ∙ at_same (cut (pb ++ y ∷ []) q) (without (graph_tree g n) (pa ++ x ∷ []) q) (λ r. option_and_then n (reach (unlinked g a x) c r)) (λ r. graph_tree g n ((pa ++ x ∷ []) ++ r)) (λ r. ap (option_and_then n) (kept r ∙ sym (hangs r))))
