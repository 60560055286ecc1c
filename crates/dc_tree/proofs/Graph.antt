-- Where paths lead in a graph of links, before and after a link is set.
use Rattle.std.proofs.Common.{◌≡◌, ◌≢◌, ℕ, List, [], ◌∷◌, ◌++◌, Option, Some, None, refl, sym, ◌∙◌, ap, ◌⊎◌, inl, inr}
use Rattle.std.specs.Option.{option_and_then}
use Rattle.std.proofs.lemmas.Bool.{cases_eq}
use Rattle.std.proofs.lemmas.List.{append-nil}
use Rattle.dc_attrs.specs.Trees.{Node, Dir, File}
use Rattle.dc_path.specs.Paths.{cut, at_cut}
use Rattle.dc_tree.specs.Arena.{reach, IsForest}
use Rattle.dc_tree.specs.Edits.{Relinked}
use Rattle.dc_path.proofs.PathLemmas.{name_case, NameCase, same, other, cut-append, cut_more, cut_none, cut_of_nil, by_last_name, Last, empty, ended, last_case, same_ends}

abbrev pub Link : Type 0
Link = ℕ → List ℕ → Option ℕ

then_cong : (f h : ℕ → Option ℕ) (o : Option ℕ) → ((k : ℕ) → f k ≡ h k) → option_and_then f o ≡ option_and_then h o
then_cong f h None e = refl
then_cong f h (Some k) e = e k

then_then : (f h : ℕ → Option ℕ) (o : Option ℕ) → option_and_then h (option_and_then f o) ≡ option_and_then (λ k. option_and_then h (f k)) o
then_then f h None = refl
then_then f h (Some k) = refl

then_some : (o : Option ℕ) → option_and_then (λ k. Some k) o ≡ o
then_some None = refl
then_some (Some k) = refl

pub then_from : {A : Type 0} (f : ℕ → Option A) (o : Option ℕ) (c : A) → option_and_then f o ≡ Some c → (k : ℕ) × (o ≡ Some k) × (f k ≡ Some c)
then_from f None c e = cc
then_from f (Some k) c e = (k, refl, e)

pub reach-append : (g : Link) (at : ℕ) (p q : List (List ℕ)) → reach g at (p ++ q) ≡ option_and_then (λ k. reach g k q) (reach g at p)
reach-append g at [] q = refl
reach-append g at (x ∷ p) q = then_cong (λ k. reach g k (p ++ q)) (λ k. option_and_then (λ l. reach g l q) (reach g k p)) (g at x) (λ k. reach-append g k p q) ∙ sym (then_then (λ k. reach g k p) (λ l. reach g l q) (g at x))

pub reach-snoc : (g : Link) (at : ℕ) (p : List (List ℕ)) (x : List ℕ) → reach g at (p ++ x ∷ []) ≡ option_and_then (λ k. g k x) (reach g at p)
reach-snoc g at p x = reach-append g at p (x ∷ []) ∙ then_cong (λ k. reach g k (x ∷ [])) (λ k. g k x) (reach g at p) (λ k. then_some (g k x))

-- a step on from where a path leads
pub reach_next : (g : Link) (at : ℕ) (p : List (List ℕ)) (x : List ℕ) (k : ℕ) → reach g at p ≡ Some k → reach g at (p ++ x ∷ []) ≡ g k x
reach_next g at p x k e = reach-snoc g at p x ∙ ap (option_and_then (λ (k : ℕ). g k x)) e

pub reach_nowhere : (g : Link) (at : ℕ) (p : List (List ℕ)) (x : List ℕ) → reach g at p ≡ None → reach g at (p ++ x ∷ []) ≡ None
reach_nowhere g at p x e = reach-snoc g at p x ∙ ap (option_and_then (λ (k : ℕ). g k x)) e

pub reach_on : (g : Link) (at : ℕ) (p q : List (List ℕ)) (k : ℕ) → reach g at p ≡ Some k → reach g at (p ++ q) ≡ reach g k q
reach_on g at p q k e = reach-append g at p q ∙ ap (option_and_then (λ (k : ℕ). reach g k q)) e

pub reach_off : (g : Link) (at : ℕ) (p q : List (List ℕ)) → reach g at p ≡ None → reach g at (p ++ q) ≡ None
reach_off g at p q e = reach-append g at p q ∙ ap (option_and_then (λ (k : ℕ). reach g k q)) e

pub reach_before : (g : Link) (at : ℕ) (p : List (List ℕ)) (x : List ℕ) (c : ℕ) → reach g at (p ++ x ∷ []) ≡ Some c → (k : ℕ) × (reach g at p ≡ Some k) × (g k x ≡ Some c)
reach_before g at p x c e = then_from (λ k. g k x) (reach g at p) c (sym (reach-snoc g at p x) ∙ e)

-- each cell is at one path
one_path_last : (g : Link) (n : ℕ → Option Node) → IsForest g n → (p : List (List ℕ)) (x : List ℕ) → ((q : List (List ℕ)) (i : ℕ) → reach g 0 p ≡ Some i → reach g 0 q ≡ Some i → p ≡ q) → (q : List (List ℕ)) (i : ℕ) → Last q → reach g 0 (p ++ x ∷ []) ≡ Some i → reach g 0 q ≡ Some i → p ++ x ∷ [] ≡ q
one_path_last g n f p x ih q i (empty e) a b =
    let c : Some 0 ≡ Some i = sym (ap (reach g 0) e) ∙ b in
    let z : 0 ≡ i = cc in
    let s = reach_before g 0 p x i a in
    absurd (f.no_root s.0 x (s.2 ∙ ap (λ (j : ℕ). Some j) (sym z)))
one_path_last g n f p x ih q i (ended r y e) a b =
    let s = reach_before g 0 p x i a in
    let t = reach_before g 0 r y i (sym (ap (reach g 0) e) ∙ b) in
    let w = f.apart s.0 x t.0 y i s.2 t.2 in
    let v : p ≡ r = ih r s.0 s.1 (t.1 ∙ ap (λ (j : ℕ). Some j) (sym w.0)) in
    let u : x ≡ y = w.1 in
    cc

one_path_root : (g : Link) (n : ℕ → Option Node) → IsForest g n → (q : List (List ℕ)) (i : ℕ) → Last q → reach g 0 [] ≡ Some i → reach g 0 q ≡ Some i → [] ≡ q
one_path_root g n f q i (empty e) a b = sym e
one_path_root g n f q i (ended r y e) a b =
    let t = reach_before g 0 r y i (sym (ap (reach g 0) e) ∙ b) in
    absurd (f.no_root t.0 y (t.2 ∙ sym a))

pub one_path : (g : Link) (n : ℕ → Option Node) → IsForest g n → (p q : List (List ℕ)) (i : ℕ) → reach g 0 p ≡ Some i → reach g 0 q ≡ Some i → p ≡ q
one_path g n f = by_last_name (λ p. (q : List (List ℕ)) (i : ℕ) → reach g 0 p ≡ Some i → reach g 0 q ≡ Some i → p ≡ q)
    (λ q i a b. one_path_root g n f q i (last_case q) a b)
    (λ p x ih q i a b. one_path_last g n f p x ih q i (last_case q) a b)

-- whatever is reached is there
live_last : (g : Link) (n : ℕ → Option Node) → IsForest g n → (p : List (List ℕ)) (i : ℕ) → Last p → reach g 0 p ≡ Some i → n i ≢ None
live_last g n f p i (empty e) a h =
    let c : Some 0 ≡ Some i = sym (ap (reach g 0) e) ∙ a in
    let z : 0 ≡ i = cc in
    let w : n 0 ≡ None = ap n z ∙ h in
    let v : n 0 ≡ Some (Dir f.root.0) = f.root.1 in
    cc
live_last g n f p i (ended r x e) a h = let s = reach_before g 0 r x i (sym (ap (reach g 0) e) ∙ a) in f.live s.0 x i s.2 h

pub reached_live : (g : Link) (n : ℕ → Option Node) → IsForest g n → (p : List (List ℕ)) (i : ℕ) → reach g 0 p ≡ Some i → n i ≢ None
reached_live g n f p i = live_last g n f p i (last_case p)

-- whether a cell is this one
pub data Spot (k at : ℕ) : Type 0 where
  here : k ≡ at → Spot k at
  away : (k ≡ at → ⊥) → Spot k at

spot_of : (k at : ℕ) → (k ≡ at) ⊎ (k ≡ at → ⊥) → Spot k at
spot_of k at (inl e) = here e
spot_of k at (inr e) = away e

pub spot : (k at : ℕ) → Spot k at
spot k at = spot_of k at (cases_eq k at)

-- whether a link is this one
pub data LinkCase (k : ℕ) (x : List ℕ) (a : ℕ) (y : List ℕ) : Type 0 where
  this : k ≡ a → x ≡ y → LinkCase k x a y
  elsewhere : (k ≡ a → x ≡ y → ⊥) → LinkCase k x a y

link_case_at : (k : ℕ) (x : List ℕ) (a : ℕ) (y : List ℕ) → ((k ≡ a) ⊎ (k ≡ a → ⊥)) → NameCase x y → LinkCase k x a y
link_case_at k x a y (inl e) (same t h) = this e h
link_case_at k x a y (inl e) (other t h) = elsewhere (λ _ u. h u)
link_case_at k x a y (inr e) c = elsewhere (λ u _. e u)

pub link_case : (k : ℕ) (x : List ℕ) (a : ℕ) (y : List ℕ) → LinkCase k x a y
link_case k x a y = link_case_at k x a y (cases_eq k a) (name_case x y)

-- where a path leads once a link is cut, by the path to it

at_none : {A : Type 0} (o : Option (List (List ℕ))) (a : A) (f : List (List ℕ) → A) → o ≡ None → at_cut o a f ≡ a
at_none o a f e = ap (λ (o : Option (List (List ℕ))). at_cut o a f) e

at_some : {A : Type 0} (o : Option (List (List ℕ))) (a : A) (f : List (List ℕ) → A) (r : List (List ℕ)) → o ≡ Some r → at_cut o a f ≡ f r
at_some o a f r e = ap (λ (o : Option (List (List ℕ))). at_cut o a f) e

cut_whole : (p q : List (List ℕ)) → p ≡ q → cut p q ≡ Some []
cut_whole p q e = ap (cut p) (sym e ∙ sym (append-nil p)) ∙ cut-append p []

-- h is g with a link set at the cell to which a path leads
pub record IsRelink (g h : Link) (n : ℕ → Option Node) (front : List (List ℕ)) (at : ℕ) (name : List ℕ) (to : Option ℕ) : Type 0 where
  pub forest : IsForest g n
  pub there : reach g 0 front ≡ Some at
  pub set : Relinked g h at name to

-- the name of the set link stands at the end of its own path alone
only_there : (g h : Link) (n : ℕ → Option Node) (front : List (List ℕ)) (at : ℕ) (name : List ℕ) (to : Option ℕ) → IsRelink g h n front at name to → (q : List (List ℕ)) (x : List ℕ) (k : ℕ) → reach g 0 q ≡ Some k → k ≡ at → x ≡ name → front ++ name ∷ [] ≡ q ++ x ∷ []
only_there g h n front at name to r q x k e ka xy =
    let same_front : front ≡ q = one_path g n r.forest front q at r.there (e ∙ ap (λ (j : ℕ). Some j) ka) in
    cc

not_there : (g h : Link) (n : ℕ → Option Node) (front : List (List ℕ)) (at : ℕ) (name : List ℕ) (to : Option ℕ) → IsRelink g h n front at name to → (q : List (List ℕ)) (x : List ℕ) (k : ℕ) → reach g 0 q ≡ Some k → (k ≡ at → x ≡ name → ⊥) → front ++ name ∷ [] ≡ q ++ x ∷ [] → ⊥
not_there g h n front at name to r q x k e apart is =
    let w = same_ends front q name x is in
    let both : Some at ≡ Some k = sym r.there ∙ ap (reach g 0) w.0 ∙ e in
    let ka : k ≡ at = cc in
    apart ka (sym w.1)

none_else : (p q : List (List ℕ)) (x : List ℕ) → (cut p (q ++ x ∷ []) ≡ None) ⊎ (p ≡ q ++ x ∷ []) → (p ≡ q ++ x ∷ [] → ⊥) → cut p (q ++ x ∷ []) ≡ None
none_else p q x (inl e) f = e
none_else p q x (inr e) f = absurd (f e)

-- below the new link the path goes on from `to`
relink_step : (g h : Link) (n : ℕ → Option Node) (front : List (List ℕ)) (at : ℕ) (name : List ℕ) (to : Option ℕ) → IsRelink g h n front at name to → (q : List (List ℕ)) (x : List ℕ) (k : ℕ) → reach g 0 q ≡ Some k → cut (front ++ name ∷ []) q ≡ None → LinkCase k x at name → h k x ≡ at_cut (cut (front ++ name ∷ []) (q ++ x ∷ [])) (g k x) (λ r. option_and_then (λ c. reach h c r) to)
relink_step g h n front at name to r q x k e c (this ka xy) =
    let whole = cut_whole (front ++ name ∷ []) (q ++ x ∷ []) (only_there g h n front at name to r q x k e ka xy) in
    let gone : h k x ≡ to = ap (λ (j : ℕ). h j x) ka ∙ ap (h at) xy ∙ r.set.here in
    gone ∙ sym (then_some to) ∙ sym (at_some (cut (front ++ name ∷ []) (q ++ x ∷ [])) (g k x) (λ r. option_and_then (λ c. reach h c r) to) [] whole)
relink_step g h n front at name to r q x k e c (elsewhere apart) =
    let none = none_else (front ++ name ∷ []) q x (cut_none (front ++ name ∷ []) q x c) (not_there g h n front at name to r q x k e apart) in
    r.set.others k x apart ∙ sym (at_none (cut (front ++ name ∷ []) (q ++ x ∷ [])) (g k x) (λ r. option_and_then (λ c. reach h c r) to) none)

-- a path with one more name below the link, and one that is not below it
more_below : (h : Link) (to : Option ℕ) (r : List (List ℕ)) (x : List ℕ) → option_and_then (λ k. h k x) (option_and_then (λ c. reach h c r) to) ≡ option_and_then (λ c. reach h c (r ++ x ∷ [])) to
more_below h None r x = refl
more_below h (Some c) r x = sym (reach-snoc h c r x)

nowhere_more : (g h : Link) (n : ℕ → Option Node) (front : List (List ℕ)) (at : ℕ) (name : List ℕ) (to : Option ℕ) → IsRelink g h n front at name to → (q : List (List ℕ)) (x : List ℕ) → reach g 0 q ≡ None → cut (front ++ name ∷ []) q ≡ None → None ≡ at_cut (cut (front ++ name ∷ []) (q ++ x ∷ [])) (reach g 0 (q ++ x ∷ [])) (λ r. option_and_then (λ c. reach h c r) to)
nowhere_more g h n front at name to r q x e c =
    let none = none_else (front ++ name ∷ []) q x (cut_none (front ++ name ∷ []) q x c) (λ is. let w = same_ends front q name x is in let both : Some at ≡ None = sym r.there ∙ ap (reach g 0) w.0 ∙ e in cc) in
    sym (reach_nowhere g 0 q x e) ∙ sym (at_none (cut (front ++ name ∷ []) (q ++ x ∷ [])) (reach g 0 (q ++ x ∷ [])) (λ r. option_and_then (λ c. reach h c r) to) none)

relink_more : (g h : Link) (n : ℕ → Option Node) (front : List (List ℕ)) (at : ℕ) (name : List ℕ) (to : Option ℕ) → IsRelink g h n front at name to → (q : List (List ℕ)) (x : List ℕ) (o : Option (List (List ℕ))) (k : Option ℕ) → cut (front ++ name ∷ []) q ≡ o → reach g 0 q ≡ k → reach h 0 q ≡ at_cut o k (λ r. option_and_then (λ c. reach h c r) to) → reach h 0 (q ++ x ∷ []) ≡ at_cut (cut (front ++ name ∷ []) (q ++ x ∷ [])) (reach g 0 (q ++ x ∷ [])) (λ r. option_and_then (λ c. reach h c r) to)
relink_more g h n front at name to r q x (Some s) k c e ih =
    reach-snoc h 0 q x ∙ ap (option_and_then (λ (k : ℕ). h k x)) ih ∙ more_below h to s x
    ∙ sym (at_some (cut (front ++ name ∷ []) (q ++ x ∷ [])) (reach g 0 (q ++ x ∷ [])) (λ r. option_and_then (λ c. reach h c r) to) (s ++ x ∷ []) (cut_more (front ++ name ∷ []) q s x c))
relink_more g h n front at name to r q x None None c e ih =
    reach_nowhere h 0 q x ih ∙ nowhere_more g h n front at name to r q x e c
relink_more g h n front at name to r q x None (Some k) c e ih =
    reach_next h 0 q x k ih ∙ relink_step g h n front at name to r q x k e c (link_case k x at name)
    ∙ ap (λ (o : Option ℕ). at_cut (cut (front ++ name ∷ []) (q ++ x ∷ [])) o (λ r. option_and_then (λ c. reach h c r) to)) (sym (reach_next g 0 q x k e))

-- Where a path leads once a link is set: at the link's own path and below it, from where the link leads to.
pub relinked : (g h : Link) (n : ℕ → Option Node) (front : List (List ℕ)) (at : ℕ) (name : List ℕ) (to : Option ℕ) → IsRelink g h n front at name to → (q : List (List ℕ)) → reach h 0 q ≡ at_cut (cut (front ++ name ∷ []) q) (reach g 0 q) (λ r. option_and_then (λ c. reach h c r) to)
relinked g h n front at name to r =
    by_last_name (λ q. reach h 0 q ≡ at_cut (cut (front ++ name ∷ []) q) (reach g 0 q) (λ r. option_and_then (λ c. reach h c r) to))
    (sym (at_none (cut (front ++ name ∷ []) []) (Some 0) (λ r. option_and_then (λ c. reach h c r) to) (cut_of_nil front name)))
    (λ q x ih. relink_more g h n front at name to r q x (cut (front ++ name ∷ []) q) (reach g 0 q) refl refl ih)

-- a part from which the link's cell is not reached keeps its ways
kept_more : (g h : Link) (at : ℕ) (name : List ℕ) (to : Option ℕ) (r : Relinked g h at name to) (c : ℕ) (p : List (List ℕ)) (x : List ℕ) (o : Option ℕ) → reach g c p ≡ o → reach h c p ≡ o → (o ≡ Some at → ⊥) → option_and_then (λ k. h k x) o ≡ option_and_then (λ k. g k x) o
kept_more g h at name to r c p x None e ih apart = refl
kept_more g h at name to r c p x (Some k) e ih apart = r.others k x (λ ka _. apart (ap (λ (j : ℕ). Some j) ka))

pub kept_below : (g h : Link) (at : ℕ) (name : List ℕ) (to : Option ℕ) → Relinked g h at name to → (c : ℕ) → ((p : List (List ℕ)) → reach g c p ≡ Some at → ⊥) → (p : List (List ℕ)) → reach h c p ≡ reach g c p
kept_below g h at name to r c apart = by_last_name (λ p. reach h c p ≡ reach g c p) refl
    (λ p x ih. reach-snoc h c p x ∙ ap (option_and_then (λ (k : ℕ). h k x)) ih ∙ kept_more g h at name to r c p x (reach g c p) refl ih (apart p) ∙ sym (reach-snoc g c p x))

-- the forest stays one

still : (g h : Link) (at : ℕ) (name : List ℕ) → Relinked g h at name None → (k : ℕ) (x : List ℕ) (c : ℕ) → LinkCase k x at name → h k x ≡ Some c → g k x ≡ Some c
still g h at name r k x c (this ka xy) e = let none : h k x ≡ None = ap (λ (j : ℕ). h j x) ka ∙ ap (h at) xy ∙ r.here in cc
still g h at name r k x c (elsewhere apart) e = sym (r.others k x apart) ∙ e

pub was_link : (g h : Link) (at : ℕ) (name : List ℕ) → Relinked g h at name None → (k : ℕ) (x : List ℕ) (c : ℕ) → h k x ≡ Some c → g k x ≡ Some c
was_link g h at name r k x c = still g h at name r k x c (link_case k x at name)

no_link_at : (g h : Link) (at : ℕ) (name : List ℕ) → Relinked g h at name None → (k : ℕ) (x : List ℕ) → LinkCase k x at name → g k x ≡ None → h k x ≡ None
no_link_at g h at name r k x (this ka xy) e = ap (λ (j : ℕ). h j x) ka ∙ ap (h at) xy ∙ r.here
no_link_at g h at name r k x (elsewhere apart) e = r.others k x apart ∙ e

pub forest_cut : (g h : Link) (n : ℕ → Option Node) (at : ℕ) (name : List ℕ) → IsForest g n → Relinked g h at name None → IsForest h n
forest_cut g h n at name f r = record {
  root = f.root;
  live = λ k x c e. f.live k x c (was_link g h at name r k x c e);
  no_root = λ k x e. f.no_root k x (was_link g h at name r k x 0 e);
  apart = λ k x l y c d e. f.apart k x l y c (was_link g h at name r k x c d) (was_link g h at name r l y c e);
  leaves = λ k x b a e. no_link_at g h at name r k x (link_case k x at name) (f.leaves k x b a e);
  fits = f.fits;
}

-- a cell to which nothing leads
abbrev pub IsOrphan : Link → ℕ → Type 0
IsOrphan g c = (k : ℕ) (x : List ℕ) → g k x ≡ Some c → ⊥

-- what a cut link led to
cut_orphan_at : (g h : Link) (n : ℕ → Option Node) (at : ℕ) (name : List ℕ) (c : ℕ) → IsForest g n → Relinked g h at name None → g at name ≡ Some c → (k : ℕ) (x : List ℕ) → LinkCase k x at name → h k x ≡ Some c → ⊥
cut_orphan_at g h n at name c f r was k x (this ka xy) e = let none : h k x ≡ None = ap (λ (j : ℕ). h j x) ka ∙ ap (h at) xy ∙ r.here in cc
cut_orphan_at g h n at name c f r was k x (elsewhere apart) e = let w = f.apart k x at name c (sym (r.others k x apart) ∙ e) was in apart w.0 w.1

pub cut_orphan : (g h : Link) (n : ℕ → Option Node) (at : ℕ) (name : List ℕ) (c : ℕ) → IsForest g n → Relinked g h at name None → g at name ≡ Some c → IsOrphan h c
cut_orphan g h n at name c f r was k x = cut_orphan_at g h n at name c f r was k x (link_case k x at name)

pub data NewLink (g h : Link) (at : ℕ) (name : List ℕ) (c : ℕ) (k : ℕ) (x : List ℕ) (e : ℕ) : Type 0 where
  new : k ≡ at → x ≡ name → e ≡ c → NewLink g h at name c k x e
  old : g k x ≡ Some e → NewLink g h at name c k x e

new_link_at : (g h : Link) (at : ℕ) (name : List ℕ) (c : ℕ) → Relinked g h at name (Some c) → (k : ℕ) (x : List ℕ) (e : ℕ) → LinkCase k x at name → h k x ≡ Some e → NewLink g h at name c k x e
new_link_at g h at name c r k x e (this ka xy) h1 = let is : h k x ≡ Some c = ap (λ (j : ℕ). h j x) ka ∙ ap (h at) xy ∙ r.here in let ec : e ≡ c = cc in new ka xy ec
new_link_at g h at name c r k x e (elsewhere apart) h1 = old (sym (r.others k x apart) ∙ h1)

new_link : (g h : Link) (at : ℕ) (name : List ℕ) (c : ℕ) → Relinked g h at name (Some c) → (k : ℕ) (x : List ℕ) (e : ℕ) → h k x ≡ Some e → NewLink g h at name c k x e
new_link g h at name c r k x e = new_link_at g h at name c r k x e (link_case k x at name)

live_new : (g h : Link) (n : ℕ → Option Node) (at : ℕ) (name : List ℕ) (c : ℕ) → IsForest g n → n c ≢ None → (k : ℕ) (x : List ℕ) (e : ℕ) → NewLink g h at name c k x e → n e ≢ None
live_new g h n at name c f there k x e (new ka xy ec) none = there (sym (ap n ec) ∙ none)
live_new g h n at name c f there k x e (old w) none = f.live k x e w none

root_new : (g h : Link) (n : ℕ → Option Node) (at : ℕ) (name : List ℕ) (c : ℕ) → IsForest g n → (c ≡ 0 → ⊥) → (k : ℕ) (x : List ℕ) → NewLink g h at name c k x 0 → ⊥
root_new g h n at name c f apart k x (new ka xy ec) = apart (sym ec)
root_new g h n at name c f apart k x (old w) = f.no_root k x w

apart_new : (g h : Link) (n : ℕ → Option Node) (at : ℕ) (name : List ℕ) (c : ℕ) → IsForest g n → IsOrphan g c → (k : ℕ) (x : List ℕ) (l : ℕ) (y : List ℕ) (e : ℕ) → NewLink g h at name c k x e → NewLink g h at name c l y e → (k ≡ l) × (x ≡ y)
apart_new g h n at name c f orphan k x l y e (new ka xy ec) (new la yy ed) = (ka ∙ sym la, xy ∙ sym yy)
apart_new g h n at name c f orphan k x l y e (new ka xy ec) (old w) = absurd (orphan l y (w ∙ ap (λ (j : ℕ). Some j) ec))
apart_new g h n at name c f orphan k x l y e (old w) (new la yy ed) = absurd (orphan k x (w ∙ ap (λ (j : ℕ). Some j) ed))
apart_new g h n at name c f orphan k x l y e (old w) (old v) = f.apart k x l y e w v

leaves_new : (g h : Link) (n : ℕ → Option Node) (at : ℕ) (name : List ℕ) (c : ℕ) (attrs : _) → IsForest g n → Relinked g h at name (Some c) → n at ≡ Some (Dir attrs) → (k : ℕ) (x : List ℕ) (b : List ℕ) (a : _) → LinkCase k x at name → n k ≡ Some (File b a) → h k x ≡ None
leaves_new g h n at name c attrs f r dir k x b a (this ka xy) file = let w : n k ≡ Some (Dir attrs) = ap n ka ∙ dir in cc
leaves_new g h n at name c attrs f r dir k x b a (elsewhere apart) file = r.others k x apart ∙ f.leaves k x b a file

pub forest_add : (g h : Link) (n : ℕ → Option Node) (at : ℕ) (name : List ℕ) (c : ℕ) (attrs : _) → IsForest g n → Relinked g h at name (Some c) → n at ≡ Some (Dir attrs) → IsOrphan g c → n c ≢ None → (c ≡ 0 → ⊥) → IsForest h n
forest_add g h n at name c attrs f r dir orphan there apart = record {
  root = f.root;
  live = λ k x e w. live_new g h n at name c f there k x e (new_link g h at name c r k x e w);
  no_root = λ k x w. root_new g h n at name c f apart k x (new_link g h at name c r k x 0 w);
  apart = λ k x l y e w v. apart_new g h n at name c f orphan k x l y e (new_link g h at name c r k x e w) (new_link g h at name c r l y e v);
  leaves = λ k x b a w. leaves_new g h n at name c attrs f r dir k x b a (link_case k x at name) w;
  fits = f.fits;
}
