-- Where a path leads in an arena, and what that shows of its tree.
use Rattle.std.proofs.Common.{◌≡◌, ◌≢◌, ℕ, ◌-◌, ◌<◌, List, [], ◌∷◌, ◌++◌, Option, Some, None, length, refl, sym, ◌∙◌, ap, arith, slice_get, zero, suc, map, take}
use Rattle.std.specs.Option.{option_and_then}
use Rattle.dc_attrs.specs.Attributes.{Attributes}
use Rattle.dc_attrs.specs.declared.shown.Seen.TheVariants as seen_as
use Rattle.std.proofs.Math.Seq.{take-length}
use Rattle.dc_path.specs.Paths.{Names}
use Rattle.dc_tree.specs.declared.slots.Slot.{Slot}
use Rattle.dc_tree.specs.declared.slots.Way.{Way}
use Rattle.dc_tree.specs.declared.slots.Way.TheVariants as way_is
use Rattle.dc_attrs.specs.Trees.{Node, Dir, File, Tree, seen_node, seen_on, seen_from, seen}
use Rattle.dc_path.specs.Paths.{front_of}
use Rattle.dc_attrs.specs.Refusals.{refused_in, refused_at, refused_file}
use Rattle.dc_tree.specs.Arena.{cell_of, Cell, reach, link, node, tree_of, IsArena, way_on, way_from, seen_way, node_way}
use Rattle.dc_tree.specs.Places.{IsUnder, IsRoot, IsTaken, IsVacant, IsCutOff, IsAt, IsAbsent}
use Rattle.dc_attrs.specs.declared.refusals.TreeError.{TreeError}
use Rattle.dc_attrs.specs.declared.refusals.TreeError.TheVariants as tree_error
use Rattle.dc_tree.proofs.Graph.{reach_next, reached_live}
use Rattle.dc_path.proofs.PathLemmas.{ends_in}
use Rattle.dc_tree.proofs.Ops.{graph_tree}

pub tree_of-is : (cells : List Cell) → tree_of cells ≡ graph_tree (link cells) (node cells)
unfolding tree_of
tree_of-is cells = refl

-- where a way leads, the path is reached

on_at : (o : Option Node) (l : Option ℕ) (f : ℕ → Way) (k : ℕ) → way_on o l f ≡ way_is.At k → (c : ℕ) × (l ≡ Some c) × (f c ≡ way_is.At k)
on_at None l f k e = cc
on_at (Some (File b a)) l f k e = cc
on_at (Some (Dir a)) None f k e = cc
on_at (Some (Dir a)) (Some c) f k e = (c, refl, e)

pub way_reach : (cells : List Cell) (at : ℕ) (p : List (List ℕ)) (k : ℕ) → way_from cells at p ≡ way_is.At k → reach (link cells) at p ≡ Some k
way_reach cells at [] k e = let h : at ≡ k = cc in ap (λ (j : ℕ). Some j) h
way_reach cells at (x ∷ p) k e =
    let s = on_at (node cells at) (link cells at x) (λ c. way_from cells c p) k e in
    ap (option_and_then (λ (j : ℕ). reach (link cells) j p)) s.1 ∙ way_reach cells s.0 p k s.2

-- what a way shows of the tree

nothing_from : (t : Tree) (front rest : List (List ℕ)) → t front ≡ None → seen_from t front rest ≡ seen_as.Missing
nothing_from t front [] e = ap seen_node e
nothing_from t front (x ∷ rest) e = ap (λ (o : Option Node). seen_on o (seen_from t (front ++ x ∷ []) rest)) e

pub tree_here : (cells : List Cell) (front : List (List ℕ)) (at : ℕ) → reach (link cells) 0 front ≡ Some at → tree_of cells front ≡ node cells at
tree_here cells front at e = ap (λ (t : Tree). t front) (tree_of-is cells) ∙ ap (option_and_then (node cells)) e

seen_step : (cells : List Cell) (front : List (List ℕ)) (at : ℕ) (x : List ℕ) (rest : List (List ℕ)) (o : Option Node) (l : Option ℕ) → reach (link cells) 0 front ≡ Some at → node cells at ≡ o → link cells at x ≡ l
    → ((c : ℕ) → reach (link cells) 0 (front ++ x ∷ []) ≡ Some c → seen_from (tree_of cells) (front ++ x ∷ []) rest ≡ seen_way cells (way_from cells c rest))
    → seen_on o (seen_from (tree_of cells) (front ++ x ∷ []) rest) ≡ seen_way cells (way_on o l (λ c. way_from cells c rest))
seen_step cells front at x rest None l r n e ih = refl
seen_step cells front at x rest (Some (File b a)) l r n e ih = refl
seen_step cells front at x rest (Some (Dir a)) None r n e ih =
    nothing_from (tree_of cells) (front ++ x ∷ []) rest (ap (λ (t : Tree). t (front ++ x ∷ [])) (tree_of-is cells) ∙ ap (option_and_then (node cells)) (reach_next (link cells) 0 front x at r ∙ e))
seen_step cells front at x rest (Some (Dir a)) (Some c) r n e ih = ih c (reach_next (link cells) 0 front x at r ∙ e)

pub way_seen : (cells : List Cell) (front : List (List ℕ)) (at : ℕ) (rest : List (List ℕ)) → reach (link cells) 0 front ≡ Some at → seen_from (tree_of cells) front rest ≡ seen_way cells (way_from cells at rest)
way_seen cells front at [] r = ap seen_node (tree_here cells front at r)
way_seen cells front at (x ∷ rest) r =
    ap (λ (o : Option Node). seen_on o (seen_from (tree_of cells) (front ++ x ∷ []) rest)) (tree_here cells front at r)
    ∙ seen_step cells front at x rest (node cells at) (link cells at x) r refl refl (λ c e. way_seen cells (front ++ x ∷ []) c rest e)

pub seen_by_way : (cells : List Cell) (p : List (List ℕ)) → seen (tree_of cells) p ≡ seen_way cells (way_from cells 0 p)
seen_by_way cells p = way_seen cells [] 0 p refl

node_step : (cells : List Cell) (at : ℕ) (x : List ℕ) (p : List (List ℕ)) (o : Option Node) (l : Option ℕ) → IsArena cells → o ≢ None → node cells at ≡ o → link cells at x ≡ l
    → ((c : ℕ) → node cells c ≢ None → option_and_then (node cells) (reach (link cells) c p) ≡ node_way cells (way_from cells c p))
    → option_and_then (node cells) (option_and_then (λ k. reach (link cells) k p) l) ≡ node_way cells (way_on o l (λ c. way_from cells c p))
node_step cells at x p None l f there n e ih = absurd (there refl)
node_step cells at x p (Some (File b a)) l f there n e ih = ap (λ (l : Option ℕ). option_and_then (node cells) (option_and_then (λ k. reach (link cells) k p) l)) (sym e ∙ f.leaves at x b a n)
node_step cells at x p (Some (Dir a)) None f there n e ih = refl
node_step cells at x p (Some (Dir a)) (Some c) f there n e ih = ih c (f.live at x c e)

way_node : (cells : List Cell) (at : ℕ) (p : List (List ℕ)) → IsArena cells → node cells at ≢ None → option_and_then (node cells) (reach (link cells) at p) ≡ node_way cells (way_from cells at p)
way_node cells at [] f there = refl
way_node cells at (x ∷ p) f there = node_step cells at x p (node cells at) (link cells at x) f there refl refl (λ c e. way_node cells c p f e)

root_there : (cells : List Cell) → IsArena cells → node cells 0 ≢ None
root_there cells f e = let r = f.root.1 in cc

pub node_by_way : (cells : List Cell) (p : List (List ℕ)) → IsArena cells → tree_of cells p ≡ node_way cells (way_from cells 0 p)
node_by_way cells p f = ap (λ (t : Tree). t p) (tree_of-is cells) ∙ way_node cells 0 p f (root_there cells f)

-- a way with one more name

abbrev way_more : List Cell → Way → List ℕ → Way
way_more cells (way_is.At k) x = way_on (node cells k) (link cells k x) (λ c. way_is.At c)
way_more cells way_is.Missing x = way_is.Missing
way_more cells way_is.NotDir x = way_is.NotDir

way_more_on : (cells : List Cell) (o : Option Node) (l : Option ℕ) (f h : ℕ → Way) (x : List ℕ) → ((c : ℕ) → f c ≡ way_more cells (h c) x) → way_on o l f ≡ way_more cells (way_on o l h) x
way_more_on cells None l f h x e = refl
way_more_on cells (Some (File b a)) l f h x e = refl
way_more_on cells (Some (Dir a)) None f h x e = refl
way_more_on cells (Some (Dir a)) (Some c) f h x e = e c

way-snoc : (cells : List Cell) (at : ℕ) (p : List (List ℕ)) (x : List ℕ) → way_from cells at (p ++ x ∷ []) ≡ way_more cells (way_from cells at p) x
way-snoc cells at [] x = refl
way-snoc cells at (y ∷ p) x = way_more_on cells (node cells at) (link cells at y) (λ c. way_from cells c (p ++ x ∷ [])) (λ c. way_from cells c p) x (λ c. way-snoc cells c p x)

way_last : (cells : List Cell) (p : List (List ℕ)) (x : List ℕ) (w : Way) → slice_get p (length p - 1) ≡ Some x → w ≡ way_from cells 0 (front_of p) → way_from cells 0 p ≡ way_more cells w x
way_last cells p x w e f = ap (way_from cells 0) (ends_in p x e) ∙ way-snoc cells 0 (front_of p) x ∙ ap (λ w. way_more cells w x) (sym f)

pub data Step (o : Option Node) (l : Option ℕ) (w : Way) : Type 0 where
  goes : (a : Attributes) (c : ℕ) → o ≡ Some (Dir a) → l ≡ Some c → w ≡ way_is.At c → Step o l w
  lacks : (a : Attributes) → o ≡ Some (Dir a) → l ≡ None → w ≡ way_is.Missing → Step o l w
  stops : (b : List ℕ) (a : Attributes) → o ≡ Some (File b a) → w ≡ way_is.NotDir → Step o l w
  nowhere : o ≡ None → Step o l w

step_of : (o : Option Node) (l : Option ℕ) (w : Way) → w ≡ way_on o l (λ c. way_is.At c) → Step o l w
step_of None l w e = nowhere refl
step_of (Some (File b a)) l w e = stops b a refl e
step_of (Some (Dir a)) None w e = lacks a refl refl e
step_of (Some (Dir a)) (Some c) w e = goes a c refl refl e

under : (cells : List Cell) (p : List (List ℕ)) (x : List ℕ) (parent : ℕ) (a : Attributes) → slice_get p (length p - 1) ≡ Some x → way_is.At parent ≡ way_from cells 0 (front_of p) → node cells parent ≡ Some (Dir a) → IsUnder cells p parent
under cells p x parent a e w n = record {
  name = x;
  last = e;
  is = ends_in p x e;
  there = way_reach cells 0 (front_of p) parent (sym w);
  dir = (a, n);
  front = seen_by_way cells (front_of p) ∙ ap (seen_way cells) (sym w) ∙ ap seen_node n;
}

not_empty : (p : List (List ℕ)) (x : List ℕ) → slice_get p (length p - 1) ≡ Some x → p ≢ []
not_empty p x e h = let k : slice_get {X = List ℕ} [] (length {A = List ℕ} [] - 1) ≡ Some x = ap (λ (q : List (List ℕ)). slice_get q (length q - 1)) (sym h) ∙ e in cc

there_of : (o : Option Node) → o ≢ None → (v : Node) × (o ≡ Some v)
there_of None h = absurd (h refl)
there_of (Some v) h = (v, refl)

-- what is at the end of a way that leads nowhere
absent_at : (cells : List Cell) (p : Names) (way : Way) (why : TreeError) → IsArena cells → way_from cells 0 p ≡ way → why ≢ tree_error.Memory → node_way cells way ≡ None
    → refused_at (seen_way cells way) ≡ Some why → refused_file (seen_way cells way) ≡ Some why → refused_in (seen_way cells way) ≡ Some why → IsAbsent cells p why
absent_at cells p way why f e m n at file dir =
    let shown = seen_by_way cells p ∙ ap (seen_way cells) e in
    record {
      memory = m;
      absent = node_by_way cells p f ∙ ap (node_way cells) e ∙ n;
      at = ap refused_at shown ∙ at;
      file = ap refused_file shown ∙ file;
      dir = ap refused_in shown ∙ dir;
    }

lacking : (cells : List Cell) (p : Names) → IsArena cells → way_from cells 0 p ≡ way_is.Missing → IsAbsent cells p tree_error.Missing
lacking cells p f e = absent_at cells p way_is.Missing tree_error.Missing f e (λ m. cc) refl refl refl refl

stopped : (cells : List Cell) (p : Names) → IsArena cells → way_from cells 0 p ≡ way_is.NotDir → IsAbsent cells p tree_error.NotDir
stopped cells p f e = absent_at cells p way_is.NotDir tree_error.NotDir f e (λ m. cc) refl refl refl refl

-- what is at the end of a way that leads to a cell
pub stands_at : (cells : List Cell) (p : Names) (k : ℕ) → IsArena cells → reach (link cells) 0 p ≡ Some k → seen (tree_of cells) p ≡ seen_node (node cells k) → IsAt cells p k
stands_at cells p k f r s = record {
  forest = f;
  at = r;
  there = there_of (node cells k) (reached_live (link cells) (node cells) f p k r);
  seen = s;
  node = tree_here cells p k r;
}

pub taken : (cells : List Cell) (p : List (List ℕ)) (x : List ℕ) (parent child : ℕ) → IsArena cells → slice_get p (length p - 1) ≡ Some x → way_is.At parent ≡ way_from cells 0 (front_of p) → Step (node cells parent) (link cells parent x) (way_is.At child) → IsTaken cells p parent child
unfolding under
taken cells p x parent child f e w (goes a c n l h) =
    let same : child ≡ c = cc in
    let way : way_from cells 0 p ≡ way_is.At child = way_last cells p x (way_is.At parent) e w ∙ ap (λ (o : Option Node). way_on o (link cells parent x) (λ c. way_is.At c)) n ∙ ap (λ (o : Option ℕ). way_on (Some (Dir a)) o (λ c. way_is.At c)) l ∙ sym h in
    record {
      some = not_empty p x e;
      stands = stands_at cells p child f (way_reach cells 0 p child way) (seen_by_way cells p ∙ ap (seen_way cells) way);
      under = under cells p x parent a e w n;
      held = l ∙ ap (λ (j : ℕ). Some j) (sym same);
    }
taken cells p x parent child f e w (lacks a n l h) = cc
taken cells p x parent child f e w (stops b a n h) = cc
taken cells p x parent child f e w (nowhere n) = absurd (reached_live (link cells) (node cells) f (front_of p) parent (way_reach cells 0 (front_of p) parent (sym w)) n)

pub vacant : (cells : List Cell) (p : List (List ℕ)) (x : List ℕ) (parent : ℕ) → IsArena cells → slice_get p (length p - 1) ≡ Some x → way_is.At parent ≡ way_from cells 0 (front_of p) → Step (node cells parent) (link cells parent x) way_is.Missing → IsVacant cells p parent
unfolding under
vacant cells p x parent f e w (goes a c n l h) = cc
vacant cells p x parent f e w (lacks a n l h) =
    let way : way_from cells 0 p ≡ way_is.Missing = way_last cells p x (way_is.At parent) e w ∙ ap (λ (o : Option Node). way_on o (link cells parent x) (λ c. way_is.At c)) n ∙ ap (λ (o : Option ℕ). way_on (Some (Dir a)) o (λ c. way_is.At c)) l in
    record {
      forest = f;
      some = not_empty p x e;
      under = under cells p x parent a e w n;
      vacant = l;
      absent = node_by_way cells p f ∙ ap (node_way cells) way;
      seen = seen_by_way cells p ∙ ap (seen_way cells) way;
    }
vacant cells p x parent f e w (stops b a n h) = cc
vacant cells p x parent f e w (nowhere n) = absurd (reached_live (link cells) (node cells) f (front_of p) parent (way_reach cells 0 (front_of p) parent (sym w)) n)

pub under_file : (cells : List Cell) (p : List (List ℕ)) (x : List ℕ) (parent : ℕ) → IsArena cells → slice_get p (length p - 1) ≡ Some x → way_is.At parent ≡ way_from cells 0 (front_of p) → Step (node cells parent) (link cells parent x) way_is.NotDir → IsCutOff cells p tree_error.NotDir
under_file cells p x parent f e w (goes a c n l h) = cc
under_file cells p x parent f e w (lacks a n l h) = cc
under_file cells p x parent f e w (stops b a n h) =
    let way : way_from cells 0 p ≡ way_is.NotDir = way_last cells p x (way_is.At parent) e w ∙ ap (λ (o : Option Node). way_on o (link cells parent x) (λ c. way_is.At c)) n in
    record {
      some = not_empty p x e;
      absent = stopped cells p f way;
      front = ap refused_in (seen_by_way cells (front_of p) ∙ ap (seen_way cells) (sym w) ∙ ap seen_node n);
    }
under_file cells p x parent f e w (nowhere n) = absurd (reached_live (link cells) (node cells) f (front_of p) parent (way_reach cells 0 (front_of p) parent (sym w)) n)

pub front_lacks : (cells : List Cell) (p : List (List ℕ)) (x : List ℕ) → IsArena cells → slice_get p (length p - 1) ≡ Some x → way_is.Missing ≡ way_from cells 0 (front_of p) → IsCutOff cells p tree_error.Missing
front_lacks cells p x f e w =
    let way = way_last cells p x way_is.Missing e w in
    record {
      some = not_empty p x e;
      absent = lacking cells p f way;
      front = ap refused_in (seen_by_way cells (front_of p) ∙ ap (seen_way cells) (sym w));
    }

pub front_stops : (cells : List Cell) (p : List (List ℕ)) (x : List ℕ) → IsArena cells → slice_get p (length p - 1) ≡ Some x → way_is.NotDir ≡ way_from cells 0 (front_of p) → IsCutOff cells p tree_error.NotDir
front_stops cells p x f e w =
    let way = way_last cells p x way_is.NotDir e w in
    record {
      some = not_empty p x e;
      absent = stopped cells p f way;
      front = ap refused_in (seen_by_way cells (front_of p) ∙ ap (seen_way cells) (sym w));
    }

pub step_is_of : (cells : List Cell) (k : ℕ) (x : List ℕ) (w : Way) → w ≡ way_on (node cells k) (link cells k x) (λ c. way_is.At c) → Step (node cells k) (link cells k x) w
step_is_of cells k x w e = step_of (node cells k) (link cells k x) w e

get_past : (p : List (List ℕ)) (n : ℕ) → n < length p → slice_get p n ≡ None → ⊥
get_past [] n h e = omega arith
get_past (x ∷ p) zero h e = cc
get_past (x ∷ p) (suc n) h e = get_past p n (omega arith) e

pub no_last : (p : List (List ℕ)) → None ≡ slice_get p (length p - 1) → p ≡ []
no_last [] e = refl
no_last (x ∷ p) e = absurd (get_past (x ∷ p) (length (x ∷ p) - 1) (omega arith) (sym e))

pub at_root : (cells : List Cell) (p : List (List ℕ)) → IsArena cells → p ≡ [] → IsRoot cells p
at_root cells p f e =
    let here : tree_of cells p ≡ Some (Dir f.root.0) = ap (tree_of cells) e ∙ ap (λ (t : Tree). t []) (tree_of-is cells) ∙ f.root.1 in
    record {
      forest = f;
      is = e;
      dir = (f.root.0, here);
      seen = ap (seen (tree_of cells)) e ∙ ap seen_node (sym (ap (tree_of cells) e) ∙ here);
    }

-- the way of a whole path, read off the slots
pub whole_way : (slots inside : List Slot) (cells : List Cell) (p : Names) (n : ℕ) (way : Way) → way ≡ way_from (map cell_of slots) 0 (take n p) → slots ≡ inside → n ≡ length p → map cell_of inside ≡ cells → way ≡ way_from cells 0 p
whole_way slots inside cells p n way e same count view =
    e ∙ ap (λ (xs : List Slot). way_from (map cell_of xs) 0 (take n p)) same
    ∙ ap (λ (n : ℕ). way_from (map cell_of inside) 0 (take n p)) count
    ∙ ap (way_from (map cell_of inside) 0) (take-length p)
    ∙ ap (λ (cells : List Cell). way_from cells 0 p) view
