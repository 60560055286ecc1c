-- A walk of two parts goes on: down to a child, or up to a later name.
use Rattle.std.proofs.Common.{◌≡◌, ℕ, ◌+◌, List, [], ◌∷◌, ◌++◌, Bool, true, false, Option, Some, None, length, length-append, refl, sym, ◌∙◌, ap, arith, append_assoc}
use Rattle.std.proofs.lemmas.List.{append-nil}
use Rattle.std.specs.Option.{option_and_then}
use Rattle.dc_path.specs.Names.{same_name}
use Rattle.dc_path.specs.Order.{name_lt, path_lt, is_after}
use Rattle.dc_path.specs.Paths.{Names}
use Rattle.dc_attrs.specs.Trees.{snapshot, is_hidden}
use Rattle.dc_path.proofs.PathLemmas.{Last, empty, ended, last_case}
use Rattle.dc_path.proofs.OrderLemmas.{path_lt-child, path_lt-after, is_after-sibling, is_after-child}
use Rattle.dc_tree.specs.Arena.{Cell, link, reach}
use Rattle.dc_tree.specs.Homes.{home_at, AreHomes}
use Rattle.dc_tree.specs.declared.homes.Home.{Home}
use Rattle.dc_tree.specs.declared.same.Pair.{Pair}
use Rattle.dc_tree.specs.declared.same.Turn.{Turn}
use Rattle.dc_tree.specs.declared.same.Turn.TheVariants as turn_is
use Rattle.dc_tree.specs.Walking.{is_next, IsFirst, NoneLeads, Stands, Turns, Parts, FitsTurn}
use Rattle.dc_tree.proofs.Graph.{Link, reach_next, reach_on, reach_before}
use Rattle.dc_tree.proofs.Between.{Under, Follows, under, past, follows, between_down, between_up, not_after, sibling_lt, shown_name, shown_front, shown_child}
use Rattle.dc_tree.proofs.Nexts.{next_parts, next_of}

-- nothing is reached under a name that leads nowhere
off_at : (g : Link) (k : ℕ) (y : List ℕ) (t : Names) → g k y ≡ None → reach g k (y ∷ t) ≡ None
off_at g k y t n = ap (option_and_then (λ (l : ℕ). reach g l t)) n

off_name : (g : Link) (i : ℕ) (s : Names) (k : ℕ) (y : List ℕ) (t q : Names) → reach g i s ≡ Some k → g k y ≡ None → q ≡ s ++ y ∷ t → reach g i q ≡ None
off_name g i s k y t q r n e = ap (reach g i) e ∙ reach_on g i s (y ∷ t) k r ∙ off_at g k y t n

shown_under : (s q : Names) (u : Under s q) → is_hidden q ≡ false → same_name snapshot u.name ≡ false
shown_under s q u h = shown_name s u.name u.rest (ap is_hidden (sym u.is) ∙ h)

module _ (a b : List Cell) (i j : ℕ) where
  -- a pair one name below another
  child_stands : (s : Names) (x : List ℕ) (at to : Pair) → Stands a i b j s at → same_name snapshot x ≡ false → link a at.here x ≡ Some to.here → link b at.there x ≡ Some to.there → to.depth ≡ at.depth + 1 → Stands a i b j (s ++ x ∷ []) to
  child_stands s x at to w h e f d =
      let l = length-append s (x ∷ []) in
      let deep = w.deep in
      record {
        here = reach_next (link a) i s x at.here w.here ∙ e;
        there = reach_next (link b) j s x at.there w.there ∙ f;
        deep = omega (arith, l, deep, d);
        shown = shown_child s x w.shown h;
      }

  -- a child of the first part alone
  child_parts : (s : Names) (x : List ℕ) (c : ℕ) (at : Pair) → Stands a i b j s at → same_name snapshot x ≡ false → link a at.here x ≡ Some c → link b at.there x ≡ None → Parts a i b j
  child_parts s x c at w h e f = record {
    path = s ++ x ∷ [];
    slot = c;
    shown = shown_child s x w.shown h;
    here = reach_next (link a) i s x at.here w.here ∙ e;
    absent = reach_next (link b) j s x at.there w.there ∙ f;
  }

  -- ---- down

  down_absent : (r q : Names) (at : Pair) (x : List ℕ) → Stands a i b j r at → IsFirst (link a at.here) (is_next None) x → is_hidden q ≡ false → path_lt r q ≡ true → path_lt q (r ++ x ∷ []) ≡ true → reach (link a) i q ≡ None
  down_absent r q at x w f h t k =
      let u = between_down r q x t k in
      off_name (link a) i r at.here u.0.name u.0.rest q w.here (f.first u.0.name (next_of None u.0.name refl (shown_under r q u.0 h)) u.1) u.0.is

  pub go_down : (r : Names) (at to : Pair) (x : List ℕ) → Stands a i b j r at → IsFirst (link a at.here) (is_next None) x → link a at.here x ≡ Some to.here → link b at.there x ≡ Some to.there → to.depth ≡ at.depth + 1 → Turns a i b j (path_lt r) to
  go_down r at to x w f e g d = record {
    path = r ++ x ∷ [];
    stands = child_stands r x at to w (next_parts None x f.passes).1 e g d;
    passes = path_lt-child r x;
    first = λ q h t k. down_absent r q at x w f h t k;
  }

  -- without a child the first later path is the first past all under the pair
  none_under_at : (r q : Names) (at : Pair) → Stands a i b j r at → NoneLeads (link a at.here) (is_next None) → is_hidden q ≡ false → Follows r q → (is_after r q ≡ true → reach (link a) i q ≡ None) → reach (link a) i q ≡ None
  none_under_at r q at w n h (under u) rest = off_name (link a) i r at.here u.name u.rest q w.here (n u.name (next_of None u.name refl (shown_under r q u h))) u.is
  none_under_at r q at w n h (past k) rest = rest k

  pub go_past : (r : Names) (at : Pair) (turn : Turn) → Stands a i b j r at → NoneLeads (link a at.here) (is_next None) → FitsTurn a i b j (is_after r) turn → FitsTurn a i b j (path_lt r) turn
  go_past r at (turn_is.To to) w n t = record {
    path = t.path;
    stands = t.stands;
    passes = path_lt-after r t.path t.passes;
    first = λ q h k l. none_under_at r q at w n h (follows r q k) (λ m. t.first q h m l);
  }
  go_past r at turn_is.Differs w n t = t
  go_past r at turn_is.Over w n t = λ q h k. none_under_at r q at w n h (follows r q k) (t q h)

  -- ---- up

  -- the walk has gone up from a pair to one above it, past all later paths under that one
  pub record Climbed (r : Names) (at : Pair) : Type 0 where
    pub path : Names
    pub rest : Names
    pub is : r ≡ path ++ rest
    pub stands : Stands a i b j path at
    pub gone : (q : Names) → is_hidden q ≡ false → is_after r q ≡ true → is_after path q ≡ false → reach (link a) i q ≡ None

  pub climb_starts : (r : Names) (at : Pair) → Stands a i b j r at → Climbed r at
  climb_starts r at w = record {
    path = r;
    rest = [];
    is = sym (append-nil r);
    stands = w;
    gone = λ q h k l. let m : true ≡ false = sym k ∙ l in cc;
  }

  -- the pair above one that is not at the tops
  pub record Above (r : Names) (at up : Pair) (x : List ℕ) : Type 0 where
    pub path : Names
    pub rest : Names
    pub is : r ≡ (path ++ x ∷ []) ++ rest
    pub stands : Stands a i b j path up
    pub shown : same_name snapshot x ≡ false
    pub gone : (q : Names) → is_hidden q ≡ false → is_after r q ≡ true → is_after (path ++ x ∷ []) q ≡ false → reach (link a) i q ≡ None

  above_at : (r : Names) (at : Pair) (ha hb : List (Option Home)) (home other : Home) (d : ℕ) → AreHomes (link a) ha → AreHomes (link b) hb → home_at ha at.here ≡ Some home → home_at hb at.there ≡ Some other → at.depth ≡ d + 1 → (c : Climbed r at) → Last c.path → Above r at (record { here = home.parent; there = other.parent; depth = d }) home.name
  above_at r at ha hb home other d ah bh e f n c (empty z) = let deep = c.stands.deep in let l : length c.path ≡ 0 = ap (λ (p : Names). length p) z in absurd (omega (arith, deep, l, n))
  above_at r at ha hb home other d ah bh e f n c (ended s x z) =
      let st = c.stands in
      let up = reach_before (link a) i s x at.here (sym (ap (reach (link a) i) z) ∙ st.here) in
      let ov = reach_before (link b) j s x at.there (sym (ap (reach (link b) j) z) ∙ st.there) in
      let he : Some home ≡ Some (record { parent = up.0; name = x }) = sym e ∙ ah up.0 x at.here up.2 in
      let oe : Some other ≡ Some (record { parent = ov.0; name = x }) = sym f ∙ bh ov.0 x at.there ov.2 in
      let hi : home ≡ record { parent = up.0; name = x } = cc in
      let oi : other ≡ record { parent = ov.0; name = x } = cc in
      let hp : up.0 ≡ home.parent = sym (ap (λ (h : Home). h.parent) hi) in
      let hn : x ≡ home.name = sym (ap (λ (h : Home). h.name) hi) in
      let op : ov.0 ≡ other.parent = sym (ap (λ (h : Home). h.parent) oi) in
      let l = length-append s (x ∷ []) in
      let lz : length c.path ≡ length (s ++ x ∷ []) = ap (λ (p : Names). length p) z in
      let deep = st.deep in
      let path_is : c.path ≡ s ++ home.name ∷ [] = z ∙ ap (λ (y : List ℕ). s ++ y ∷ []) hn in
      let shown : is_hidden (s ++ home.name ∷ []) ≡ false = ap is_hidden (sym path_is) ∙ st.shown in
      record {
        path = s;
        rest = c.rest;
        is = c.is ∙ ap (λ (p : Names). p ++ c.rest) path_is;
        stands = record {
          here = up.1 ∙ ap (λ (k : ℕ). Some k) hp;
          there = ov.1 ∙ ap (λ (k : ℕ). Some k) op;
          deep = omega (arith, l, lz, deep, n);
          shown = shown_front s (home.name ∷ []) shown;
        };
        shown = shown_name s home.name [] shown;
        gone = λ q h k m. c.gone q h k (ap (λ (p : Names). is_after p q) path_is ∙ m);
      }

  pub above : (r : Names) (at : Pair) (ha hb : List (Option Home)) (home other : Home) (d : ℕ) → AreHomes (link a) ha → AreHomes (link b) hb → home_at ha at.here ≡ Some home → home_at hb at.there ≡ Some other → at.depth ≡ d + 1 → Climbed r at → Above r at (record { here = home.parent; there = other.parent; depth = d }) home.name
  above r at ha hb home other d ah bh e f n c = above_at r at ha hb home other d ah bh e f n c (last_case c.path)

  -- below the tops each slot has a note
  has_home_at : (r : Names) (at : Pair) (d : ℕ) (c : Climbed r at) → at.depth ≡ d + 1 → Last c.path → (k : ℕ) × (l : ℕ) × (x : List ℕ) × (link a k x ≡ Some at.here) × (link b l x ≡ Some at.there)
  has_home_at r at d c n (empty z) = let deep = c.stands.deep in let l : length c.path ≡ 0 = ap (λ (p : Names). length p) z in absurd (omega (arith, deep, l, n))
  has_home_at r at d c n (ended s x z) =
      let up = reach_before (link a) i s x at.here (sym (ap (reach (link a) i) z) ∙ c.stands.here) in
      let ov = reach_before (link b) j s x at.there (sym (ap (reach (link b) j) z) ∙ c.stands.there) in
      (up.0, ov.0, x, up.2, ov.2)

  pub here_noted : (r : Names) (at : Pair) (ha : List (Option Home)) (d : ℕ) → AreHomes (link a) ha → Climbed r at → at.depth ≡ d + 1 → home_at ha at.here ≡ None → ⊥
  here_noted r at ha d h c n e = let w = has_home_at r at d c n (last_case c.path) in let k = h w.0 w.2 at.here w.3 in cc

  pub there_noted : (r : Names) (at : Pair) (hb : List (Option Home)) (d : ℕ) → AreHomes (link b) hb → Climbed r at → at.depth ≡ d + 1 → home_at hb at.there ≡ None → ⊥
  there_noted r at hb d h c n e = let w = has_home_at r at d c n (last_case c.path) in let k = h w.1 w.2 at.there w.4 in cc

  -- what comes after the pair is gone, or is under the pair above by a later name
  later_at : (r q : Names) (at up : Pair) (x : List ℕ) (w : Above r at up x) (v : Bool) → is_after (w.path ++ x ∷ []) q ≡ v → is_hidden q ≡ false → is_after r q ≡ true → is_after w.path q ≡ false → ((u : Under w.path q) → name_lt x u.name ≡ true → link a up.here u.name ≡ None) → reach (link a) i q ≡ None
  later_at r q at up x w false e h k m next = w.gone q h k e
  later_at r q at up x w true e h k m next =
      let u = between_up w.path q x e m in
      off_name (link a) i w.path up.here u.0.name u.0.rest q w.stands.here (next u.0 u.1) u.0.is

  later : (r q : Names) (at up : Pair) (x : List ℕ) (w : Above r at up x) → is_hidden q ≡ false → is_after r q ≡ true → is_after w.path q ≡ false → ((u : Under w.path q) → name_lt x u.name ≡ true → link a up.here u.name ≡ None) → reach (link a) i q ≡ None
  later r q at up x w = later_at r q at up x w (is_after (w.path ++ x ∷ []) q) refl

  pub climb_on : (r : Names) (at up : Pair) (x : List ℕ) → Above r at up x → NoneLeads (link a up.here) (is_next (Some x)) → Climbed r up
  climb_on r at up x w n = record {
    path = w.path;
    rest = x ∷ w.rest;
    is = w.is ∙ append_assoc w.path (x ∷ []) w.rest;
    stands = w.stands;
    gone = λ q h k m. later r q at up x w h k m (λ u t. n u.name (next_of (Some x) u.name t (shown_under w.path q u h)));
  }

  before_child : (s q : Names) (u : Under s q) (y : List ℕ) → path_lt q (s ++ y ∷ []) ≡ true → name_lt u.name y ≡ true
  before_child s q u y k = sibling_lt s u.rest u.name y (ap (λ (p : Names). path_lt p (s ++ y ∷ [])) (sym u.is) ∙ k)

  pub climb_to : (r : Names) (at up to : Pair) (x y : List ℕ) → Above r at up x → IsFirst (link a up.here) (is_next (Some x)) y → link a up.here y ≡ Some to.here → link b up.there y ≡ Some to.there → to.depth ≡ up.depth + 1 → Turns a i b j (is_after r) to
  climb_to r at up to x y w f e g d =
      let p = next_parts (Some x) y f.passes in
      record {
        path = w.path ++ y ∷ [];
        stands = child_stands w.path y up to w.stands p.1 e g d;
        passes = ap (λ (q : Names). is_after q (w.path ++ y ∷ [])) w.is ∙ is_after-child (w.path ++ x ∷ []) (w.path ++ y ∷ []) w.rest (is_after-sibling w.path x y p.0);
        first = λ q h k l. later r q at up x w h k (not_after w.path q (y ∷ []) l) (λ u t. f.first u.name (next_of (Some x) u.name t (shown_under w.path q u h)) (before_child w.path q u y l));
      }

  pub climb_parts : (r : Names) (at up : Pair) (x y : List ℕ) (c : ℕ) → Above r at up x → same_name snapshot y ≡ false → link a up.here y ≡ Some c → link b up.there y ≡ None → Parts a i b j
  climb_parts r at up x y c w h e f = child_parts w.path y c up w.stands h e f

  pub down_parts : (r : Names) (at : Pair) (y : List ℕ) (c : ℕ) → Stands a i b j r at → same_name snapshot y ≡ false → link a at.here y ≡ Some c → link b at.there y ≡ None → Parts a i b j
  down_parts r at y c w h e f = child_parts r y c at w h e f

  -- at the tops nothing is left
  root_of : (p : Names) → length p ≡ 0 → p ≡ []
  root_of [] h = refl
  root_of (x ∷ p) h = absurd (omega arith)

  pub climb_ends : (r : Names) (at : Pair) → Climbed r at → at.depth ≡ 0 → (q : Names) → is_hidden q ≡ false → is_after r q ≡ true → reach (link a) i q ≡ None
  climb_ends r at c d q h k =
      let z = root_of c.path (c.stands.deep ∙ d) in
      c.gone q h k (ap (λ (p : Names). is_after p q) z)
