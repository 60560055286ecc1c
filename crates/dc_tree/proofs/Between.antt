-- The order of names and paths is total, and what lies between two paths.
use Rattle.std.proofs.Common.{◌≡◌, ℕ, List, [], ◌∷◌, ◌++◌, Bool, true, false, ◌&&◌, ◌||◌, refl, sym, ◌∙◌, ap, arith}
use Rattle.std.proofs.lemmas.Bool.Decides.{nat_tests}
use Rattle.dc_path.specs.Names.{same_name}
use Rattle.dc_path.specs.Order.{name_lt, path_lt, is_after}
use Rattle.dc_path.specs.Paths.{Names}
use Rattle.dc_attrs.specs.Trees.{snapshot, is_hidden}
use Rattle.dc_path.proofs.PathLemmas.{NameCase, same, other, name_case, same_name-refl}
use Rattle.dc_path.proofs.OrderLemmas.{name_lt-trans, name_lt-apart}
use Rattle.std.proofs.lemmas.Bool.{false_from_ne_true, or_parts, or_from, or_right}

-- ---- names

pub name_lt-irrefl : (x : List ℕ) → name_lt x x ≡ true → ⊥
name_lt-irrefl x h = let e = name_lt-apart x x h in let f = same_name-refl x in cc

pub name_lt-asym : (x y : List ℕ) → name_lt x y ≡ true → name_lt y x ≡ true → ⊥
name_lt-asym x y h k = name_lt-irrefl x (name_lt-trans x y x h k)

name_total : (x y : List ℕ) → name_lt x y ≡ false → same_name x y ≡ false → name_lt y x ≡ true
name_total [] [] h k = cc
name_total [] (b ∷ y) h k = cc
name_total (a ∷ x) [] h k = refl
name_total (a ∷ x) (b ∷ y) h k = let ih = name_total x y in grind (arith, nat_tests, ih)

pub data NameOrder (x y : List ℕ) : Type 0 where
  before : name_lt x y ≡ true → NameOrder x y
  equal : x ≡ y → NameOrder x y
  behind : name_lt y x ≡ true → NameOrder x y

order_at : (x y : List ℕ) (b : Bool) → name_lt x y ≡ b → NameCase x y → NameOrder x y
order_at x y true e c = before e
order_at x y false e (same t h) = equal h
order_at x y false e (other t h) = behind (name_total x y e t)

pub name_order : (x y : List ℕ) → NameOrder x y
name_order x y = order_at x y (name_lt x y) refl (name_case x y)

-- ---- one name in front of two paths

-- the first names decide, or they are the same
pub data Heads (x y : List ℕ) (tails : Bool) : Type 0 where
  by_head : name_lt x y ≡ true → Heads x y tails
  by_tails : x ≡ y → tails ≡ true → Heads x y tails

heads_at : (x y : List ℕ) (b tails : Bool) → name_lt x y ≡ b → NameCase x y → (b || (same_name x y && tails)) ≡ true → Heads x y tails
heads_at x y true tails e c h = by_head e
heads_at x y false true e (same t k) h = by_tails k refl
heads_at x y false false e (same t k) h = let w : (same_name x y && false) ≡ false = ap (λ b. b && false) t in cc
heads_at x y false tails e (other t k) h = let w : (same_name x y && tails) ≡ false = ap (λ b. b && tails) t in cc

pub heads : (x y : List ℕ) (tails : Bool) → (name_lt x y || (same_name x y && tails)) ≡ true → Heads x y tails
heads x y tails h = heads_at x y (name_lt x y) tails refl (name_case x y) h

pub by_first : (x y : List ℕ) (tails : Bool) → name_lt x y ≡ true → (name_lt x y || (same_name x y && tails)) ≡ true
by_first x y tails h = ap (λ b. b || (same_name x y && tails)) h

pub by_rest : (x : List ℕ) (tails : Bool) → tails ≡ true → (name_lt x x || (same_name x x && tails)) ≡ true
by_rest x tails h = ap (λ b. name_lt x x || (b && tails)) (same_name-refl x) ∙ ap (λ b. name_lt x x || b) h ∙ or_right (name_lt x x) true refl

pub lt_nil : (t : Names) → path_lt t [] ≡ true → ⊥
lt_nil [] h = cc
lt_nil (x ∷ t) h = cc

-- ---- paths

pub data PathOrder (p q : Names) : Type 0 where
  earlier : path_lt p q ≡ true → PathOrder p q
  this : p ≡ q → PathOrder p q
  later : path_lt q p ≡ true → PathOrder p q

tails_order : (x y : List ℕ) (p q : Names) → x ≡ y → PathOrder p q → PathOrder (x ∷ p) (y ∷ q)
tails_order x y p q e (earlier h) = earlier (ap (λ (z : List ℕ). path_lt (x ∷ p) (z ∷ q)) (sym e) ∙ by_rest x (path_lt p q) h)
tails_order x y p q e (this h) = this (cc)
tails_order x y p q e (later h) = later (ap (λ (z : List ℕ). path_lt (z ∷ q) (x ∷ p)) (sym e) ∙ by_rest x (path_lt q p) h)

heads_order : (x y : List ℕ) (p q : Names) → NameOrder x y → PathOrder p q → PathOrder (x ∷ p) (y ∷ q)
heads_order x y p q (before h) o = earlier (by_first x y (path_lt p q) h)
heads_order x y p q (equal e) o = tails_order x y p q e o
heads_order x y p q (behind h) o = later (by_first y x (path_lt q p) h)

pub path_order : (p q : Names) → PathOrder p q
path_order [] [] = this refl
path_order [] (y ∷ q) = earlier refl
path_order (x ∷ p) [] = later refl
path_order (x ∷ p) (y ∷ q) = heads_order x y p q (name_order x y) (path_order p q)

-- a path under another one
pub record Under (p q : Names) : Type 0 where
  pub name : List ℕ
  pub rest : Names
  pub is : q ≡ p ++ name ∷ rest

under_more : (x y : List ℕ) (p q : Names) → x ≡ y → Under p q → Under (x ∷ p) (y ∷ q)
under_more x y p q e u = record { name = u.name; rest = u.rest; is = let h = u.is in cc }

-- what comes after a path is under it, or comes after all that is under it
pub data Follows (p q : Names) : Type 0 where
  under : Under p q → Follows p q
  past : is_after p q ≡ true → Follows p q

follows_more : (x y : List ℕ) (p q : Names) → x ≡ y → Follows p q → Follows (x ∷ p) (y ∷ q)
follows_more x y p q e (under u) = under (under_more x y p q e u)
follows_more x y p q e (past h) = past (ap (λ (z : List ℕ). is_after (x ∷ p) (z ∷ q)) (sym e) ∙ by_rest x (is_after p q) h)

follows_heads : (x y : List ℕ) (p q : Names) → (path_lt p q ≡ true → Follows p q) → Heads x y (path_lt p q) → Follows (x ∷ p) (y ∷ q)
follows_heads x y p q ih (by_head h) = past (by_first x y (is_after p q) h)
follows_heads x y p q ih (by_tails e h) = follows_more x y p q e (ih h)

pub follows : (p q : Names) → path_lt p q ≡ true → Follows p q
follows [] [] h = cc
follows [] (y ∷ q) h = under (record { name = y; rest = q; is = refl })
follows (x ∷ p) [] h = cc
follows (x ∷ p) (y ∷ q) h = follows_heads x y p q (follows p q) (heads x y (path_lt p q) h)

-- ---- between a path and one of its children

down_heads : (z w : List ℕ) (r q : Names) (x : List ℕ) → (path_lt r q ≡ true → path_lt q (r ++ x ∷ []) ≡ true → (u : Under r q) × (name_lt u.name x ≡ true)) → Heads z w (path_lt r q) → Heads w z (path_lt q (r ++ x ∷ [])) → (u : Under (z ∷ r) (w ∷ q)) × (name_lt u.name x ≡ true)
down_heads z w r q x ih (by_head h) (by_head k) = absurd (name_lt-asym z w h k)
down_heads z w r q x ih (by_head h) (by_tails e k) = absurd (name_lt-irrefl z (ap (name_lt z) (sym e) ∙ h))
down_heads z w r q x ih (by_tails e h) (by_head k) = absurd (name_lt-irrefl w (ap (name_lt w) (sym e) ∙ k))
down_heads z w r q x ih (by_tails e h) (by_tails f k) = let u = ih h k in (record { name = u.0.name; rest = u.0.rest; is = let i = u.0.is in cc }, u.1)

down_first : (y : List ℕ) (t : Names) (x : List ℕ) → Heads y x (path_lt t []) → name_lt y x ≡ true
down_first y t x (by_head h) = h
down_first y t x (by_tails e h) = absurd (lt_nil t h)

-- it is under the path, by a name before the child's
pub between_down : (r q : Names) (x : List ℕ) → path_lt r q ≡ true → path_lt q (r ++ x ∷ []) ≡ true → (u : Under r q) × (name_lt u.name x ≡ true)
between_down [] [] x h k = cc
between_down [] (y ∷ t) x h k = (record { name = y; rest = t; is = refl }, down_first y t x (heads y x (path_lt t []) k))
between_down (z ∷ r) [] x h k = cc
between_down (z ∷ r) (w ∷ q) x h k = down_heads z w r q x (between_down r q x) (heads z w (path_lt r q) h) (heads w z (path_lt q (r ++ x ∷ [])) k)

-- ---- after all that is under a child, and not after all that is under its parent

after_nil : (t : Names) → is_after [] t ≡ true → ⊥
after_nil t h = cc

up_first : (x y : List ℕ) (t : Names) → Heads x y (is_after [] t) → name_lt x y ≡ true
up_first x y t (by_head h) = h
up_first x y t (by_tails e h) = absurd (after_nil t h)

after_tail : (z w : List ℕ) (s q : Names) → z ≡ w → is_after (z ∷ s) (w ∷ q) ≡ false → is_after s q ≡ false
after_tail z w s q e h = false_from_ne_true (is_after s q) (λ k. let t : is_after (z ∷ s) (w ∷ q) ≡ true = ap (λ (v : List ℕ). is_after (z ∷ s) (v ∷ q)) (sym e) ∙ by_rest z (is_after s q) k in cc)

up_heads : (z w : List ℕ) (s q : Names) (x : List ℕ) → (is_after (s ++ x ∷ []) q ≡ true → is_after s q ≡ false → (u : Under s q) × (name_lt x u.name ≡ true)) → Heads z w (is_after (s ++ x ∷ []) q) → is_after (z ∷ s) (w ∷ q) ≡ false → (u : Under (z ∷ s) (w ∷ q)) × (name_lt x u.name ≡ true)
up_heads z w s q x ih (by_head h) k = let t : is_after (z ∷ s) (w ∷ q) ≡ true = by_first z w (is_after s q) h in cc
up_heads z w s q x ih (by_tails e h) k = let u = ih h (after_tail z w s q e k) in (record { name = u.0.name; rest = u.0.rest; is = let i = u.0.is in cc }, u.1)

-- it is under the parent, by a name after the child's
pub between_up : (s q : Names) (x : List ℕ) → is_after (s ++ x ∷ []) q ≡ true → is_after s q ≡ false → (u : Under s q) × (name_lt x u.name ≡ true)
between_up [] [] x h k = cc
between_up [] (y ∷ t) x h k = (record { name = y; rest = t; is = refl }, up_first x y t (heads x y (is_after [] t) h))
between_up (z ∷ s) [] x h k = cc
between_up (z ∷ s) (w ∷ q) x h k = up_heads z w s q x (between_up s q x) (heads z w (is_after (s ++ x ∷ []) q) h) k

-- what comes before something under a path does not come after all that is under it
not_after_heads : (z w : List ℕ) (s q u : Names) → (path_lt q (s ++ u) ≡ true → is_after s q ≡ false) → Heads w z (path_lt q (s ++ u)) → Heads z w (is_after s q) → ⊥
not_after_heads z w s q u ih (by_head h) (by_head k) = name_lt-asym w z h k
not_after_heads z w s q u ih (by_head h) (by_tails e k) = name_lt-irrefl w (ap (name_lt w) (sym e) ∙ h)
not_after_heads z w s q u ih (by_tails e h) (by_head k) = name_lt-irrefl z (ap (name_lt z) (sym e) ∙ k)
not_after_heads z w s q u ih (by_tails e h) (by_tails f k) = let i = ih h in cc

pub not_after : (s q u : Names) → path_lt q (s ++ u) ≡ true → is_after s q ≡ false
not_after [] q u h = refl
not_after (z ∷ s) [] u h = refl
not_after (z ∷ s) (w ∷ q) u h = false_from_ne_true (is_after (z ∷ s) (w ∷ q)) (λ k. not_after_heads z w s q u (not_after s q u) (heads w z (path_lt q (s ++ u)) h) (heads z w (is_after s q) k))

-- two paths under one are ordered by the names there
sibling_heads : (z : List ℕ) (s t : Names) (y x : List ℕ) → (path_lt (s ++ y ∷ t) (s ++ x ∷ []) ≡ true → name_lt y x ≡ true) → Heads z z (path_lt (s ++ y ∷ t) (s ++ x ∷ [])) → name_lt y x ≡ true
sibling_heads z s t y x ih (by_head h) = absurd (name_lt-irrefl z h)
sibling_heads z s t y x ih (by_tails e h) = ih h

pub sibling_lt : (s t : Names) (y x : List ℕ) → path_lt (s ++ y ∷ t) (s ++ x ∷ []) ≡ true → name_lt y x ≡ true
sibling_lt [] t y x h = down_first y t x (heads y x (path_lt t []) h)
sibling_lt (z ∷ s) t y x h = sibling_heads z s t y x (sibling_lt s t y x) (heads z z (path_lt (s ++ y ∷ t) (s ++ x ∷ [])) h)

-- ---- hidden paths

pub shown_name : (r : Names) (y : List ℕ) (t : Names) → is_hidden (r ++ y ∷ t) ≡ false → same_name snapshot y ≡ false
shown_name [] y t h = (or_parts (same_name snapshot y) (is_hidden t) h).0
shown_name (z ∷ r) y t h = shown_name r y t (or_parts (same_name snapshot z) (is_hidden (r ++ y ∷ t)) h).1

pub shown_front : (r : Names) (t : Names) → is_hidden (r ++ t) ≡ false → is_hidden r ≡ false
shown_front [] t h = refl
shown_front (z ∷ r) t h = let w = or_parts (same_name snapshot z) (is_hidden (r ++ t)) h in or_from (same_name snapshot z) (is_hidden r) w.0 (shown_front r t w.1)

pub shown_child : (r : Names) (x : List ℕ) → is_hidden r ≡ false → same_name snapshot x ≡ false → is_hidden (r ++ x ∷ []) ≡ false
shown_child [] x h k = or_from (same_name snapshot x) false k refl
shown_child (z ∷ r) x h k = let w = or_parts (same_name snapshot z) (is_hidden r) h in or_from (same_name snapshot z) (is_hidden (r ++ x ∷ [])) w.0 (shown_child r x w.1 k)
