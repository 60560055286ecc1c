-- The map from old paths to new ones finds what carries a path.
use Rattle.std.proofs.Common.{◌≡◌, inl, inr, ⊎_elim, ℕ, ◌+◌, ◌<◌, List, [], ◌∷◌, ◌++◌, Bool, true, false, cond, length, Option, Some, None, refl, sym, ◌∙◌, ap, ap₂, arith, append_assoc, length-append}
use Rattle.std.proofs.lemmas.List.{append-nil}
use Rattle.std.specs.List.{AllByRecursion}
use Rattle.std.specs.List.Sorted.{IsStrictlySortedBy}
use Rattle.std.specs.Map.{keys_of, lookup}
use Rattle.std.specs.Ordering.{is_eq, is_lt}
use Rattle.std.specs.declared.cmp.Ordering.TheVariants.{Less}
use Rattle.dc_path.specs.Order.{path_lt}
use Rattle.dc_path.specs.Paths.{Names, cut, parent_of, path_cmp}
use Rattle.dc_path.proofs.OrderLemmas.{path_lt-cmp}
use Rattle.dc_path.proofs.PathLemmas.{Last, append-cut, cut-append, cut_more, cut_none, empty, ended, last_case, path_decides, ties_same, same_key, parent_of-append, Ended}
use Rattle.dc_report.specs.Carrying.{Carried, Carry, Has, Stays, With, carried_by, carrier, moved, old_lt, or_carried, place, place_from, then_rest}
use Rattle.dc_report.specs.Carries.{carries_in, carry_to, hit_of}
use Rattle.dc_report.proofs.Sorting.{IsSorted}
use Rattle.dc_path.proofs.PathOrder.{cut-less}

-- an entry of the map
abbrev pub Pair : Type 0
Pair = Names × Option Names

-- ---- the map ascends by old path
later_old : (p : Names) (es : List Pair) (d : Carry) → AllByRecursion (λ q. path_cmp p q ≡ Less) (keys_of es) → Has (carries_in es) d → path_lt p d.old ≡ true
later_old p [] d a h = absurd h
later_old p (e ∷ es) d a (inl i) = rw i (path_lt-cmp p e.0 ∙ ap is_lt a.0)
later_old p (e ∷ es) d a (inr h) = later_old p es d a.1 h

pub map_ascends : (es : List Pair) → IsStrictlySortedBy path_cmp (keys_of es) → IsSorted old_lt (carries_in es)
unfolding IsStrictlySortedBy
map_ascends [] s = tt
map_ascends (e ∷ es) s = ((λ d h. later_old e.0 es d s.0 h), map_ascends es s.1)

-- ---- what is found
-- the first, or else the second
abbrev or_hit : Option Pair → Option Pair → Option Pair
or_hit None b = b
or_hit (Some a) b = Some a

hit_or : (k l : Carried) → hit_of (or_carried k l) ≡ or_hit (hit_of k) (hit_of l)
hit_or Stays l = refl
hit_or (With c r) l = refl

pub carrier_stays : (cs : List Carry) (p : Names) → ((d : Carry) → Has cs d → cut d.old p ≡ None) → carrier cs p ≡ Stays
carrier_stays [] p h = refl
carrier_stays (c ∷ cs) p h = rw (carrier_stays cs p (λ d k. h d (inr k)), h c (inl refl)) refl

hit_here : (e : Pair) (es : List Pair) (p new : _) → IsSorted old_lt (carries_in (e ∷ es)) → p ≡ e.0 → e.1 ≡ new → hit_of (carrier (carries_in (e ∷ es)) p) ≡ Some (p, new)
hit_here e es p new s i n =
    let pass : carrier (carries_in es) e.0 ≡ Stays = carrier_stays (carries_in es) e.0 (λ d h. cut-less d.old e.0 (s.0 d h)) in
    let own : cut e.0 e.0 ≡ Some [] = rw append-nil at (cut-append e.0 []) in
    rw (i, ← n, pass, own) refl

-- an entry in front of what is found
hit_cons : (e : Pair) (es : List Pair) (p : Names) → hit_of (carrier (carries_in (e ∷ es)) p) ≡ or_hit (hit_of (carrier (carries_in es) p)) (hit_of (carried_by (carry_to e.0 e.1) (cut e.0 p)))
hit_cons e es p = hit_or (carrier (carries_in es) p) (carried_by (carry_to e.0 e.1) (cut e.0 p))

found_at : (e : Pair) (es : List Pair) (p : Names) (new : Option Names) (b : Bool) → IsSorted old_lt (carries_in (e ∷ es)) → is_eq (path_cmp p e.0) ≡ b
    → (lookup (λ q. is_eq (path_cmp p q)) es ≡ Some new → hit_of (carrier (carries_in es) p) ≡ Some (p, new))
    → cond b (Some e.1) (lookup (λ q. is_eq (path_cmp p q)) es) ≡ Some new → hit_of (carrier (carries_in (e ∷ es)) p) ≡ Some (p, new)
found_at e es p new true s t ih k = hit_here e es p new s (same_key p e.0 t) (cc)
found_at e es p new false s t ih k = hit_cons e es p ∙ ap (λ (o : Option Pair). or_hit o (hit_of (carried_by (carry_to e.0 e.1) (cut e.0 p)))) (ih k)

-- a path in the map is carried by its entry
pub found_hit : (es : List Pair) (p : Names) (new : Option Names) → IsSorted old_lt (carries_in es) → lookup (λ q. is_eq (path_cmp p q)) es ≡ Some new → hit_of (carrier (carries_in es) p) ≡ Some (p, new)
found_hit [] p new s h = absurd (cc)
found_hit (e ∷ es) p new s h = found_at e es p new (is_eq (path_cmp p e.0)) s refl (found_hit es p new s.1) h

-- ---- what is not found
-- with a name less, a prefix of no entry's length is carried by the same
miss_one : (e : Pair) (p : Names) (x : List ℕ) (k : Option Pair) → is_eq (path_cmp (p ++ x ∷ []) e.0) ≡ false → (o : Option Names) → cut e.0 p ≡ o
    → or_hit k (hit_of (carried_by (carry_to e.0 e.1) (cut e.0 (p ++ x ∷ [])))) ≡ or_hit k (hit_of (carried_by (carry_to e.0 e.1) o))
miss_one e p x k t None f =
    ⊎_elim (λ n. ap (λ (o : Option Names). or_hit k (hit_of (carried_by (carry_to e.0 e.1) o))) n)
    (λ i. let s : is_eq (path_cmp (p ++ x ∷ []) e.0) ≡ true = tie (p ++ x ∷ []) e.0 (sym i) in absurd (cc))
    (cut_none e.0 p x f)
  where
    tie : (a b : Names) → a ≡ b → is_eq (path_cmp a b) ≡ true
    tie a b i = ties_same a b ∙ (path_decides a b).1 i
miss_one e p x k t (Some r) f = ap (λ (o : Option Names). or_hit k (hit_of (carried_by (carry_to e.0 e.1) o))) (cut_more e.0 p r x f)

missed_at : (e : Pair) (es : List Pair) (p : Names) (x : List ℕ) (b : Bool) → is_eq (path_cmp (p ++ x ∷ []) e.0) ≡ b
    → (lookup (λ q. is_eq (path_cmp (p ++ x ∷ []) q)) es ≡ None → hit_of (carrier (carries_in es) (p ++ x ∷ [])) ≡ hit_of (carrier (carries_in es) p))
    → cond b (Some e.1) (lookup (λ q. is_eq (path_cmp (p ++ x ∷ []) q)) es) ≡ None → hit_of (carrier (carries_in (e ∷ es)) (p ++ x ∷ [])) ≡ hit_of (carrier (carries_in (e ∷ es)) p)
missed_at e es p x true t ih k = absurd (cc)
missed_at e es p x false t ih k =
    hit_cons e es (p ++ x ∷ [])
    ∙ ap (λ (o : Option Pair). or_hit o (hit_of (carried_by (carry_to e.0 e.1) (cut e.0 (p ++ x ∷ []))))) (ih k)
    ∙ miss_one e p x (hit_of (carrier (carries_in es) p)) t (cut e.0 p) refl
    ∙ sym (hit_cons e es p)

missed_front : (es : List Pair) (p : Names) (x : List ℕ) → lookup (λ q. is_eq (path_cmp (p ++ x ∷ []) q)) es ≡ None → hit_of (carrier (carries_in es) (p ++ x ∷ [])) ≡ hit_of (carrier (carries_in es) p)
missed_front [] p x h = refl
missed_front (e ∷ es) p x h = missed_at e es p x (is_eq (path_cmp (p ++ x ∷ []) e.0)) refl (missed_front es p x) h

root_at : (e : Pair) (es : List Pair) (q : Names) (b : Bool) → e.0 ≡ q → is_eq (path_cmp [] e.0) ≡ b
    → (lookup (λ q. is_eq (path_cmp [] q)) es ≡ None → hit_of (carrier (carries_in es) []) ≡ None)
    → cond b (Some e.1) (lookup (λ q. is_eq (path_cmp [] q)) es) ≡ None → hit_of (carrier (carries_in (e ∷ es)) []) ≡ None
root_at e es q true i t ih k = absurd (cc)
root_at e es [] false i t ih k = let s : is_eq (path_cmp [] e.0) ≡ true = ap (λ (u : Names). is_eq (path_cmp [] u)) i in absurd (cc)
root_at e es (x ∷ q) false i t ih k = hit_cons e es [] ∙ ap₂ or_hit (ih k) (ap (λ (u : Names). hit_of (carried_by (carry_to e.0 e.1) (cut u []))) i)

missed_root : (es : List Pair) → lookup (λ q. is_eq (path_cmp [] q)) es ≡ None → hit_of (carrier (carries_in es) []) ≡ None
missed_root [] h = refl
missed_root (e ∷ es) h = root_at e es e.0 (is_eq (path_cmp [] e.0)) refl refl (missed_root es) h

-- ---- what the loop has left
-- what is found where this prefix is left; nothing where none is
abbrev pub hit_left : List Pair → Option Names → Option Pair
hit_left es None = None
hit_left es (Some front) = hit_of (carrier (carries_in es) front)

abbrev pub size_left : Option Names → ℕ
size_left None = 0
size_left (Some front) = length front + 1

pub missed : (es : List Pair) (front : Names) → lookup (λ q. is_eq (path_cmp front q)) es ≡ None → hit_of (carrier (carries_in es) front) ≡ hit_left es (parent_of front)
missed es front h = by_last (last_case front)
  where
    by_last : Last front → hit_of (carrier (carries_in es) front) ≡ hit_left es (parent_of front)
    by_last (empty i) = rw i (missed_root es (rw i at h))
    by_last (ended p x i) = rw (i, parent_of-append p x) (missed_front es p x (rw i at h))

pub less_left : (front : Names) → size_left (parent_of front) < length front + 1
less_left front = by_last (last_case front)
  where
    by_last : Last front → size_left (parent_of front) < length front + 1
    by_last (empty i) = rw i (omega arith)
    by_last (ended p x i) = let l = length-append p (x ∷ []) in rw (i, parent_of-append p x) (omega (arith, l))

-- ---- what stays, what goes, and what is followed by a rest
pub stays : (cs : List Carry) (p rest : Names) → hit_of (carrier cs p) ≡ None → then_rest (moved cs p) rest ≡ Some (p ++ rest)
stays cs p rest h = by (carrier cs p) refl h
  where
    by : (k : Carried) → carrier cs p ≡ k → hit_of k ≡ None → then_rest (moved cs p) rest ≡ Some (p ++ rest)
    by Stays e f = rw e refl
    by (With c r) e f = absurd (cc)

pub carrier_rest : (cs : List Carry) (p : Names) (c : Carry) (r : Names) → carrier cs p ≡ With c r → p ≡ c.old ++ r
carrier_rest [] p c r e = absurd (cc)
carrier_rest (d ∷ cs) p c r e = first (carrier cs p) refl (cut d.old p) refl e (carrier_rest cs p c r)
  where
    first : (k : Carried) → carrier cs p ≡ k → (o : Option Names) → cut d.old p ≡ o → or_carried k (carried_by d o) ≡ With c r → (carrier cs p ≡ With c r → p ≡ c.old ++ r) → p ≡ c.old ++ r
    first Stays e None f g ih = absurd (cc)
    first Stays e (Some s) f g ih = let i : d ≡ c = cc in let j : s ≡ r = cc in rw (← i, ← j) (append-cut d.old p s f)
    first (With b s) e o f g ih = ih (e ∙ g)

-- what carries a path, and the rest after its old path
pub record Leads (cs : List Carry) (p old : Names) (new : Option Names) : Type 0 where
  pub rest : Names
  pub path : p ≡ old ++ rest
  pub goes : moved cs p ≡ then_rest new rest

pub goes_by : (cs : List Carry) (p old : Names) (new : Option Names) → hit_of (carrier cs p) ≡ Some (old, new) → Leads cs p old new
goes_by cs p old new h = by (carrier cs p) refl h
  where
    by : (k : Carried) → carrier cs p ≡ k → hit_of k ≡ Some (old, new) → Leads cs p old new
    by Stays e f = absurd (cc)
    by (With c r) e f =
        let q : (c.old, c.new) ≡ (old, new) = cc in
        let i : c.old ≡ old = ap (λ (u : Pair). u.0) q in
        let j : c.new ≡ new = ap (λ (u : Pair). u.1) q in
        record { rest = r; path = rw (← i) (carrier_rest cs p c r e); goes = rw (e, j) refl }

twice : (new : Option Names) (r s : Names) → then_rest (then_rest new r) s ≡ then_rest new (r ++ s)
twice None r s = refl
twice (Some b) r s = ap Some (append_assoc b r s)

pub goes_on : (cs : List Carry) (p old rest : Names) (new : Option Names) → (k : Leads cs p old new) → then_rest (moved cs p) rest ≡ then_rest new (k.rest ++ rest)
goes_on cs p old rest new k = ap (λ (o : Option Names). then_rest o rest) k.goes ∙ twice new k.rest rest

-- ---- a path as its parent and its last name
place_end : (cs : List Carry) (front : Names) (x : List ℕ) (p : Names) (y : List ℕ) → place_from cs front x (p ++ y ∷ []) ≡ then_rest (moved cs (front ++ x ∷ p)) (y ∷ [])
place_end cs front x [] y = refl
place_end cs front x (z ∷ p) y = place_end cs (front ++ x ∷ []) z p y ∙ ap (λ (u : Names). then_rest (moved cs u) (y ∷ [])) (append_assoc front (x ∷ []) (z ∷ p))

-- what is created goes to where its parent goes
pub place_last : (cs : List Carry) (p : Names) (x : List ℕ) → place cs (p ++ x ∷ []) ≡ then_rest (moved cs p) (x ∷ [])
place_last cs [] x = refl
place_last cs (y ∷ p) x = place_end cs [] y p x

pub place_ended : (cs : List Carry) (p : Names) (k : Ended p) → then_rest (moved cs k.front) (k.name ∷ []) ≡ place cs p
place_ended cs p k = sym (ap (place cs) k.path ∙ place_last cs k.front k.name)

-- a path followed by no names
pub then_nothing : (o : Option Names) → then_rest o [] ≡ o
then_nothing None = refl
then_nothing (Some p) = ap Some (append-nil p)
