-- The moves that place items.
use Rattle.std.proofs.Common.{ℕ, ◌≡◌, inl, inr, List, [], ◌∷◌, ◌++◌, Bool, true, false, cond, ◌&&◌, ◌||◌, not, Option, Some, None, refl, sym, ◌∙◌, ap, arith, map}
use Rattle.std.proofs.Math.Path.{fun_ext}
use Rattle.std.specs.List.{list_any, filter}
use Rattle.std.proofs.lemmas.List.{append-nil}
use Rattle.std.proofs.lemmas.Bool.{and_right, false_from_ne_true}
use Rattle.dc_attrs.specs.Attributes.{default_dir}
use Rattle.dc_attrs.specs.Trees.{Dir, Node, Tree, moved as tree_moved, with_node, without}
use Rattle.dc_path.specs.Names.{same_name}
use Rattle.dc_path.specs.Order.{path_lt}
use Rattle.dc_path.specs.Paths.{Names, at_cut, cut, same_path, is_above}
use Rattle.dc_report.specs.Carrying.{Carry, Has, Place, Plan, is_fresh, is_made}
use Rattle.dc_replay.specs.Checking.{IsOff}
use Rattle.dc_replay.specs.Steps.{after, step}
use Rattle.dc_report.specs.Moves.{fronts, is_new_parent, parents, placing, label_of}
use Rattle.dc_report.specs.declared.entries.Move.TheVariants.{Make, Shift}
use Rattle.dc_replay.proofs.Staging.{after-append, slot, staged}
use Rattle.dc_replay.proofs.Where.{IsPlaceOf, label_below, arrived, IsDescending}
use Rattle.dc_path.proofs.PathOrder.{path_lt-irrefl, path_lt-asym, above_lt}
use Rattle.dc_report.proofs.Labels.{one_label_of}
use Rattle.dc_path.proofs.PathLemmas.{at_end, cut-child, same_path-by_cut, then_cut, same_name-refl, name_decides, append-cut, same_name-flip}
use Rattle.dc_path.proofs.Fronts.{is_above-nil}
use Rattle.dc_path.specs.Found.{has_path}

-- ---- the pointwise state of the placing
abbrev pub has_label : List Place → List ℕ → Bool
has_label ns x = list_any (λ n. same_name (label_of n.label) x) ns

-- what is left in the stage
abbrev pub left : List Place → List Carry → Tree → Names → Option Node
left ns cs A [] = Some (Dir default_dir)
left ns cs A (x ∷ r) = cond (has_label ns x) None (slot cs A x r)

-- the tree when these new paths are placed
abbrev pub placed : List ℕ → Plan → Tree → List Place → Tree
placed st P A ns q = at_cut (cut (st ∷ []) q) (cond (is_made P ns q) (Some (Dir default_dir)) (arrived P.carries A ns q)) (left ns P.carries A)

start_at : (st : List ℕ) (P : Plan) (A : Tree) (q : Names) (o : Option Names) → cut (st ∷ []) q ≡ o → staged st P.carries A q ≡ placed st P A [] q
start_at st P A q None e = rw (e, and_right (is_fresh P q) false refl) refl
start_at st P A q (Some []) e = rw e refl
start_at st P A q (Some (x ∷ r)) e = rw e refl

pub place_start : (st : List ℕ) (P : Plan) (A : Tree) → staged st P.carries A ≡ placed st P A []
place_start st P A = fun_ext (λ q. start_at st P A q (cut (st ∷ []) q) refl)

-- ---- the parents that are made
abbrev pub with_dirs : List Names → Tree → Tree
with_dirs ps X q = cond (has_path ps q) (Some (Dir default_dir)) (X q)

both : (a b : Bool) (x : Option Node) → cond b (Some (Dir default_dir)) (cond a (Some (Dir default_dir)) x) ≡ cond (a || b) (Some (Dir default_dir)) x
both true true x = refl
both true false x = refl
both false b x = refl

pub makes_give : (ps : List Names) (X : Tree) → after (map Make ps) X ≡ with_dirs ps X
makes_give [] X = refl
makes_give (p ∷ ps) X = makes_give ps (with_node X p (Dir default_dir)) ∙ fun_ext (λ q. both (same_path p q) (has_path ps q) (X q))

abbrev between : Option Names → Names → Bool
between o rest = at_cut o false (λ u. is_above u rest)

between_nil : (o : Option Names) → between o [] ≡ false
between_nil None = refl
between_nil (Some u) = is_above-nil u

front_step : (f : Names → Bool) (front : Names) (x : List ℕ) (rest q : Names) (o : Option Names) → cut front q ≡ o → cond (f front) (at_end o || (f q && between (then_cut x o) rest)) (f q && between (then_cut x o) rest) ≡ (f q && between o (x ∷ rest))
front_step f front x rest q None e = rw (and_right (f q) false refl) (elim (f front) as (λ b. cond b false false ≡ false) [ true ↦ refl | false ↦ refl ])
front_step f front x rest q (Some []) e =
    let s : q ≡ front = append-cut front q [] e ∙ append-nil front in
    rw s (elim (f front) as (λ b. cond b true (b && false) ≡ (b && true)) [ true ↦ refl | false ↦ refl ])
front_step f front x rest q (Some (y ∷ u)) e =
    elim (f front) as (λ b. cond b (f q && between (cond (same_name x y) (Some u) None) rest) (f q && between (cond (same_name x y) (Some u) None) rest) ≡ (f q && (same_name y x && is_above u rest))) [ true ↦ same | false ↦ same ]
  where
    same : (f q && between (cond (same_name x y) (Some u) None) rest) ≡ (f q && (same_name y x && is_above u rest))
    same = rw (same_name-flip y x) (elim (same_name x y) as (λ b. (f q && between (cond b (Some u) None) rest) ≡ (f q && (b && is_above u rest))) [ true ↦ refl | false ↦ refl ])

filter_any : (f : Names → Bool) (p q : Names) (ps : List Names) → has_path (filter f (p ∷ ps)) q ≡ cond (f p) (same_path p q || has_path (filter f ps) q) (has_path (filter f ps) q)
filter_any f p q ps = elim (f p) as (λ b. has_path (cond b (p ∷ filter f ps) (filter f ps)) q ≡ cond b (same_path p q || has_path (filter f ps) q) (has_path (filter f ps) q)) [ true ↦ refl | false ↦ refl ]

fronts_any : (f : Names → Bool) (front rest q : Names) → has_path (filter f (fronts front rest)) q ≡ (f q && between (cut front q) rest)
fronts_any f front [] q = rw (between_nil (cut front q), and_right (f q) false refl) refl
fronts_any f front (x ∷ rest) q =
    filter_any f front q (fronts (front ++ x ∷ []) rest)
    ∙ rw (fronts_any f (front ++ x ∷ []) rest q, cut-child front x q, same_path-by_cut front q) (front_step f front x rest q (cut front q) refl)

pub parents_any : (P : Plan) (ns : List Place) (new q : Names) → has_path (parents P ns new) q ≡ (is_new_parent P ns q && is_above q new)
parents_any P ns new q = fronts_any (is_new_parent P ns) [] new q

-- ---- order: nothing is made at or under the greatest new path
pub none_above : (a q r : Names) (ms : List Place) → cut a q ≡ Some r → ((m : Place) → Has ms m → path_lt a m.new ≡ true → ⊥) → list_any (λ m. is_above q m.new) ms ≡ false
none_above a q r [] e h = refl
none_above a q r (m ∷ ms) e h = rw (false_from_ne_true (is_above q m.new) (λ k. h m (inl refl) (above_lt a q m.new r k e)), none_above a q r ms e (λ k i. h k (inr i))) refl

pub not_made : (P : Plan) (n : Place) (ns : List Place) (q r : Names) → IsDescending (n ∷ ns) → cut n.new q ≡ Some r → is_made P (n ∷ ns) q ≡ false
not_made P n ns q r d e = rw (none_above n.new q r (n ∷ ns) e no) (and_right (is_fresh P q) false refl)
  where
    no : (m : Place) → Has (n ∷ ns) m → path_lt n.new m.new ≡ true → ⊥
    no m (inl i) l = let k : true ≡ false = sym l ∙ ap (λ (o : Place). path_lt n.new o.new) i ∙ path_lt-irrefl n.new in cc
    no m (inr i) l = path_lt-asym n.new m.new l (d.0 m i)

-- ---- what is known of the new paths that are placed
pub record IsPart (st : List ℕ) (P : Plan) (ns : List Place) : Type 0 where
  pub descending : IsDescending ns
  pub sound : (n : Place) → Has ns n → IsPlaceOf P.carries n
  pub off : (n : Place) → Has ns n → IsOff st n.new

pub part_tail : (st : List ℕ) (P : Plan) (n : Place) (ns : List Place) → IsPart st P (n ∷ ns) → IsPart st P ns
part_tail st P n ns p = record { descending = p.descending.1; sound = λ m h. p.sound m (inr h); off = λ m h. p.off m (inr h) }

one_label : (cs : List Carry) (n m : Place) → IsPlaceOf cs n → IsPlaceOf cs m → n.label ≡ m.label → n.new ≡ m.new
one_label [] n m h k e = absurd h
one_label (c ∷ cs) n m (inl h) (inl k) e = let f : Some n.new ≡ Some m.new = sym h.0 ∙ k.0 in cc
one_label (c ∷ cs) n m (inl h) (inr k) e = let l = label_below cs m k in let i = h.2 in absurd (omega arith)
one_label (c ∷ cs) n m (inr h) (inl k) e = let l = label_below cs n h in let i = k.2 in absurd (omega arith)
one_label (c ∷ cs) n m (inr h) (inr k) e = one_label cs n m h k e

no_label : (x : List ℕ) (ms : List Place) → ((m : Place) → Has ms m → label_of m.label ≡ x → ⊥) → has_label ms x ≡ false
no_label x [] h = refl
no_label x (m ∷ ms) h = let f : same_name (label_of m.label) x ≡ false = false_from_ne_true (same_name (label_of m.label) x) (λ k. h m (inl refl) ((name_decides (label_of m.label) x).0 k)) in rw (f, no_label x ms (λ k i. h k (inr i))) refl

pub fresh_label : (st : List ℕ) (P : Plan) (n : Place) (ns : List Place) → IsPart st P (n ∷ ns) → has_label ns (label_of n.label) ≡ false
fresh_label st P n ns p = no_label (label_of n.label) ns (λ m h e.
    let same : m.new ≡ n.new = one_label P.carries m n (p.sound m (inr h)) (p.sound n (inl refl)) (one_label_of m.label n.label e) in
    let no : true ≡ false = sym (p.descending.0 m h) ∙ ap (λ (o : Names). path_lt o n.new) same ∙ path_lt-irrefl n.new in cc)

-- ---- one item is placed
made_both : (f a b : Bool) (x : Option Node) → cond ((f && not (f && b)) && a) (Some (Dir default_dir)) (cond (f && b) (Some (Dir default_dir)) x) ≡ cond (f && (a || b)) (Some (Dir default_dir)) x
made_both true true true x = refl
made_both true true false x = refl
made_both true false true x = refl
made_both true false false x = refl
made_both false a b x = refl

above_stage : (st : List ℕ) (t u : Names) → IsOff st t → is_above (st ∷ u) t ≡ false
above_stage st t u off = rw (off.path, off.other) refl

-- the tree when the parents of the next one are made
abbrev pub prepared : List ℕ → Plan → Tree → Place → List Place → Tree
prepared st P A n ns = with_dirs (parents P ns n.new) (placed st P A ns)

pub prepared_at : (st : List ℕ) (P : Plan) (A : Tree) (n : Place) (ns : List Place) (q : Names) → prepared st P A n ns q ≡ cond (is_new_parent P ns q && is_above q n.new) (Some (Dir default_dir)) (placed st P A ns q)
prepared_at st P A n ns q = rw (parents_any P ns n.new q) refl

pub prepared_stage : (st : List ℕ) (P : Plan) (A : Tree) (n : Place) (ns : List Place) (u : Names) → IsOff st n.new → prepared st P A n ns (st ∷ u) ≡ left ns P.carries A u
prepared_stage st P A n ns u off = prepared_at st P A n ns (st ∷ u) ∙ rw (above_stage st n.new u off, and_right (is_new_parent P ns (st ∷ u)) false refl, same_name-refl st) refl

off_stage : (st : List ℕ) (t q r : Names) → IsOff st t → cut t q ≡ Some r → cut (st ∷ []) q ≡ None
off_stage st t q r off e = rw (append-cut t q r e, off.path, off.other) refl

to_at : (st : List ℕ) (P : Plan) (A : Tree) (n : Place) (ns : List Place) (q r : Names) → IsPart st P (n ∷ ns) → cut n.new q ≡ Some r → prepared st P A n ns (st ∷ label_of n.label ∷ r) ≡ placed st P A (n ∷ ns) q
to_at st P A n ns q r p e =
    prepared_stage st P A n ns (label_of n.label ∷ r) (p.off n (inl refl))
    ∙ rw (fresh_label st P n ns p, off_stage st n.new q r (p.off n (inl refl)) e, not_made P n ns q r p.descending e, e) refl

else_at : (st : List ℕ) (P : Plan) (A : Tree) (n : Place) (ns : List Place) (q : Names) (o : Option Names) → IsOff st n.new → cut n.new q ≡ None → cut (st ∷ []) q ≡ o → at_cut (then_cut (label_of n.label) o) (prepared st P A n ns q) (λ r. None) ≡ placed st P A (n ∷ ns) q
else_at st P A n ns q None off e f =
    prepared_at st P A n ns q ∙ rw (f, e) (made_both (is_fresh P q) (is_above q n.new) (list_any (λ m. is_above q m.new) ns) (arrived P.carries A ns q))
else_at st P A n ns q (Some []) off e f =
    let s : q ≡ st ∷ [] = append-cut (st ∷ []) q [] f in
    rw s (prepared_stage st P A n ns [] off ∙ rw (same_name-refl st) refl)
else_at st P A n ns q (Some (x ∷ r)) off e f =
    let s : q ≡ st ∷ x ∷ r = append-cut (st ∷ []) q (x ∷ r) f in
    rw (s, prepared_stage st P A n ns (x ∷ r) off, same_name-refl st) (elim (same_name (label_of n.label) x) as (λ b. at_cut (cond b (Some r) None) (cond (has_label ns x) None (slot P.carries A x r)) (λ u. None) ≡ cond (b || has_label ns x) None (slot P.carries A x r)) [ true ↦ refl | false ↦ refl ])

place_at : (st : List ℕ) (P : Plan) (A : Tree) (n : Place) (ns : List Place) (q : Names) (o : Option Names) → IsPart st P (n ∷ ns) → cut n.new q ≡ o → tree_moved (prepared st P A n ns) (st ∷ label_of n.label ∷ []) n.new q ≡ placed st P A (n ∷ ns) q
place_at st P A n ns q None p e =
    ap (λ (o : Option Names). at_cut o (without (prepared st P A n ns) (st ∷ label_of n.label ∷ []) q) (λ r. prepared st P A n ns (st ∷ label_of n.label ∷ r))) e
    ∙ ap (λ (o : Option Names). at_cut o (prepared st P A n ns q) (λ r. None)) (cut-child (st ∷ []) (label_of n.label) q)
    ∙ else_at st P A n ns q (cut (st ∷ []) q) (p.off n (inl refl)) e refl
place_at st P A n ns q (Some r) p e =
    ap (λ (o : Option Names). at_cut o (without (prepared st P A n ns) (st ∷ label_of n.label ∷ []) q) (λ u. prepared st P A n ns (st ∷ label_of n.label ∷ u))) e
    ∙ to_at st P A n ns q r p e

pub place_step : (st : List ℕ) (P : Plan) (A : Tree) (n : Place) (ns : List Place) → IsPart st P (n ∷ ns) → step (Shift (st ∷ label_of n.label ∷ []) n.new) (prepared st P A n ns) ≡ placed st P A (n ∷ ns)
place_step st P A n ns p = fun_ext (λ q. place_at st P A n ns q (cut n.new q) p refl)

-- the tree after the placing moves
pub placing_gives : (st : List ℕ) (P : Plan) (A : Tree) (ns : List Place) → IsPart st P ns → after (placing st P ns) (staged st P.carries A) ≡ placed st P A ns
placing_gives st P A [] p = place_start st P A
placing_gives st P A (n ∷ ns) p =
    after-append (placing st P ns) (map Make (parents P ns n.new) ++ Shift (st ∷ label_of n.label ∷ []) n.new ∷ []) (staged st P.carries A)
    ∙ ap (after (map Make (parents P ns n.new) ++ Shift (st ∷ label_of n.label ∷ []) n.new ∷ [])) (placing_gives st P A ns (part_tail st P n ns p))
    ∙ after-append (map Make (parents P ns n.new)) (Shift (st ∷ label_of n.label ∷ []) n.new ∷ []) (placed st P A ns)
    ∙ ap (λ (t : Tree). step (Shift (st ∷ label_of n.label ∷ []) n.new) t) (makes_give (parents P ns n.new) (placed st P A ns))
    ∙ place_step st P A n ns p
