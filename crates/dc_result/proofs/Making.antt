-- No tree refuses a directory whose parent stands or is made before it.
use Rattle.std.proofs.Common.{◌≡◌, ◌⊎◌, inl, inr, ⊎_elim, ℕ, List, [], ◌∷◌, ◌++◌, Bool, true, false, cond, not, ◌&&◌, ◌||◌, Option, Some, None, map, refl, sym, ◌∙◌, ap, subst, append_assoc}
use Rattle.std.proofs.lemmas.Bool.{and_from, or_right}
use Rattle.std.specs.Cmp.{first_so, second_so}
use Rattle.std.specs.List.{list_all}
use Rattle.dc_path.specs.Found.{has_path}
use Rattle.dc_path.specs.Order.{path_lt, is_ascending}
use Rattle.dc_path.specs.Paths.{Names, front_of, same_path}
use Rattle.dc_path.proofs.OrderLemmas.{path_lt-child}
use Rattle.dc_path.proofs.PathLemmas.{ended_cons, front_of-append, same_path-refl, same_path-true}
use Rattle.dc_path.proofs.PathOrder.{path_lt-asym, path_lt-irrefl}
use Rattle.dc_attrs.specs.Refusals.{refused_in, refused_new}
use Rattle.dc_attrs.specs.Trees.{Node, Tree, IsTree, is_dir_node, made, seen, updated}
use Rattle.dc_attrs.specs.declared.refusals.TreeError.{TreeError}
use Rattle.dc_commit.specs.Making.{is_hindrance, make_step, ways}
use Rattle.dc_commit.specs.Steps.{after, allows}
use Rattle.dc_result.specs.Begins.{is_no_file}
use Rattle.dc_result.proofs.KindLemmas.{changed_tree, dir_shown, made_dir, made_free, made_here}

-- ---- paths whose parents come before them
-- the front of each path is one that is there, or comes before it
abbrev pub fronted : (Names → Bool) → List Names → Bool
fronted has [] = true
fronted has (p ∷ paths) = has (front_of p) && fronted (λ q. same_path p q || has q) paths

more_has : (b c d : Bool) → (c ≡ true → d ≡ true) → (b || c) ≡ true → (b || d) ≡ true
more_has true c d h e = refl
more_has false c d h e = h e

pub fronted_more : (has more : Names → Bool) (paths : List Names) → ((q : Names) → has q ≡ true → more q ≡ true) → fronted has paths ≡ true → fronted more paths ≡ true
fronted_more has more [] h f = refl
fronted_more has more (p ∷ paths) h f = and_from (more (front_of p)) (fronted (λ q. same_path p q || more q) paths)
    (h (front_of p) (first_so _ _ f))
    (fronted_more (λ q. same_path p q || has q) (λ q. same_path p q || more q) paths (λ q. more_has (same_path p q) (has q) (more q) (h q)) (second_so _ _ f))

first_last : (a b c : Bool) → ((a || b) || c) ≡ true → (b || (a || c)) ≡ true
first_last true true c h = refl
first_last true false c h = refl
first_last false b c h = h

pub fronted_append : (has : Names → Bool) (xs ys : List Names) → fronted has xs ≡ true → fronted (λ q. has_path xs q || has q) ys ≡ true → fronted has (xs ++ ys) ≡ true
fronted_append has [] ys f g = g
fronted_append has (x ∷ xs) ys f g = and_from (has (front_of x)) (fronted (λ q. same_path x q || has q) (xs ++ ys)) (first_so _ _ f)
    (fronted_append (λ q. same_path x q || has q) xs ys (second_so _ _ f)
    (fronted_more (λ q. (same_path x q || has_path xs q) || has q) (λ q. has_path xs q || (same_path x q || has q)) ys (λ q. first_last (same_path x q) (has_path xs q) (has q)) g))

-- ---- the way to a path
longer_ways : (front : Names) (x : List ℕ) (ws : List Names) → map (λ (w : Names). front ++ w) (map (λ (way : Names). x ∷ way) ws) ≡ map (λ (w : Names). (front ++ x ∷ []) ++ w) ws
longer_ways front x [] = refl
longer_ways front x (w ∷ ws) = ap (λ (p : Names). p ∷ map (λ (w : Names). front ++ w) (map (λ (way : Names). x ∷ way) ws)) (sym (append_assoc front (x ∷ []) w)) ∙ ap (λ (ps : List Names). ((front ++ x ∷ []) ++ w) ∷ ps) (longer_ways front x ws)

here_has : (p : Names) (b : Bool) → (same_path p p || b) ≡ true
here_has p b = ap (λ c. c || b) (same_path-refl p)

ways_on : (has : Names → Bool) (front path : Names) → has front ≡ true → fronted has (map (λ (w : Names). front ++ w) (ways path)) ≡ true
ways_on has front [] h = refl
ways_on has front (x ∷ path) h = and_from (has (front_of (front ++ x ∷ []))) _ (ap has (front_of-append front x) ∙ h)
    (ap (fronted (λ q. same_path (front ++ x ∷ []) q || has q)) (longer_ways front x (ways path))
    ∙ ways_on (λ q. same_path (front ++ x ∷ []) q || has q) (front ++ x ∷ []) path (here_has (front ++ x ∷ []) (has (front ++ x ∷ []))))

pub ways_fronted : (has : Names → Bool) (path : Names) → has [] ≡ true → fronted has (ways path) ≡ true
ways_fronted has [] h = refl
ways_fronted has (x ∷ path) h = and_from (has []) _ h (ways_on (λ q. same_path (x ∷ []) q || has q) (x ∷ []) path (here_has (x ∷ []) (has (x ∷ []))))

-- ---- paths in order
pub passes : (test : Names → Bool) (ps : List Names) (q : Names) → list_all test ps ≡ true → has_path ps q ≡ true → test q ≡ true
passes test [] q a h = absurd (cc)
passes test (p ∷ ps) q a h = by (same_path p q) refl (passes test ps q (second_so _ _ a)) h
  where
    by : (b : Bool) → same_path p q ≡ b → (has_path ps q ≡ true → test q ≡ true) → (b || has_path ps q) ≡ true → test q ≡ true
    by true e ih k = ap test (sym (same_path-true p q e)) ∙ first_so _ _ a
    by false e ih k = ih k

front_less : (p : Names) → (p ≡ []) ⊎ (path_lt (front_of p) p ≡ true)
front_less [] = inl refl
front_less (x ∷ p) = let k = ended_cons x p in inr (subst (λ (q : Names). path_lt (front_of q) q ≡ true) (sym k.path) (ap (λ (f : Names). path_lt f (k.front ++ k.name ∷ [])) (front_of-append k.front k.name) ∙ path_lt-child k.front k.name))

-- no path of a list in order has its front at it or behind it
front_before : (p : Names) (ps : List Names) → list_all (path_lt p) ps ≡ true → has_path (p ∷ ps) (front_of p) ≡ true → p ≡ []
front_before p ps a h = ⊎_elim (λ e. e) (λ less. by less (same_path p (front_of p)) refl h) (front_less p)
  where
    by : path_lt (front_of p) p ≡ true → (b : Bool) → same_path p (front_of p) ≡ b → (b || has_path ps (front_of p)) ≡ true → p ≡ []
    by less true e k = let f : true ≡ false = sym less ∙ ap (λ (q : Names). path_lt q p) (sym (same_path-true p (front_of p) e)) ∙ path_lt-irrefl p in absurd (cc)
    by less false e k = absurd (path_lt-asym p (front_of p) (passes (path_lt p) ps (front_of p) a k) less)

pub fronted_ascending : (has : Names → Bool) (ps : List Names) → has [] ≡ true → is_ascending ps ≡ true → ((q : Names) → has_path ps q ≡ true → (has (front_of q) ≡ true) ⊎ (has_path ps (front_of q) ≡ true)) → fronted has ps ≡ true
fronted_ascending has [] root a h = refl
fronted_ascending has (p ∷ ps) root a h = and_from (has (front_of p)) _
    (⊎_elim (λ e. e) (λ e. ap (λ (q : Names). has (front_of q)) (front_before p ps (first_so _ _ a) e) ∙ root) (h p (here_has p (has_path ps p))))
    (fronted_ascending (λ q. same_path p q || has q) ps (or_right (same_path p []) (has []) root) (second_so _ _ a)
    (λ q k. ⊎_elim (λ e. inl (or_right (same_path p (front_of q)) (has (front_of q)) e)) (λ e. split (same_path p (front_of q)) (has (front_of q)) (has_path ps (front_of q)) e) (h q (or_right (same_path p q) (has_path ps q) k))))
  where
    split : (b c d : Bool) → (b || d) ≡ true → ((b || c) ≡ true) ⊎ (d ≡ true)
    split true c d e = inl refl
    split false c d e = inr e

-- ---- directories that are made
no_hindrance : (o : Option Node) (why : Option TreeError) → why ≡ None → not (is_hindrance (refused_new o why)) ≡ true
no_hindrance None why e = ap (λ w. not (is_hindrance w)) e
no_hindrance (Some n) why e = refl

-- a directory is made where its parent is one
pub makes_one : (t : Tree) (p : Names) → IsTree t → is_dir_node (t (front_of p)) ≡ true → (make_step p).may t ≡ true
makes_one t p v d = no_hindrance (t p) (refused_in (seen t (front_of p))) (ap refused_in (dir_shown t (front_of p) v d))

pub record Makes (ps : List Names) (t : Tree) : Type 0 where
  pub allowed : allows (map make_step ps) t ≡ true
  pub tree : IsTree (after (map make_step ps) t)

pub all_made : (ps : List Names) (t : Tree) (has : Names → Bool) → IsTree t → ((q : Names) → has q ≡ true → is_dir_node (t q) ≡ true) → ((q : Names) → has_path ps q ≡ true → is_no_file (t q) ≡ true) → fronted has ps ≡ true → Makes ps t
all_made [] t has v dirs free f = record { allowed = refl; tree = v }
all_made (p ∷ ps) t has v dirs free f =
    let front = dirs (front_of p) (first_so _ _ f) in
    let rest = all_made ps (updated t p made) (λ q. same_path p q || has q)
    (changed_tree t p made v front (λ q h. made_dir (same_path p q) (t q) h))
    (λ q h. now q (same_path p q) refl h)
    (λ q h. made_free (same_path p q) (t q) (free q (or_right (same_path p q) (has_path ps q) h)))
    (second_so _ _ f) in
    record { allowed = and_from ((make_step p).may t) _ (makes_one t p v front) rest.allowed; tree = rest.tree }
  where
    now : (q : Names) (b : Bool) → same_path p q ≡ b → (b || has q) ≡ true → is_dir_node (cond b (made (t q)) (t q)) ≡ true
    now q true e h = made_here (t q) (free q (ap (λ c. c || has_path ps q) e))
    now q false e h = dirs q h

-- one more at the end, whose parent was a directory before
pub made_last : (ps : List Names) (p : Names) (t : Tree) → is_dir_node (t (front_of p)) ≡ true → Makes ps t → Makes (ps ++ p ∷ []) t
made_last [] p t d m = record {
  allowed = and_from ((make_step p).may t) true (makes_one t p m.tree d) refl;
  tree = changed_tree t p made m.tree d (λ q h. made_dir (same_path p q) (t q) h);
}
made_last (q ∷ ps) p t d m =
    let rest = made_last ps p (updated t q made) (made_dir (same_path q (front_of p)) (t (front_of p)) d) (record { allowed = second_so _ _ m.allowed; tree = m.tree }) in
    record { allowed = and_from ((make_step q).may t) _ (first_so _ _ m.allowed) rest.allowed; tree = rest.tree }
