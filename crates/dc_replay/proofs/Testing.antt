-- The tests, one after another.
use Rattle.std.proofs.Common.{◌≡◌, ◌⊎◌, inl, inr, ⊎_elim, List, [], ◌∷◌, ◌++◌, Bool, true, false, not, ◌&&◌, ◌||◌, Option, Some, None, map, reverse, refl, sym, ◌∙◌, ap, subst}
use Rattle.std.specs.Prelude.{is_some}
use Rattle.std.specs.List.{list_any}
use Rattle.std.proofs.lemmas.Bool.{and_parts, and_from, or_cases, and_right, or_right}
use Rattle.dc_attrs.specs.Attributes.{Attributes}
use Rattle.dc_attrs.specs.Trees.{Dir, File, IsDirAt, Node, Tree, is_dir_node, IsThere}
use Rattle.dc_path.specs.Paths.{Names, same_path, is_above, front_of, is_root}
use Rattle.dc_report.specs.Carrying.{Has, Place, Plan, is_fresh, is_made}
use Rattle.dc_replay.specs.Checking.{Looked, look, others}
use Rattle.dc_report.specs.Moves.{parents}
use Rattle.dc_replay.specs.Tests.{all_tests, first_some, has_landing, is_other, made_list, node_at, test_entry, test_free, test_new, unless}
use Rattle.dc_report.specs.declared.entries.Entry.{Entry}
use Rattle.dc_replay.proofs.Placing.{parents_any}
use Rattle.dc_path.proofs.PathLemmas.{same_path-true, same_path-refl, front_of-append, Ended, root_is}
use Rattle.dc_report.proofs.HasLemmas.{any_has, has_any, has_left, has_right, has_either, has_map, map_has, has_reverse, reverse_has}
use Rattle.std.proofs.lemmas.List.Folds.{list_any-append}

-- ---- lists of answers
abbrev AreNone : List (Option Names) → Type 0
AreNone os = (o : Option Names) → Has os o → o ≡ None

first_none : (os : List (Option Names)) → first_some os ≡ None → AreNone os
first_none [] e o h = absurd h
first_none (None ∷ os) e o (inl i) = i
first_none (None ∷ os) e o (inr h) = first_none os e o h
first_none (Some p ∷ os) e o h = absurd (cc)

none_first : (os : List (Option Names)) → AreNone os → first_some os ≡ None
none_first [] h = refl
none_first (None ∷ os) h = none_first os (λ o k. h o (inr k))
none_first (Some p ∷ os) h = let e : Some p ≡ None = h (Some p) (inl refl) in absurd (cc)

-- a path is in a list exactly where the test for it passes
any_has_path : (ps : List Names) (q : Names) → list_any (λ p. same_path p q) ps ≡ true → Has ps q
any_has_path ps q h = let k = any_has (λ p. same_path p q) ps h in subst (Has ps) (same_path-true k.0 q k.2) k.1

pub has_any_path : (ps : List Names) (q : Names) → Has ps q → list_any (λ p. same_path p q) ps ≡ true
has_any_path ps q h = has_any (λ p. same_path p q) ps q h (same_path-refl q)

made_more : (f a b : Bool) → ((f && b) || ((f && not (f && b)) && a)) ≡ (f && (a || b))
made_more true true true = refl
made_more true true false = refl
made_more true false true = refl
made_more true false false = refl
made_more false a b = refl

-- the list holds exactly the parents to be made
pub made_list_any : (P : Plan) (ns : List Place) (q : Names) → list_any (λ p. same_path p q) (made_list P ns) ≡ is_made P ns q
made_list_any P [] q = sym (and_right (is_fresh P q) false refl)
made_list_any P (n ∷ ns) q =
    list_any-append (λ p. same_path p q) (made_list P ns) (parents P ns n.new)
    ∙ rw (made_list_any P ns q, parents_any P ns n.new q) (made_more (is_fresh P q) (is_above q n.new) (list_any (λ m. is_above q m.new) ns))

-- ---- what a test that passes says
pub unless_none : (b : Bool) (p : Names) → unless b p ≡ None → b ≡ true
unless_none true p e = refl
unless_none false p e = absurd (cc)

pub none_unless : (b : Bool) (p : Names) → b ≡ true → unless b p ≡ None
none_unless b p e = rw e refl

pub dir_there : (o : Option Node) → is_dir_node o ≡ true → (a : Attributes) × (o ≡ Some (Dir a))
dir_there None e = absurd (cc)
dir_there (Some (Dir a)) e = (a, refl)
dir_there (Some (File b a)) e = absurd (cc)

look_dir : (A : Tree) (o : Option Names) → is_dir_node (node_at A o) ≡ true → (p : Names) × IsDirAt A p × (o ≡ Some p)
look_dir A None e = absurd (cc)
look_dir A (Some p) e = (p, dir_there (A p) e, refl)

other_none : (A : Tree) (old p : Names) (o : Option Names) → not (is_other A old o) ≡ true → o ≡ Some p → IsThere A p → p ≡ old
other_none A old p o e l t = same (same_path p old) refl
  where
    f : not (is_some (A p) && not (same_path p old)) ≡ true
    f = rw l at e

    same : (b : Bool) → same_path p old ≡ b → p ≡ old
    same true k = same_path-true p old k
    same false k = let g : false ≡ true = rw (t.1, k) at f in absurd (cc)

free_none : (A : Tree) (p : Names) (o : Option Names) → not (is_some (node_at A o)) ≡ true → o ≡ Some p → IsThere A p → ⊥
free_none A p o e l t = let f : not (is_some (A p)) ≡ true = rw l at e in let g : false ≡ true = rw t.1 at f in cc

module _ (P : Plan) (A : Tree) (R : List Entry) (pass : first_some (all_tests R P A) ≡ None) where
  all_none : AreNone (all_tests R P A)
  all_none = first_none (all_tests R P A) pass

  pub entry_none : (e : Entry) → Has R e → test_entry P A e ≡ None
  entry_none e h = all_none (test_entry P A e) (has_left (map (test_entry P A) R) (map (test_new P A) (reverse P.news) ++ (map (test_free P A) P.places ++ map (test_free P A) (made_list P P.news))) (test_entry P A e) (has_map (test_entry P A) R e h))

  new_none : (n : Place) → Has P.news n → test_new P A n ≡ None
  new_none n h = all_none (test_new P A n)
      (has_right (map (test_entry P A) R) (map (test_new P A) (reverse P.news) ++ (map (test_free P A) P.places ++ map (test_free P A) (made_list P P.news))) (test_new P A n)
      (has_left (map (test_new P A) (reverse P.news)) (map (test_free P A) P.places ++ map (test_free P A) (made_list P P.news)) (test_new P A n) (has_map (test_new P A) (reverse P.news) n (has_reverse P.news n h))))

  last_none : (q : Names) → Has P.places q ⊎ Has (made_list P P.news) q → test_free P A q ≡ None
  last_none q h = all_none (test_free P A q)
      (has_right (map (test_entry P A) R) (map (test_new P A) (reverse P.news) ++ (map (test_free P A) P.places ++ map (test_free P A) (made_list P P.news))) (test_free P A q)
      (has_right (map (test_new P A) (reverse P.news)) (map (test_free P A) P.places ++ map (test_free P A) (made_list P P.news)) (test_free P A q)
      (⊎_elim (λ k. has_left (map (test_free P A) P.places) (map (test_free P A) (made_list P P.news)) (test_free P A q) (has_map (test_free P A) P.places q k))
      (λ k. has_right (map (test_free P A) P.places) (map (test_free P A) (made_list P P.news)) (test_free P A q) (has_map (test_free P A) (made_list P P.news) q k)) h)))

  new_parts : (n : Place) → Has P.news n → (not (is_other A n.old (look P.carries (others n P.news) n.new)) ≡ true) × (has_landing P A (front_of n.new) ≡ true)
  new_parts n h = and_parts (not (is_other A n.old (look P.carries (others n P.news) n.new))) (has_landing P A (front_of n.new))
      (unless_none (not (is_other A n.old (look P.carries (others n P.news) n.new)) && has_landing P A (front_of n.new)) n.new (new_none n h))

  landing_of : (d : Names) → has_landing P A d ≡ true → (d ≡ []) ⊎ (((p : Names) × IsDirAt A p × (look P.carries P.news d ≡ Some p)) ⊎ (is_made P P.news d ≡ true))
  landing_of d h = ⊎_elim (λ k. inl (root_is d k)) (λ k. inr (⊎_elim (λ j. inl (look_dir A (look P.carries P.news d) j)) (λ j. inr j) (or_cases (is_dir_node (node_at A (look P.carries P.news d))) (is_made P P.news d) k)))
      (or_cases (is_root d) (is_dir_node (node_at A (look P.carries P.news d)) || is_made P P.news d) h)

  -- what the looks saw, where no test failed
  pub tests_looked : Looked P A
  tests_looked = record {
    own = λ n p h l t. other_none A n.old p (look P.carries (others n P.news) n.new) (new_parts n h).0 l t;
    parent = λ n d x h e. landing_of d (subst (λ (u : Names). has_landing P A u ≡ true) (ap front_of e ∙ front_of-append d x) (new_parts n h).1);
    places = λ q p h l t. free_none A p (look P.carries P.news q) (unless_none (not (is_some (node_at A (look P.carries P.news q)))) q (last_none q (inl (any_has_path P.places q h)))) l t;
    made = λ q p h l t. free_none A p (look P.carries P.news q) (unless_none (not (is_some (node_at A (look P.carries P.news q)))) q (last_none q (inr (any_has_path (made_list P P.news) q (made_list_any P P.news q ∙ h))))) l t;
  }

-- ---- and the other way round
other_false : (A : Tree) (old : Names) (o : Option Names) → ((p : Names) → o ≡ Some p → IsThere A p → p ≡ old) → is_other A old o ≡ false
other_false A old None h = refl
other_false A old (Some p) h = at_node (A p) refl
  where
    at_node : (n : Option Node) → A p ≡ n → (is_some n && not (same_path p old)) ≡ false
    at_node None e = refl
    at_node (Some x) e = let k : p ≡ old = h p refl (x, e) in rw (← k, same_path-refl p) refl

free_false : (A : Tree) (o : Option Names) → ((p : Names) → o ≡ Some p → IsThere A p → ⊥) → is_some (node_at A o) ≡ false
free_false A None h = refl
free_false A (Some p) h = at_node (A p) refl
  where
    at_node : (n : Option Node) → A p ≡ n → is_some n ≡ false
    at_node None e = refl
    at_node (Some x) e = absurd (h p refl (x, e))

landing_true : (P : Plan) (A : Tree) (d : Names) → (d ≡ []) ⊎ (((p : Names) × IsDirAt A p × (look P.carries P.news d ≡ Some p)) ⊎ (is_made P P.news d ≡ true)) → has_landing P A d ≡ true
landing_true P A d (inl e) = rw e refl
landing_true P A d (inr (inl k)) = rw (k.2, k.1.1) (or_right (is_root d) true refl)
landing_true P A d (inr (inr m)) = rw m (or_right (is_root d) _ (or_right (is_dir_node (node_at A (look P.carries P.news d))) true refl))

pub looked_tests : (P : Plan) (A : Tree) (R : List Entry) → ((e : Entry) → Has R e → test_entry P A e ≡ None) → ((n : Place) → Has P.news n → Ended n.new) → Looked P A → first_some (all_tests R P A) ≡ None
looked_tests P A R entries last looked = none_first (all_tests R P A) each
  where
    new_ok : (n : Place) → Has P.news n → test_new P A n ≡ None
    new_ok n h =
        let l = last n h in
        none_unless (not (is_other A n.old (look P.carries (others n P.news) n.new)) && has_landing P A (front_of n.new)) n.new
        (and_from (not (is_other A n.old (look P.carries (others n P.news) n.new))) (has_landing P A (front_of n.new))
        (ap not (other_false A n.old (look P.carries (others n P.news) n.new) (λ p. looked.own n p h)))
        (subst (λ (u : Names). has_landing P A u ≡ true) (sym (ap front_of l.path ∙ front_of-append l.front l.name)) (landing_true P A l.front (looked.parent n l.front l.name h l.path))))

    free_ok : (q : Names) → ((p : Names) → look P.carries P.news q ≡ Some p → IsThere A p → ⊥) → test_free P A q ≡ None
    free_ok q h = none_unless (not (is_some (node_at A (look P.carries P.news q)))) q (ap not (free_false A (look P.carries P.news q) h))

    last_ok : (o : Option Names) → Has (map (test_free P A) P.places) o ⊎ Has (map (test_free P A) (made_list P P.news)) o → o ≡ None
    last_ok o (inl h) = let k = map_has (test_free P A) P.places o h in k.2 ∙ free_ok k.0 (λ p. looked.places k.0 p (has_any_path P.places k.0 k.1))
    last_ok o (inr h) = let k = map_has (test_free P A) (made_list P P.news) o h in k.2 ∙ free_ok k.0 (λ p. looked.made k.0 p (sym (made_list_any P P.news k.0) ∙ has_any_path (made_list P P.news) k.0 k.1))

    each : (o : Option Names) → Has (all_tests R P A) o → o ≡ None
    each o h = ⊎_elim
        (λ i. let k = map_has (test_entry P A) R o i in k.2 ∙ entries k.0 k.1)
        (λ i. ⊎_elim
        (λ j. let k = map_has (test_new P A) (reverse P.news) o j in k.2 ∙ new_ok k.0 (reverse_has P.news k.0 k.1))
        (λ j. last_ok o (has_either (map (test_free P A) P.places) (map (test_free P A) (made_list P P.news)) o j))
        (has_either (map (test_new P A) (reverse P.news)) (map (test_free P A) P.places ++ map (test_free P A) (made_list P P.news)) o i))
        (has_either (map (test_entry P A) R) (map (test_new P A) (reverse P.news) ++ (map (test_free P A) P.places ++ map (test_free P A) (made_list P P.news))) o h)
