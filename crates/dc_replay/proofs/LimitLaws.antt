-- The tests over a base answer as those without limits, unless a path is too long.
use Rattle.std.proofs.Common.{◌≡◌, ◌⊎◌, inl, inr, ⊎_elim, ℕ, List, [], ◌∷◌, ◌++◌, Bool, true, false, cond, not, ◌&&◌, Option, Some, None, Result, Ok, Err, length, nat_le, nat_lt, le-leb, leb-true, ltb-false, map, reverse, refl, sym, ◌∙◌, ap, subst}
use Rattle.std.specs.Prelude.{is_some}
use Rattle.std.specs.List.{flat_map}
use Rattle.dc_attrs.specs.Trees.{Tree, is_dir_node}
use Rattle.dc_path.specs.Paths.{Names, fits, front_of, is_root, joined, max_bytes, max_names}
use Rattle.dc_path.proofs.LimitLemmas.{within_is}
use Rattle.std.proofs.lemmas.Bool.{and_from, and_parts}
use Rattle.dc_path.specs.Reading.{within_limits}
use Rattle.dc_path.specs.declared.path.PathError.{PathError}
use Rattle.dc_path.specs.declared.path.PathError.TheVariants.{TooDeep, TooLong}
use Rattle.dc_report.specs.Carrying.{Has, Place, Plan, moved, plan}
use Rattle.dc_report.specs.Moves.{below, first_passed, limited_moves, moves_of, passed_or, paths_in, root_moves, unless_passed}
use Rattle.dc_report.specs.declared.entries.Entry.{Entry}
use Rattle.dc_report.specs.declared.entries.Entry.TheVariants.{Created, Deleted, Modified, Renamed}
use Rattle.dc_report.specs.declared.entries.Move.{Move}
use Rattle.dc_report.specs.declared.entries.Move.TheVariants.{Clear, Make, Shift}
use Rattle.dc_report.proofs.HasLemmas.{has_left, has_right, reverse_has}
use Rattle.dc_replay.specs.Checking.{is_stage_free, look, others}
use Rattle.dc_replay.specs.TestAnswers.{Answer, FalseAt, Holds, LongAt, Taken, and_then, answer_of, first_answer, holds_if, is_long, within, within_look}
use Rattle.dc_replay.specs.Limits.{LimitsAreExact, LooksFit, all_looks, answers, check_answer, entry_answer, entry_looks, free_looks, landing_answer, made_answer, moves_answer, new_answer, new_looks, own_answer, path_of_look, place_answer, stage_answer, tests_answer}
use Rattle.dc_replay.specs.Tests.{all_tests, first_false, first_some, has_landing, is_other, made_list, node_at, test_entry, test_free, test_new, unless}

-- ---- one answer and the one without limits
-- the answer is the other, or a path of the list that is too long
abbrev pub Is : Names → List Names → Answer → Option Names → Type 0
Is d L Holds o = o ≡ None
Is d L Taken o = ⊥
Is d L (FalseAt p) o = o ≡ Some p
Is d L (LongAt p) o = (is_long d p ≡ true) × Has L p

abbrev Covered : List Names → List Names → Type 0
Covered ps L = (p : Names) → Has ps p → Has L p

within_says : (d : Names) (L : List Names) (p : Names) (a : Answer) (o : Option Names) → Has L p → Is d L a o → Is d L (within d p a) o
within_says d L p a o h i = by_long (is_long d p) refl
  where
    by_long : (b : Bool) → is_long d p ≡ b → Is d L (cond b (LongAt p) a) o
    by_long true e = (e, h)
    by_long false e = i

look_answer : (d : Names) (L : List Names) (l : Option Names) (a : Answer) (o : Option Names) → Covered (path_of_look l) L → Is d L a o → Is d L (within_look d l a) o
look_answer d L None a o h i = i
look_answer d L (Some p) a o h i = within_says d L p a o (h p (inl refl)) i

holds_is : (d : Names) (L : List Names) (b : Bool) (p : Names) → Is d L (holds_if b p) (unless b p)
holds_is d L true p = refl
holds_is d L false p = refl

then_is : (d : Names) (L : List Names) (a c : Answer) (b e : Bool) (p : Names) → Is d L a (unless b p) → Is d L c (unless e p) → Is d L (and_then a c) (unless (b && e) p)
then_is d L Holds c true e p i j = j
then_is d L Holds c false e p i j = absurd (cc)
then_is d L Taken c b e p i j = absurd i
then_is d L (FalseAt q) c true e p i j = absurd (cc)
then_is d L (FalseAt q) c false e p i j = i
then_is d L (LongAt q) c b e p i j = i

module _ (d : Names) (L : List Names) (P : Plan) (A : Tree) where
  entry_is : (e : Entry) → Covered (entry_looks e) L → Is d L (entry_answer d P A e) (test_entry P A e)
  entry_is (Deleted p) h = within_says d L p (holds_if (is_some (A p)) p) (unless (is_some (A p)) p) (h p (inl refl)) (holds_is d L (is_some (A p)) p)
  entry_is (Renamed a b) h = within_says d L a (holds_if (is_some (A a)) a) (unless (is_some (A a)) a) (h a (inl refl)) (holds_is d L (is_some (A a)) a)
  entry_is (Modified []) h = refl
  entry_is (Modified (x ∷ p)) h =
      within_says d L (x ∷ p) (holds_if (is_some (A (x ∷ p))) (x ∷ p)) (unless (is_some (A (x ∷ p))) (x ∷ p)) (h (x ∷ p) (inl refl)) (holds_is d L (is_some (A (x ∷ p))) (x ∷ p))
  entry_is (Created c) h =
      let b = is_dir_node (A (front_of c)) && is_some (moved P.carries (front_of c)) in
      within_says d L (front_of c) (holds_if b c) (unless b c) (h (front_of c) (inl refl)) (holds_is d L b c)

  own_is : (n : Place) → Covered (path_of_look (look P.carries (others n P.news) n.new)) L → Is d L (own_answer d P A n) (unless (not (is_other A n.old (look P.carries (others n P.news) n.new))) n.new)
  own_is n h =
      let b = not (is_other A n.old (look P.carries (others n P.news) n.new)) in
      look_answer d L (look P.carries (others n P.news) n.new) (holds_if b n.new) (unless b n.new) h (holds_is d L b n.new)

  landing_is : (n : Place) → Covered (path_of_look (look P.carries P.news (front_of n.new))) L → Is d L (landing_answer d P A n) (unless (has_landing P A (front_of n.new)) n.new)
  landing_is n h = by_root (is_root (front_of n.new)) refl
    where
      by_root : (r : Bool) → is_root (front_of n.new) ≡ r → Is d L (cond r Holds (within_look d (look P.carries P.news (front_of n.new)) (holds_if (has_landing P A (front_of n.new)) n.new))) (unless (has_landing P A (front_of n.new)) n.new)
      by_root true e = rw e refl
      by_root false e =
          let b = has_landing P A (front_of n.new) in
          look_answer d L (look P.carries P.news (front_of n.new)) (holds_if b n.new) (unless b n.new) h (holds_is d L b n.new)

  new_is : (n : Place) → Covered (new_looks P n) L → Is d L (new_answer d P A n) (test_new P A n)
  new_is n h =
      let l = path_of_look (look P.carries (others n P.news) n.new) in
      let m = path_of_look (look P.carries P.news (front_of n.new)) in
      then_is d L (own_answer d P A n) (landing_answer d P A n) (not (is_other A n.old (look P.carries (others n P.news) n.new))) (has_landing P A (front_of n.new)) n.new
      (own_is n (λ p k. h p (has_left l m p k))) (landing_is n (λ p k. h p (has_right l m p k)))

  taken_is : (q : Names) (b : Bool) → Has L q → Is d L (cond b Holds (within d q (FalseAt q))) (unless b q)
  taken_is q true h = refl
  taken_is q false h = within_says d L q (FalseAt q) (Some q) h refl

  place_is : (q : Names) → Covered (free_looks P q) L → Has L q → Is d L (place_answer d P A q) (test_free P A q)
  place_is q h k =
      let b = not (is_some (node_at A (look P.carries P.news q))) in
      look_answer d L (look P.carries P.news q) (cond b Holds (within d q (FalseAt q))) (unless b q) h (taken_is q b k)

  made_is : (q : Names) → Covered (free_looks P q) L → Is d L (made_answer d P A q) (test_free P A q)
  made_is q h =
      let b = not (is_some (node_at A (look P.carries P.news q))) in
      look_answer d L (look P.carries P.news q) (holds_if b q) (unless b q) h (holds_is d L b q)

-- ---- lists of answers
abbrev pub Are : Names → List Names → List Answer → List (Option Names) → Type 0
Are d L [] [] = Unit {0}
Are d L [] (o ∷ os) = ⊥
Are d L (a ∷ xs) [] = ⊥
Are d L (a ∷ xs) (o ∷ os) = Is d L a o × Are d L xs os

are_append : (d : Names) (L : List Names) (xs bs : List Answer) (os us : List (Option Names)) → Are d L xs os → Are d L bs us → Are d L (xs ++ bs) (os ++ us)
are_append d L [] bs [] us i j = j
are_append d L [] bs (o ∷ os) us i j = absurd i
are_append d L (a ∷ xs) bs [] us i j = absurd i
are_append d L (a ∷ xs) bs (o ∷ os) us i j = (i.0, are_append d L xs bs os us i.1 j)

are_map : {X : Type 0} (d : Names) (L : List Names) (f : X → Answer) (g : X → Option Names) (xs : List X) → ((x : X) → Has xs x → Is d L (f x) (g x)) → Are d L (map f xs) (map g xs)
are_map d L f g [] h = tt
are_map d L f g (x ∷ xs) h = (h x (inl refl), are_map d L f g xs (λ y k. h y (inr k)))

first_is : (d : Names) (L : List Names) (xs : List Answer) (os : List (Option Names)) → Are d L xs os → Is d L (first_answer xs) (first_some os)
first_is d L [] [] i = refl
first_is d L [] (o ∷ os) i = absurd i
first_is d L (a ∷ xs) [] i = absurd i
first_is d L (Holds ∷ xs) (None ∷ os) i = first_is d L xs os i.1
first_is d L (Holds ∷ xs) (Some p ∷ os) i = let e : Some p ≡ None = i.0 in absurd (cc)
first_is d L (Taken ∷ xs) (o ∷ os) i = absurd i.0
first_is d L (FalseAt p ∷ xs) (None ∷ os) i = let e : None ≡ Some p = i.0 in absurd (cc)
first_is d L (FalseAt p ∷ xs) (Some q ∷ os) i = i.0
first_is d L (LongAt p ∷ xs) (o ∷ os) i = i.0

has_flat : {X Y : Type 0} (f : X → List Y) (xs : List X) (x : X) (y : Y) → Has xs x → Has (f x) y → Has (flat_map f xs) y
has_flat f [] x y h k = absurd h
has_flat f (z ∷ xs) x y (inl e) k = has_left (f z) (flat_map f xs) y (subst (λ u. Has (f u) y) e k)
has_flat f (z ∷ xs) x y (inr h) k = has_right (f z) (flat_map f xs) y (has_flat f xs x y h k)

-- ---- all tests
module _ (d : Names) (R : List Entry) (A : Tree) where
  abbrev P : Plan
  P = plan R

  abbrev L : List Names
  L = all_looks R (plan R)

  abbrev of_entries : List Names
  of_entries = flat_map entry_looks R

  abbrev of_news : List Names
  of_news = flat_map (new_looks (plan R)) (plan R).news

  abbrev of_places : List Names
  of_places = flat_map (free_looks (plan R)) (plan R).places

  abbrev of_made : List Names
  of_made = flat_map (free_looks (plan R)) (made_list (plan R) (plan R).news)

  abbrev places : List Names
  places = (plan R).places

  pub tests_are : Are d (all_looks R (plan R)) (answers d R (plan R) A) (all_tests R (plan R) A)
  tests_are =
      are_append d L (map (entry_answer d P A) R) (map (new_answer d P A) (reverse P.news) ++ (map (place_answer d P A) P.places ++ map (made_answer d P A) (made_list P P.news)))
      (map (test_entry P A) R) (map (test_new P A) (reverse P.news) ++ (map (test_free P A) P.places ++ map (test_free P A) (made_list P P.news)))
      (are_map d L (entry_answer d P A) (test_entry P A) R (λ e h. entry_is d L P A e (λ p k. in_entries p (has_flat entry_looks R e p h k))))
      (are_append d L (map (new_answer d P A) (reverse P.news)) (map (place_answer d P A) P.places ++ map (made_answer d P A) (made_list P P.news))
      (map (test_new P A) (reverse P.news)) (map (test_free P A) P.places ++ map (test_free P A) (made_list P P.news))
      (are_map d L (new_answer d P A) (test_new P A) (reverse P.news) (λ n h. new_is d L P A n (λ p k. in_news p (has_flat (new_looks P) P.news n p (reverse_has P.news n h) k))))
      (are_append d L (map (place_answer d P A) P.places) (map (made_answer d P A) (made_list P P.news)) (map (test_free P A) P.places) (map (test_free P A) (made_list P P.news))
      (are_map d L (place_answer d P A) (test_free P A) P.places (λ q h. place_is d L P A q (λ p k. in_places p (has_flat (free_looks P) P.places q p h k)) (is_place q h)))
      (are_map d L (made_answer d P A) (test_free P A) (made_list P P.news) (λ q h. made_is d L P A q (λ p k. in_made p (has_flat (free_looks P) (made_list P P.news) q p h k))))))
    where
      in_entries : (p : Names) → Has (flat_map entry_looks R) p → Has (all_looks R (plan R)) p
      in_entries p k = has_left of_entries (of_news ++ (of_places ++ (of_made ++ places))) p k

      in_news : (p : Names) → Has (flat_map (new_looks (plan R)) (plan R).news) p → Has (all_looks R (plan R)) p
      in_news p k = has_right of_entries (of_news ++ (of_places ++ (of_made ++ places))) p (has_left of_news (of_places ++ (of_made ++ places)) p k)

      later : (p : Names) → Has (of_places ++ (of_made ++ places)) p → Has (all_looks R (plan R)) p
      later p k = has_right of_entries (of_news ++ (of_places ++ (of_made ++ places))) p (has_right of_news (of_places ++ (of_made ++ places)) p k)

      in_places : (p : Names) → Has (flat_map (free_looks (plan R)) (plan R).places) p → Has (all_looks R (plan R)) p
      in_places p k = later p (has_left of_places (of_made ++ places) p k)

      in_made : (p : Names) → Has (flat_map (free_looks (plan R)) (made_list (plan R) (plan R).news)) p → Has (all_looks R (plan R)) p
      in_made p k = later p (has_right of_places (of_made ++ places) p (has_left of_made places p k))

      is_place : (p : Names) → Has (plan R).places p → Has (all_looks R (plan R)) p
      is_place p k = later p (has_right of_places (of_made ++ places) p (has_right of_made places p k))

  pub tests_is : Is d (all_looks R (plan R)) (tests_answer d R A) (first_false R A)
  tests_is = first_is d (all_looks R (plan R)) (answers d R (plan R) A) (all_tests R (plan R) A) tests_are

fits_is : (d : Names) (L : List Names) (a : Answer) (o : Option Names) → ((p : Names) → Has L p → is_long d p ≡ false) → Is d L a o → a ≡ answer_of o
fits_is d L Holds o h i = rw i refl
fits_is d L Taken o h i = absurd i
fits_is d L (FalseAt p) o h i = rw i refl
fits_is d L (LongAt p) o h i = let e : true ≡ false = sym i.0 ∙ h p i.1 in absurd (cc)

-- ---- the moves
moves_is : (d : Names) (ps : List Names) → Is d ps (first_answer (map (λ p. within d p Holds) ps)) None
moves_is d [] = refl
moves_is d (p ∷ ps) = by_long (first_answer (map (λ q. within d q Holds) ps)) (moves_is d ps) (is_long d p) refl
  where
    more : (a : Answer) → Is d ps a None → Is d (p ∷ ps) a None
    more Holds i = i
    more Taken i = i
    more (FalseAt q) i = i
    more (LongAt q) i = (i.0, inr i.1)

    by_long : (a : Answer) → Is d ps a None → (b : Bool) → is_long d p ≡ b → Is d (p ∷ ps) (and_then (cond b (LongAt p) Holds) a) None
    by_long a i true e = (e, inl refl)
    by_long a i false e = more a i

paths_below : (d : Names) (m : Move) (rest : List Names) → paths_in (below d m) ++ rest ≡ map (λ p. d ++ p) (paths_in m) ++ rest
paths_below d (Make p) rest = refl
paths_below d (Shift a b) rest = refl
paths_below d (Clear p) rest = refl

map_both : (d : Names) (m : Move) (ps : List Names) → map (λ p. d ++ p) (paths_in m ++ ps) ≡ map (λ p. d ++ p) (paths_in m) ++ map (λ p. d ++ p) ps
map_both d (Make p) ps = refl
map_both d (Shift a b) ps = refl
map_both d (Clear p) ps = refl

all_below : (d : Names) (ms : List Move) → flat_map paths_in (map (below d) ms) ≡ map (λ p. d ++ p) (flat_map paths_in ms)
all_below d [] = refl
all_below d (m ∷ ms) =
    ap (λ (ps : List Names). paths_in (below d m) ++ ps) (all_below d ms)
    ∙ paths_below d m (map (λ p. d ++ p) (flat_map paths_in ms))
    ∙ sym (map_both d m (flat_map paths_in ms))

-- what passes a limit is refused, and what does not is answered
limit_of : (p : Names) → fits p ≡ true → within_limits p ≡ Ok p
limit_of p f =
    let k = and_parts (nat_le (length p) max_names) (nat_le (length (joined p)) max_bytes) f in
    within_is p (record { few = leb-true (length p) max_names k.0; short = leb-true (length (joined p)) max_bytes k.1 })

limit_at : (p q : Names) (a b : Bool) → nat_lt max_names (length p) ≡ a → nat_lt max_bytes (length (joined p)) ≡ b
    → cond a (Err TooDeep) (cond b (Err TooLong) (Ok p)) ≡ Ok q → fits p ≡ true
limit_at p q true b e f h = absurd (cc)
limit_at p q false true e f h = absurd (cc)
limit_at p q false false e f h =
    and_from (nat_le (length p) max_names) (nat_le (length (joined p)) max_bytes)
    (le-leb (length p) max_names (ltb-false max_names (length p) e))
    (le-leb (length (joined p)) max_bytes (ltb-false max_bytes (length (joined p)) f))

limit_passed : (p q : Names) → fits p ≡ false → within_limits p ≡ Ok q → ⊥
limit_passed p q f e =
    let k : true ≡ false = sym (limit_at p q (nat_lt max_names (length p)) (nat_lt max_bytes (length (joined p))) refl refl e) ∙ f in cc

passed_from : (d p : Names) (rest : Answer) (later : Option PathError) → (rest ≡ Holds → later ≡ None) → and_then (within d p Holds) rest ≡ Holds → passed_or (within_limits (d ++ p)) later ≡ None
passed_from d p rest later k e = by_fit (fits (d ++ p)) refl e
  where
    by_fit : (b : Bool) → fits (d ++ p) ≡ b → and_then (cond (not b) (LongAt p) Holds) rest ≡ Holds → passed_or (within_limits (d ++ p)) later ≡ None
    by_fit true f g = rw (limit_of (d ++ p) f) (k g)
    by_fit false f g = absurd (cc)

passed_to : (d p : Names) (rest : Answer) (later : Option PathError) → (later ≡ None → rest ≡ Holds) → passed_or (within_limits (d ++ p)) later ≡ None → and_then (within d p Holds) rest ≡ Holds
passed_to d p rest later k e = by_fit (fits (d ++ p)) refl
  where
    by_limit : (r : Result Names PathError) → within_limits (d ++ p) ≡ r → fits (d ++ p) ≡ false → passed_or r later ≡ None → ⊥
    by_limit (Ok q) f g h = limit_passed (d ++ p) q g f
    by_limit (Err x) f g h = cc

    by_fit : (b : Bool) → fits (d ++ p) ≡ b → and_then (cond (not b) (LongAt p) Holds) rest ≡ Holds
    by_fit true f = k (ap (λ (r : Result Names PathError). passed_or r later) (sym (limit_of (d ++ p) f)) ∙ e)
    by_fit false f = absurd (by_limit (within_limits (d ++ p)) refl f e)

none_passed : (d : Names) (ps : List Names) → first_answer (map (λ p. within d p Holds) ps) ≡ Holds → first_passed (map (λ p. d ++ p) ps) ≡ None
none_passed d [] e = refl
none_passed d (p ∷ ps) e = passed_from d p (first_answer (map (λ q. within d q Holds) ps)) (first_passed (map (λ q. d ++ q) ps)) (none_passed d ps) e

none_long : (d : Names) (ps : List Names) → first_passed (map (λ p. d ++ p) ps) ≡ None → first_answer (map (λ p. within d p Holds) ps) ≡ Holds
none_long d [] e = refl
none_long d (p ∷ ps) e = passed_to d p (first_answer (map (λ q. within d q Holds) ps)) (first_passed (map (λ q. d ++ q) ps)) (none_long d ps) e

passed_none : (o : Option PathError) (ms : List Move) → unless_passed o ms ≡ Ok ms → o ≡ None
passed_none None ms e = refl
passed_none (Some f) ms e = absurd (cc)

moves_from : (st : List ℕ) (d : Names) (R : List Entry) → moves_answer st d R ≡ Holds → limited_moves (moves_of st d R) ≡ Ok (moves_of st d R)
moves_from st d R e =
    let ms = root_moves st R in
    let k : first_passed (flat_map paths_in (map (below d) ms)) ≡ None = ap first_passed (all_below d ms) ∙ none_passed d (flat_map paths_in ms) e in
    ap (λ (o : Option PathError). unless_passed o (moves_of st d R)) k

moves_to : (st : List ℕ) (d : Names) (R : List Entry) → limited_moves (moves_of st d R) ≡ Ok (moves_of st d R) → moves_answer st d R ≡ Holds
moves_to st d R e =
    let ms = root_moves st R in
    let k : first_passed (flat_map paths_in (moves_of st d R)) ≡ None = passed_none (first_passed (flat_map paths_in (moves_of st d R))) (moves_of st d R) e in
    none_long d (flat_map paths_in ms) (ap first_passed (sym (all_below d ms)) ∙ k)

-- ---- the answer of all
then_holds : (a b : Answer) → and_then a b ≡ Holds → (a ≡ Holds) × (b ≡ Holds)
then_holds Holds b e = (refl, e)
then_holds Taken b e = absurd (cc)
then_holds (FalseAt p) b e = absurd (cc)
then_holds (LongAt p) b e = absurd (cc)

pub then_cases : (a b x : Answer) → and_then a b ≡ x → (a ≡ x) ⊎ ((a ≡ Holds) × (b ≡ x))
then_cases Holds b x e = inr (refl, e)
then_cases Taken b x e = inl e
then_cases (FalseAt p) b x e = inl e
then_cases (LongAt p) b x e = inl e

free_holds : (l b : Bool) (p : Names) → cond l (LongAt p) (cond b Holds Taken) ≡ Holds → b ≡ true
free_holds true b p e = absurd (cc)
free_holds false true p e = refl
free_holds false false p e = absurd (cc)

free_taken : (l b : Bool) (p : Names) → cond l (LongAt p) (cond b Holds Taken) ≡ Taken → b ≡ false
free_taken true b p e = absurd (cc)
free_taken false true p e = absurd (cc)
free_taken false false p e = refl

free_false : (l b : Bool) (p q : Names) → cond l (LongAt p) (cond b Holds Taken) ≡ FalseAt q → ⊥
free_false true b p q e = cc
free_false false true p q e = cc
free_false false false p q e = cc

same_long : (p q : Names) → LongAt p ≡ LongAt q → p ≡ q
same_long p q e = cc

free_long : (d : Names) (l b : Bool) (p q : Names) → is_long d p ≡ l → cond l (LongAt p) (cond b Holds Taken) ≡ LongAt q → is_long d q ≡ true
free_long d true b p q k e = ap (is_long d) (sym (same_long p q e)) ∙ k
free_long d false true p q k e = absurd (cc)
free_long d false false p q k e = absurd (cc)

module _ (st : List ℕ) (d : Names) (R : List Entry) (A : Tree) where
  stage : Answer
  stage = stage_answer st d R A

  -- what an answer of the tests or of the moves says
  said : (a : Answer) → tests_answer d R A ≡ a → Is d (all_looks R (plan R)) a (first_false R A)
  said a e = subst (λ (u : Answer). Is d (all_looks R (plan R)) u (first_false R A)) e (tests_is d R A)

  said_moves : (a : Answer) → moves_answer st d R ≡ a → Is d (flat_map paths_in (root_moves st R)) a None
  said_moves a e = subst (λ (u : Answer). Is d (flat_map paths_in (root_moves st R)) u None) e (moves_is d (flat_map paths_in (root_moves st R)))

  -- the stage answers, or the tests do, or the moves
  by_part : (a : Answer) → check_answer st d R A ≡ a → (stage_answer st d R A ≡ a) ⊎ ((stage_answer st d R A ≡ Holds) × ((tests_answer d R A ≡ a) ⊎ ((tests_answer d R A ≡ Holds) × (moves_answer st d R ≡ a))))
  by_part a e = ⊎_elim (λ k. inl k) (λ k. inr (k.0, then_cases (tests_answer d R A) (moves_answer st d R) a k.1)) (then_cases (stage_answer st d R A) (and_then (tests_answer d R A) (moves_answer st d R)) a e)

  free : stage_answer st d R A ≡ Holds → is_stage_free st R A ≡ true
  free e = free_holds (is_long d (st ∷ [])) (is_stage_free st R A) (st ∷ []) e

  all_hold : check_answer st d R A ≡ Holds → (is_stage_free st R A ≡ true) × (first_false R A ≡ None) × (limited_moves (moves_of st d R) ≡ Ok (moves_of st d R))
  all_hold e =
      let k = then_holds (stage_answer st d R A) (and_then (tests_answer d R A) (moves_answer st d R)) e in
      let m = then_holds (tests_answer d R A) (moves_answer st d R) k.1 in
      (free k.0, said Holds m.0, moves_from st d R m.1)

  taken : check_answer st d R A ≡ Taken → is_stage_free st R A ≡ false
  taken e = ⊎_elim (λ k. free_taken (is_long d (st ∷ [])) (is_stage_free st R A) (st ∷ []) k)
      (λ k. ⊎_elim (λ m. absurd (said Taken m)) (λ m. absurd (said_moves Taken m.1)) k.1) (by_part Taken e)

  false_at : (p : Names) → check_answer st d R A ≡ FalseAt p → (is_stage_free st R A ≡ true) × (first_false R A ≡ Some p)
  false_at p e = ⊎_elim (λ k. absurd (free_false (is_long d (st ∷ [])) (is_stage_free st R A) (st ∷ []) p k))
      (λ k. (free k.0, ⊎_elim (λ m. said (FalseAt p) m) (λ m. let f : None ≡ Some p = said_moves (FalseAt p) m.1 in absurd (cc)) k.1)) (by_part (FalseAt p) e)

  long_at : (p : Names) → check_answer st d R A ≡ LongAt p → is_long d p ≡ true
  long_at p e = ⊎_elim (λ k. free_long d (is_long d (st ∷ [])) (is_stage_free st R A) (st ∷ []) p refl k)
      (λ k. ⊎_elim (λ m. (said (LongAt p) m).0) (λ m. (said_moves (LongAt p) m.1).0) k.1) (by_part (LongAt p) e)

  tests_fit : LooksFit d R → tests_answer d R A ≡ answer_of (first_false R A)
  tests_fit h = fits_is d (all_looks R (plan R)) (tests_answer d R A) (first_false R A) h (tests_is d R A)

  all_held : LooksFit d R → is_long d (st ∷ []) ≡ false → is_stage_free st R A ≡ true → first_false R A ≡ None → limited_moves (moves_of st d R) ≡ Ok (moves_of st d R) → check_answer st d R A ≡ Holds
  all_held h short unused none fit =
      let s : stage_answer st d R A ≡ Holds = rw (short, unused) refl in
      let t : tests_answer d R A ≡ Holds = tests_fit h ∙ ap answer_of none in
      ap (λ (a : Answer). and_then a (and_then (tests_answer d R A) (moves_answer st d R))) s
      ∙ ap (λ (a : Answer). and_then a (moves_answer st d R)) t
      ∙ moves_to st d R fit

pub limits_are_exact : LimitsAreExact
limits_are_exact st d R A = record {
  holds = all_hold st d R A;
  all = all_held st d R A;
  taken = taken st d R A;
  false_at = false_at st d R A;
  long_at = long_at st d R A;
  looked = λ p e. (said st d R A (LongAt p) e).1;
  fits = tests_fit st d R A;
  moves = (moves_from st d R, moves_to st d R);
}
