-- Tests one after the other: what is known between two, and in a loop over a list.
use Rattle.std.proofs.Common.{◌≡◌, ℕ, ◌+◌, ◌<◌, ◌≤◌, List, [], ◌∷◌, ◌++◌, length, map, drop, get_or, Option, Some, None, IfSome, Result, Ok, Err, refl, sym, ◌∙◌, ap, subst, arith}
use Rattle.std.proofs.lemmas.List.{at_drop_more, at_drop_all, map-append}
use Rattle.std.specs.List.{filter_map, flat_map}
use Rattle.dc_attrs.specs.Trees.{IsTree, Tree, at}
use Rattle.dc_fs.specs.Causes.{Rose, steady_at}
use Rattle.dc_fs.specs.Views.{View}
use Rattle.dc_path.specs.Paths.{Names}
use Rattle.dc_report.specs.Moves.{paths_in}
use Rattle.dc_report.specs.declared.entries.Move.{Move}
use Rattle.dc_replay.specs.TestAnswers.{Answer, FalseAt, Holds, LongAt, Taken, and_then, first_answer}
use Rattle.dc_sync.specs.Checks.{Tells, Tests, TestsPaths, if_there}
use Rattle.dc_sync.specs.declared.errors.SyncError.{SyncError}
use Rattle.dc_sync.specs.declared.errors.SyncError.TheVariants as sync_error

-- ---- between two tests
-- all tests answer what those that are left answer, and the store is as it was
pub record Tested (old now : View) (d : Names) (all left : Tree → Answer) : Type 0 where
  pub tree : now.tree ≡ old.tree
  pub rest : now.rest ≡ old.rest
  pub faults : now.faults ≡ old.faults
  pub calm : steady_at now.steady now.faults ≡ steady_at old.steady old.faults
  pub told : IfSome old.tree (λ t. IsTree t → all (at t d) ≡ left (at t d))

same_told : (told : Option Tree) (d : Names) (all left : Tree → Answer) → ((A : Tree) → all A ≡ left A) → IfSome told (λ t. IsTree t → all (at t d) ≡ left (at t d))
same_told None d all left h = tt
same_told (Some t) d all left h = λ v. h (at t d)

pub tested_start : (v : View) (d : Names) (all left : Tree → Answer) → ((A : Tree) → all A ≡ left A) → Tested v v d all left
tested_start v d all left h = record { tree = refl; rest = refl; faults = refl; calm = refl; told = same_told v.tree d all left h }

as_told : (told : Option Tree) (d : Names) (all a b : Tree → Answer) → ((A : Tree) → a A ≡ b A) → IfSome told (λ t. IsTree t → all (at t d) ≡ a (at t d)) → IfSome told (λ t. IsTree t → all (at t d) ≡ b (at t d))
as_told None d all a b h k = tt
as_told (Some t) d all a b h k = λ v. k v ∙ h (at t d)

-- what is left, in other words
pub tested_as : (old now : View) (d : Names) (all a b : Tree → Answer) → ((A : Tree) → a A ≡ b A) → Tested old now d all a → Tested old now d all b
tested_as old now d all a b h k = record { tree = k.tree; rest = k.rest; faults = k.faults; calm = k.calm; told = as_told old.tree d all a b h k.told }

-- ---- a test more
more_told : (told now : Option Tree) (d : Names) (all a left : Tree → Answer) (x : Unit {0}) → now ≡ told → IfSome told (λ t. IsTree t → all (at t d) ≡ and_then (a (at t d)) (left (at t d)))
    → IfSome now (λ t. IsTree t → Tells d (a (at t d)) (Ok x)) → IfSome told (λ t. IsTree t → all (at t d) ≡ left (at t d))
more_told None now d all a left x e h k = tt
more_told (Some t) now d all a left x e h k = λ v.
    let l : a (at t d) ≡ Holds = subst (λ (o : Option Tree). IfSome o (λ s. IsTree s → Tells d (a (at s d)) (Ok x))) e k v in
    h v ∙ ap (λ (b : Answer). and_then b (left (at t d))) l

pub tested_more : (old now new : View) (d : Names) (all a left : Tree → Answer) (x : Unit {0}) → Tested old now d all (λ A. and_then (a A) (left A)) → Tests now new d a (Ok x) → Tested old new d all left
tested_more old now new d all a left x k t = record {
  tree = t.store.tree ∙ k.tree;
  rest = t.store.rest ∙ k.rest;
  faults = t.store.cause.still ∙ k.faults;
  calm = t.store.calm ∙ k.calm;
  told = more_told old.tree now.tree d all a left x k.tree k.told t.told;
}

-- the first that does not hold decides
stop_tells : (d : Names) (a b : Answer) (e : SyncError) → Tells d a (Err e) → Tells d (and_then a b) (Err e)
stop_tells d a b (sync_error.StageExists path) h = (ap (λ (c : Answer). and_then c b) h.0, h.1)
stop_tells d a b (sync_error.ReportFalse path) h = ap (λ (c : Answer). and_then c b) h
stop_tells d a b (sync_error.TooLong parent name) h = record { path = h.path; answer_is = ap (λ (c : Answer). and_then c b) h.answer_is; first = h.first }
stop_tells d a b sync_error.Fault h = tt
stop_tells d a b sync_error.Memory h = tt
stop_tells d a b (sync_error.NoReport path) h = absurd h
stop_tells d a b (sync_error.TooBig path) h = absurd h
stop_tells d a b (sync_error.BadReport line) h = absurd h
stop_tells d a b (sync_error.NotAtBegin path) h = absurd h
stop_tells d a b sync_error.TooMany h = absurd h
stop_tells d a b (sync_error.Changed path) h = absurd h

stop_told : (told now : Option Tree) (d : Names) (all a left : Tree → Answer) (e : SyncError) → now ≡ told → IfSome told (λ t. IsTree t → all (at t d) ≡ and_then (a (at t d)) (left (at t d)))
    → IfSome now (λ t. IsTree t → Tells d (a (at t d)) (Err e)) → IfSome told (λ t. IsTree t → Tells d (all (at t d)) (Err e))
stop_told None now d all a left e f h k = tt
stop_told (Some t) now d all a left e f h k = λ v.
    let l : Tells d (a (at t d)) (Err e) = subst (λ (o : Option Tree). IfSome o (λ s. IsTree s → Tells d (a (at s d)) (Err e))) f k v in
    subst (λ (c : Answer). Tells d c (Err e)) (sym (h v)) (stop_tells d (a (at t d)) (left (at t d)) e l)

pub tested_stop : (old now new : View) (d : Names) (all a left : Tree → Answer) (e : SyncError) → Tested old now d all (λ A. and_then (a A) (left A)) → Tests now new d a (Err e) → Tests old new d all (Err e)
tested_stop old now new d all a left e k t = record {
  store = record {
    tree = t.store.tree ∙ k.tree;
    rest = t.store.rest ∙ k.rest;
    cause = record {
      later = let a = t.store.cause.later in let b = k.faults in omega (arith, a, b);
      rose = λ f. subst (λ (n : ℕ). Rose n new.faults) k.faults (t.store.cause.rose f);
      still = tt;
    };
    calm = t.store.calm ∙ k.calm;
  };
  kind = t.kind;
  told = stop_told old.tree now.tree d all a left e k.tree k.told t.told;
}

-- and where none is left, all hold
end_told : (told : Option Tree) (d : Names) (all : Tree → Answer) (x : Unit {0}) → IfSome told (λ t. IsTree t → all (at t d) ≡ Holds) → IfSome told (λ t. IsTree t → Tells d (all (at t d)) (Ok x))
end_told None d all x h = tt
end_told (Some t) d all x h = h

pub tested_end : (old new : View) (d : Names) (all : Tree → Answer) (x : Unit {0}) → Tested old new d all (λ A. Holds) → Tests old new d all (Ok x)
tested_end old new d all x k = record {
  store = record { tree = k.tree; rest = k.rest; cause = record { later = let b = k.faults in omega (arith, b); rose = tt; still = k.faults }; calm = k.calm };
  kind = tt;
  told = end_told old.tree d all x k.told;
}

pub then_holds : (a : Answer) → a ≡ and_then a Holds
then_holds Holds = refl
then_holds Taken = refl
then_holds (FalseAt p) = refl
then_holds (LongAt p) = refl

-- the last test of a chain decides
pub tested_last : (old now new : View) (d : Names) (all a : Tree → Answer) (r : Result (Unit {0}) SyncError) → Tested old now d all a → Tests now new d a r → Tests old new d all r
tested_last old now new d all a (Ok x) k t = tested_end old new d all x (tested_more old now new d all a (λ A. Holds) x (tested_as old now d all a (λ A. and_then (a A) Holds) (λ A. then_holds (a A)) k) t)
tested_last old now new d all a (Err e) k t = tested_stop old now new d all a (λ A. Holds) e (tested_as old now d all a (λ A. and_then (a A) Holds) (λ A. then_holds (a A)) k) t

-- ---- in a loop
module _ {X : Type 0} (f : Tree → X → Answer) (old now new : View) (d : Names) (all : Tree → Answer) (xs : List X) (i : ℕ) where
  abbrev left_at : ℕ → Tree → Answer
  left_at j A = first_answer (map (f A) (drop j xs))

  next_left : (x : X) → i < length xs → x ≡ get_or xs i x → (A : Tree) → left_at i A ≡ and_then (f A x) (left_at (i + 1) A)
  next_left x l e A = at_drop_more (λ ys. first_answer (map (f A) ys)) xs i x l ∙ ap (λ y. and_then (f A y) (left_at (i + 1) A)) (sym e)

  pub loop_more : (x : X) (u : Unit {0}) → i < length xs → x ≡ get_or xs i x → Tested old now d all (λ A. first_answer (map (f A) (drop i xs))) → Tests now new d (λ A. f A x) (Ok u)
      → Tested old new d all (λ A. first_answer (map (f A) (drop (i + 1) xs)))
  loop_more x u l e k t =
      tested_more old now new d all (λ A. f A x) (left_at (i + 1)) u (tested_as old now d all (left_at i) (λ A. and_then (f A x) (left_at (i + 1) A)) (next_left x l e) k) t

  pub loop_stop : (x : X) (e : SyncError) → i < length xs → x ≡ get_or xs i x → Tested old now d all (λ A. first_answer (map (f A) (drop i xs))) → Tests now new d (λ A. f A x) (Err e) → Tests old new d all (Err e)
  loop_stop x e l g k t =
      tested_stop old now new d all (λ A. f A x) (left_at (i + 1)) e (tested_as old now d all (left_at i) (λ A. and_then (f A x) (left_at (i + 1) A)) (next_left x l g) k) t

  pub loop_end : (u : Unit {0}) → length xs ≤ i → Tested old now d all (λ A. first_answer (map (f A) (drop i xs))) → Tests old now d all (Ok u)
  loop_end u l k = tested_end old now d all u (tested_as old now d all (left_at i) (λ A. Holds) (λ A. at_drop_all (λ ys. first_answer (map (f A) ys)) xs i l) k)

-- ---- tests that look at no store
pub paths_stop : (d : Names) (all a left : Answer) (e : SyncError) → all ≡ and_then a left → TestsPaths d a (Err e) → TestsPaths d all (Err e)
paths_stop d all a left e h t = record { kind = t.kind; no_fault = t.no_fault; tells = subst (λ (c : Answer). Tells d c (Err e)) (sym h) (stop_tells d a left e t.tells) }

-- ---- tests of what need not be there
pub some_answers : {X : Type 0} (test : Names → Answer) (g : X → Option Names) (xs : List X) → first_answer (map (λ x. if_there test (g x)) xs) ≡ first_answer (map test (filter_map g xs))
some_answers test g [] = refl
some_answers {X} test g (x ∷ xs) = by (g x) refl (some_answers test g xs)
  where
    by : (o : Option Names) → g x ≡ o → first_answer (map (λ y. if_there test (g y)) xs) ≡ first_answer (map test (filter_map g xs))
        → and_then (if_there test (g x)) (first_answer (map (λ y. if_there test (g y)) xs)) ≡ first_answer (map test (filter_map g (x ∷ xs)))
    by None e ih = rw e ih
    by (Some p) e ih = rw e (ap (and_then (test p)) ih)

pub some_tests : (old new : View) (d : Names) (test : Tree → Names → Answer) (o : Option Names) (p : Names) (r : Result (Unit {0}) SyncError) → o ≡ Some p → Tests old new d (λ A. test A p) r → Tests old new d (λ A. if_there (test A) o) r
some_tests old new d test o p r e t = subst (λ (q : Option Names). Tests old new d (λ A. if_there (test A) q) r) (sym e) t

-- how many there are from one on
pub count_more : {X : Type 0} (g : X → Option Names) (xs : List X) (i : ℕ) (x : X) → i < length xs → x ≡ get_or xs i x
    → length (filter_map g (drop i xs)) ≡ length (filter_map g (x ∷ [])) + length (filter_map g (drop (i + 1) xs))
count_more g xs i x l e =
    at_drop_more (λ ys. length (filter_map g ys)) xs i x l
    ∙ ap (λ y. length (filter_map g (y ∷ drop (i + 1) xs))) (sym e)
    ∙ by (g x) refl
  where
    by : (o : Option Names) → g x ≡ o → length (filter_map g (x ∷ drop (i + 1) xs)) ≡ length (filter_map g (x ∷ [])) + length (filter_map g (drop (i + 1) xs))
    by None k = rw k (omega arith)
    by (Some p) k = rw k (omega arith)

-- ---- the answers of two lists
then_assoc : (a b c : Answer) → and_then a (and_then b c) ≡ and_then (and_then a b) c
then_assoc Holds b c = refl
then_assoc Taken b c = refl
then_assoc (FalseAt p) b c = refl
then_assoc (LongAt p) b c = refl

pub answers_append : (xs ys : List Answer) → first_answer (xs ++ ys) ≡ and_then (first_answer xs) (first_answer ys)
answers_append [] ys = refl
answers_append (a ∷ xs) ys = ap (and_then a) (answers_append xs ys) ∙ then_assoc a (first_answer xs) (first_answer ys)

pub fits_more : (w : Names → Answer) (ms : List Move) (i : ℕ) (m : Move) → i < length ms → m ≡ get_or ms i m
    → first_answer (map w (flat_map paths_in (drop i ms))) ≡ and_then (first_answer (map w (paths_in m))) (first_answer (map w (flat_map paths_in (drop (i + 1) ms))))
fits_more w ms i m l e =
    at_drop_more (λ ns. first_answer (map w (flat_map paths_in ns))) ms i m l
    ∙ ap (λ n. first_answer (map w (paths_in n ++ flat_map paths_in (drop (i + 1) ms)))) (sym e)
    ∙ ap first_answer (map-append w (paths_in m) (flat_map paths_in (drop (i + 1) ms)))
    ∙ answers_append (map w (paths_in m)) (map w (flat_map paths_in (drop (i + 1) ms)))

pub fits_none : (w : Names → Answer) (ms : List Move) (i : ℕ) → length ms ≤ i → first_answer (map w (flat_map paths_in (drop i ms))) ≡ Holds
fits_none w ms i l = at_drop_all (λ ns. first_answer (map w (flat_map paths_in ns))) ms i l

-- ---- in a loop over what is left of a map
module _ {X : Type 0} (f : Tree → X → Answer) (old now new : View) (d : Names) (all : Tree → Answer) (xs ys : List X) (x : X) (front : xs ≡ x ∷ ys) where
  taken_as : (A : Tree) → first_answer (map (f A) xs) ≡ and_then (f A x) (first_answer (map (f A) ys))
  taken_as A = ap (λ zs. first_answer (map (f A) zs)) front

  pub front_more : (u : Unit {0}) → Tested old now d all (λ A. first_answer (map (f A) xs)) → Tests now new d (λ A. f A x) (Ok u) → Tested old new d all (λ A. first_answer (map (f A) ys))
  front_more u k t = tested_more old now new d all (λ A. f A x) (λ A. first_answer (map (f A) ys)) u
      (tested_as old now d all (λ A. first_answer (map (f A) xs)) (λ A. and_then (f A x) (first_answer (map (f A) ys))) taken_as k) t

  pub front_stop : (e : SyncError) → Tested old now d all (λ A. first_answer (map (f A) xs)) → Tests now new d (λ A. f A x) (Err e) → Tests old new d all (Err e)
  front_stop e k t = tested_stop old now new d all (λ A. f A x) (λ A. first_answer (map (f A) ys)) e
      (tested_as old now d all (λ A. first_answer (map (f A) xs)) (λ A. and_then (f A x) (first_answer (map (f A) ys))) taken_as k) t
