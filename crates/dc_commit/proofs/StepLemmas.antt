-- The steps of a phase up to one.
use Rattle.std.proofs.Common.{◌≡◌, ℕ, ◌+◌, ◌<◌, Bool, true, false, cond, ◌&&◌, List, [], ◌∷◌, ◌++◌, take, drop, length, map, filter, reverse, get_or, add-one, Option, Some, None, Result, Ok, Err, IfErr, IfSome, OnOk, refl, sym, ap, ◌∙◌, subst, arith, append_assoc, length-append, drop-cons, zero, suc}
use Rattle.std.proofs.lemmas.Bool.{and_right}
use Rattle.std.proofs.lemmas.List.{take_more, take-append-drop, map-append, reverse-append, append-nil}
use Rattle.std.proofs.lemmas.List.Elements.{filter-append}
use Rattle.std.specs.Cmp.{first_so, second_so}
use Rattle.std.specs.List.{list_all}
use Rattle.std.specs.Option.{option_map, is_none}
use Rattle.dc_attrs.specs.Trees.{Tree}
use Rattle.dc_attrs.specs.declared.refusals.TreeError.{TreeError}
use Rattle.dc_fs.specs.Answers.{Changes, WriteRefusal, WriteAnswers, is_refusal, write_error_of}
use Rattle.dc_fs.specs.declared.errors.WriteError.{WriteError}
use Rattle.dc_fs.specs.declared.errors.WriteError.TheVariants as write_error
use Rattle.dc_commit.specs.Steps.{Step, after, allows, is_changed, StopsIn, Stops, StopsFrom, Answers}
use Rattle.dc_commit.specs.declared.steps.StepError.{StepError}
use Rattle.dc_commit.specs.declared.steps.StepError.TheVariants as step_error

-- ---- one step
-- an error that is a fault leaves the tree as it was or as it is done, and every other as it was
changed_so : (change : Tree → Tree) (old new : Option Tree) (e : WriteError) → Changes {X = Unit {0}} change old new (Err e) → (e ≡ write_error.Fault → ⊥) → new ≡ old
changed_so change old new write_error.Fault w h = absurd (h refl)
changed_so change old new write_error.Missing w h = w
changed_so change old new write_error.NotDir w h = w
changed_so change old new write_error.Exists w h = w
changed_so change old new write_error.IsDir w h = w
changed_so change old new write_error.IntoItself w h = w
changed_so change old new write_error.Root w h = w
changed_so change old new write_error.Memory w h = w

no_fault : (e : WriteError) → is_refusal e ≡ true → e ≡ write_error.Fault → ⊥
no_fault e h f = let k : is_refusal write_error.Fault ≡ true = subst (λ (x : WriteError). is_refusal x ≡ true) f h in cc

-- what a step leaves where the target refuses its call
pub call_stops : (count : ℕ) (step : Step) (old new : Option Tree) (error : WriteError) (r : StepError) → Answers error step.place count r → Changes {X = Unit {0}} step.change old new (Err error)
    → (is_refusal error ≡ true → IfSome old (λ t. step.may t ≡ false)) → StopsIn count step old new r
call_stops count step old new error (step_error.Fault done) (d, f) w h = (d, subst (λ (e : WriteError). Changes {X = Unit {0}} step.change old new (Err e)) f w)
call_stops count step old new error (step_error.Memory done) (d, f) w h = (d, changed_so step.change old new error w f)
call_stops count step old new error (step_error.Changed path) (p, f) w h = record { place = p; denied = h f; tree = changed_so step.change old new error w (no_fault error f) }

-- a refusal is that of the tree
pub refusal_is : (why : Option TreeError) (e : WriteError) → is_refusal e ≡ true → WriteRefusal why e → option_map write_error_of why ≡ Some e
refusal_is why write_error.Fault h r = absurd (cc)
refusal_is why write_error.Memory h r = absurd (cc)
refusal_is why write_error.Missing h r = r
refusal_is why write_error.NotDir h r = r
refusal_is why write_error.Exists h r = r
refusal_is why write_error.IsDir h r = r
refusal_is why write_error.IntoItself h r = r
refusal_is why write_error.Root h r = r

-- the tree refuses
refused : (why : Option TreeError) (e : WriteError) → option_map write_error_of why ≡ Some e → is_none why ≡ false
refused None e h = absurd (cc)
refused (Some x) e h = refl

-- where the target refuses, its tree does
pub tree_refuses : (old : Option Tree) (why : Tree → Option TreeError) (e : WriteError) → is_refusal e ≡ true → IfSome old (λ t. WriteAnswers {X = Unit {0}} (why t) (Err e)) → IfSome old (λ t. is_none (why t) ≡ false)
tree_refuses None why e h r = tt
tree_refuses (Some t) why e h r = refused (why t) e (refusal_is (why t) e h r)

-- ---- the first steps of a phase
-- what is done to a told tree, and then to that
pub told_then : (f h k : Tree → Tree) (old now new : Option Tree) → now ≡ option_map f old → new ≡ option_map h now → ((t : Tree) → k t ≡ h (f t)) → new ≡ option_map k old
told_then f h k None now new n w e = w ∙ ap (option_map h) n
told_then f h k (Some t) now new n w e = w ∙ ap (option_map h) n ∙ ap Some (sym (e t))

pub after-append : (xs ys : List Step) (t : Tree) → after (xs ++ ys) t ≡ after ys (after xs t)
after-append [] ys t = refl
after-append (x ∷ xs) ys t = after-append xs ys (x.change t)

-- these steps are done, which follow so many others, and all are counted
pub record Done (first : ℕ) (steps : List Step) (old now : Option Tree) (count : ℕ) : Type 0 where
  pub tree : now ≡ option_map (after steps) old
  pub counted : count ≡ first + length steps

pub none_done : (first : ℕ) (old : Option Tree) → Done first [] old old first
none_done first None = record { tree = refl; counted = omega arith }
none_done first (Some t) = record { tree = refl; counted = omega arith }

pub more_done : (first : ℕ) (steps more : List Step) (step : Step) (old now new : Option Tree) (count : ℕ) → more ≡ steps ++ step ∷ [] → Done first steps old now count → new ≡ option_map step.change now → Done first more old new (count + 1)
more_done first steps more step old now new count m d w = subst (λ (xs : List Step). Done first xs old new (count + 1)) (sym m) (record {
  tree = told_then (after steps) step.change (after (steps ++ step ∷ [])) old now new d.tree w (λ t. after-append steps (step ∷ []) t);
  counted = omega (arith, d.counted, length-append steps (step ∷ []));
})

pub same_done : (first : ℕ) (steps more : List Step) (old now : Option Tree) (count : ℕ) → more ≡ steps → Done first steps old now count → Done first more old now count
same_done first steps more old now count m d = subst (λ (xs : List Step). Done first xs old now count) (sym m) d

-- a phase stops in a step
pub stops_in : (first : ℕ) (steps before : List Step) (step : Step) (behind : List Step) (old now new : Option Tree) (count : ℕ) (e : StepError) → steps ≡ before ++ step ∷ behind → Done first before old now count → StopsIn count step now new e → StopsFrom first steps old new e
stops_in first steps before step behind old now new count e a d s = record {
  before = before;
  step = step;
  behind = behind;
  all = a;
  stop = subst (λ (o : Option Tree). StopsIn (first + length before) step o new e) d.tree (subst (λ (n : ℕ). StopsIn n step now new e) d.counted s);
}

-- a phase in two parts
pub after_both : (xs ys : List Step) (old now new : Option Tree) → now ≡ option_map (after xs) old → new ≡ option_map (after ys) now → new ≡ option_map (after (xs ++ ys)) old
after_both xs ys old now new n w = told_then (after xs) (after ys) (after (xs ++ ys)) old now new n w (λ t. after-append xs ys t)

pub stops_left : (first : ℕ) (xs ys : List Step) (old new : Option Tree) (e : StepError) → StopsFrom first xs old new e → StopsFrom first (xs ++ ys) old new e
stops_left first xs ys old new e s = record {
  before = s.before;
  step = s.step;
  behind = s.behind ++ ys;
  all = ap (λ zs. zs ++ ys) s.all ∙ append_assoc s.before (s.step ∷ s.behind) ys;
  stop = s.stop;
}

told_after : (xs ys : List Step) (old now : Option Tree) → now ≡ option_map (after xs) old → option_map (after ys) now ≡ option_map (after (xs ++ ys)) old
told_after xs ys old now n = after_both xs ys old now (option_map (after ys) now) n refl

pub stops_right : (first count : ℕ) (xs ys : List Step) (old now new : Option Tree) (e : StepError) → now ≡ option_map (after xs) old → count ≡ first + length xs → StopsFrom count ys now new e → StopsFrom first (xs ++ ys) old new e
stops_right first count xs ys old now new e n k s = record {
  before = xs ++ s.before;
  step = s.step;
  behind = s.behind;
  all = ap (λ zs. xs ++ zs) s.all ∙ sym (append_assoc xs s.before (s.step ∷ s.behind));
  stop = subst (λ (o : Option Tree). StopsIn (first + length (xs ++ s.before)) s.step o new e) (told_after xs s.before old now n)
      (subst (λ (m : ℕ). StopsIn m s.step (option_map (after s.before) now) new e) at s.stop);
}
  where
    at : count + length s.before ≡ first + length (xs ++ s.before)
    at = omega (arith, k, length-append xs s.before)

-- ---- what a later tree denies, the first one does not allow
denied_at : (before : List Step) (step : Step) (behind : List Step) (t : Tree) → step.may (after before t) ≡ false → allows (before ++ step ∷ behind) t ≡ false
denied_at [] step behind t h = ap (λ b. b && allows behind (step.change t)) h
denied_at (x ∷ before) step behind t h = and_right (x.may t) (allows (before ++ step ∷ behind) (x.change t)) (denied_at before step behind (x.change t) h)

denied_told : (before : List Step) (step : Step) (behind : List Step) (old : Option Tree) → IfSome (option_map (after before) old) (λ t. step.may t ≡ false) → IfSome old (λ t. allows (before ++ step ∷ behind) t ≡ false)
denied_told before step behind None h = tt
denied_told before step behind (Some t) h = denied_at before step behind t h

pub stops_denied : (steps : List Step) (old new : Option Tree) (e : StepError) → Stops steps old new e → is_changed e ≡ true → IfSome old (λ t. allows steps t ≡ false)
stops_denied steps old new (step_error.Fault done) s h = absurd (cc)
stops_denied steps old new (step_error.Memory done) s h = absurd (cc)
stops_denied steps old new (step_error.Changed path) s h =
    subst (λ (xs : List Step). IfSome old (λ t. allows xs t ≡ false)) (sym s.all) (denied_told s.before s.step s.behind old s.stop.denied)

-- ---- the items of a list up to one
pub split_at : {A : Type 0} (items : List A) (i : ℕ) (x : A) → x ≡ get_or items i x → i < length items → items ≡ take i items ++ x ∷ drop (i + 1) items
split_at items i x is h =
    sym (take-append-drop (i + 1) items) ∙ ap (λ xs. xs ++ drop (i + 1) items) (take_more items i x h ∙ ap (λ y. take i items ++ y ∷ []) (sym is))
    ∙ append_assoc (take i items) (x ∷ []) (drop (i + 1) items)

pub next_at : {A : Type 0} (items : List A) (i : ℕ) (x : A) → x ≡ get_or items i x → i < length items → take (i + 1) items ≡ take i items ++ x ∷ []
next_at items i x is h = take_more items i x h ∙ ap (λ y. take i items ++ y ∷ []) (sym is)

one_kept : {A : Type 0} (test : A → Bool) (x : A) (xs : List A) → test x ≡ true → filter test (x ∷ xs) ≡ x ∷ filter test xs
one_kept test x xs h = ap (λ b. cond b (x ∷ filter test xs) (filter test xs)) h

one_left : {A : Type 0} (test : A → Bool) (x : A) (xs : List A) → test x ≡ false → filter test (x ∷ xs) ≡ filter test xs
one_left test x xs h = ap (λ b. cond b (x ∷ filter test xs) (filter test xs)) h

module _ {A : Type 0} (f : A → Step) (test : A → Bool) (items : List A) (i : ℕ) (x : A) (is : x ≡ get_or items i x) (h : i < length items) where
  -- the steps of the items that pass a test, about one that does
  pub front_all : test x ≡ true → map f (filter test items) ≡ map f (filter test (take i items)) ++ f x ∷ map f (filter test (drop (i + 1) items))
  front_all p =
      ap (λ xs. map f (filter test xs)) (split_at items i x is h)
      ∙ ap (map f) (filter-append test (take i items) (x ∷ drop (i + 1) items) ∙ ap (λ xs. filter test (take i items) ++ xs) (one_kept test x (drop (i + 1) items) p))
      ∙ map-append f (filter test (take i items)) (x ∷ filter test (drop (i + 1) items))

  pub front_next : test x ≡ true → map f (filter test (take (i + 1) items)) ≡ map f (filter test (take i items)) ++ f x ∷ []
  front_next p =
      ap (λ xs. map f (filter test xs)) (next_at items i x is h)
      ∙ ap (map f) (filter-append test (take i items) (x ∷ []) ∙ ap (λ xs. filter test (take i items) ++ xs) (one_kept test x [] p))
      ∙ map-append f (filter test (take i items)) (x ∷ [])

  pub front_same : test x ≡ false → map f (filter test (take (i + 1) items)) ≡ map f (filter test (take i items))
  front_same p =
      ap (λ xs. map f (filter test xs)) (next_at items i x is h)
      ∙ ap (map f) (filter-append test (take i items) (x ∷ []) ∙ ap (λ xs. filter test (take i items) ++ xs) (one_left test x [] p) ∙ append-nil (filter test (take i items)))

  -- the same from the last item on
  drop_at : drop i items ≡ x ∷ drop (i + 1) items
  drop_at = drop-cons items i x h ∙ ap (λ y. y ∷ drop (suc i) items) (sym is) ∙ ap (λ k. x ∷ drop k items) (sym (add-one i))

  pub back_all : test x ≡ true → reverse (map f (filter test items)) ≡ reverse (map f (filter test (drop (i + 1) items))) ++ f x ∷ reverse (map f (filter test (take i items)))
  back_all p =
      ap reverse (front_all p)
      ∙ reverse-append (map f (filter test (take i items))) (f x ∷ map f (filter test (drop (i + 1) items)))
      ∙ ap (λ xs. xs ++ reverse (map f (filter test (take i items)))) (reverse-append (f x ∷ []) (map f (filter test (drop (i + 1) items))))
      ∙ append_assoc (reverse (map f (filter test (drop (i + 1) items)))) (f x ∷ []) (reverse (map f (filter test (take i items))))

  pub back_next : test x ≡ true → reverse (map f (filter test (drop i items))) ≡ reverse (map f (filter test (drop (i + 1) items))) ++ f x ∷ []
  back_next p =
      ap (λ xs. reverse (map f xs)) (ap (filter test) drop_at ∙ one_kept test x (drop (i + 1) items) p)
      ∙ reverse-append (f x ∷ []) (map f (filter test (drop (i + 1) items)))

  pub back_same : test x ≡ false → reverse (map f (filter test (drop i items))) ≡ reverse (map f (filter test (drop (i + 1) items)))
  back_same p = ap (λ xs. reverse (map f xs)) (ap (filter test) drop_at ∙ one_left test x (drop (i + 1) items) p)

module _ {A : Type 0} (f : A → Step) (items : List A) (i : ℕ) (x : A) (is : x ≡ get_or items i x) (h : i < length items) where
  -- the steps of all items, about one
  pub each_all : map f items ≡ map f (take i items) ++ f x ∷ map f (drop (i + 1) items)
  each_all = ap (map f) (split_at items i x is h) ∙ map-append f (take i items) (x ∷ drop (i + 1) items)

  pub each_next : map f (take (i + 1) items) ≡ map f (take i items) ++ f x ∷ []
  each_next = ap (map f) (next_at items i x is h) ∙ map-append f (take i items) (x ∷ [])

-- what is true of each item is true of the one at a place
pub all_at : {A : Type 0} (test : A → Bool) (items : List A) (i : ℕ) (x : A) → x ≡ get_or items i x → i < length items → list_all test items ≡ true → test x ≡ true
all_at test [] i x is h a = absurd (omega arith)
all_at test (y ∷ items) zero x is h a = ap test is ∙ first_so (test y) (list_all test items) a
all_at test (y ∷ items) (suc i) x is h a = all_at test items i x is (omega arith) (second_so (test y) (list_all test items) a)

-- the answer of the second part, where the first is done
pub ok_right : {X : Type 0} (xs ys : List Step) (old now new : Option Tree) (r : Result X StepError) → now ≡ option_map (after xs) old → OnOk r (new ≡ option_map (after ys) now) → OnOk r (new ≡ option_map (after (xs ++ ys)) old)
ok_right xs ys old now new (Ok x) n w = after_both xs ys old now new n w
ok_right xs ys old now new (Err e) n w = tt

pub stops_right_if : {X : Type 0} (first count : ℕ) (xs ys : List Step) (old now new : Option Tree) (r : Result X StepError) → now ≡ option_map (after xs) old → count ≡ first + length xs → IfErr r (StopsFrom count ys now new) → IfErr r (StopsFrom first (xs ++ ys) old new)
stops_right_if first count xs ys old now new (Ok x) n k s = tt
stops_right_if first count xs ys old now new (Err e) n k s = stops_right first count xs ys old now new e n k s
