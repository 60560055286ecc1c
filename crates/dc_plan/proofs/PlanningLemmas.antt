-- Items that are planned one after the other.
use Rattle.std.proofs.Common.{◌≡◌, ℕ, ◌+◌, Bool, true, false, List, [], ◌∷◌, ◌++◌, map, length, ◌&&◌, Option, Some, None, IfSome, All, Contains, Ok, Err, refl, sym, ap, ◌∙◌, subst, arith, nat_le, append-nil, length-append}
use Rattle.std.proofs.lemmas.Bool.Decides.{nat_tests}
use Rattle.std.proofs.lemmas.List.{map-append}
use Rattle.std.proofs.lemmas.List.Elements.{All-head, All-nil, All-push, All-same, All-tail, Contains-append_right, Contains-get_or}
use Rattle.std.proofs.lemmas.List.Folds.{list_all-append}
use Rattle.std.specs.Cmp.{first_so, second_so}
use Rattle.std.specs.Iterator.{Yields}
use Rattle.std.specs.List.{list_all, list_any}
use Rattle.std.specs.Vec.Iter.{into_iter_items, into_iter_len, into_iter_steps}
use Rattle.std.specs.declared.vec.IntoIter.{IntoIter}
use Rattle.dc_path.specs.Order.{is_ascending}
use Rattle.dc_path.specs.Paths.{Names, IsWithin, joined}
use Rattle.dc_attrs.specs.Trees.{Tree}
use Rattle.dc_fs.specs.Causes.{Rose, steady_at}
use Rattle.dc_fs.specs.Views.{View, BothTell, OnlyLooks}
use Rattle.dc_options.specs.Settings.{Settings}
use Rattle.dc_listing.specs.Entries.{Entry, rel_of, fits_under}
use Rattle.dc_decide.specs.Deciding.{DecidesAs, decision_of}
use Rattle.dc_decide.specs.Plans.{Decision, item_rel, is_placed}
use Rattle.dc_decide.specs.declared.deciding.Decided.{Decided}
use Rattle.dc_decide.specs.Looking.{IsDenied}
use Rattle.dc_plan.specs.Planning.{item_of, clashes_in, IsAsked, IsOutByClash, IsDecidedOn, IfClash, IfChanged, IsFirstClash, IsDeniedAmong}
use Rattle.dc_plan.specs.declared.planning.PlanError.{PlanError}
use Rattle.dc_plan.specs.declared.planning.PlanError.TheVariants as plan_error

-- ---- one item
pub decided_on : (source target : Option Tree) (o : Settings) (base : Names) (entry : Entry) (d : Decided) (p : Decision) → p ≡ decision_of entry d → BothTell source target (DecidesAs o entry (base ++ entry.rel) d) → BothTell source target (λ s t. IsDecidedOn o base s t p)
decided_on None target o base entry d p e h = tt
decided_on (Some s) None o base entry d p e h = tt
decided_on (Some s) (Some t) o base entry d p e h = subst (IsDecidedOn o base s t) (sym e) (λ _ valid shown. h valid shown)

-- ---- what an iterator has given, and what is left
pub taken_front : {X A : Type 0} (s : IntoIter X A) (xs : List X) (t : IntoIter X A) → Yields into_iter_steps s xs t → into_iter_items s ≡ xs ++ into_iter_items t
taken_front s [] t y = ap into_iter_items y
taken_front s (x ∷ xs) t y = y.1.0 ∙ ap (λ ys. x ∷ ys) (taken_front y.0 xs t y.2)

taken_count : {X A : Type 0} (s : IntoIter X A) (xs : List X) (t : IntoIter X A) → Yields into_iter_steps s xs t → into_iter_len s ≡ length xs + into_iter_len t
taken_count s [] t y = omega (arith, ap into_iter_len y)
taken_count s (x ∷ xs) t y = let more = taken_count y.0 xs t y.2 in let one = y.1.1 in omega (arith, more, one)

none_left : {X : Type 0} (xs ys all : List X) → all ≡ xs ++ ys → length all ≡ length xs → xs ≡ all
none_left xs [] all e n = sym (append-nil xs) ∙ sym e
none_left xs (y ∷ ys) all e n = absurd (omega (arith, n, ap length e, length-append xs (y ∷ ys)))

-- an iterator that has come to its end has given all
pub taken_all : {X A : Type 0} (all : List X) (s : IntoIter X A) (xs : List X) (t : IntoIter X A) → into_iter_items s ≡ all → into_iter_len s ≡ length all → Yields into_iter_steps s xs t → into_iter_len t ≡ 0 → xs ≡ all
taken_all all s xs t items count y end = none_left xs (into_iter_items t) all (sym items ∙ taken_front s xs t y) (omega (arith, count, taken_count s xs t y, end))

-- a store as it was at the start
pub record Unmoved (old new : View) : Type 0 where
  pub tree : new.tree ≡ old.tree
  pub rest : new.rest ≡ old.rest
  pub faults : new.faults ≡ old.faults
  pub calm : steady_at new.steady new.faults ≡ steady_at old.steady old.faults

-- ---- all items
rels_are : (ds : List Decision) → map item_rel ds ≡ map rel_of (map item_of ds)
rels_are [] = refl
rels_are (d ∷ ds) = ap (λ rels. d.item.rel ∷ rels) (rels_are ds)

pub ascending_still : (ds : List Decision) (items : List Entry) → map item_of ds ≡ items → is_ascending (map rel_of items) ≡ true → is_ascending (map item_rel ds) ≡ true
ascending_still ds items e h = ap is_ascending (rels_are ds ∙ ap (map rel_of) e) ∙ h

placed_all : (base : Names) (ds : List Decision) → list_all (is_placed base) ds ≡ list_all (fits_under base) (map item_of ds)
placed_all base [] = refl
placed_all base (d ∷ ds) = ap (λ rest. fits_under base d.item && rest) (placed_all base ds)

pub placed_still : (base : Names) (ds : List Decision) (items : List Entry) → map item_of ds ≡ items → list_all (fits_under base) items ≡ true → list_all (is_placed base) ds ≡ true
placed_still base ds items e h = placed_all base ds ∙ ap (list_all (fits_under base)) e ∙ h

pub item_more : (ds more : List Decision) (d : Decision) (items : List Entry) (entry : Entry) → more ≡ ds ++ d ∷ [] → map item_of ds ≡ items → d.item ≡ entry → map item_of more ≡ items ++ entry ∷ []
item_more ds more d items entry m a e = ap (map item_of) m ∙ map-append item_of ds (d ∷ []) ∙ (ap (λ xs. xs ++ d.item ∷ []) a ∙ ap (λ x. items ++ x ∷ []) e)

-- ---- where a store tells its tree
pub all_none : (told : Option Tree) (P : Tree → Decision → Type 0) (ds : List Decision) → ds ≡ [] → IfSome told (λ t. All (P t) ds)
all_none None P ds e = tt
all_none (Some t) P ds e = All-same (P t) ds [] e (All-nil (P t))

pub all_more : (told now : Option Tree) (P : Tree → Decision → Type 0) (ds more : List Decision) (d : Decision) → more ≡ ds ++ d ∷ [] → now ≡ told → IfSome told (λ t. All (P t) ds) → IfSome now (λ t. P t d) → IfSome told (λ t. All (P t) more)
all_more None now P ds more d m e a h = tt
all_more (Some t) now P ds more d m e a h = All-same (P t) more (ds ++ d ∷ []) m (All-push (P t) ds d a (subst (λ (o : Option Tree). IfSome o (λ t. P t d)) e h))

pub both_none : (source target : Option Tree) (P : Tree → Tree → Decision → Type 0) (ds : List Decision) → ds ≡ [] → BothTell source target (λ s t. All (P s t) ds)
both_none None target P ds e = tt
both_none (Some s) None P ds e = tt
both_none (Some s) (Some t) P ds e = All-same (P s t) ds [] e (All-nil (P s t))

pub both_more : (source target source_now target_now : Option Tree) (P : Tree → Tree → Decision → Type 0) (ds more : List Decision) (d : Decision) → more ≡ ds ++ d ∷ [] → source_now ≡ source → target_now ≡ target →
    BothTell source target (λ s t. All (P s t) ds) → BothTell source_now target_now (λ s t. P s t d) → BothTell source target (λ s t. All (P s t) more)
both_more None target source_now target_now P ds more d m e f a h = tt
both_more (Some s) None source_now target_now P ds more d m e f a h = tt
both_more (Some s) (Some t) source_now target_now P ds more d m e f a h = All-same (P s t) more (ds ++ d ∷ []) m
    (All-push (P s t) ds d a (subst (λ (o : Option Tree). IfSome o (λ t. P s t d)) f (subst (λ (o : Option Tree). BothTell o target_now (λ s t. P s t d)) e h)))

-- ---- one store after another call that only looked
pub unmoved_on : {X E : Type 0} (old now new : View) (x : X) (is_fault : E → Bool) → Unmoved old now → OnlyLooks {T = X} {E = E} now new (Ok x) is_fault → Unmoved old new
unmoved_on old now new x is_fault u l = record { tree = l.tree ∙ u.tree; rest = l.rest ∙ u.rest; faults = l.cause.still ∙ u.faults; calm = l.calm ∙ u.calm }

pub looked_on : {X Y E : Type 0} (old now new : View) (e : E) (is_fault : E → Bool) → Unmoved old now → OnlyLooks {T = X} {E = E} now new (Err e) is_fault → OnlyLooks {T = Y} {E = E} old new (Err e) is_fault
looked_on old now new e is_fault u l = record {
  tree = l.tree ∙ u.tree;
  rest = l.rest ∙ u.rest;
  cause = record {
    later = let a = l.cause.later in let b = u.faults in omega (arith, a, b);
    rose = λ f. subst (λ (n : ℕ). Rose n new.faults) u.faults (l.cause.rose f);
    still = tt;
  };
  calm = l.calm ∙ u.calm;
}

-- ---- the item at hand
pub within_at : (base : Names) (before : List Entry) (entry : Entry) (behind items : List Entry) → items ≡ before ++ entry ∷ behind → list_all (fits_under base) items ≡ true → IsWithin (base ++ entry.rel)
within_at base before entry behind items all h =
    let both = sym (list_all-append (fits_under base) before (entry ∷ behind)) ∙ (ap (list_all (fits_under base)) (sym all) ∙ h) in
    let here = first_so (fits_under base entry) (list_all (fits_under base) behind) (second_so (list_all (fits_under base) before) (list_all (fits_under base) (entry ∷ behind)) both) in
    let a = first_so (nat_le (length (base ++ entry.rel)) 256) (nat_le (length (joined (base ++ entry.rel))) 4096) here in
    let b = second_so (nat_le (length (base ++ entry.rel)) 256) (nat_le (length (joined (base ++ entry.rel))) 4096) here in
    record { few = grind (arith, nat_tests, a); short = grind (arith, nat_tests, b) }

-- nothing clashes of what the copy goes on with
pub none_clash : (o : Settings) (t : Tree) (base : Names) (ds : List Decision) → o.ignore ≡ false → All (IsAsked o) ds → All (IsOutByClash t base) ds → list_any (clashes_in t base) (map item_of ds) ≡ false
none_clash o t base [] i a c = refl
none_clash o t base (d ∷ ds) i a c = rw (sym (All-head (IsOutByClash t base) d ds c) ∙ (All-head (IsAsked o) d ds a).allowed i) (none_clash o t base ds i (All-tail (IsAsked o) d ds a) (All-tail (IsOutByClash t base) d ds c))

pub first_clash : (o : Settings) (told now : Option Tree) (base : Names) (ds : List Decision) (before : List Entry) (entry : Entry) (behind items : List Entry) (e : PlanError) →
    now ≡ told → map item_of ds ≡ before → items ≡ before ++ entry ∷ behind → All (IsAsked o) ds → IfSome told (λ t. All (IsOutByClash t base) ds) →
    IfClash e (λ rel. (o.ignore ≡ false) × (rel ≡ entry.rel) × IfSome now (λ t. clashes_in t base entry ≡ true)) → IfClash e (λ rel. IfSome told (λ t. IsFirstClash t base items rel))
first_clash o None now base ds before entry behind items (plan_error.Clash rel) n m all a c h = tt
first_clash o (Some t) now base ds before entry behind items (plan_error.Clash rel) n m all a c h = record {
  before = before;
  item = entry;
  behind = behind;
  all = all;
  named = h.1;
  here = subst (λ (o : Option Tree). IfSome o (λ t. clashes_in t base entry ≡ true)) n h.2;
  first = ap (list_any (clashes_in t base)) (sym m) ∙ none_clash o t base ds h.0 a c;
}
first_clash o told now base ds before entry behind items plan_error.SourceFault n m all a c h = tt
first_clash o told now base ds before entry behind items plan_error.TargetFault n m all a c h = tt
first_clash o told now base ds before entry behind items (plan_error.Changed path) n m all a c h = tt
first_clash o told now base ds before entry behind items plan_error.Memory n m all a c h = tt

pub denied_among : (source target source_now target_now : Option Tree) (base : Names) (before : List Entry) (entry : Entry) (behind items : List Entry) (e : PlanError) →
    source_now ≡ source → target_now ≡ target → items ≡ before ++ entry ∷ behind →
    IfChanged e (IsDenied source_now target_now entry (base ++ entry.rel)) → IfChanged e (IsDeniedAmong source target base items)
denied_among source target source_now target_now base before entry behind items (plan_error.Changed path) s t all h = record {
  item = entry;
  listed = subst (λ (xs : List Entry). Contains xs entry) (sym all) (Contains-append_right before (entry ∷ behind) entry (Contains-get_or (entry ∷ behind) 0 entry (omega arith)));
  denied = subst (λ (o : Option Tree). IsDenied source o entry (base ++ entry.rel) path) t (subst (λ (o : Option Tree). IsDenied o target_now entry (base ++ entry.rel) path) s h);
}
denied_among source target source_now target_now base before entry behind items (plan_error.Clash rel) s t all h = tt
denied_among source target source_now target_now base before entry behind items plan_error.SourceFault s t all h = tt
denied_among source target source_now target_now base before entry behind items plan_error.TargetFault s t all h = tt
denied_among source target source_now target_now base before entry behind items plan_error.Memory s t all h = tt
