-- What a walk of a directory has found: by the names so far, and of all names.
use Rattle.std.proofs.Common.{◌≡◌, ◌⊎◌, inl, inr, ℕ, ◌+◌, ◌<◌, List, [], ◌∷◌, ◌++◌, length, take, get_or, Bool, true, false, not, ◌&&◌, ◌||◌, Option, Some, None, IfSome, refl, sym, ◌∙◌, ap, subst, append_assoc, arith, length-append}
use Rattle.std.proofs.Math.Seq.{take-length}
use Rattle.std.proofs.lemmas.Bool.{and_from, or_right, or_cases}
use Rattle.std.proofs.lemmas.List.{take_more}
use Rattle.std.proofs.lemmas.List.Folds.{list_any-append}
use Rattle.std.specs.Cmp.{first_so, second_so}
use Rattle.std.specs.Cmp.Lexicographic.{slice_cmp}
use Rattle.std.specs.List.{list_all, list_any}
use Rattle.std.specs.List.Sorted.{IsStrictlySortedBy}
use Rattle.std.specs.Ordering.{nat_cmp}
use Rattle.std.specs.Option.{is_some}
use Rattle.dc_path.specs.Names.{same_name}
use Rattle.dc_path.specs.Order.{name_lt, path_lt}
use Rattle.dc_path.specs.Paths.{Names}
use Rattle.dc_path.proofs.PathLemmas.{name_decides}
use Rattle.dc_attrs.specs.Trees.{Tree, Node, IsTree, IsThere, IsDirAt, is_hidden, seen}
use Rattle.dc_attrs.proofs.TreeLemmas.{nothing_below}
use Rattle.dc_fs.specs.Looks.{is_shown, AreNames}
use Rattle.dc_listing.specs.Walking.{is_below, is_in}
use Rattle.dc_listing.specs.Walks.{is_before}
use Rattle.dc_listing.proofs.GainLemmas.{IsNext}
use Rattle.dc_listing.proofs.HoldLemmas.{in_one}
use Rattle.dc_listing.proofs.NamesInOrder.{lesser_names, any_taken}
use Rattle.dc_missing.specs.Errors.{IfChanged, is_of_look, shows_dir}
use Rattle.dc_missing.specs.Finding.{is_open, Finds, FindsPart, IfTree}
use Rattle.dc_missing.specs.Walks.{is_met, MeetsAll, StopsAt, Stops}
use Rattle.dc_missing.specs.declared.error.DeleteError.{DeleteError}
use Rattle.dc_missing.specs.declared.error.DeleteError.TheVariants as delete_error
use Rattle.dc_missing.specs.declared.found.Found.{Found}
use Rattle.dc_missing.proofs.AddLemmas.{adds_none, adds_then, adds_as}
use Rattle.dc_missing.proofs.FindLemmas.{finds_none, finds_then, finds_as}
use Rattle.dc_missing.proofs.MeetLemmas.{meets_none, meets_then, meets_as, stops_then}
use Rattle.dc_missing.proofs.SeenLemmas.{shows_itself}
use Rattle.dc_missing.proofs.WalkLemmas.{tree_both, tree_given, tree_all, changed_told, stops_as, met_open}

-- ---- a directory that is not read
unread : (e : DeleteError) (t : Tree) (dir : Names) (before : ℕ) → IsTree t → IsDirAt t dir → is_of_look e ≡ true → IfChanged e (shows_dir (seen t dir) ≡ false) → Stops e t dir is_open before
unread delete_error.TooMany t dir before v d k c = cc
unread (delete_error.TooLong parent name) t dir before v d k c = cc
unread (delete_error.Changed path) t dir before v d k c = let e : true ≡ false = sym (shows_itself t dir v d) ∙ c in cc
unread delete_error.Fault t dir before v d k c = tt
unread delete_error.Memory t dir before v d k c = tt

pub dir_unread : (e : DeleteError) (told : Option Tree) (dir : Names) (before : ℕ) → is_of_look e ≡ true → IfSome told (λ t. IsDirAt t dir) → IfChanged e (IfSome told (λ t. shows_dir (seen t dir) ≡ false)) → IfTree told (λ t. Stops e t dir is_open before)
dir_unread e told dir before k d c = tree_both told (λ t. IsDirAt t dir) (λ t. IfChanged e (shows_dir (seen t dir) ≡ false)) (λ t. Stops e t dir is_open before) (λ t v a b. unread e t dir before v a k b) (tree_given told (λ t. IsDirAt t dir) d) (tree_given told (λ t. IfChanged e (shows_dir (seen t dir) ≡ false)) (changed_told e told (λ t. shows_dir (seen t dir) ≡ false) c))

-- ---- the names so far, and the next one
pub record IsAt (names : Names) (i : ℕ) (x : List ℕ) : Type 0 where
  pub sorted : IsStrictlySortedBy (slice_cmp nat_cmp) names
  pub inside : i < length names
  pub is : x ≡ get_or names i []

next_at : (names : Names) (i : ℕ) (x : List ℕ) → IsAt names i x → IsNext (take i names) x
next_at names i x a = record { before = λ y h. sym (lesser_names names i x y a.sorted a.inside a.is (any_taken names i y h)) ∙ h }

one_more : (names : Names) (i : ℕ) (x : List ℕ) → IsAt names i x → take i names ++ x ∷ [] ≡ take (i + 1) names
one_more names i x a = ap (λ (y : List ℕ). take i names ++ y ∷ []) a.is ∙ sym (take_more names i [] a.inside)

none_in : (q : Names) {P : Type 0} → is_in [] q ≡ true → P
none_in [] h = cc
none_in (y ∷ q) h = cc

pub dir_started : (told : Option Tree) (listed : Names → Bool) (dir : Names) (names : Names) (old : Found) → FindsPart told listed dir (is_in (take 0 names)) false old old
dir_started told listed dir names old = record {
  rests = [];
  adds = adds_none listed dir (is_in []) old.gone.items;
  finds = tree_all told (λ t. Finds t listed dir (is_in []) false []) (λ t v. finds_none t listed dir (is_in []) (λ q i s. none_in q i));
  meets = tree_all told (λ t. MeetsAll t dir (is_in []) old.met old.met) (λ t v. record { met = []; meets = meets_none t dir (is_in []) None (λ q i m b. none_in q i); count = omega arith });
}

part_then : (told : Option Tree) (listed : Names → Bool) (dir done : Names) (x : List ℕ) (kept more : Bool) (old mid new : Found) → IsNext done x → FindsPart told listed dir (is_in done) kept old mid → FindsPart told listed dir (is_in (x ∷ [])) more mid new → FindsPart told listed dir (is_in (done ++ x ∷ [])) (kept || more) old new
part_then told listed dir done x kept more old mid new n f g = record {
  rests = f.rests ++ g.rests;
  adds = adds_then listed dir done x f.rests g.rests old.gone.items mid.gone.items new.gone.items n f.adds g.adds;
  finds = tree_both told (λ t. Finds t listed dir (is_in done) kept f.rests) (λ t. Finds t listed dir (is_in (x ∷ [])) more g.rests) (λ t. Finds t listed dir (is_in (done ++ x ∷ [])) (kept || more) (f.rests ++ g.rests))
      (λ t v a b. finds_then t listed dir done x kept more f.rests g.rests a b) f.finds g.finds;
  meets = tree_both told (λ t. MeetsAll t dir (is_in done) old.met mid.met) (λ t. MeetsAll t dir (is_in (x ∷ [])) mid.met new.met) (λ t. MeetsAll t dir (is_in (done ++ x ∷ [])) old.met new.met)
      (λ t v a b. record { met = a.met ++ b.met; meets = meets_then t dir done x None a.met b.met n tt a.meets b.meets; count = count a.met b.met a.count b.count }) f.meets g.meets;
}
  where
    count : (a b : List Names) → mid.met ≡ old.met + length a → new.met ≡ mid.met + length b → new.met ≡ old.met + length (a ++ b)
    count a b h k = let l = length-append a b in omega (arith, h, k, l)

pub dir_more : (told : Option Tree) (listed : Names → Bool) (dir : Names) (names : Names) (i : ℕ) (x : List ℕ) (kept more : Bool) (old mid new : Found) → IsAt names i x → FindsPart told listed dir (is_in (take i names)) kept old mid → FindsPart told listed dir (is_in (x ∷ [])) more mid new → FindsPart told listed dir (is_in (take (i + 1) names)) (kept || more) old new
dir_more told listed dir names i x kept more old mid new a f g = subst (λ (ns : Names). FindsPart told listed dir (is_in ns) (kept || more) old new) (one_more names i x a) (part_then told listed dir (take i names) x kept more old mid new (next_at names i x a) f g)

-- ---- all names of a directory
first_there : (t : Tree) (dir : Names) (y : List ℕ) (q : Names) → IsTree t → is_some (t (dir ++ y ∷ q)) ≡ true → is_some (t (dir ++ y ∷ [])) ≡ true
first_there t dir y q v h = by (t (dir ++ y ∷ [])) refl
  where
    by : (o : Option Node) → t (dir ++ y ∷ []) ≡ o → is_some o ≡ true
    by (Some n) e = refl
    by None e = let k : t (dir ++ y ∷ q) ≡ None = ap t (sym (append_assoc dir (y ∷ []) q)) ∙ nothing_below t (dir ++ y ∷ []) q v e in let f : false ≡ true = sym (ap is_some k) ∙ h in cc

named : (t : Tree) (dir names : Names) (y : List ℕ) (q : Names) → IsTree t → AreNames t dir names → is_shown y ≡ true → is_some (t (dir ++ y ∷ q)) ≡ true → list_any (same_name y) names ≡ true
named t dir names y q v a s h = a y ∙ and_from _ _ s (first_there t dir y q v h)

in_open : (t : Tree) (dir names q : Names) → AreNames t dir names → is_in names q ≡ true → is_open q ≡ true
in_open t dir names [] a h = cc
in_open t dir names (y ∷ q) a h = first_so (is_shown y) (is_some (t (dir ++ y ∷ []))) (sym (a y) ∙ h)

there_some : (t : Tree) (p : Names) → IsThere t p → is_some (t p) ≡ true
there_some t p h = ap is_some h.1

open_in : (t : Tree) (dir names q : Names) → IsTree t → AreNames t dir names → is_open q ≡ true → is_some (t (dir ++ q)) ≡ true → is_in names q ≡ true
open_in t dir names [] v a o h = cc
open_in t dir names (y ∷ q) v a o h = named t dir names y q v a o h

-- what stops a walk of the names is met before all that comes after it
stops_front : (e : DeleteError) (t : Tree) (dir names : Names) (i : ℕ) (x : List ℕ) (before : ℕ) → IsTree t → AreNames t dir names → IsAt names i x → (k : StopsAt e t dir (is_in (take i names ++ x ∷ [])) before) → is_in (x ∷ []) k.stop ≡ true → StopsAt e t dir is_open before
stops_front e t dir names i x before v a l k h = record {
  stop = k.stop;
  here = met_open t dir k.stop (some_below k.stop h) k.stands;
  stands = k.stands;
  met = k.met;
  meets = meets_as t dir (is_in (take i names ++ x ∷ [])) is_open (Some k.stop) k.met part_open open_part k.meets;
  limit = k.limit;
}
  where
    some_below : (q : Names) → is_in (x ∷ []) q ≡ true → is_below q ≡ true
    some_below [] h = cc
    some_below (y ∷ q) h = refl

    part_open : (q : Names) → is_in (take i names ++ x ∷ []) q ≡ true → is_open q ≡ true
    part_open [] j = cc
    part_open (y ∷ q) j = in_open t dir names (y ∷ q) a (in_names (or_cases (list_any (same_name y) (take i names)) (list_any (same_name y) (x ∷ [])) (sym (list_any-append (same_name y) (take i names) (x ∷ [])) ∙ j)))
      where
        in_names : (list_any (same_name y) (take i names) ≡ true) ⊎ (list_any (same_name y) (x ∷ []) ≡ true) → list_any (same_name y) names ≡ true
        in_names (inl j) = any_taken names i y j
        in_names (inr j) = any_taken names (i + 1) y (ap (list_any (same_name y)) (sym (one_more names i x l)) ∙ list_any-append (same_name y) (take i names) (x ∷ []) ∙ or_right (list_any (same_name y) (take i names)) (list_any (same_name y) (x ∷ [])) j)

    among : (y : List ℕ) (q r : Names) (b c d : Bool) → b ≡ c → (c || (d && path_lt q r)) ≡ true → (b || (d || false)) ≡ true
    among y q r true c d e h = refl
    among y q r false true d e h = cc
    among y q r false false true e h = refl
    among y q r false false false e h = cc

    open_part : (q : Names) → is_open q ≡ true → is_met t dir q ≡ true → is_before (Some k.stop) q ≡ true → is_in (take i names ++ x ∷ []) q ≡ true
    open_part [] o m b = cc
    open_part (y ∷ q) o m b =
        let at = in_one x k.stop h in
        let n = named t dir names y q v a o (first_so (is_some (t (dir ++ y ∷ q))) (not (is_hidden (y ∷ q))) m) in
        list_any-append (same_name y) (take i names) (x ∷ [])
        ∙ among y q at.0 (list_any (same_name y) (take i names)) (name_lt y x) (same_name y x) (lesser_names names i x y l.sorted l.inside l.is n) (ap (path_lt (y ∷ q)) (sym at.1) ∙ b)

dir_stop : (e : DeleteError) (t : Tree) (dir names : Names) (i : ℕ) (x : List ℕ) (before now : ℕ) → IsTree t → AreNames t dir names → IsAt names i x → MeetsAll t dir (is_in (take i names)) before now → Stops e t dir (is_in (x ∷ [])) now → Stops e t dir is_open before
dir_stop e t dir names i x before now v a l m k = stops_as e t dir dir (is_in (x ∷ [])) is_open now before (λ s. let z = stops_then e t dir (take i names) x before now (next_at names i x l) m s in stops_front e t dir names i x before v a l z.0 z.1) k

pub dir_stopped : (e : DeleteError) (told : Option Tree) (listed : Names → Bool) (dir names : Names) (i : ℕ) (x : List ℕ) (kept : Bool) (old mid : Found) → IfSome told (λ t. AreNames t dir names) → IsAt names i x → FindsPart told listed dir (is_in (take i names)) kept old mid → IfTree told (λ t. Stops e t dir (is_in (x ∷ [])) mid.met) → IfTree told (λ t. Stops e t dir is_open old.met)
dir_stopped e told listed dir names i x kept old mid a l f k = tree_both told (λ t. AreNames t dir names × MeetsAll t dir (is_in (take i names)) old.met mid.met) (λ t. Stops e t dir (is_in (x ∷ [])) mid.met) (λ t. Stops e t dir is_open old.met)
    (λ t v g s. dir_stop e t dir names i x old.met mid.met v g.0 l g.1 s)
    (tree_both told (λ t. AreNames t dir names) (λ t. MeetsAll t dir (is_in (take i names)) old.met mid.met) (λ t. AreNames t dir names × MeetsAll t dir (is_in (take i names)) old.met mid.met) (λ t v b c. (b, c)) (tree_given told (λ t. AreNames t dir names) a) f.meets) k

part_open : (told : Option Tree) (listed : Names → Bool) (dir names : Names) (kept : Bool) (shown : (x : List ℕ) → list_any (same_name x) names ≡ true → is_shown x ≡ true) (old new : Found) → IfSome told (λ t. AreNames t dir names) → FindsPart told listed dir (is_in names) kept old new → FindsPart told listed dir is_open kept old new
part_open told listed dir names kept shown old new a f = record {
  rests = f.rests;
  adds = adds_as listed dir (is_in names) is_open f.rests old.gone.items new.gone.items opens f.adds;
  finds = tree_both told (λ t. AreNames t dir names) (λ t. Finds t listed dir (is_in names) kept f.rests) (λ t. Finds t listed dir is_open kept f.rests) (λ t v b g. finds_as t listed dir (is_in names) is_open kept f.rests (λ q o s. open_in t dir names q v b o (there_some t (dir ++ q) s)) g) (tree_given told (λ t. AreNames t dir names) a) f.finds;
  meets = tree_both told (λ t. AreNames t dir names) (λ t. MeetsAll t dir (is_in names) old.met new.met) (λ t. MeetsAll t dir is_open old.met new.met)
      (λ t v b m. record { met = m.met; meets = meets_as t dir (is_in names) is_open None m.met opens (λ q o n c. open_in t dir names q v b o (first_so (is_some (t (dir ++ q))) (not (is_hidden q)) n)) m.meets; count = m.count }) (tree_given told (λ t. AreNames t dir names) a) f.meets;
}
  where
    opens : (q : Names) → is_in names q ≡ true → is_open q ≡ true
    opens [] h = cc
    opens (y ∷ q) h = shown y h

pub dir_walked : (told : Option Tree) (listed : Names → Bool) (dir names : Names) (i : ℕ) (kept : Bool) (old new : Found) → ((x : List ℕ) → list_any (same_name x) names ≡ true → is_shown x ≡ true) → IfSome told (λ t. AreNames t dir names) → i ≡ length names → FindsPart told listed dir (is_in (take i names)) kept old new → FindsPart told listed dir is_open kept old new
dir_walked told listed dir names i kept old new shown a e f = part_open told listed dir names kept shown old new a (subst (λ (ns : Names). FindsPart told listed dir (is_in ns) kept old new) (ap (λ k. take k names) e ∙ take-length names) f)

-- a name that is there passes what all of them pass
pub all_shown : (names : Names) (x : List ℕ) → list_all is_shown names ≡ true → list_any (same_name x) names ≡ true → is_shown x ≡ true
all_shown [] x h k = cc
all_shown (y ∷ names) x h k = by (or_cases (same_name x y) (list_any (same_name x) names) k) (all_shown names x)
  where
    by : (same_name x y ≡ true) ⊎ (list_any (same_name x) names ≡ true) → (list_all is_shown names ≡ true → list_any (same_name x) names ≡ true → is_shown x ≡ true) → is_shown x ≡ true
    by (inl e) ih = ap is_shown ((name_decides x y).0 e) ∙ first_so (is_shown y) (list_all is_shown names) h
    by (inr e) ih = ih (second_so (is_shown y) (list_all is_shown names) h) e
