-- What a walk of one name, of a path and of a directory has found, and where it stops, by the answers of its steps.
use Rattle.std.proofs.Common.{◌≡◌, ◌≢◌, ◌⊎◌, inl, inr, ℕ, suc, ◌+◌, ◌≤◌, List, [], ◌∷◌, ◌++◌, length, take, Bool, true, false, cond, not, ◌||◌, Option, Some, None, IfSome, Result, Ok, Err, refl, sym, ◌∙◌, ap, subst, arith}
use Rattle.std.proofs.lemmas.Bool.{and_from, or_left, or_right, or_cases, or_parts}
use Rattle.std.proofs.lemmas.List.{length-map}
use Rattle.std.specs.Cmp.{first_so, second_so}
use Rattle.std.specs.Option.{is_some}
use Rattle.std.specs.Prelude.{⊤}
use Rattle.dc_path.specs.Names.{same_name}
use Rattle.dc_path.specs.Paths.{Names, fits}
use Rattle.dc_attrs.specs.Trees.{Tree, Node, IsTree, IsThere, IsDirAt, is_dir_node, is_hidden, snapshot, seen}
use Rattle.dc_attrs.specs.declared.shown.Seen.TheVariants as seen_as
use Rattle.dc_attrs.proofs.TreeLemmas.{there_is}
use Rattle.dc_decide.specs.Plans.{Decisions}
use Rattle.dc_fs.specs.Looks.{is_shown}
use Rattle.dc_listing.specs.Roots.{is_absent}
use Rattle.dc_listing.specs.Walking.{is_below, is_in}
use Rattle.dc_listing.proofs.Ascending.{under}
use Rattle.dc_missing.specs.Errors.{IfChanged, IsOfChild, is_of_look, stepped, shows_dir}
use Rattle.dc_missing.specs.Finding.{is_any, is_open, IsHeld, Finds, FindsPart, FindsInside, IfTree, StopsInside, WalksPart, IsCounted, Closes, Adds}
use Rattle.dc_missing.specs.Limits.{max_paths}
use Rattle.dc_missing.specs.Missing.{is_place, has_under}
use Rattle.dc_missing.specs.Walks.{is_met, has_room, MeetsAll, StopsAt, Stops}
use Rattle.dc_missing.specs.declared.error.DeleteError.{DeleteError}
use Rattle.dc_missing.specs.declared.error.DeleteError.TheVariants as delete_error
use Rattle.dc_missing.specs.declared.found.Found.{Found}
use Rattle.dc_missing.proofs.AddLemmas.{adds_none, adds_under, adds_kept, adds_gone, adds_as}
use Rattle.dc_missing.proofs.FindLemmas.{Hides, finds_none, finds_under, finds_kept, finds_gone, finds_inside}
use Rattle.dc_missing.proofs.MeetLemmas.{meets_none, meets_itself, meets_under, meets_as, stops_itself, stops_below, stops_under}
use Rattle.dc_missing.proofs.PlaceLemmas.{none_listed, some_listed}
use Rattle.dc_missing.proofs.SeenLemmas.{dir_shown, never_absent, nothing_under, no_dir_node, seen_child, never_in_file, absent_is}

-- ---- facts of a told tree
pub tree_map : (told : Option Tree) (P Q : Tree → Type 0) → ((t : Tree) → IsTree t → P t → Q t) → IfTree told P → IfTree told Q
tree_map None P Q f h = tt
tree_map (Some t) P Q f h = λ v. f t v (h v)

pub tree_both : (told : Option Tree) (P Q R : Tree → Type 0) → ((t : Tree) → IsTree t → P t → Q t → R t) → IfTree told P → IfTree told Q → IfTree told R
tree_both None P Q R f h k = tt
tree_both (Some t) P Q R f h k = λ v. f t v (h v) (k v)

pub tree_given : (told : Option Tree) (P : Tree → Type 0) → IfSome told P → IfTree told P
tree_given None P h = tt
tree_given (Some t) P h = λ v. h

pub tree_all : (told : Option Tree) (P : Tree → Type 0) → ((t : Tree) → IsTree t → P t) → IfTree told P
tree_all None P f = tt
tree_all (Some t) P f = λ v. f t v

-- ---- a stop, seen from elsewhere
pub stops_as : (e : DeleteError) (t : Tree) (dir up : Names) (part whole : Names → Bool) (m n : ℕ) → (StopsAt e t dir part m → StopsAt e t up whole n) → Stops e t dir part m → Stops e t up whole n
stops_as delete_error.TooMany t dir up part whole m n f s = f s
stops_as (delete_error.TooLong parent name) t dir up part whole m n f s = f s
stops_as (delete_error.Changed path) t dir up part whole m n f s = s
stops_as delete_error.Fault t dir up part whole m n f s = tt
stops_as delete_error.Memory t dir up part whole m n f s = tt

-- ---- one name of a directory
refused : (b : Bool) (child : Names) (d e : DeleteError) → cond b (Ok child) (Err d) ≡ Err e → (b ≡ false) × (d ≡ e)
refused true child d e h = cc
refused false child d e h = (refl, cc)

long_child : (t : Tree) (dir : Names) (x : List ℕ) (parent : Names) (name : List ℕ) (before : ℕ) → before ≤ max_paths → is_shown x ≡ true → is_some (t (dir ++ x ∷ [])) ≡ true → dir ≡ parent → x ≡ name → fits (dir ++ x ∷ []) ≡ false → StopsAt (delete_error.TooLong parent name) t dir (is_in (x ∷ [])) before
long_child t dir x parent name before l s h d n f =
    stops_under _ t dir x before s (stops_itself _ t (dir ++ x ∷ []) before h (inl (ap (λ (p : Names). p ++ x ∷ []) d ∙ ap (λ (y : List ℕ). parent ++ y ∷ []) n, f, l)))

pub child_refused : (e : DeleteError) (told : Option Tree) (dir : Names) (x : List ℕ) (before : ℕ) → before ≤ max_paths → is_shown x ≡ true → IfSome told (λ t. is_some (t (dir ++ x ∷ [])) ≡ true) → (e ≢ delete_error.Memory → stepped dir x ≡ Err e) → IfTree told (λ t. Stops e t dir (is_in (x ∷ [])) before)
child_refused delete_error.TooMany told dir x before l s h k = let r = refused (fits (dir ++ x ∷ [])) (dir ++ x ∷ []) (delete_error.TooLong dir x) _ (k (λ f. cc)) in let n = r.1 in cc
child_refused (delete_error.TooLong parent name) told dir x before l s h k =
    let r = refused (fits (dir ++ x ∷ [])) (dir ++ x ∷ []) (delete_error.TooLong dir x) _ (k (λ f. cc)) in
    let n = r.1 in
    tree_map told (λ t. is_some (t (dir ++ x ∷ [])) ≡ true) (λ t. StopsAt (delete_error.TooLong parent name) t dir (is_in (x ∷ [])) before) (λ t v g. long_child t dir x parent name before l s g (cc) (cc) r.0) (tree_given told (λ t. is_some (t (dir ++ x ∷ [])) ≡ true) h)
child_refused (delete_error.Changed path) told dir x before l s h k = let r = refused (fits (dir ++ x ∷ [])) (dir ++ x ∷ []) (delete_error.TooLong dir x) _ (k (λ f. cc)) in let n = r.1 in cc
child_refused delete_error.Fault told dir x before l s h k = tree_all told (λ t. ⊤) (λ t v. tt)
child_refused delete_error.Memory told dir x before l s h k = tree_all told (λ t. ⊤) (λ t v. tt)

part_under : (told : Option Tree) (listed : Names → Bool) (dir : Names) (x : List ℕ) (kept : Bool) (old new : Found) → is_shown x ≡ true → FindsPart told listed (dir ++ x ∷ []) is_any kept old new → FindsPart told listed dir (is_in (x ∷ [])) kept old new
part_under told listed dir x kept old new s f = record {
  rests = under x f.rests;
  adds = adds_under listed dir x f.rests old.gone.items new.gone.items s f.adds;
  finds = tree_map told (λ t. Finds t listed (dir ++ x ∷ []) is_any kept f.rests) (λ t. Finds t listed dir (is_in (x ∷ [])) kept (under x f.rests)) (λ t v g. finds_under t listed dir x kept f.rests s g) f.finds;
  meets = tree_map told (λ t. MeetsAll t (dir ++ x ∷ []) is_any old.met new.met) (λ t. MeetsAll t dir (is_in (x ∷ [])) old.met new.met)
      (λ t v m. record { met = under x m.met; meets = meets_under t dir x None m.met s m.meets; count = m.count ∙ ap (λ n. old.met + n) (sym (length-map m.met (λ r. x ∷ r))) }) f.meets;
}

child_at : (r : Result Bool DeleteError) (told : Option Tree) (listed : Names → Bool) (dir : Names) (x : List ℕ) (old new : Found) → is_shown x ≡ true → WalksPart told listed (dir ++ x ∷ []) is_any r old new → WalksPart told listed dir (is_in (x ∷ [])) r old new
child_at (Ok kept) told listed dir x old new s w = part_under told listed dir x kept old new s w
child_at (Err e) told listed dir x old new s w = tree_map told (λ t. Stops e t (dir ++ x ∷ []) is_any old.met) (λ t. Stops e t dir (is_in (x ∷ [])) old.met) (λ t v k. stops_as e t (dir ++ x ∷ []) dir is_any (is_in (x ∷ [])) old.met old.met (stops_under e t dir x old.met s) k) w

pub child_walked : (r : Result Bool DeleteError) (told : Option Tree) (listed : Names → Bool) (dir : Names) (x : List ℕ) (place : Names) (old new : Found) → is_shown x ≡ true → place ≡ dir ++ x ∷ [] → WalksPart told listed place is_any r old new → WalksPart told listed dir (is_in (x ∷ [])) r old new
child_walked r told listed dir x place old new s e w = child_at r told listed dir x old new s (subst (λ (p : Names). WalksPart told listed p is_any r old new) e w)

-- ---- a path
pub place_full : (told : Option Tree) (p : Names) (before : ℕ) → fits p ≡ true → before ≡ max_paths → IfSome told (λ t. is_some (t p) ≡ true) → IfTree told (λ t. Stops delete_error.TooMany t p is_any before)
place_full told p before f l h = tree_map told (λ t. is_some (t p) ≡ true) (λ t. StopsAt delete_error.TooMany t p is_any before) (λ t v s. stops_itself delete_error.TooMany t p before s (f, l)) (tree_given told (λ t. is_some (t p) ≡ true) h)

stop_inside : (e : DeleteError) (t : Tree) (p : Names) (before now : ℕ) → fits p ≡ true → now ≡ before + 1 → now ≤ max_paths → is_some (t p) ≡ true → StopsInside e t p now → Stops e t p is_any before
stop_inside delete_error.TooMany t p before now f n l s k = stops_below delete_error.TooMany t p before now s k.room n k.stops
stop_inside (delete_error.TooLong parent name) t p before now f n l s (inl k) = stops_itself (delete_error.TooLong parent name) t p before s (inr (k.parent_is, k.name_is, k.dir, f, k.past, omega (arith, n, l)))
stop_inside (delete_error.TooLong parent name) t p before now f n l s (inr k) = stops_below (delete_error.TooLong parent name) t p before now s k.room n k.stops
stop_inside (delete_error.Changed path) t p before now f n l s k = k
stop_inside delete_error.Fault t p before now f n l s k = tt
stop_inside delete_error.Memory t p before now f n l s k = tt

pub place_stopped : (e : DeleteError) (told : Option Tree) (p : Names) (before now : ℕ) → fits p ≡ true → now ≡ before + 1 → now ≤ max_paths → IfSome told (λ t. is_some (t p) ≡ true) → IfTree told (λ t. StopsInside e t p now) → IfTree told (λ t. Stops e t p is_any before)
place_stopped e told p before now f n l h k = tree_both told (λ t. is_some (t p) ≡ true) (λ t. StopsInside e t p now) (λ t. Stops e t p is_any before) (λ t v s g. stop_inside e t p before now f n l s g) (tree_given told (λ t. is_some (t p) ≡ true) h) k

-- all under it was walked, and it is closed
meets_place : (told : Option Tree) (p : Names) (before now later : ℕ) → now ≡ before + 1 → IfSome told (λ t. is_some (t p) ≡ true) → IfTree told (λ t. has_room t p ≡ true) → IfTree told (λ t. MeetsAll t p is_below now later) → IfTree told (λ t. MeetsAll t p is_any before later)
meets_place told p before now later n h r m = tree_both told (λ t. (is_some (t p) ≡ true) × (has_room t p ≡ true)) (λ t. MeetsAll t p is_below now later) (λ t. MeetsAll t p is_any before later)
    (λ t v s k. record { met = [] ∷ k.met; meets = meets_itself t p None k.met s.0 s.1 refl k.meets; count = count k.met k.count })
    (tree_both told (λ t. is_some (t p) ≡ true) (λ t. has_room t p ≡ true) (λ t. (is_some (t p) ≡ true) × (has_room t p ≡ true)) (λ t v a b. (a, b)) (tree_given told (λ t. is_some (t p) ≡ true) h) r) m
  where
    count : (met : List Names) → later ≡ now + length met → later ≡ before + suc (length met)
    count met e = omega (arith, e, n)

pub record IsClosed (told : Option Tree) (plan : Decisions) (p : Names) (mark : ℕ) (inside kept : Bool) (old counted mid new : Found) : Type 0 where
  pub there : IfSome told (λ t. is_some (t p) ≡ true)
  pub counts : IsCounted old counted
  pub mark_is : mark ≡ length old.gone.items
  pub finds : FindsInside told (is_place plan) p inside counted mid
  pub kept_is : kept ≡ (inside || has_under plan p)
  pub closes : Closes mark p kept mid.gone.items new.gone.items
  pub met : new.met ≡ mid.met

-- what keeps it: something inside, or something listed
keeper : (told : Option Tree) (plan : Decisions) (p : Names) (inside : Bool) (rests : List Names) → (inside || has_under plan p) ≡ true → IfTree told (λ t. Finds t (is_place plan) p is_below inside rests) → IfTree told (λ t. Finds t (is_place plan) p is_any true rests)
keeper told plan p inside rests k f = tree_map told (λ t. Finds t (is_place plan) p is_below inside rests) (λ t. Finds t (is_place plan) p is_any true rests) (λ t v g. finds_kept t (is_place plan) p inside rests (by t g (or_cases inside (has_under plan p) k)) g) f
  where
    by : (t : Tree) → Finds t (is_place plan) p is_below inside rests → (inside ≡ true) ⊎ (has_under plan p ≡ true) → IsHeld t (is_place plan) p
    by t g (inl e) = g.held e
    by t g (inr e) = let r = some_listed plan p e in record { rest = r.0; why = inl r.1 }

pub place_closed : (told : Option Tree) (plan : Decisions) (p : Names) (mark : ℕ) (inside kept : Bool) (old counted mid new : Found) → IsClosed told plan p mark inside kept old counted mid new → FindsPart told (is_place plan) p is_any kept old new
place_closed told plan p mark inside true old counted mid new c =
    let f = c.finds.part in
    record {
      rests = f.rests;
      adds = subst (λ (ps : List Names). Adds (is_place plan) p is_any f.rests ps new.gone.items) c.counts.gone (subst (λ (ps : List Names). Adds (is_place plan) p is_any f.rests counted.gone.items ps) (sym c.closes) (adds_kept (is_place plan) p f.rests counted.gone.items mid.gone.items f.adds));
      finds = keeper told plan p inside f.rests (sym c.kept_is) f.finds;
      meets = subst (λ n. IfTree told (λ t. MeetsAll t p is_any old.met n)) (sym c.met) (meets_place told p old.met counted.met mid.met c.counts.met c.there c.finds.room f.meets);
    }
place_closed told plan p mark inside false old counted mid new c =
    let f = c.finds.part in
    let b = or_parts inside (has_under plan p) (sym c.kept_is) in
    let none = none_listed plan p b.1 in
    record {
      rests = [] ∷ [];
      adds = adds_gone (is_place plan) p f.rests old.gone.items mid.gone.items new.gone.items none (subst (λ (ps : List Names). Adds (is_place plan) p is_below f.rests ps mid.gone.items) c.counts.gone f.adds) (c.closes ∙ ap (λ n. take n mid.gone.items ++ p ∷ []) c.mark_is);
      finds = tree_both told (λ t. is_some (t p) ≡ true) (λ t. Finds t (is_place plan) p is_below inside f.rests) (λ t. Finds t (is_place plan) p is_any false ([] ∷ []))
          (λ t v s g. finds_gone t (is_place plan) p f.rests (there_is (t p) s) none (subst (λ (k : Bool). Finds t (is_place plan) p is_below k f.rests) b.0 g)) (tree_given told (λ t. is_some (t p) ≡ true) c.there) f.finds;
      meets = subst (λ n. IfTree told (λ t. MeetsAll t p is_any old.met n)) (sym c.met) (meets_place told p old.met counted.met mid.met c.counts.met c.there c.finds.room f.meets);
    }

-- ---- what is under a path
unseen : (e : DeleteError) (t : Tree) (p : Names) (before : ℕ) → IsTree t → is_of_look e ≡ true → is_some (t p) ≡ true → IfChanged e (is_absent (seen t p) ≡ true) → StopsInside e t p before
unseen delete_error.TooMany t p before v k s c = cc
unseen (delete_error.TooLong parent name) t p before v k s c = cc
unseen (delete_error.Changed path) t p before v k s c = let e : false ≡ true = sym (never_absent t p v s) ∙ c in cc
unseen delete_error.Fault t p before v k s c = tt
unseen delete_error.Memory t p before v k s c = tt

pub changed_told : (e : DeleteError) (told : Option Tree) (P : Tree → Type 0) → IfChanged e (IfSome told P) → IfSome told (λ t. IfChanged e (P t))
changed_told e None P h = tt
changed_told delete_error.TooMany (Some t) P h = h
changed_told (delete_error.TooLong parent name) (Some t) P h = h
changed_told (delete_error.Changed path) (Some t) P h = h
changed_told delete_error.Fault (Some t) P h = h
changed_told delete_error.Memory (Some t) P h = h

pub inside_unseen : (e : DeleteError) (told : Option Tree) (p : Names) (before : ℕ) → is_of_look e ≡ true → IfSome told (λ t. is_some (t p) ≡ true) → IfChanged e (IfSome told (λ t. is_absent (seen t p) ≡ true)) → IfTree told (λ t. StopsInside e t p before)
inside_unseen e told p before k h c = tree_both told (λ t. is_some (t p) ≡ true) (λ t. IfChanged e (is_absent (seen t p) ≡ true)) (λ t. StopsInside e t p before) (λ t v s g. unseen e t p before v k s g) (tree_given told (λ t. is_some (t p) ≡ true) h) (tree_given told (λ t. IfChanged e (is_absent (seen t p) ≡ true)) (changed_told e told (λ t. is_absent (seen t p) ≡ true) c))

-- a file
pub inside_file : (told : Option Tree) (listed : Names → Bool) (p : Names) (old : Found) → fits p ≡ true → IfSome told (λ t. false ≡ shows_dir (seen t p)) → FindsInside told listed p false old old
inside_file told listed p old f h = record {
  part = record {
    rests = [];
    adds = adds_none listed p is_below old.gone.items;
    finds = tree_map told (λ t. false ≡ shows_dir (seen t p)) (λ t. Finds t listed p is_below false []) (λ t v g. finds_none t listed p is_below (nothing t v (sym g))) given;
    meets = tree_map told (λ t. false ≡ shows_dir (seen t p)) (λ t. MeetsAll t p is_below old.met old.met)
        (λ t v g. record { met = []; meets = meets_none t p is_below None (λ q i m b. nothing t v (sym g) q i (there_is (t (p ++ q)) (first_so (is_some (t (p ++ q))) (not (is_hidden q)) m))); count = omega arith }) given;
  };
  room = tree_map told (λ t. false ≡ shows_dir (seen t p)) (λ t. has_room t p ≡ true) (λ t v g. and_from _ _ f (ap (λ b. not b || fits (p ++ snapshot ∷ [])) (no_dir_node t p v (sym g)))) given;
}
  where
    given : IfTree told (λ t. false ≡ shows_dir (seen t p))
    given = tree_given told (λ t. false ≡ shows_dir (seen t p)) h

    nothing : (t : Tree) → IsTree t → shows_dir (seen t p) ≡ false → (q : Names) → is_below q ≡ true → IsThere t (p ++ q) → ⊥
    nothing t v g [] i s = cc
    nothing t v g (y ∷ q) i s = nothing_under t p y q v g s

-- its snapshots are not looked up
unlooked : (e : DeleteError) (t : Tree) (p : Names) (before : ℕ) → IsTree t → IsDirAt t p → IsOfChild e p snapshot → IfChanged e (seen t (p ++ snapshot ∷ []) ≡ seen_as.NotDir) → StopsInside e t p before
unlooked delete_error.TooMany t p before v d k c = absurd k
unlooked (delete_error.TooLong parent name) t p before v d k c = inl (record { dir = d; parent_is = k.0; name_is = k.1; past = ap (λ (q : Names). fits (q ++ snapshot ∷ [])) k.0 ∙ ap (λ (y : List ℕ). fits (parent ++ y ∷ [])) k.1 ∙ k.2 })
unlooked (delete_error.Changed path) t p before v d k c = never_in_file (t (p ++ snapshot ∷ [])) (sym (seen_child t p snapshot v d) ∙ c)
unlooked delete_error.Fault t p before v d k c = tt
unlooked delete_error.Memory t p before v d k c = tt

pub inside_unlooked : (e : DeleteError) (told : Option Tree) (p : Names) (before : ℕ) → IfSome told (λ t. IsDirAt t p) → IsOfChild e p snapshot → IfChanged e (IfSome told (λ t. seen t (p ++ snapshot ∷ []) ≡ seen_as.NotDir)) → IfTree told (λ t. StopsInside e t p before)
inside_unlooked e told p before h k c = tree_both told (λ t. IsDirAt t p) (λ t. IfChanged e (seen t (p ++ snapshot ∷ []) ≡ seen_as.NotDir)) (λ t. StopsInside e t p before) (λ t v d g. unlooked e t p before v d k g) (tree_given told (λ t. IsDirAt t p) h) (tree_given told (λ t. IfChanged e (seen t (p ++ snapshot ∷ []) ≡ seen_as.NotDir)) (changed_told e told (λ t. seen t (p ++ snapshot ∷ []) ≡ seen_as.NotDir) c))

-- a directory
pub open_below : (q : Names) → is_open q ≡ true → is_below q ≡ true
open_below [] h = cc
open_below (y ∷ q) h = refl

pub met_open : (t : Tree) (dir q : Names) → is_below q ≡ true → is_met t dir q ≡ true → is_open q ≡ true
met_open t dir [] i m = cc
met_open t dir (y ∷ q) i m = by (same_name snapshot y) (second_so (is_some (t (dir ++ y ∷ q))) (not (is_hidden (y ∷ q))) m)
  where
    by : (b : Bool) → not (b || is_hidden q) ≡ true → not b ≡ true
    by true h = h
    by false h = refl

pub below_stop : (e : DeleteError) (t : Tree) (p : Names) (before : ℕ) → StopsAt e t p is_open before → StopsAt e t p is_below before
below_stop e t p before k = record {
  stop = k.stop;
  here = open_below k.stop k.here;
  stands = k.stands;
  met = k.met;
  meets = meets_as t p is_open is_below (Some k.stop) k.met open_below (λ q i m b. met_open t p q i m) k.meets;
  limit = k.limit;
}

stop_in_dir : (e : DeleteError) (t : Tree) (p : Names) (before : ℕ) → has_room t p ≡ true → Stops e t p is_open before → StopsInside e t p before
stop_in_dir delete_error.TooMany t p before r k = record { room = r; stops = below_stop delete_error.TooMany t p before k }
stop_in_dir (delete_error.TooLong parent name) t p before r k = inr (record { room = r; stops = below_stop (delete_error.TooLong parent name) t p before k })
stop_in_dir (delete_error.Changed path) t p before r k = k
stop_in_dir delete_error.Fault t p before r k = tt
stop_in_dir delete_error.Memory t p before r k = tt

room_in : (t : Tree) (p : Names) → fits p ≡ true → fits (p ++ snapshot ∷ []) ≡ true → has_room t p ≡ true
room_in t p f g = and_from _ _ f (or_right (not (is_dir_node (t p))) (fits (p ++ snapshot ∷ [])) g)

pub inside_stopped : (e : DeleteError) (told : Option Tree) (p : Names) (before : ℕ) → fits p ≡ true → fits (p ++ snapshot ∷ []) ≡ true → IfTree told (λ t. Stops e t p is_open before) → IfTree told (λ t. StopsInside e t p before)
inside_stopped e told p before f g k = tree_map told (λ t. Stops e t p is_open before) (λ t. StopsInside e t p before) (λ t v s. stop_in_dir e t p before (room_in t p f g) s) k

hides_at : (t : Tree) (p : Names) (hides : Bool) → IsTree t → IsDirAt t p → hides ≡ not (is_absent (seen t (p ++ snapshot ∷ []))) → Hides t p hides
hides_at t p hides v d h = by (t (p ++ snapshot ∷ [])) refl (h ∙ ap (λ s. not (is_absent s)) (seen_child t p snapshot v d) ∙ absent_is (t (p ++ snapshot ∷ [])))
  where
    by : (o : Option Node) → t (p ++ snapshot ∷ []) ≡ o → hides ≡ is_some (t (p ++ snapshot ∷ [])) → Hides t p hides
    by None e k = record { some = λ f. let z : true ≡ false = sym f ∙ k ∙ ap is_some e in cc; none = λ f. e }
    by (Some n) e k = record { some = λ f. (n, e); none = λ f. let z : false ≡ true = sym f ∙ k ∙ ap is_some e in cc }

pub inside_walked : (told : Option Tree) (listed : Names → Bool) (p : Names) (hides kept : Bool) (old new : Found) → fits p ≡ true → fits (p ++ snapshot ∷ []) ≡ true → IfSome told (λ t. IsDirAt t p) → IfSome told (λ t. hides ≡ not (is_absent (seen t (p ++ snapshot ∷ [])))) → FindsPart told listed p is_open kept old new → FindsInside told listed p (hides || kept) old new
inside_walked told listed p hides kept old new f g d h k = record {
  part = record {
    rests = k.rests;
    adds = adds_as listed p is_open is_below k.rests old.gone.items new.gone.items open_below k.adds;
    finds = tree_both told (λ t. Hides t p hides) (λ t. Finds t listed p is_open kept k.rests) (λ t. Finds t listed p is_below (hides || kept) k.rests) (λ t v a b. finds_inside t listed p hides kept k.rests v a b) hidden k.finds;
    meets = tree_map told (λ t. MeetsAll t p is_open old.met new.met) (λ t. MeetsAll t p is_below old.met new.met)
        (λ t v m. record { met = m.met; meets = meets_as t p is_open is_below None m.met open_below (λ q i n b. met_open t p q i n) m.meets; count = m.count }) k.meets;
  };
  room = tree_all told (λ t. has_room t p ≡ true) (λ t v. room_in t p f g);
}
  where
    hidden : IfTree told (λ t. Hides t p hides)
    hidden = tree_both told (λ t. IsDirAt t p) (λ t. hides ≡ not (is_absent (seen t (p ++ snapshot ∷ [])))) (λ t. Hides t p hides) (λ t v a b. hides_at t p hides v a b) (tree_given told (λ t. IsDirAt t p) d) (tree_given told (λ t. hides ≡ not (is_absent (seen t (p ++ snapshot ∷ [])))) h)

-- ---- what a look told
pub dir_told : (told : Option Tree) (p : Names) (dir : Bool) → dir ≡ true → IfSome told (λ t. dir ≡ shows_dir (seen t p)) → IfSome told (λ t. IsDirAt t p)
dir_told None p dir d h = tt
dir_told (Some t) p dir d h = dir_shown t p (sym h ∙ d)

pub file_told : (told : Option Tree) (p : Names) (dir : Bool) → dir ≡ false → IfSome told (λ t. dir ≡ shows_dir (seen t p)) → IfSome told (λ t. false ≡ shows_dir (seen t p))
file_told None p dir d h = tt
file_told (Some t) p dir d h = sym d ∙ h

-- ---- one test or another
pub or_first : (a b k : Bool) → a ≡ true → k ≡ a → k ≡ (a || b)
or_first a b k e f = f ∙ e ∙ sym (or_left a b e)

pub or_second : (a b k : Bool) → a ≡ false → k ≡ b → k ≡ (a || b)
or_second a b k e f = f ∙ ap (λ z. z || b) (sym e)
