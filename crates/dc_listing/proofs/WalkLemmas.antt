-- What a walk of one name and of a directory has added, and where it stops, by the answers of its steps.
use Rattle.std.proofs.Common.{◌≡◌, ◌≢◌, ◌⊎◌, inl, inr, ℕ, List, [], ◌∷◌, ◌++◌, length, take, get_or, Bool, true, false, cond, not, ◌&&◌, ◌||◌, Option, Some, None, IfSome, Result, Ok, Err, IfErr, refl, sym, ◌∙◌, ap, subst, append_assoc, append-nil, arith, zero, suc, ◌+◌, ◌<◌, ◌≤◌, slice_get, nat_le, length-append}
use Rattle.std.proofs.Math.Seq.{take-length}
use Rattle.std.proofs.lemmas.List.{take_more}
use Rattle.std.proofs.lemmas.List.Folds.{list_any_at}
use Rattle.std.specs.Cmp.Lexicographic.{slice_cmp}
use Rattle.std.specs.List.Sorted.{IsStrictlySortedBy}
use Rattle.std.specs.Ordering.{nat_cmp}
use Rattle.std.specs.Option.{is_some}
use Rattle.dc_path.specs.Names.{same_name}
use Rattle.dc_path.specs.Paths.{Names, fits, joined, is_under}
use Rattle.dc_path.proofs.PathLemmas.{cut-append, same_name-refl}
use Rattle.std.specs.Cmp.{first_so, second_so}
use Rattle.std.proofs.lemmas.Bool.Decides.{nat_tests}
use Rattle.dc_attrs.specs.Attributes.{Attributes}
use Rattle.dc_attrs.specs.Trees.{Tree, Node, Dir, File, IsTree, IsThere, IsDirAt, snapshot, seen, seen_node}
use Rattle.dc_attrs.specs.declared.shown.Seen.TheVariants as seen_as
use Rattle.dc_attrs.proofs.TreeLemmas.{seen_from-there, there_is}
use Rattle.dc_fs.specs.Answers.{refused_status}
use Rattle.dc_fs.specs.Looks.{is_shown, AreNames, status_of}
use Rattle.dc_listing.specs.Entries.{Entry}
use Rattle.dc_listing.specs.Errors.{IfTooLong, Passes, IsChanged, is_of_look, is_of_names}
use Rattle.dc_listing.specs.Listed.{Rules}
use Rattle.dc_listing.specs.Walks.{IsFirstPast, IsShown, max_items}
use Rattle.dc_listing.specs.Walking.{place_in, dir_at, IsAmong, child_of, entered, met_below, is_below, is_in, GainsPart, IsLimitBelow, StopsPart, WalksPart, WalksPlace, GainsEntry}
use Rattle.dc_listing.specs.declared.item.Root.{Root}
use Rattle.dc_listing.specs.declared.item.ListError.{ListError}
use Rattle.dc_listing.specs.declared.item.ListError.TheVariants as list_error
use Rattle.dc_listing.specs.declared.walking.Place.{Place}
use Rattle.dc_listing.proofs.HoldLemmas.{IsOpen, in_one, holds_none, holds_lost, holds_excluded, holds_stop, holds_unread, listed_here, past_here, listed_same, met_same, past_same}
use Rattle.dc_listing.proofs.NamesInOrder.{lesser_names, any_taken}
use Rattle.dc_listing.proofs.GainLemmas.{gains_none, gains_item, gains_all, gains_front, gains_then, IsNext, in_itself}

-- ---- the directory of a walk, as the list grows
got_front : {A : Type 0} (xs ys : List A) (k : ℕ) → k < length xs → slice_get (xs ++ ys) k ≡ slice_get xs k
got_front [] ys k h = absurd (omega arith)
got_front (x ∷ xs) ys zero h = refl
got_front (x ∷ xs) ys (suc k) h = got_front xs ys k (omega arith)

got_last : {A : Type 0} (xs : List A) (y : A) → slice_get (xs ++ y ∷ []) (length xs) ≡ Some y
got_last [] y = refl
got_last (x ∷ xs) y = got_last xs y

pub dir_stays : (root : Root) (old new added : List Entry) (at : Option ℕ) → IsAmong old at → new ≡ old ++ added → dir_at root new at ≡ dir_at root old at
dir_stays root old new added None h e = refl
dir_stays root old new added (Some k) h e = ap (place_in root) (ap (λ (es : List Entry). slice_get es k) e ∙ got_front old added k h)

pub among_stays : (old new added : List Entry) (at : Option ℕ) → IsAmong old at → new ≡ old ++ added → IsAmong new at
among_stays old new added None h e = tt
among_stays old new added (Some k) h e = let l = length-append old added in let n = ap (λ (es : List Entry). length es) e in omega (arith, h, l, n)

pub last_among : (old new : List Entry) (entry : Entry) → new ≡ old ++ entry ∷ [] → IsAmong new (Some (length old))
last_among old new entry e = let l = length-append old (entry ∷ []) in let n = ap (λ (es : List Entry). length es) e in omega (arith, l, n)

place_of : (entry : Entry) (place : Place) → entry.rel ≡ place.rel → entry.from ≡ place.from → place ≡ record { from = entry.from; rel = entry.rel }
place_of entry place r f = ap (λ (p : Names). record { from = p; rel = place.rel }) (sym f) ∙ ap (λ (p : Names). record { from = entry.from; rel = p }) (sym r)

pub last_dir : (root : Root) (told : Option Tree) (place : Place) (b : Bool) (old new : List Entry) → GainsEntry told place b old new → dir_at root new (Some (length old)) ≡ place
last_dir root told place b old new g = ap (place_in root) (ap (λ (es : List Entry). slice_get es (length old)) g.is ∙ got_last old g.entry) ∙ sym (place_of g.entry place g.rel g.from)

-- ---- what has this name in a directory
abbrev answer : Bool → Bool → Bool → Bool → Place → ListError → ListError → Result (Option Place) ListError
answer w f x p child place from = cond w (Ok None) (cond f (cond x (Ok None) (cond p (Ok (Some child)) (Err place))) (Err from))

none_at : (w f x p : Bool) (child : Place) (a b : ListError) → answer w f x p child a b ≡ Ok None → (w ≡ true) ⊎ ((f ≡ true) × (x ≡ true))
none_at true f x p child a b h = inl refl
none_at false true true p child a b h = inr (refl, refl)
none_at false true false true child a b h = cc
none_at false true false false child a b h = cc
none_at false false x p child a b h = cc

some_at : (w f x p : Bool) (child place : Place) (a b : ListError) → answer w f x p child a b ≡ Ok (Some place) → (w ≡ false) × (f ≡ true) × (x ≡ false) × (p ≡ true) × (child ≡ place)
some_at true f x p child place a b h = cc
some_at false true true p child place a b h = cc
some_at false true false true child place a b h = (refl, refl, refl, refl, cc)
some_at false true false false child place a b h = cc
some_at false false x p child place a b h = cc

err_at : (w f x p : Bool) (child : Place) (a b e : ListError) → answer w f x p child a b ≡ Err e → ((w ≡ false) × (f ≡ false) × (b ≡ e)) ⊎ ((w ≡ false) × (f ≡ true) × (x ≡ false) × (p ≡ false) × (a ≡ e))
err_at true f x p child a b e h = cc
err_at false true true p child a b e h = cc
err_at false true false true child a b e h = cc
err_at false true false false child a b e h = inr (refl, refl, refl, refl, cc)
err_at false false x p child a b e h = inl (refl, refl, cc)

-- what was entered is the child, which nothing keeps out, and within the limits
pub record IsEntered (rules : Rules) (base : Names) (dir : Place) (x : List ℕ) (place : Place) : Type 0 where
  pub open_here : IsOpen rules dir x
  pub from_fits : fits (dir.from ++ x ∷ []) ≡ true
  pub place_fits : fits (base ++ (dir.rel ++ x ∷ [])) ≡ true
  pub child : child_of dir x ≡ place

pub entered_is : (rules : Rules) (base : Names) (dir : Place) (x : List ℕ) (place : Place) → is_shown x ≡ true → entered rules base dir x ≡ Ok (Some place) → IsEntered rules base dir x place
entered_is rules base dir x place h e =
    let k = some_at (rules.without (dir.rel ++ x ∷ [])) (fits (dir.from ++ x ∷ [])) (rules.excluded (dir.from ++ x ∷ [])) (fits (base ++ (dir.rel ++ x ∷ []))) (child_of dir x) place _ _ e in
    record { open_here = record { shown = h; kept = k.0; asked = k.2 }; from_fits = k.1; place_fits = k.3; child = k.4 }

-- nothing is added for a name that is left out
pub child_nothing : (told : Option Tree) (rules : Rules) (base : Names) (dir : Place) (x : List ℕ) (old : List Entry) → entered rules base dir x ≡ Ok None → GainsPart told rules dir base (is_in (x ∷ [])) None old old
child_nothing told rules base dir x old e = by (none_at (rules.without (dir.rel ++ x ∷ [])) (fits (dir.from ++ x ∷ [])) (rules.excluded (dir.from ++ x ∷ [])) (fits (base ++ (dir.rel ++ x ∷ []))) (child_of dir x) _ _ e)
  where
    by : (rules.without (dir.rel ++ x ∷ []) ≡ true) ⊎ ((fits (dir.from ++ x ∷ []) ≡ true) × (rules.excluded (dir.from ++ x ∷ []) ≡ true)) → GainsPart told rules dir base (is_in (x ∷ [])) None old old
    by (inl w) = gains_none told rules dir base (is_in (x ∷ [])) None old (λ s v. holds_lost rules s dir base x w)
    by (inr k) = gains_none told rules dir base (is_in (x ∷ [])) None old (λ s v. holds_excluded rules s dir base x k.1 k.0)

-- ---- a stop at a name
self_under : (p : Names) → is_under p p ≡ true
self_under p = ap (is_under p) (sym (append-nil p)) ∙ ap is_some (cut-append p [])

first_past : (path parent : Names) (name : List ℕ) → path ≡ parent ++ name ∷ [] → Passes parent name → IsFirstPast path parent name
first_past path parent name e p = record { front = ap (is_under (parent ++ name ∷ [])) e ∙ self_under (parent ++ name ∷ []); passes = p }

met_by : (a b c : Bool) → c ≡ true → not a ≡ true → b ≡ false → (c && not (a || b)) ≡ true
met_by true b c e f g = cc
met_by false true c e f g = cc
met_by false false c e f g = ap (λ k. k && true) e

met_here : (rules : Rules) (s : Tree) (dir : Place) (x : List ℕ) → is_shown x ≡ true → rules.without (dir.rel ++ x ∷ []) ≡ false → is_some (s (dir.from ++ x ∷ [])) ≡ true → met_below rules s dir (x ∷ []) ≡ true
met_here rules s dir x h w t = met_by (same_name snapshot x) (rules.without (dir.rel ++ x ∷ [])) (is_some (s (dir.from ++ x ∷ []))) t h w

-- why a name is refused
abbrev IsWhy : Rules → Names → Place → List ℕ → ListError → Type 0
IsWhy rules base dir x e =
    ((rules.without (dir.rel ++ x ∷ []) ≡ false) × (fits (dir.from ++ x ∷ []) ≡ false) × (list_error.TooLong dir.from x ≡ e))
    ⊎ ((rules.without (dir.rel ++ x ∷ []) ≡ false) × (fits (dir.from ++ x ∷ []) ≡ true) × (rules.excluded (dir.from ++ x ∷ []) ≡ false) × (fits (base ++ (dir.rel ++ x ∷ [])) ≡ false) × (list_error.TooLong (base ++ dir.rel) x ≡ e))

why : (rules : Rules) (base : Names) (dir : Place) (x : List ℕ) (e : ListError) → entered rules base dir x ≡ Err e → IsWhy rules base dir x e
why rules base dir x e h = err_at (rules.without (dir.rel ++ x ∷ [])) (fits (dir.from ++ x ∷ [])) (rules.excluded (dir.from ++ x ∷ [])) (fits (base ++ (dir.rel ++ x ∷ []))) (child_of dir x) (list_error.TooLong (base ++ dir.rel) x) (list_error.TooLong dir.from x) e h

long_limit : (rules : Rules) (s : Tree) (base : Names) (dir : Place) (x : List ℕ) (parent : Names) (name : List ℕ) (old : List Entry) → is_shown x ≡ true → is_some (s (dir.from ++ x ∷ [])) ≡ true → Passes parent name → IsWhy rules base dir x (list_error.TooLong parent name) → IsLimitBelow (list_error.TooLong parent name) rules s dir base (x ∷ []) old
long_limit rules s base dir x parent name old h t p (inl k) =
    let a : dir.from ≡ parent = cc in
    let b : x ≡ name = cc in
    (met_here rules s dir x h k.0 t, dir.from ++ x ∷ [], rw (k.1) refl, first_past (dir.from ++ x ∷ []) parent name (ap (λ (q : Names). q ++ x ∷ []) a ∙ ap (λ (y : List ℕ). parent ++ y ∷ []) b) p)
long_limit rules s base dir x parent name old h t p (inr k) =
    let a : base ++ dir.rel ≡ parent = cc in
    let b : x ≡ name = cc in
    (met_here rules s dir x h k.0 t, base ++ (dir.rel ++ x ∷ []), rw (k.1, listed_here rules s dir x (record { shown = h; kept = k.0; asked = k.2 }) t, k.3) refl, first_past (base ++ (dir.rel ++ x ∷ [])) parent name (sym (append_assoc base dir.rel (x ∷ [])) ∙ ap (λ (q : Names). q ++ x ∷ []) a ∙ ap (λ (y : List ℕ). parent ++ y ∷ []) b) p)

never_so : (rules : Rules) (base : Names) (dir : Place) (x : List ℕ) (e : ListError) {P : Type 0} → ((parent : Names) (name : List ℕ) → list_error.TooLong parent name ≡ e → P) → IsWhy rules base dir x e → P
never_so rules base dir x e f (inl k) = f dir.from x k.2
never_so rules base dir x e f (inr k) = f (base ++ dir.rel) x k.4

refused_limit : (rules : Rules) (s : Tree) (base : Names) (dir : Place) (x : List ℕ) (e : ListError) (old : List Entry) → is_shown x ≡ true → is_some (s (dir.from ++ x ∷ [])) ≡ true → IfTooLong e Passes → (e ≢ list_error.Memory → entered rules base dir x ≡ Err e) → IsLimitBelow e rules s dir base (x ∷ []) old
refused_limit rules s base dir x (list_error.NoSource path) old h t p k = never_so rules base dir x _ (λ a b f. cc) (why rules base dir x _ (k (λ f. cc)))
refused_limit rules s base dir x (list_error.Duplicate a b c) old h t p k = never_so rules base dir x _ (λ a b f. cc) (why rules base dir x _ (k (λ f. cc)))
refused_limit rules s base dir x list_error.TooMany old h t p k = never_so rules base dir x _ (λ a b f. cc) (why rules base dir x _ (k (λ f. cc)))
refused_limit rules s base dir x (list_error.TooLong parent name) old h t p k = long_limit rules s base dir x parent name old h t p (why rules base dir x _ (k (λ f. cc)))
refused_limit rules s base dir x (list_error.Changed path) old h t p k = tt
refused_limit rules s base dir x list_error.Fault old h t p k = tt
refused_limit rules s base dir x list_error.Memory old h t p k = tt

stop_at_name : (e : ListError) (told : Option Tree) (rules : Rules) (base : Names) (dir : Place) (x : List ℕ) (old new : List Entry) → new ≡ old → ((s : Tree) → is_some (s (dir.from ++ x ∷ [])) ≡ true → IsLimitBelow e rules s dir base (x ∷ []) new) → IfSome told (λ s. is_some (s (dir.from ++ x ∷ [])) ≡ true) → StopsPart e told rules dir base (is_in (x ∷ [])) old new
stop_at_name e told rules base dir x old new n f t = record {
  stop = x ∷ [];
  here = in_itself x [];
  gains = subst (λ (es : List Entry). GainsPart told rules dir base (is_in (x ∷ [])) (Some (x ∷ [])) old es) (sym n) (gains_none told rules dir base (is_in (x ∷ [])) (Some (x ∷ [])) old (λ s v. holds_stop rules s dir base x));
  limit = by told t;
}
  where
    by : (told : Option Tree) → IfSome told (λ s. is_some (s (dir.from ++ x ∷ [])) ≡ true) → IfSome told (λ s. IsTree s → IsLimitBelow e rules s dir base (x ∷ []) new)
    by None t = tt
    by (Some s) t = λ v. f s t

pub child_refused : (e : ListError) (told : Option Tree) (rules : Rules) (base : Names) (dir : Place) (x : List ℕ) (old : List Entry) → is_shown x ≡ true → IfSome told (λ s. is_some (s (dir.from ++ x ∷ [])) ≡ true) → IfTooLong e Passes → (e ≢ list_error.Memory → entered rules base dir x ≡ Err e) → StopsPart e told rules dir base (is_in (x ∷ [])) old old
child_refused e told rules base dir x old h t p k = stop_at_name e told rules base dir x old old refl (λ s m. refused_limit rules s base dir x e old h m p k) t

-- a stop at the look at a name
look_limit : (rules : Rules) (s : Tree) (base : Names) (dir : Place) (x : List ℕ) (place : Place) (e : ListError) (new : List Entry) → IsEntered rules base dir x place → is_of_look e ≡ true → (e ≡ list_error.TooMany → max_items ≤ length new) → is_some (s (dir.from ++ x ∷ [])) ≡ true → IsLimitBelow e rules s dir base (x ∷ []) new
look_limit rules s base dir x place (list_error.NoSource path) new i k f t = cc
look_limit rules s base dir x place (list_error.Duplicate a b c) new i k f t = cc
look_limit rules s base dir x place list_error.TooMany new i k f t = (listed_here rules s dir x i.open_here t, past_here rules s dir base x i.open_here t i.from_fits i.place_fits, f refl)
look_limit rules s base dir x place (list_error.TooLong parent name) new i k f t = cc
look_limit rules s base dir x place (list_error.Changed path) new i k f t = tt
look_limit rules s base dir x place list_error.Fault new i k f t = tt
look_limit rules s base dir x place list_error.Memory new i k f t = tt

pub child_unseen : (e : ListError) (told : Option Tree) (rules : Rules) (base : Names) (dir : Place) (x : List ℕ) (place : Place) (old new : List Entry) → IsEntered rules base dir x place → new ≡ old → is_of_look e ≡ true → (e ≡ list_error.TooMany → max_items ≤ length old) → IfSome told (λ s. is_some (s (dir.from ++ x ∷ [])) ≡ true) → StopsPart e told rules dir base (is_in (x ∷ [])) old new
child_unseen e told rules base dir x place old new i n k f t =
    stop_at_name e told rules base dir x old new n (λ s m. look_limit rules s base dir x place e new i k (λ q. let l = ap (λ (es : List Entry). length es) n in let g = f q in omega (arith, l, g)) m) t

-- ---- a name with what is under it
limit_up : (e : ListError) (rules : Rules) (s : Tree) (base : Names) (dir : Place) (x z : List ℕ) (q : Names) (new : List Entry) → IsOpen rules dir x → IsLimitBelow e rules s (child_of dir x) base (z ∷ q) new → IsLimitBelow e rules s dir base (x ∷ z ∷ q) new
limit_up (list_error.NoSource path) rules s base dir x z q new o l = l
limit_up (list_error.Duplicate a b c) rules s base dir x z q new o l = l
limit_up list_error.TooMany rules s base dir x z q new o l = (listed_same rules s dir x z q o ∙ l.0, past_same rules s dir base x z q o ∙ l.1, l.2)
limit_up (list_error.TooLong parent name) rules s base dir x z q new o l = (met_same rules s dir x z q o ∙ l.0, l.1, past_same rules s dir base x z q o ∙ l.2, l.3)
limit_up (list_error.Changed path) rules s base dir x z q new o l = tt
limit_up list_error.Fault rules s base dir x z q new o l = tt
limit_up list_error.Memory rules s base dir x z q new o l = tt

limits_up : (e : ListError) (told : Option Tree) (rules : Rules) (base : Names) (dir : Place) (x z : List ℕ) (q : Names) (new : List Entry) → IsOpen rules dir x → IfSome told (λ s. IsTree s → IsLimitBelow e rules s (child_of dir x) base (z ∷ q) new) → IfSome told (λ s. IsTree s → IsLimitBelow e rules s dir base (x ∷ z ∷ q) new)
limits_up e None rules base dir x z q new o h = tt
limits_up e (Some s) rules base dir x z q new o h = λ v. limit_up e rules s base dir x z q new o (h v)

stop_under : (e : ListError) (told : Option Tree) (rules : Rules) (base : Names) (dir : Place) (x : List ℕ) (b : Bool) (stop : Names) (old mid new : List Entry) → IsOpen rules dir x → fits (dir.from ++ x ∷ []) ≡ true → fits (base ++ (dir.rel ++ x ∷ [])) ≡ true → GainsEntry told (child_of dir x) b old mid → is_below stop ≡ true → GainsPart told rules (child_of dir x) base is_below (Some stop) mid new → IfSome told (λ s. IsTree s → IsLimitBelow e rules s (child_of dir x) base stop new) → StopsPart e told rules dir base (is_in (x ∷ [])) old new
stop_under e told rules base dir x b [] old mid new o f p g h w l = cc
stop_under e told rules base dir x b (z ∷ q) old mid new o f p g h w l = record {
  stop = x ∷ z ∷ q;
  here = in_itself x (z ∷ q);
  gains = gains_item told rules dir base x b (Some (z ∷ q)) old mid new o f p refl g w;
  limit = limits_up e told rules base dir x z q new o l;
}

pub child_walked : {T : Type 0} (r : Result T ListError) (told : Option Tree) (rules : Rules) (base : Names) (dir : Place) (x : List ℕ) (place : Place) (b : Bool) (old mid new : List Entry) → IsEntered rules base dir x place → GainsEntry told place b old mid → WalksPart told rules place base is_below r mid new → WalksPart told rules dir base (is_in (x ∷ [])) r old new
child_walked (Ok y) told rules base dir x place b old mid new i g w =
    gains_item told rules dir base x b None old mid new i.open_here i.from_fits i.place_fits refl (subst (λ (p : Place). GainsEntry told p b old mid) (sym i.child) g) (subst (λ (p : Place). GainsPart told rules p base is_below None mid new) (sym i.child) w)
child_walked (Err e) told rules base dir x place b old mid new i g w =
    let u = subst (λ (p : Place). StopsPart e told rules p base is_below mid new) (sym i.child) w in
    stop_under e told rules base dir x b u.stop old mid new i.open_here i.from_fits i.place_fits (subst (λ (p : Place). GainsEntry told p b old mid) (sym i.child) g) u.here u.gains u.limit

-- ---- a directory
names_limit : (rules : Rules) (s : Tree) (base : Names) (dir : Place) (e : ListError) (stop : Names) (new : List Entry) → is_of_names e ≡ true → IsLimitBelow e rules s dir base stop new
names_limit rules s base dir (list_error.NoSource path) stop new k = cc
names_limit rules s base dir (list_error.Duplicate a b c) stop new k = cc
names_limit rules s base dir list_error.TooMany stop new k = cc
names_limit rules s base dir (list_error.TooLong parent name) stop new k = cc
names_limit rules s base dir (list_error.Changed path) stop new k = tt
names_limit rules s base dir list_error.Fault stop new k = tt
names_limit rules s base dir list_error.Memory stop new k = tt

pub dir_unread : (e : ListError) (told : Option Tree) (rules : Rules) (base : Names) (dir : Place) (old : List Entry) → is_of_names e ≡ true → StopsPart e told rules dir base is_below old old
dir_unread e told rules base dir old k = record {
  stop = [] ∷ [];
  here = refl;
  gains = gains_none told rules dir base is_below (Some ([] ∷ [])) old (λ s v. holds_unread rules s dir base);
  limit = by told;
}
  where
    by : (told : Option Tree) → IfSome told (λ s. IsTree s → IsLimitBelow e rules s dir base ([] ∷ []) old)
    by None = tt
    by (Some s) = λ v. names_limit rules s base dir e ([] ∷ []) old k

-- the names so far and the next one
next_name : (names : Names) (i : ℕ) (x : List ℕ) → IsStrictlySortedBy (slice_cmp nat_cmp) names → i < length names → x ≡ get_or names i [] → IsNext (take i names) x
next_name names i x a l e = record { before = λ y h. sym (lesser_names names i x y a l e (any_taken names i y h)) ∙ h }

pub dir_started : (told : Option Tree) (rules : Rules) (base : Names) (dir : Place) (names : Names) (old : List Entry) → GainsPart told rules dir base (is_in (take 0 names)) None old old
dir_started told rules base dir names old = gains_none told rules dir base (is_in []) None old (λ s v. holds_none rules s dir base (is_in []) None (λ q i m b. never q i))
  where
    never : (q : Names) {P : Type 0} → is_in [] q ≡ true → P
    never [] i = cc
    never (y ∷ r) i = cc

pub dir_more : (told : Option Tree) (rules : Rules) (base : Names) (dir : Place) (names : Names) (i : ℕ) (x : List ℕ) (old mid new : List Entry) → IsStrictlySortedBy (slice_cmp nat_cmp) names → i < length names → x ≡ get_or names i [] → GainsPart told rules dir base (is_in (take i names)) None old mid → GainsPart told rules dir base (is_in (x ∷ [])) None mid new → GainsPart told rules dir base (is_in (take (i + 1) names)) None old new
dir_more told rules base dir names i x old mid new a l e g h =
    subst (λ (ns : Names). GainsPart told rules dir base (is_in ns) None old new) (ap (λ (y : List ℕ). take i names ++ y ∷ []) e ∙ sym (take_more names i [] l))
    (gains_then told rules dir base (take i names) x None old mid new (next_name names i x a l e) tt g h)

pub dir_stopped : (e : ListError) (told : Option Tree) (rules : Rules) (base : Names) (dir : Place) (names : Names) (i : ℕ) (x : List ℕ) (old mid new : List Entry) → IsStrictlySortedBy (slice_cmp nat_cmp) names → IfSome told (λ s. AreNames s dir.from names) → i < length names → x ≡ get_or names i [] → GainsPart told rules dir base (is_in (take i names)) None old mid → StopsPart e told rules dir base (is_in (x ∷ [])) mid new → StopsPart e told rules dir base is_below old new
dir_stopped e told rules base dir names i x old mid new a n l k g w =
    let at = in_one x w.stop w.here in
    let front = gains_then told rules dir base (take i names) x (Some w.stop) old mid new (next_name names i x a l k) at g w.gains in
    record {
      stop = w.stop;
      here = ap is_below at.1;
      gains = subst (λ (q : Names). GainsPart told rules dir base is_below (Some q) old new) (sym at.1)
          (gains_front told rules dir base names (take i names) x at.0 old new n (λ y h. lesser_names names i x y a l k h)
          (subst (λ (q : Names). GainsPart told rules dir base (is_in (take i names ++ x ∷ [])) (Some q) old new) at.1 front));
      limit = w.limit;
    }

pub dir_walked : (told : Option Tree) (rules : Rules) (base : Names) (dir : Place) (names : Names) (i : ℕ) (old new : List Entry) → IfSome told (λ s. AreNames s dir.from names) → i ≡ length names → GainsPart told rules dir base (is_in (take i names)) None old new → GainsPart told rules dir base is_below None old new
dir_walked told rules base dir names i old new n e g = gains_all told rules dir base names old new n (subst (λ (ns : Names). GainsPart told rules dir base (is_in ns) None old new) (ap (λ k. take k names) e ∙ take-length names) g)

-- ---- a place
pub placed : {T : Type 0} (r : Result T ListError) (told : Option Tree) (rules : Rules) (base : Names) (dir : Place) (x : List ℕ) (place : Place) (old new : List Entry) → IsEntered rules base dir x place → IfSome told (λ s. is_some (s (dir.from ++ x ∷ [])) ≡ true) → WalksPlace told rules place base r old new → WalksPart told rules dir base (is_in (x ∷ [])) r old new
placed (Ok y) told rules base dir x place old new i t (inl w) = absurd w
placed (Err e) told rules base dir x place old new i t (inl w) = child_unseen e told rules base dir x place old new i w.0 w.1 w.2 t
placed r told rules base dir x place old new i t (inr w) = child_walked r told rules base dir x place w.0 old w.1 new i w.2 w.3

pub here_is : (d : Place) (from rel : Names) → from ≡ d.from → rel ≡ d.rel → record { from = from; rel = rel } ≡ d
here_is d from rel f r = ap (λ (p : Names). record { from = p; rel = rel }) f ∙ ap (λ (p : Names). record { from = d.from; rel = p }) r

-- ---- what a store that tells a tree never denies
there_at : (s : Tree) (p q : Names) → q ≡ p → is_some (s p) ≡ true → IsThere s q
there_at s p q e h = subst (λ (r : Names). IsThere s r) (sym e) (there_is (s p) h)

pub child_kept : {T : Type 0} (r : Result T ListError) (told : Option Tree) (dir : Place) (x : List ℕ) (from : Names) → from ≡ dir.from ++ x ∷ [] → IfSome told (λ s. is_some (s (dir.from ++ x ∷ [])) ≡ true) → IfErr r (λ e. IsChanged e → IfSome told (λ s. IsTree s → IsThere s from → ⊥)) → IfErr r (λ e. IsChanged e → IfSome told (λ s. IsTree s → ⊥))
child_kept (Ok y) told dir x from f t h = tt
child_kept (Err e) None dir x from f t h = λ c. tt
child_kept (Err e) (Some s) dir x from f t h = λ c v. h c v (there_at s (dir.from ++ x ∷ []) from f t)

node_shown : (n : Node) → refused_status (seen_node (Some n)) ≡ None
node_shown (Dir a) = refl
node_shown (File b a) = refl

pub look_kept : (told : Option Tree) (p : Names) → IfSome told (λ s. refused_status (seen s p) ≡ None → ⊥) → IfSome told (λ s. IsTree s → IsThere s p → ⊥)
look_kept None p h = tt
look_kept (Some s) p h = λ v n. h (ap refused_status (seen_from-there s [] p n.0 v n.1) ∙ node_shown n.0)

pub names_kept : (told : Option Tree) (p q : Names) → p ≡ q → IfSome told (λ s. seen s p ≡ seen_as.Dir → ⊥) → IfSome told (λ s. IsTree s → IsDirAt s q → ⊥)
names_kept None p q e h = tt
names_kept (Some s) p q e h = λ v d. h (seen_from-there s [] p (Dir d.0) v (ap s e ∙ d.1))

-- a directory that was listed is one
dir_node : (node : Node) → (status_of node).dir ≡ true → (a : Attributes) × (node ≡ Dir a)
dir_node (Dir a) h = (a, refl)
dir_node (File b a) h = cc

dir_there : (s : Tree) (entry : Entry) (p : Names) → entry.from ≡ p → entry.dir ≡ true → IsShown s entry → IsDirAt s p
dir_there s entry p f d i =
    let k = dir_node i.node (sym (ap (λ (e : Entry). e.dir) i.is) ∙ d) in
    (k.0, ap s (sym f) ∙ i.stands ∙ ap Some k.1)

pub place_kept : {T : Type 0} (r : Result T ListError) (told : Option Tree) (place : Place) (old new : List Entry) (p : Names) → p ≡ place.from → GainsEntry told place true old new → IfErr r (λ e. IsChanged e → IfSome told (λ s. IsTree s → IsDirAt s p → ⊥)) → IfErr r (λ e. IsChanged e → IfSome told (λ s. IsTree s → IsThere s place.from → ⊥))
place_kept (Ok y) told place old new p f g h = tt
place_kept (Err e) told place old new p f g h = λ c. by told g.shown (h c)
  where
    by : (told : Option Tree) → IfSome told (λ s. IsShown s g.entry) → IfSome told (λ s. IsTree s → IsDirAt s p → ⊥) → IfSome told (λ s. IsTree s → IsThere s place.from → ⊥)
    by None i h = tt
    by (Some s) i h = λ v n. h v (dir_there s g.entry p (g.from ∙ sym f) g.dir_is i)

-- each name in a directory stands there
pub name_stands : (told : Option Tree) (from : Names) (names : Names) (i : ℕ) (x : List ℕ) → i < length names → x ≡ get_or names i [] → IfSome told (λ s. AreNames s from names) → IfSome told (λ s. is_some (s (from ++ x ∷ [])) ≡ true)
name_stands None from names i x l e a = tt
name_stands (Some s) from names i x l e a = second_so (is_shown x) (is_some (s (from ++ x ∷ []))) (sym (a x) ∙ list_any_at (same_name x) names i [] l (ap (same_name x) (sym e) ∙ same_name-refl x))

-- a path with a name more, within the limits, is one longer
pub longer_fits : (p : Names) (x : List ℕ) → fits (p ++ x ∷ []) ≡ true → length p + 1 ≤ 256
longer_fits p x h = let l = length-append p (x ∷ []) in let k = first_so (nat_le (length (p ++ x ∷ [])) 256) (nat_le (length (joined (p ++ x ∷ []))) 4096) h in grind (arith, nat_tests, l, k)

pub length-push : (p : Names) (x : List ℕ) → length (p ++ x ∷ []) ≡ length p + 1
length-push p x = length-append p (x ∷ [])

pub never_dir : (told : Option Tree) (p : Names) → IfSome told (λ s. IsTree s → ⊥) → IfSome told (λ s. IsTree s → IsDirAt s p → ⊥)
never_dir None p h = tt
never_dir (Some s) p h = λ v _. h v
