-- What a walk of a root has added, and where it stops: at the root, and below it.
use Rattle.std.proofs.Common.{◌≡◌, ℕ, ◌≤◌, List, [], ◌∷◌, ◌++◌, length, Bool, true, false, not, ◌&&◌, ◌||◌, nat_le, Option, Some, None, IfSome, Result, Ok, Err, IfErr, refl, sym, ◌∙◌, ap, subst, append-nil, arith}
use Rattle.std.proofs.Math.Bool.{and-false, or-true}
use Rattle.std.proofs.lemmas.Bool.Decides.{nat_tests}
use Rattle.std.proofs.lemmas.List.Elements.{All-nil}
use Rattle.std.specs.Cmp.{first_so, second_so}
use Rattle.std.specs.Option.{is_some, option_map}
use Rattle.dc_path.specs.Paths.{Names, IsWithin, is_root, is_under, joined, fits}
use Rattle.dc_path.proofs.LimitLemmas.{front_within}
use Rattle.dc_path.proofs.PathLemmas.{append-cut, some_rest}
use Rattle.dc_path.proofs.PathOrder.{path_lt-root}
use Rattle.dc_attrs.specs.Trees.{Tree, Node, Dir, File, IsTree, IsDirAt, IsThere, is_dir_node}
use Rattle.dc_fs.specs.Looks.{IsStatusOf, status_of}
use Rattle.dc_fs.specs.declared.store.Status.{Status}
use Rattle.dc_listing.specs.Entries.{Entry, entry_with}
use Rattle.dc_listing.specs.Errors.{is_of_add, is_of_names, IsChanged}
use Rattle.dc_listing.specs.Listed.{Rules, is_left_out, is_missed, is_bare, is_barred_root, is_listed, is_met, past}
use Rattle.dc_listing.specs.Walks.{Gains, IsShown, IsFirstPast, IsLimit, IsPastOn, Lists, Walks, is_before, max_items}
use Rattle.dc_listing.specs.Walking.{place_in, is_below, GainsEntry, IsLimitBelow, WalksPart}
use Rattle.dc_listing.specs.declared.item.Root.{Root}
use Rattle.dc_listing.specs.declared.item.ListError.{ListError}
use Rattle.dc_listing.specs.declared.item.ListError.TheVariants as list_error
use Rattle.dc_listing.proofs.GainLemmas.{adds_none}
use Rattle.dc_listing.proofs.TopLemmas.{listed_from, met_from, past_from, bare_is_open, bare_lists, item_is_open, item_lists, adds_root, root_listed, root_past}

-- ---- limits
pub within_fits : (p : Names) → IsWithin p → fits p ≡ true
within_fits p h = let a = h.few in let b = h.short in grind (arith, nat_tests, a, b)

fits_within : (p : Names) → fits p ≡ true → IsWithin p
fits_within p h = let a = first_so (nat_le (length p) 256) (nat_le (length (joined p)) 4096) h in let b = second_so (nat_le (length p) 256) (nat_le (length (joined p)) 4096) h in record { few = grind (arith, nat_tests, a); short = grind (arith, nat_tests, b) }

-- what has a front past the limits passes them
front_past : (p q : Names) → fits p ≡ false → fits (p ++ q) ≡ false
front_past p q h = by (fits (p ++ q)) refl
  where
    by : (b : Bool) → fits (p ++ q) ≡ b → b ≡ false
    by false e = refl
    by true e = sym (within_fits p (front_within p q (fits_within (p ++ q) e))) ∙ h

under_past : (p q : Names) → is_under p q ≡ true → fits p ≡ false → fits q ≡ false
under_past p q u h = let k = some_rest _ u in ap fits (append-cut p q k.0 k.1) ∙ front_past p k.0 h

pub first_past_fails : (path parent : Names) (name : List ℕ) → IsFirstPast path parent name → fits path ≡ false
first_past_fails path parent name i = under_past (parent ++ name ∷ []) path i.front i.passes.past

-- ---- a root that is left out
shut : (a b c : Bool) → b ≡ true → (a && (not b && c)) ≡ false
shut true true c e = refl
shut false true c e = refl
shut a false c e = cc

barred_listed : (rules : Rules) (s : Tree) (root : Root) (q : Names) → is_barred_root rules s root ≡ true → is_listed rules s root q ≡ false
barred_listed rules s root [] e = shut (is_some (s root.source)) (is_barred_root rules s root) (not (is_bare s root)) e
barred_listed rules s root (x ∷ r) e = shut (is_some (s (root.source ++ x ∷ r))) (is_barred_root rules s root) (not (is_left_out rules root.source root.prefix (x ∷ r))) e

barred_past : (rules : Rules) (s : Tree) (root : Root) (base : Names) (q : Names) → is_barred_root rules s root ≡ true → fits root.source ≡ true → is_met rules s root q ≡ true → past rules s root base q ≡ None
barred_past rules s root base [] e f m = rw (append-nil root.source, f, barred_listed rules s root [] e) refl
barred_past rules s root base (x ∷ r) e f m = let k : false ≡ true = sym (shut (is_some (s (root.source ++ x ∷ r))) (is_barred_root rules s root) (not (is_missed rules root.source root.prefix (x ∷ r))) e) ∙ m in cc

pub barred_lists : (rules : Rules) (s : Tree) (root : Root) (base : Names) (old : List Entry) → is_barred_root rules s root ≡ true → fits root.source ≡ true → Lists rules s root base None old old
barred_lists rules s root base old e f = record {
  rests = [];
  added = [];
  adds = adds_none root.source root.prefix base old;
  listed = λ q. sym (ap (λ b. b && true) (barred_listed rules s root q e));
  shown = All-nil (IsShown s);
  within = λ q m b. barred_past rules s root base q e f m;
}

pub without_barred : (rules : Rules) (s : Tree) (root : Root) → rules.without root.prefix ≡ true → is_barred_root rules s root ≡ true
without_barred rules s root e = ap (λ b. b || (not (is_bare s root) && rules.excluded root.source)) e

pub excluded_barred : (rules : Rules) (s : Tree) (root : Root) → is_bare s root ≡ false → rules.excluded root.source ≡ true → is_barred_root rules s root ≡ true
excluded_barred rules s root e f = ap (λ b. rules.without root.prefix || (not b && rules.excluded root.source)) e ∙ ap (λ c. rules.without root.prefix || c) f ∙ or-true (rules.without root.prefix)

-- ---- a walk that stops at the root
pub root_stops : (rules : Rules) (s : Tree) (root : Root) (base : Names) (old : List Entry) → Lists rules s root base (Some []) old old
root_stops rules s root base old = record {
  rests = [];
  added = [];
  adds = adds_none root.source root.prefix base old;
  listed = λ q. sym (ap (λ b. is_listed rules s root q && b) (path_lt-root q) ∙ and-false (is_listed rules s root q));
  shown = All-nil (IsShown s);
  within = λ q m b. let k : false ≡ true = sym (path_lt-root q) ∙ b in cc;
}

-- ---- a walk that stops below the root
limit_from : (e : ListError) (rules : Rules) (s : Tree) (root : Root) (base : Names) (x : List ℕ) (r : Names) (new : List Entry) → is_barred_root rules s root ≡ false → IsLimitBelow e rules s (place_in root None) base (x ∷ r) new → IsLimit e rules s root base (x ∷ r) new
limit_from (list_error.NoSource path) rules s root base x r new o l = l
limit_from (list_error.Duplicate a b c) rules s root base x r new o l = l
limit_from list_error.TooMany rules s root base x r new o l = (listed_from rules s root x r o ∙ l.0, past_from rules s root base x r o ∙ l.1, l.2)
limit_from (list_error.TooLong parent name) rules s root base x r new o l = (met_from rules s root x r o ∙ l.0, l.1, past_from rules s root base x r o ∙ l.2, l.3)
limit_from (list_error.Changed path) rules s root base x r new o l = tt
limit_from list_error.Fault rules s root base x r new o l = tt
limit_from list_error.Memory rules s root base x r new o l = tt

limit_at : (e : ListError) (rules : Rules) (s : Tree) (root : Root) (base stop : Names) (new : List Entry) → is_barred_root rules s root ≡ false → is_below stop ≡ true → IsLimitBelow e rules s (place_in root None) base stop new → IsLimit e rules s root base stop new
limit_at e rules s root base [] new o b l = cc
limit_at e rules s root base (x ∷ r) new o b l = limit_from e rules s root base x r new o l

-- ---- a directory that is itself put at the target
pub bare_walks : {T : Type 0} (result : Result T ListError) (rules : Rules) (s : Tree) (root : Root) (base : Names) (old new : List Entry) → IsTree s → rules.without root.prefix ≡ false → is_bare s root ≡ true → fits root.source ≡ true → WalksPart (Some s) rules (place_in root None) base is_below result old new → Walks rules s root base result old new
bare_walks (Ok y) rules s root base old new v w b f g = bare_lists rules s root base None g.rests old new g.added w b f g.adds (g.holds v)
bare_walks (Err e) rules s root base old new v w b f g =
    (g.stop, bare_lists rules s root base (Some g.stop) g.gains.rests old new g.gains.added w b f g.gains.adds (g.gains.holds v), limit_at e rules s root base g.stop new (bare_is_open rules s root w b) g.here (g.limit v))

-- ---- a root that is an item
before_root : (stop : Names) → is_below stop ≡ true → is_before (Some stop) [] ≡ true
before_root [] h = cc
before_root (x ∷ r) h = refl

pub item_walks : {T : Type 0} (result : Result T ListError) (rules : Rules) (s : Tree) (root : Root) (base : Names) (b : Bool) (old mid new : List Entry) → IsTree s → rules.without root.prefix ≡ false → rules.excluded root.source ≡ false → is_bare s root ≡ false → fits root.source ≡ true → fits (base ++ root.prefix) ≡ true →
    GainsEntry (Some s) (place_in root None) b old mid → WalksPart (Some s) rules (place_in root None) base is_below result mid new → Walks rules s root base result old new
item_walks (Ok y) rules s root base b old mid new v w x n f p e g = item_lists rules s root base None e.entry g.rests old mid new g.added w x n f p refl e.rel e.from e.shown e.is g.inside g.adds (g.holds v)
item_walks (Err d) rules s root base b old mid new v w x n f p e g = (
  g.stop,
  item_lists rules s root base (Some g.stop) e.entry g.gains.rests old mid new g.gains.added w x n f p (before_root g.stop g.here) e.rel e.from e.shown e.is g.gains.inside g.gains.adds (g.gains.holds v),
  limit_at d rules s root base g.stop new (item_is_open rules s root w x) g.here (g.limit v),
)

-- ---- for every store
pub part_gains : {T : Type 0} (result : Result T ListError) (told : Option Tree) (rules : Rules) (root : Root) (base : Names) (part : Names → Bool) (old new : List Entry) → WalksPart told rules (place_in root None) base part result old new → Gains root base old new
part_gains (Ok y) told rules root base part old new g = record { rests = g.rests; added = g.added; adds = g.adds }
part_gains (Err e) told rules root base part old new g = record { rests = g.gains.rests; added = g.gains.added; adds = g.gains.adds }

pub item_gains : {T : Type 0} (result : Result T ListError) (told : Option Tree) (rules : Rules) (root : Root) (base : Names) (b : Bool) (old mid new : List Entry) → fits (base ++ root.prefix) ≡ true → GainsEntry told (place_in root None) b old mid → WalksPart told rules (place_in root None) base is_below result mid new → Gains root base old new
item_gains (Ok y) told rules root base b old mid new p e g = record { rests = [] ∷ g.rests; added = e.entry ∷ g.added; adds = adds_root root base e.entry g.rests old mid new g.added e.rel e.from p e.is g.inside g.adds }
item_gains (Err d) told rules root base b old mid new p e g = record { rests = [] ∷ g.gains.rests; added = e.entry ∷ g.gains.added; adds = adds_root root base e.entry g.gains.rests old mid new g.gains.added e.rel e.from p e.is g.gains.inside g.gains.adds }

pub no_gains : (root : Root) (base : Names) (old : List Entry) → Gains root base old old
no_gains root base old = record { rests = []; added = []; adds = adds_none root.source root.prefix base old }

-- ---- what a look has shown
shown_node : (node : Option Node) (status : Status) → option_map status_of node ≡ Some status → (n : Node) × (node ≡ Some n) × (status_of n ≡ status)
shown_node None status e = cc
shown_node (Some n) status e = (n, refl, cc)

pub status_shown : (s : Tree) (root : Root) (status : Status) → IsStatusOf (s root.source) status → IsShown s (entry_with root.prefix root.source status)
status_shown s root status h = let k = shown_node (s root.source) status h in record { node = k.0; stands = k.1; is = ap (λ (t : Status). entry_with root.prefix root.source t) (sym k.2) }

pub status_gains : (told : Option Tree) (root : Root) (status : Status) (old new : List Entry) → new ≡ old ++ entry_with root.prefix root.source status ∷ [] → IfSome told (λ s. IsStatusOf (s root.source) status) → GainsEntry told (place_in root None) status.dir old new
status_gains told root status old new e h = record { entry = entry_with root.prefix root.source status; is = e; rel = refl; from = refl; dir_is = refl; shown = by told h }
  where
    by : (told : Option Tree) → IfSome told (λ s. IsStatusOf (s root.source) status) → IfSome told (λ s. IsShown s (entry_with root.prefix root.source status))
    by None h = tt
    by (Some s) h = status_shown s root status h

node_dir : (n : Node) → is_dir_node (Some n) ≡ (status_of n).dir
node_dir (Dir a) = refl
node_dir (File b a) = refl

pub status_bare : (s : Tree) (root : Root) (status : Status) → IsStatusOf (s root.source) status → is_bare s root ≡ (is_root root.prefix && status.dir)
status_bare s root status h = let k = shown_node (s root.source) status h in ap (λ b. is_root root.prefix && b) (ap is_dir_node k.1 ∙ node_dir k.0 ∙ ap (λ (t : Status). t.dir) k.2)

dir_of : (n : Node) → (status_of n).dir ≡ true → IsDirAt (λ _. Some n) []
dir_of (Dir a) h = (a, refl)
dir_of (File b a) h = cc

pub status_dir : (s : Tree) (p : Names) (status : Status) → IsStatusOf (s p) status → status.dir ≡ true → IsDirAt s p
status_dir s p status h d = let k = shown_node (s p) status h in let a = dir_of k.0 (ap (λ (t : Status). t.dir) k.2 ∙ d) in (a.0, k.1 ∙ a.1)

-- ---- the same, of a tree that is told or not
stop_here : (e : ListError) (told : Option Tree) (rules : Rules) (root : Root) (base : Names) (old : List Entry) → IfSome told (λ s. IsLimit e rules s root base [] old) → IfSome told (λ s. IsTree s → Walks {A = ℕ} rules s root base (Err e) old old)
stop_here e None rules root base old h = tt
stop_here e (Some s) rules root base old h = λ v. ([], root_stops rules s root base old, h)

pub memory_stops : (told : Option Tree) (rules : Rules) (root : Root) (base : Names) (old : List Entry) → IfSome told (λ s. IsTree s → Walks {A = ℕ} rules s root base (Err list_error.Memory) old old)
memory_stops told rules root base old = stop_here list_error.Memory told rules root base old (by told)
  where
    by : (told : Option Tree) → IfSome told (λ s. IsLimit list_error.Memory rules s root base [] old)
    by None = tt
    by (Some s) = tt

-- what is known of a root that is an item, once the filter was asked
pub record IsItemRoot (rules : Rules) (s : Tree) (root : Root) : Type 0 where
  pub there : is_some (s root.source) ≡ true
  pub kept : rules.without root.prefix ≡ false
  pub asked : rules.excluded root.source ≡ false
  pub item : is_bare s root ≡ false
  pub within : fits root.source ≡ true

pub item_root : (rules : Rules) (s : Tree) (root : Root) (status : Status) → IsStatusOf (s root.source) status → rules.without root.prefix ≡ false → rules.excluded root.source ≡ false → (is_root root.prefix && status.dir) ≡ false → fits root.source ≡ true → IsItemRoot rules s root
item_root rules s root status h w x d f =
    let k = shown_node (s root.source) status h in
    record { there = ap is_some k.1; kept = w; asked = x; item = status_bare s root status h ∙ d; within = f }

pub told_root : (told : Option Tree) (rules : Rules) (root : Root) (status : Status) → IfSome told (λ s. IsStatusOf (s root.source) status) → rules.without root.prefix ≡ false → rules.excluded root.source ≡ false → (is_root root.prefix && status.dir) ≡ false → fits root.source ≡ true → IfSome told (λ s. IsItemRoot rules s root)
told_root None rules root status h w x d f = tt
told_root (Some s) rules root status h w x d f = item_root rules s root status h w x d f

met_root : (a b : Bool) → a ≡ true → b ≡ false → (a && not b) ≡ true
met_root true false e f = refl
met_root true true e f = cc
met_root false b e f = cc

top_listed : (rules : Rules) (s : Tree) (root : Root) → IsItemRoot rules s root → is_listed rules s root [] ≡ true
top_listed rules s root i = root_listed rules s root i.there (item_is_open rules s root i.kept i.asked) i.item

top_past : (rules : Rules) (s : Tree) (root : Root) (base : Names) → IsItemRoot rules s root → fits (base ++ root.prefix) ≡ false → past rules s root base [] ≡ Some (base ++ root.prefix)
top_past rules s root base i p = rw (append-nil root.source, append-nil root.prefix, i.within, top_listed rules s root i, p) refl

-- its place passes the limits
long_root : (e : ListError) (rules : Rules) (s : Tree) (root : Root) (base : Names) (old : List Entry) → IsItemRoot rules s root → IsPastOn e (base ++ root.prefix) → IsLimit e rules s root base [] old
long_root (list_error.NoSource path) rules s root base old i p = p
long_root (list_error.Duplicate a b c) rules s root base old i p = p
long_root list_error.TooMany rules s root base old i p = absurd p
long_root (list_error.TooLong parent name) rules s root base old i p = (met_root (is_some (s root.source)) (rules.without root.prefix) i.there i.kept, base ++ root.prefix, top_past rules s root base i (first_past_fails (base ++ root.prefix) parent name p), p)
long_root (list_error.Changed path) rules s root base old i p = tt
long_root list_error.Fault rules s root base old i p = tt
long_root list_error.Memory rules s root base old i p = tt

pub long_stops : (e : ListError) (told : Option Tree) (rules : Rules) (root : Root) (base : Names) (old : List Entry) → IfSome told (λ s. IsItemRoot rules s root) → IsPastOn e (base ++ root.prefix) → IfSome told (λ s. IsTree s → Walks {A = ℕ} rules s root base (Err e) old old)
long_stops e told rules root base old i p = stop_here e told rules root base old (by told i)
  where
    by : (told : Option Tree) → IfSome told (λ s. IsItemRoot rules s root) → IfSome told (λ s. IsLimit e rules s root base [] old)
    by None i = tt
    by (Some s) i = long_root e rules s root base old i p

-- the list has no room for it
full_root : (e : ListError) (rules : Rules) (s : Tree) (root : Root) (base : Names) (old : List Entry) → IsItemRoot rules s root → fits (base ++ root.prefix) ≡ true → is_of_add e ≡ true → (e ≡ list_error.TooMany → max_items ≤ length old) → IsLimit e rules s root base [] old
full_root (list_error.NoSource path) rules s root base old i p k f = cc
full_root (list_error.Duplicate a b c) rules s root base old i p k f = cc
full_root list_error.TooMany rules s root base old i p k f = (top_listed rules s root i, root_past rules s root base (top_listed rules s root i) i.within p, f refl)
full_root (list_error.TooLong parent name) rules s root base old i p k f = cc
full_root (list_error.Changed path) rules s root base old i p k f = cc
full_root list_error.Fault rules s root base old i p k f = cc
full_root list_error.Memory rules s root base old i p k f = tt

pub full_stops : (e : ListError) (told : Option Tree) (rules : Rules) (root : Root) (base : Names) (old new : List Entry) → new ≡ old → IfSome told (λ s. IsItemRoot rules s root) → fits (base ++ root.prefix) ≡ true → is_of_add e ≡ true → (e ≡ list_error.TooMany → max_items ≤ length old) → IfSome told (λ s. IsTree s → Walks {A = ℕ} rules s root base (Err e) old new)
full_stops e told rules root base old new n i p k f = subst (λ (es : List Entry). IfSome told (λ s. IsTree s → Walks {A = ℕ} rules s root base (Err e) old es)) (sym n) (stop_here e told rules root base old (by told i))
  where
    by : (told : Option Tree) → IfSome told (λ s. IsItemRoot rules s root) → IfSome told (λ s. IsLimit e rules s root base [] old)
    by None i = tt
    by (Some s) i = full_root e rules s root base old i p k f

-- it was added
pub item_told : {T : Type 0} (result : Result T ListError) (told : Option Tree) (rules : Rules) (root : Root) (base : Names) (b : Bool) (old mid new : List Entry) → IfSome told (λ s. IsItemRoot rules s root) → fits (base ++ root.prefix) ≡ true → GainsEntry told (place_in root None) b old mid → WalksPart told rules (place_in root None) base is_below result mid new → IfSome told (λ s. IsTree s → Walks rules s root base result old new)
item_told result None rules root base b old mid new i p e g = tt
item_told result (Some s) rules root base b old mid new i p e g = λ v. item_walks result rules s root base b old mid new v i.kept i.asked i.item i.within p e g

-- it is excluded, or left out
pub excluded_told : (told : Option Tree) (rules : Rules) (root : Root) (base : Names) (status : Status) (old : List Entry) → IfSome told (λ s. IsStatusOf (s root.source) status) → (is_root root.prefix && status.dir) ≡ false → rules.excluded root.source ≡ true → fits root.source ≡ true → IfSome told (λ s. IsTree s → Lists rules s root base None old old)
excluded_told None rules root base status old h d x f = tt
excluded_told (Some s) rules root base status old h d x f = λ v. barred_lists rules s root base old (excluded_barred rules s root (status_bare s root status h ∙ d) x) f

-- ---- the entry that was added, and what is below it
pub added_at : (root : Root) (status : Status) (rel from : Names) (old new : List Entry) → rel ≡ root.prefix → from ≡ root.source → new ≡ old ++ entry_with rel from status ∷ [] → new ≡ old ++ entry_with root.prefix root.source status ∷ []
added_at root status rel from old new r f e = e ∙ ap (λ (p : Names). old ++ entry_with p from status ∷ []) r ∙ ap (λ (p : Names). old ++ entry_with root.prefix p status ∷ []) f

pub dir_kept : {T : Type 0} (result : Result T ListError) (told : Option Tree) (root : Root) (status : Status) → IfSome told (λ s. IsStatusOf (s root.source) status) → status.dir ≡ true → IfErr result (λ e. IsChanged e → IfSome told (λ s. IsTree s → IsDirAt s root.source → ⊥)) → IfErr result (λ e. IsChanged e → IfSome told (λ s. IsTree s → ⊥))
dir_kept (Ok y) told root status h d k = tt
dir_kept (Err e) told root status h d k = λ c. by told h (k c)
  where
    by : (told : Option Tree) → IfSome told (λ s. IsStatusOf (s root.source) status) → IfSome told (λ s. IsTree s → IsDirAt s root.source → ⊥) → IfSome told (λ s. IsTree s → ⊥)
    by None h k = tt
    by (Some s) h k = λ v. k v (status_dir s root.source status h d)

-- ---- a root that is no item
pub without_told : (told : Option Tree) (rules : Rules) (root : Root) (base : Names) (old : List Entry) → rules.without root.prefix ≡ true → fits root.source ≡ true → IfSome told (λ s. IsTree s → Lists rules s root base None old old)
without_told None rules root base old w f = tt
without_told (Some s) rules root base old w f = λ v. barred_lists rules s root base old (without_barred rules s root w) f

unseen_limit : (e : ListError) (rules : Rules) (s : Tree) (root : Root) (base : Names) (old : List Entry) → is_of_names e ≡ true → IsLimit e rules s root base [] old
unseen_limit (list_error.NoSource path) rules s root base old k = cc
unseen_limit (list_error.Duplicate a b c) rules s root base old k = cc
unseen_limit list_error.TooMany rules s root base old k = cc
unseen_limit (list_error.TooLong parent name) rules s root base old k = cc
unseen_limit (list_error.Changed path) rules s root base old k = tt
unseen_limit list_error.Fault rules s root base old k = tt
unseen_limit list_error.Memory rules s root base old k = tt

pub unseen_stops : (e : ListError) (told : Option Tree) (rules : Rules) (root : Root) (base : Names) (old : List Entry) → is_of_names e ≡ true → IfSome told (λ s. IsTree s → Walks {A = ℕ} rules s root base (Err e) old old)
unseen_stops e told rules root base old k = stop_here e told rules root base old (by told)
  where
    by : (told : Option Tree) → IfSome told (λ s. IsLimit e rules s root base [] old)
    by None = tt
    by (Some s) = unseen_limit e rules s root base old k

pub bare_told : {T : Type 0} (result : Result T ListError) (told : Option Tree) (rules : Rules) (root : Root) (base : Names) (status : Status) (old new : List Entry) → IfSome told (λ s. IsStatusOf (s root.source) status) → rules.without root.prefix ≡ false → (is_root root.prefix && status.dir) ≡ true → fits root.source ≡ true → WalksPart told rules (place_in root None) base is_below result old new → IfSome told (λ s. IsTree s → Walks rules s root base result old new)
bare_told result None rules root base status old new h w b f g = tt
bare_told result (Some s) rules root base status old new h w b f g = λ v. bare_walks result rules s root base old new v w (status_bare s root status h ∙ b) f g

pub never_there : {T : Type 0} (result : Result T ListError) (told : Option Tree) (p : Names) → IfErr result (λ e. IsChanged e → IfSome told (λ s. IsTree s → ⊥)) → IfErr result (λ e. IsChanged e → IfSome told (λ s. IsTree s → IsThere s p → ⊥))
never_there (Ok y) told p k = tt
never_there (Err e) None p k = λ c. tt
never_there (Err e) (Some s) p k = λ c v t. k c v

pub bare_within : (base prefix : Names) (d : Bool) → (is_root prefix && d) ≡ true → fits base ≡ true → fits (base ++ prefix) ≡ true
bare_within base [] d h f = ap fits (append-nil base) ∙ f
bare_within base (x ∷ p) d h f = cc
