-- What a part of a directory holds: nothing, one name with what is under it, one name more, all names.
use Rattle.std.proofs.Common.{◌≡◌, List, [], ◌∷◌, ◌++◌, Bool, true, false, not, ◌&&◌, ◌||◌, ℕ, Option, Some, None, refl, sym, ◌∙◌, ap, subst, append_assoc}
use Rattle.std.proofs.lemmas.List.Folds.{list_any-append}
use Rattle.std.proofs.lemmas.List.Elements.{All-nil, All-cons, All-append}
use Rattle.std.specs.List.{list_any}
use Rattle.std.specs.Option.{is_some, option_map}
use Rattle.dc_path.specs.Found.{has_path}
use Rattle.dc_path.specs.Names.{same_name}
use Rattle.dc_path.specs.Order.{name_lt, path_lt}
use Rattle.dc_path.specs.Paths.{Names, same_path, fits}
use Rattle.dc_path.proofs.PathLemmas.{NameCase, same, other, name_case, same_name-refl, same_name-flip}
use Rattle.dc_path.proofs.PathOrder.{path_lt-below, path_lt-root}
use Rattle.dc_attrs.specs.Trees.{Tree, snapshot}
use Rattle.dc_fs.specs.Looks.{is_shown}
use Rattle.dc_listing.specs.Entries.{Entry}
use Rattle.dc_listing.specs.Listed.{Rules, is_barred, is_left_out, is_missed, past_at}
use Rattle.dc_listing.specs.Walks.{IsShown, is_before}
use Rattle.dc_listing.specs.Walking.{child_of, listed_below, met_below, past_below, is_below, is_in, Holds}
use Rattle.dc_listing.specs.declared.walking.Place.{Place}
use Rattle.dc_listing.proofs.Ascending.{has_path-under, has_path-under-root, under}

-- ---- what is listed is met
one_left : (a b c : Bool) → (a || ((b || c) || false)) ≡ false → (a || b) ≡ false
one_left true b c h = cc
one_left false true c h = cc
one_left false false c h = refl

more_left : (a b c d : Bool) → (c ≡ false → d ≡ false) → (a || (b || c)) ≡ false → (a || (b || d)) ≡ false
more_left true b c d ih h = cc
more_left false true c d ih h = cc
more_left false false c d ih h = ih h

left_missed : (rules : Rules) (from rel q : Names) → is_left_out rules from rel q ≡ false → is_missed rules from rel q ≡ false
left_missed rules from rel [] h = refl
left_missed rules from rel (x ∷ []) h = one_left (same_name snapshot x) (rules.without (rel ++ x ∷ [])) (rules.excluded (from ++ x ∷ [])) h
left_missed rules from rel (x ∷ y ∷ q) h = more_left (same_name snapshot x) (is_barred rules (from ++ x ∷ []) (rel ++ x ∷ [])) (is_left_out rules (from ++ x ∷ []) (rel ++ x ∷ []) (y ∷ q)) (is_missed rules (from ++ x ∷ []) (rel ++ x ∷ []) (y ∷ q)) (left_missed rules (from ++ x ∷ []) (rel ++ x ∷ []) (y ∷ q)) h

met_by : (a b c : Bool) → (b ≡ false → c ≡ false) → (a && not b) ≡ true → (a && not c) ≡ true
met_by true true c h k = cc
met_by true false c h k = ap not (h refl)
met_by false b c h k = cc

pub listed_met : (rules : Rules) (s : Tree) (dir : Place) (q : Names) → listed_below rules s dir q ≡ true → met_below rules s dir q ≡ true
listed_met rules s dir [] h = cc
listed_met rules s dir (x ∷ q) h = met_by (is_some (s (dir.from ++ x ∷ q))) (is_left_out rules dir.from dir.rel (x ∷ q)) (is_missed rules dir.from dir.rel (x ∷ q)) (left_missed rules dir.from dir.rel (x ∷ q)) h

-- ---- a name that is not left out: what is below it is the same from there
pub record IsOpen (rules : Rules) (dir : Place) (x : List ℕ) : Type 0 where
  pub shown : is_shown x ≡ true
  pub kept : rules.without (dir.rel ++ x ∷ []) ≡ false
  pub asked : rules.excluded (dir.from ++ x ∷ []) ≡ false

there_below : (s : Tree) (from : Names) (x : List ℕ) (q : Names) → s (from ++ x ∷ q) ≡ s ((from ++ x ∷ []) ++ q)
there_below s from x q = ap s (sym (append_assoc from (x ∷ []) q))

below_at : (a b c d e m : Bool) → d ≡ e → not a ≡ true → b ≡ false → c ≡ false → (d && not (a || ((b || c) || m))) ≡ (e && not m)
below_at true b c d e m t f g h = cc
below_at false true c d e m t f g h = cc
below_at false false true d e m t f g h = cc
below_at false false false d e m t f g h = ap (λ k. k && not m) t

pub listed_same : (rules : Rules) (s : Tree) (dir : Place) (x z : List ℕ) (q : Names) → IsOpen rules dir x → listed_below rules s dir (x ∷ z ∷ q) ≡ listed_below rules s (child_of dir x) (z ∷ q)
listed_same rules s dir x z q o = below_at (same_name snapshot x) (rules.without (dir.rel ++ x ∷ [])) (rules.excluded (dir.from ++ x ∷ [])) _ _ _ (ap is_some (there_below s dir.from x (z ∷ q))) o.shown o.kept o.asked

pub met_same : (rules : Rules) (s : Tree) (dir : Place) (x z : List ℕ) (q : Names) → IsOpen rules dir x → met_below rules s dir (x ∷ z ∷ q) ≡ met_below rules s (child_of dir x) (z ∷ q)
met_same rules s dir x z q o = below_at (same_name snapshot x) (rules.without (dir.rel ++ x ∷ [])) (rules.excluded (dir.from ++ x ∷ [])) _ _ _ (ap is_some (there_below s dir.from x (z ∷ q))) o.shown o.kept o.asked

pub past_same : (rules : Rules) (s : Tree) (dir : Place) (base : Names) (x z : List ℕ) (q : Names) → IsOpen rules dir x → past_below rules s dir base (x ∷ z ∷ q) ≡ past_below rules s (child_of dir x) base (z ∷ q)
past_same rules s dir base x z q o =
    ap (λ (b : Bool). past_at (dir.from ++ x ∷ z ∷ q) b (base ++ (dir.rel ++ x ∷ z ∷ q))) (listed_same rules s dir x z q o)
    ∙ ap (λ (p : Names). past_at p (listed_below rules s (child_of dir x) (z ∷ q)) (base ++ (dir.rel ++ x ∷ z ∷ q))) (sym (append_assoc dir.from (x ∷ []) (z ∷ q)))
    ∙ ap (λ (p : Names). past_at ((dir.from ++ x ∷ []) ++ z ∷ q) (listed_below rules s (child_of dir x) (z ∷ q)) (base ++ p)) (sym (append_assoc dir.rel (x ∷ []) (z ∷ q)))

-- the name itself
here_at : (a b c d : Bool) → d ≡ true → not a ≡ true → b ≡ false → c ≡ false → (d && not (a || ((b || c) || false))) ≡ true
here_at true b c d t f g h = cc
here_at false true c d t f g h = cc
here_at false false true d t f g h = cc
here_at false false false d t f g h = ap (λ k. k && true) t

pub listed_here : (rules : Rules) (s : Tree) (dir : Place) (x : List ℕ) → IsOpen rules dir x → is_some (s (dir.from ++ x ∷ [])) ≡ true → listed_below rules s dir (x ∷ []) ≡ true
listed_here rules s dir x o t = here_at (same_name snapshot x) (rules.without (dir.rel ++ x ∷ [])) (rules.excluded (dir.from ++ x ∷ [])) (is_some (s (dir.from ++ x ∷ []))) t o.shown o.kept o.asked

pub past_here : (rules : Rules) (s : Tree) (dir : Place) (base : Names) (x : List ℕ) → IsOpen rules dir x → is_some (s (dir.from ++ x ∷ [])) ≡ true → fits (dir.from ++ x ∷ []) ≡ true → fits (base ++ (dir.rel ++ x ∷ [])) ≡ true → past_below rules s dir base (x ∷ []) ≡ None
past_here rules s dir base x o t f p = rw (f, listed_here rules s dir x o t, p) refl

-- ---- nothing
pub holds_none : (rules : Rules) (s : Tree) (dir : Place) (base : Names) (part : Names → Bool) (stop : Option Names) →
    ((q : Names) → part q ≡ true → met_below rules s dir q ≡ true → is_before stop q ≡ true → (listed_below rules s dir q ≡ false) × (past_below rules s dir base q ≡ None)) → Holds rules s dir base part stop [] []
holds_none rules s dir base part stop h = record {
  listed = λ q. nothing q (part q) (listed_below rules s dir q) (is_before stop q) refl refl refl;
  shown = All-nil (IsShown s);
  within = λ q a b c. (h q a b c).1;
}
  where
    nothing : (q : Names) (a b c : Bool) → part q ≡ a → listed_below rules s dir q ≡ b → is_before stop q ≡ c → false ≡ (a && (b && c))
    nothing q true true true e f g = sym (h q e (listed_met rules s dir q f) g).0 ∙ f
    nothing q true true false e f g = refl
    nothing q true false c e f g = refl
    nothing q false b c e f g = refl

never_met : (b : Bool) {A : Type 0} → b ≡ false → b ≡ true → A
never_met true e f = cc
never_met false e f = cc

-- ---- at and under one name
pub in_one : (x : List ℕ) (q : Names) → is_in (x ∷ []) q ≡ true → (r : Names) × (q ≡ x ∷ r)
in_one x [] h = cc
in_one x (y ∷ r) h = by (name_case y x)
  where
    by : NameCase y x → (q : Names) × (y ∷ r ≡ x ∷ q)
    by (same e k) = (r, ap (λ (z : List ℕ). z ∷ r) k)
    by (other e k) = let f : false ≡ true = sym (ap (λ b. b || false) e) ∙ h in cc

pub one_part : (P : Names → Type 0) (x : List ℕ) → ((r : Names) → P (x ∷ r)) → (q : Names) → is_in (x ∷ []) q ≡ true → P q
one_part P x f q h = let k = in_one x q h in subst P (sym k.1) (f k.0)

or_true : (a b c : Bool) → b ≡ true → (c && not (a || b)) ≡ false
or_true true true true e = refl
or_true true true false e = refl
or_true false true true e = refl
or_true false true false e = refl
or_true a false c e = cc

without_true : (a b c d m : Bool) → b ≡ true → (d && not (a || ((b || c) || m))) ≡ false
without_true a true c d m e = or_true a true d refl
without_true a false c d m e = cc

-- a name that is left out
lost_met : (rules : Rules) (s : Tree) (dir : Place) (x : List ℕ) (r : Names) → rules.without (dir.rel ++ x ∷ []) ≡ true → met_below rules s dir (x ∷ r) ≡ false
lost_met rules s dir x [] h = or_true (same_name snapshot x) (rules.without (dir.rel ++ x ∷ [])) (is_some (s (dir.from ++ x ∷ []))) h
lost_met rules s dir x (z ∷ r) h = without_true (same_name snapshot x) (rules.without (dir.rel ++ x ∷ [])) (rules.excluded (dir.from ++ x ∷ [])) _ _ h

pub holds_lost : (rules : Rules) (s : Tree) (dir : Place) (base : Names) (x : List ℕ) → rules.without (dir.rel ++ x ∷ []) ≡ true → Holds rules s dir base (is_in (x ∷ [])) None [] []
holds_lost rules s dir base x h = holds_none rules s dir base (is_in (x ∷ [])) None
    (λ q p m b. never_met (met_below rules s dir q) (one_part (λ z. met_below rules s dir z ≡ false) x (λ r. lost_met rules s dir x r h) q p) m)

-- a name that the filter excludes
excluded_true : (a b c d m : Bool) → c ≡ true → (d && not (a || ((b || c) || m))) ≡ false
excluded_true a true true d m e = or_true a true d refl
excluded_true a false true d m e = or_true a true d refl
excluded_true a b false d m e = cc

excluded_listed : (rules : Rules) (s : Tree) (dir : Place) (x : List ℕ) (r : Names) → rules.excluded (dir.from ++ x ∷ []) ≡ true → listed_below rules s dir (x ∷ r) ≡ false
excluded_listed rules s dir x r h = excluded_true (same_name snapshot x) (rules.without (dir.rel ++ x ∷ [])) (rules.excluded (dir.from ++ x ∷ [])) _ _ h

excluded_past : (rules : Rules) (s : Tree) (dir : Place) (base : Names) (x : List ℕ) (r : Names) → rules.excluded (dir.from ++ x ∷ []) ≡ true → fits (dir.from ++ x ∷ []) ≡ true → met_below rules s dir (x ∷ r) ≡ true → past_below rules s dir base (x ∷ r) ≡ None
excluded_past rules s dir base x [] h f m = rw (f, excluded_listed rules s dir x [] h) refl
excluded_past rules s dir base x (z ∷ r) h f m = never_met (met_below rules s dir (x ∷ z ∷ r)) (excluded_true (same_name snapshot x) (rules.without (dir.rel ++ x ∷ [])) (rules.excluded (dir.from ++ x ∷ [])) _ _ h) m

pub holds_excluded : (rules : Rules) (s : Tree) (dir : Place) (base : Names) (x : List ℕ) → rules.excluded (dir.from ++ x ∷ []) ≡ true → fits (dir.from ++ x ∷ []) ≡ true → Holds rules s dir base (is_in (x ∷ [])) None [] []
holds_excluded rules s dir base x h f = holds_none rules s dir base (is_in (x ∷ [])) None
    (λ q p m b. one_part (λ z. met_below rules s dir z ≡ true → (listed_below rules s dir z ≡ false) × (past_below rules s dir base z ≡ None)) x (λ r k. (excluded_listed rules s dir x r h, excluded_past rules s dir base x r h f k)) q p m)

-- a walk that stops at the name itself
pub before_under : (x : List ℕ) (stop : Option Names) (r : Names) → is_before (option_map (λ p. x ∷ p) stop) (x ∷ r) ≡ is_before stop r
before_under x None r = refl
before_under x (Some stop) r = path_lt-below (x ∷ []) r stop

pub holds_stop : (rules : Rules) (s : Tree) (dir : Place) (base : Names) (x : List ℕ) → Holds rules s dir base (is_in (x ∷ [])) (Some (x ∷ [])) [] []
holds_stop rules s dir base x = holds_none rules s dir base (is_in (x ∷ [])) (Some (x ∷ []))
    (λ q p m b. never_met (is_before (Some (x ∷ [])) q) (one_part (λ z. is_before (Some (x ∷ [])) z ≡ false) x (λ r. before_under x (Some []) r ∙ path_lt-root r) q p) b)

-- ---- all of a directory of which nothing is known, and of what is none
name_lt-empty : (y : List ℕ) → name_lt y [] ≡ false
name_lt-empty [] = refl
name_lt-empty (a ∷ y) = refl

first_after : (y : List ℕ) (r : Names) → path_lt (y ∷ r) ([] ∷ []) ≡ false
first_after y r = rw (name_lt-empty y, path_lt-root r) (and_false (same_name y []))
  where
    and_false : (b : Bool) → (b && false) ≡ false
    and_false true = refl
    and_false false = refl

pub holds_unread : (rules : Rules) (s : Tree) (dir : Place) (base : Names) → Holds rules s dir base is_below (Some ([] ∷ [])) [] []
holds_unread rules s dir base = holds_none rules s dir base is_below (Some ([] ∷ [])) (λ q p m b. never_met (is_before (Some ([] ∷ [])) q) (late q p) b)
  where
    late : (q : Names) → is_below q ≡ true → is_before (Some ([] ∷ [])) q ≡ false
    late [] p = cc
    late (y ∷ r) p = first_after y r

pub holds_empty : (rules : Rules) (s : Tree) (dir : Place) (base : Names) → ((y : List ℕ) (r : Names) → s (dir.from ++ y ∷ r) ≡ None) → Holds rules s dir base is_below None [] []
holds_empty rules s dir base h = holds_none rules s dir base is_below None (λ q p m b. never_met (met_below rules s dir q) (unmet q) m)
  where
    unmet : (q : Names) → met_below rules s dir q ≡ false
    unmet [] = refl
    unmet (y ∷ r) = ap (λ o. is_some o && not (is_missed rules dir.from dir.rel (y ∷ r))) (h y r)

-- ---- one name, and what is under it
item_root : (x : List ℕ) (rests : List Names) → has_path ((x ∷ []) ∷ under x rests) [] ≡ false
item_root x rests = has_path-under-root x rests

item_here : (x : List ℕ) (rests : List Names) (r : Names) (t : Bool) → same_name x x ≡ true → (same_path [] r || has_path rests r) ≡ t → has_path ((x ∷ []) ∷ under x rests) (x ∷ r) ≡ ((same_name x x || false) && t)
item_here x rests r t e h = ap (λ b. (same_name x x && same_path [] r) || b) (has_path-under x x rests r) ∙ here_by (same_name x x) (same_path [] r) (has_path rests r) t e h
  where
    here_by : (a b c t : Bool) → a ≡ true → (b || c) ≡ t → ((a && b) || (a && c)) ≡ ((a || false) && t)
    here_by true b c t e h = h
    here_by false b c t e h = cc

item_apart : (x y : List ℕ) (rests : List Names) (r : Names) (t : Bool) → same_name x y ≡ false → has_path ((x ∷ []) ∷ under x rests) (y ∷ r) ≡ ((same_name y x || false) && t)
item_apart x y rests r t e = ap (λ b. (same_name x y && same_path [] r) || b) (has_path-under x y rests r) ∙ apart_by (same_name x y) (same_name y x) (same_path [] r) (has_path rests r) t e (same_name-flip y x ∙ e)
  where
    apart_by : (a d b c t : Bool) → a ≡ false → d ≡ false → ((a && b) || (a && c)) ≡ ((d || false) && t)
    apart_by true d b c t e f = cc
    apart_by false true b c t e f = cc
    apart_by false false b c t e f = refl

and_here : (a b : Bool) → a ≡ true → b ≡ true → true ≡ (a && b)
and_here true true e f = refl
and_here true false e f = cc
and_here false b e f = cc

pub holds_item : (rules : Rules) (s : Tree) (dir : Place) (base : Names) (x : List ℕ) (stop : Option Names) (rests : List Names) (entry : Entry) (added : List Entry) → IsOpen rules dir x → is_some (s (dir.from ++ x ∷ [])) ≡ true → fits (dir.from ++ x ∷ []) ≡ true → fits (base ++ (dir.rel ++ x ∷ [])) ≡ true → is_before stop [] ≡ true → IsShown s entry →
    Holds rules s (child_of dir x) base is_below stop rests added → Holds rules s dir base (is_in (x ∷ [])) (option_map (λ p. x ∷ p) stop) ((x ∷ []) ∷ under x rests) (entry ∷ added)
holds_item rules s dir base x stop rests entry added o t f p b e h = record {
  listed = λ q. listed_at q;
  shown = All-cons (IsShown s) entry added e h.shown;
  within = λ q i m c. one_part (λ z. met_below rules s dir z ≡ true → is_before (option_map (λ p. x ∷ p) stop) z ≡ true → past_below rules s dir base z ≡ None) x within_at q i m c;
}
  where
    here : (r : Names) → (same_path [] r || has_path rests r) ≡ (listed_below rules s dir (x ∷ r) && is_before (option_map (λ p. x ∷ p) stop) (x ∷ r))
    here [] = and_here _ _ (listed_here rules s dir x o t) (before_under x stop [] ∙ b)
    here (z ∷ r) = h.listed (z ∷ r) ∙ ap (λ k. k && is_before stop (z ∷ r)) (sym (listed_same rules s dir x z r o)) ∙ ap (λ k. listed_below rules s dir (x ∷ z ∷ r) && k) (sym (before_under x stop (z ∷ r)))

    by : (y : List ℕ) (r : Names) → NameCase x y → has_path ((x ∷ []) ∷ under x rests) (y ∷ r) ≡ (is_in (x ∷ []) (y ∷ r) && (listed_below rules s dir (y ∷ r) && is_before (option_map (λ p. x ∷ p) stop) (y ∷ r)))
    by y r (same e k) = subst (λ (w : List ℕ). has_path ((x ∷ []) ∷ under x rests) (w ∷ r) ≡ (is_in (x ∷ []) (w ∷ r) && (listed_below rules s dir (w ∷ r) && is_before (option_map (λ p. x ∷ p) stop) (w ∷ r)))) k (item_here x rests r _ (same_name-refl x) (here r))
    by y r (other e k) = item_apart x y rests r _ e

    listed_at : (q : Names) → has_path ((x ∷ []) ∷ under x rests) q ≡ (is_in (x ∷ []) q && (listed_below rules s dir q && is_before (option_map (λ p. x ∷ p) stop) q))
    listed_at [] = item_root x rests
    listed_at (y ∷ r) = by y r (name_case x y)

    within_at : (r : Names) → met_below rules s dir (x ∷ r) ≡ true → is_before (option_map (λ p. x ∷ p) stop) (x ∷ r) ≡ true → past_below rules s dir base (x ∷ r) ≡ None
    within_at [] m c = past_here rules s dir base x o t f p
    within_at (z ∷ r) m c = past_same rules s dir base x z r o ∙ h.within (z ∷ r) refl (sym (met_same rules s dir x z r o) ∙ m) (sym (before_under x stop (z ∷ r)) ∙ c)

-- ---- one name more
then_bool : (p q l b : Bool) → (p ≡ true → b ≡ true) → ((p && (l && true)) || (q && (l && b))) ≡ ((p || q) && (l && b))
then_bool true q true true h = refl
then_bool true q true false h = let k : false ≡ true = h refl in cc
then_bool true true false b h = refl
then_bool true false false b h = refl
then_bool false q l b h = refl

or_either : (a b : Bool) {P : Type 0} → (a || b) ≡ true → (a ≡ true → P) → (b ≡ true → P) → P
or_either true b h f g = f refl
or_either false b h f g = g h

pub holds_then : (rules : Rules) (s : Tree) (dir : Place) (base : Names) (done : Names) (x : List ℕ) (stop : Option Names) (rests more : List Names) (added last : List Entry) → ((y : List ℕ) (r : Names) → list_any (same_name y) done ≡ true → is_before stop (y ∷ r) ≡ true) →
    Holds rules s dir base (is_in done) None rests added → Holds rules s dir base (is_in (x ∷ [])) stop more last → Holds rules s dir base (is_in (done ++ x ∷ [])) stop (rests ++ more) (added ++ last)
holds_then rules s dir base done x stop rests more added last early h k = record {
  listed = λ q. list_any-append (λ p. same_path p q) rests more ∙ ap (λ b. b || has_path more q) (h.listed q) ∙ ap (λ b. (is_in done q && (listed_below rules s dir q && true)) || b) (k.listed q) ∙ both q;
  shown = All-append (IsShown s) added last h.shown k.shown;
  within = λ q i m b. within_at q i m b;
}
  where
    both : (q : Names) → ((is_in done q && (listed_below rules s dir q && true)) || (is_in (x ∷ []) q && (listed_below rules s dir q && is_before stop q))) ≡ (is_in (done ++ x ∷ []) q && (listed_below rules s dir q && is_before stop q))
    both [] = refl
    both (y ∷ r) = then_bool (list_any (same_name y) done) (list_any (same_name y) (x ∷ [])) (listed_below rules s dir (y ∷ r)) (is_before stop (y ∷ r)) (early y r) ∙ ap (λ b. b && (listed_below rules s dir (y ∷ r) && is_before stop (y ∷ r))) (sym (list_any-append (same_name y) done (x ∷ [])))

    within_at : (q : Names) → is_in (done ++ x ∷ []) q ≡ true → met_below rules s dir q ≡ true → is_before stop q ≡ true → past_below rules s dir base q ≡ None
    within_at [] i m b = cc
    within_at (y ∷ r) i m b = or_either (list_any (same_name y) done) (list_any (same_name y) (x ∷ [])) (sym (list_any-append (same_name y) done (x ∷ [])) ∙ i) (λ a. h.within (y ∷ r) a m refl) (λ a. k.within (y ∷ r) a m b)

-- ---- another part, where what is met is the same
as_bool : (p q l b : Bool) → (p ≡ true → q ≡ true) → (q ≡ true → l ≡ true → b ≡ true → p ≡ true) → (p && (l && b)) ≡ (q && (l && b))
as_bool true true l b f g = refl
as_bool true false l b f g = let k : false ≡ true = f refl in cc
as_bool false true true true f g = g refl refl refl
as_bool false true true false f g = refl
as_bool false true false b f g = refl
as_bool false false l b f g = refl

pub holds_as : (rules : Rules) (s : Tree) (dir : Place) (base : Names) (part whole : Names → Bool) (stop : Option Names) (rests : List Names) (added : List Entry) → ((q : Names) → part q ≡ true → whole q ≡ true) → ((q : Names) → whole q ≡ true → met_below rules s dir q ≡ true → is_before stop q ≡ true → part q ≡ true) → Holds rules s dir base part stop rests added → Holds rules s dir base whole stop rests added
holds_as rules s dir base part whole stop rests added f g h = record {
  listed = λ q. h.listed q ∙ as_bool (part q) (whole q) (listed_below rules s dir q) (is_before stop q) (f q) (λ w l b. g q w (listed_met rules s dir q l) b);
  shown = h.shown;
  within = λ q w m b. h.within q (g q w m b) m b;
}
