-- What a root lists, by what is below its directory.
use Rattle.std.proofs.Common.{◌≡◌, ℕ, List, [], ◌∷◌, ◌++◌, Bool, true, false, not, ◌&&◌, ◌||◌, Option, None, refl, sym, ◌∙◌, ap, append-nil, append_assoc}
use Rattle.std.proofs.lemmas.Bool.{and_from}
use Rattle.std.proofs.lemmas.List.Elements.{All-cons}
use Rattle.std.specs.List.{list_all}
use Rattle.std.specs.Option.{is_some}
use Rattle.dc_path.specs.Found.{has_path}
use Rattle.dc_path.specs.Order.{path_lt}
use Rattle.dc_path.specs.Paths.{Names, fits}
use Rattle.dc_attrs.specs.Trees.{Tree}
use Rattle.dc_listing.specs.Entries.{Entry}
use Rattle.dc_listing.specs.Listed.{Rules, is_left_out, is_missed, is_bare, is_barred_root, is_listed, is_met, past_at, past}
use Rattle.dc_listing.specs.Walks.{Adds, IsShown, Lists, is_before}
use Rattle.dc_listing.specs.Walking.{listed_below, met_below, past_below, is_below, place_in, Holds}
use Rattle.dc_listing.specs.declared.item.Root.{Root}
use Rattle.dc_listing.proofs.Ascending.{all_weaker, cons_both}

-- ---- a root that is not left out lists what is listed below it
open_root : (a b c : Bool) → b ≡ false → (a && (not b && not c)) ≡ (a && not c)
open_root a true c e = cc
open_root a false c e = refl

pub listed_from : (rules : Rules) (s : Tree) (root : Root) (x : List ℕ) (r : Names) → is_barred_root rules s root ≡ false → is_listed rules s root (x ∷ r) ≡ listed_below rules s (place_in root None) (x ∷ r)
listed_from rules s root x r e = open_root (is_some (s (root.source ++ x ∷ r))) (is_barred_root rules s root) (is_left_out rules root.source root.prefix (x ∷ r)) e

pub met_from : (rules : Rules) (s : Tree) (root : Root) (x : List ℕ) (r : Names) → is_barred_root rules s root ≡ false → is_met rules s root (x ∷ r) ≡ met_below rules s (place_in root None) (x ∷ r)
met_from rules s root x r e = open_root (is_some (s (root.source ++ x ∷ r))) (is_barred_root rules s root) (is_missed rules root.source root.prefix (x ∷ r)) e

pub past_from : (rules : Rules) (s : Tree) (root : Root) (base : Names) (x : List ℕ) (r : Names) → is_barred_root rules s root ≡ false → past rules s root base (x ∷ r) ≡ past_below rules s (place_in root None) base (x ∷ r)
past_from rules s root base x r e = ap (λ (b : Bool). past_at (root.source ++ x ∷ r) b (base ++ (root.prefix ++ x ∷ r))) (listed_from rules s root x r e)

-- ---- a directory that is itself put at the target
bare_barred : (a b c : Bool) → a ≡ false → b ≡ true → (a || (not b && c)) ≡ false
bare_barred true b c e f = cc
bare_barred false true c e f = refl
bare_barred false false c e f = cc

pub bare_is_open : (rules : Rules) (s : Tree) (root : Root) → rules.without root.prefix ≡ false → is_bare s root ≡ true → is_barred_root rules s root ≡ false
bare_is_open rules s root e f = bare_barred (rules.without root.prefix) (is_bare s root) (rules.excluded root.source) e f

no_item : (a b c : Bool) → c ≡ true → (a && (b && not c)) ≡ false
no_item true true true e = refl
no_item true false c e = refl
no_item false b c e = refl
no_item true true false e = cc

bare_no_item : (rules : Rules) (s : Tree) (root : Root) → is_bare s root ≡ true → is_listed rules s root [] ≡ false
bare_no_item rules s root e = no_item (is_some (s root.source)) (not (is_barred_root rules s root)) (is_bare s root) e

bare_past : (rules : Rules) (s : Tree) (root : Root) (base : Names) → is_bare s root ≡ true → fits root.source ≡ true → past rules s root base [] ≡ None
bare_past rules s root base e f = rw (append-nil root.source, f, bare_no_item rules s root e) refl

pub bare_lists : (rules : Rules) (s : Tree) (root : Root) (base : Names) (stop : Option Names) (rests : List Names) (old new added : List Entry) → rules.without root.prefix ≡ false → is_bare s root ≡ true → fits root.source ≡ true → Adds root.source root.prefix base rests old new added → Holds rules s (place_in root None) base is_below stop rests added → Lists rules s root base stop old new
bare_lists rules s root base stop rests old new added w e f a h = record {
  rests = rests;
  added = added;
  adds = a;
  listed = listed_at;
  shown = h.shown;
  within = within_at;
}
  where
    listed_at : (q : Names) → has_path rests q ≡ (is_listed rules s root q && is_before stop q)
    listed_at [] = h.listed [] ∙ sym (ap (λ b. b && is_before stop []) (bare_no_item rules s root e))
    listed_at (x ∷ r) = h.listed (x ∷ r) ∙ sym (ap (λ b. b && is_before stop (x ∷ r)) (listed_from rules s root x r (bare_is_open rules s root w e)))

    within_at : (q : Names) → is_met rules s root q ≡ true → is_before stop q ≡ true → past rules s root base q ≡ None
    within_at [] m b = bare_past rules s root base e f
    within_at (x ∷ r) m b = past_from rules s root base x r (bare_is_open rules s root w e) ∙ h.within (x ∷ r) refl (sym (met_from rules s root x r (bare_is_open rules s root w e)) ∙ m) b

-- ---- a root that is an item
item_barred : (a b c : Bool) → a ≡ false → c ≡ false → (a || (not b && c)) ≡ false
item_barred true b c e f = cc
item_barred false true c e f = refl
item_barred false false true e f = cc
item_barred false false false e f = refl

pub item_is_open : (rules : Rules) (s : Tree) (root : Root) → rules.without root.prefix ≡ false → rules.excluded root.source ≡ false → is_barred_root rules s root ≡ false
item_is_open rules s root e f = item_barred (rules.without root.prefix) (is_bare s root) (rules.excluded root.source) e f

an_item : (a b c : Bool) → a ≡ true → b ≡ false → c ≡ false → (a && (not b && not c)) ≡ true
an_item true false false e f g = refl
an_item true false true e f g = cc
an_item true true c e f g = cc
an_item false b c e f g = cc

pub root_listed : (rules : Rules) (s : Tree) (root : Root) → is_some (s root.source) ≡ true → is_barred_root rules s root ≡ false → is_bare s root ≡ false → is_listed rules s root [] ≡ true
root_listed rules s root t o b = an_item (is_some (s root.source)) (is_barred_root rules s root) (is_bare s root) t o b

pub root_past : (rules : Rules) (s : Tree) (root : Root) (base : Names) → is_listed rules s root [] ≡ true → fits root.source ≡ true → fits (base ++ root.prefix) ≡ true → past rules s root base [] ≡ None
root_past rules s root base l f p = rw (append-nil root.source, append-nil root.prefix, f, l, p) refl

all_after_root : (rests : List Names) → list_all is_below rests ≡ true → list_all (path_lt []) rests ≡ true
all_after_root rests h = all_weaker is_below (path_lt []) later rests h
  where
    later : (q : Names) → is_below q ≡ true → path_lt [] q ≡ true
    later [] k = cc
    later (x ∷ r) k = refl

pub adds_root : (root : Root) (base : Names) (entry : Entry) (rests : List Names) (old mid new added : List Entry) → entry.rel ≡ root.prefix → entry.from ≡ root.source → fits (base ++ root.prefix) ≡ true → mid ≡ old ++ entry ∷ [] → list_all is_below rests ≡ true → Adds root.source root.prefix base rests mid new added → Adds root.source root.prefix base ([] ∷ rests) old new (entry ∷ added)
adds_root root base entry rests old mid new added r f p m i a = record {
  is = a.is ∙ ap (λ (es : List Entry). es ++ added) m ∙ append_assoc old (entry ∷ []) added;
  rels = cons_both _ _ _ _ (r ∙ sym (append-nil root.prefix)) a.rels;
  froms = cons_both _ _ _ _ (f ∙ sym (append-nil root.source)) a.froms;
  ascending = and_from _ _ (all_after_root rests i) a.ascending;
  places = and_from _ _ (ap (λ (q : Names). fits (base ++ q)) r ∙ p) a.places;
}

pub item_lists : (rules : Rules) (s : Tree) (root : Root) (base : Names) (stop : Option Names) (entry : Entry) (rests : List Names) (old mid new added : List Entry) → rules.without root.prefix ≡ false → rules.excluded root.source ≡ false → is_bare s root ≡ false → fits root.source ≡ true → fits (base ++ root.prefix) ≡ true → is_before stop [] ≡ true → entry.rel ≡ root.prefix → entry.from ≡ root.source → IsShown s entry → mid ≡ old ++ entry ∷ [] → list_all is_below rests ≡ true →
    Adds root.source root.prefix base rests mid new added → Holds rules s (place_in root None) base is_below stop rests added → Lists rules s root base stop old new
item_lists rules s root base stop entry rests old mid new added w x b f p early r from i m inside a h = record {
  rests = [] ∷ rests;
  added = entry ∷ added;
  adds = adds_root root base entry rests old mid new added r from p m inside a;
  listed = listed_at;
  shown = All-cons (IsShown s) entry added i h.shown;
  within = within_at;
}
  where
    stands : is_some (s root.source) ≡ true
    stands = ap (λ (q : Names). is_some (s q)) (sym from) ∙ ap is_some i.stands

    top : is_listed rules s root [] ≡ true
    top = root_listed rules s root stands (item_is_open rules s root w x) b

    listed_at : (q : Names) → has_path ([] ∷ rests) q ≡ (is_listed rules s root q && is_before stop q)
    listed_at [] = sym (ap (λ c. c && is_before stop []) top ∙ early)
    listed_at (y ∷ q) = h.listed (y ∷ q) ∙ sym (ap (λ c. c && is_before stop (y ∷ q)) (listed_from rules s root y q (item_is_open rules s root w x)))

    within_at : (q : Names) → is_met rules s root q ≡ true → is_before stop q ≡ true → past rules s root base q ≡ None
    within_at [] n c = root_past rules s root base top f p
    within_at (y ∷ q) n c = past_from rules s root base y q (item_is_open rules s root w x) ∙ h.within (y ∷ q) refl (sym (met_from rules s root y q (item_is_open rules s root w x)) ∙ n) c
