-- The decision by sizes and digests is the copy decision.
use Rattle.std.proofs.Common.{◌≡◌, ℕ, Bool, true, false, not, cond, ◌&&◌, ◌||◌, nat_eq, nat_lt, List, [], length, take, Option, Some, None, IfSome, refl, sym, ◌∙◌, ap, subst, arith}
use Rattle.std.proofs.lemmas.List.{take_all}
use Rattle.std.proofs.lemmas.Bool.{eqb-true}
use Rattle.std.specs.Option.{option_map}
use mathlib.Core.Bool.{beq}
use Rattle.dc_path.specs.Paths.{Names}
use Rattle.dc_attrs.specs.Attributes.{Attributes}
use Rattle.dc_attrs.specs.Trees.{Node, Dir, File, Tree, IsTree, seen, seen_node, bytes_of, attrs_of}
use Rattle.dc_attrs.specs.declared.shown.Seen.{Seen}
use Rattle.dc_attrs.specs.declared.shown.Seen.TheVariants as seen_as
use Rattle.dc_attrs.proofs.TreeLemmas.{seen_from-Dir, seen_from-File, seen_from-there}
use Rattle.dc_fs.specs.Looks.{status_of, IsStatusOf}
use Rattle.dc_fs.specs.Views.{BothTell}
use Rattle.dc_fs.specs.declared.store.Status.{Status}
use Rattle.dc_options.specs.Settings.{Settings}
use Rattle.dc_listing.specs.Entries.{Entry, entry_of}
use Rattle.dc_decide.specs.Errors.{IfChanged}
use Rattle.dc_decide.specs.Plans.{Decision}
use Rattle.dc_decide.specs.declared.errors.DecideError.{DecideError}
use Rattle.dc_decide.specs.declared.errors.DecideError.TheVariants as decide_error
use Rattle.dc_decide.specs.Deciding.{same_digest, is_current, action_over, action_of, decided, decision_of, DecidesAs}
use Rattle.dc_decide.specs.Looking.{fronts_at, same_fronts, action_at, action_on, is_missing, is_over}
use Rattle.dc_decide.specs.declared.action.Action.{Action}
use Rattle.dc_decide.specs.declared.action.Action.TheVariants as action

-- ---- what is seen over
-- a look at what stands shows it
over_node : (t : Tree) (place : Names) (dir : Bool) (shown : Seen) → shown ≡ seen t place → is_over dir shown ≡ true → seen_node (t place) ≡ shown
over_node t place dir seen_as.Dir e h = seen_from-Dir t [] place (sym e)
over_node t place dir (seen_as.File n) e h = seen_from-File t [] place n (sym e)
over_node t place dir seen_as.Missing e h = grind arith
over_node t place dir seen_as.NotDir e h = grind arith

over_dir : (shown : Seen) (dir : Bool) (o : Option Node) (status : Status) → seen_node o ≡ shown → is_over dir shown ≡ true → IsStatusOf o status → status.dir ≡ dir
over_dir shown dir None status e h s = cc
over_dir shown true (Some (Dir a)) status e h s = let f : Some true ≡ Some status.dir = ap (option_map (λ (z : Status). z.dir)) s in cc
over_dir shown false (Some (Dir a)) status e h s = let f : is_over false seen_as.Dir ≡ true = subst (λ (z : Seen). is_over false z ≡ true) (sym e) h in cc
over_dir shown true (Some (File b a)) status e h s = let f : is_over true (seen_as.File (length b)) ≡ true = subst (λ (z : Seen). is_over true z ≡ true) (sym e) h in cc
over_dir shown false (Some (File b a)) status e h s = let f : Some false ≡ Some status.dir = ap (option_map (λ (z : Status). z.dir)) s in cc

pub kinds_apart : (a b : Bool) → beq a b ≡ false → a ≡ b → ⊥
kinds_apart true true h e = cc
kinds_apart true false h e = cc
kinds_apart false true h e = cc
kinds_apart false false h e = cc

-- where nothing is told, each denial is of a store that tells nothing
pub silent : (e : DecideError) (told : Option Tree) → told ≡ None → IfChanged e (λ _. told ≡ None)
silent decide_error.Clash told h = tt
silent decide_error.SourceFault told h = tt
silent decide_error.TargetFault told h = tt
silent (decide_error.Changed p) told h = h
silent decide_error.Memory told h = tt

pub kind_told : (told : Option Tree) (place : Names) (dir : Bool) (shown : Seen) (status : Status) → IfSome told (λ t. shown ≡ seen t place) → is_over dir shown ≡ true → IfSome told (λ t. IsStatusOf (t place) status)
    → (status.dir ≡ dir → ⊥) → told ≡ None
kind_told None place dir shown status e h s n = refl
kind_told (Some t) place dir shown status e h s n = absurd (n (over_dir shown dir (t place) status (over_node t place dir shown e h) h s))

file_node : (shown : Seen) (o : Option Node) (status : Status) → seen_node o ≡ shown → is_over false shown ≡ true → IsStatusOf o status → shown ≡ seen_as.File status.length
file_node shown None status e h s = cc
file_node shown (Some (Dir a)) status e h s = let f : is_over false seen_as.Dir ≡ true = subst (λ (z : Seen). is_over false z ≡ true) (sym e) h in cc
file_node shown (Some (File b a)) status e h s = let f : Some (length b) ≡ Some status.length = ap (option_map (λ (z : Status). z.length)) s in cc

pub file_told : (told : Option Tree) (place : Names) (dir : Bool) (shown : Seen) (status : Status) → IfSome told (λ t. shown ≡ seen t place) → is_over dir shown ≡ true → IfSome told (λ t. IsStatusOf (t place) status)
    → dir ≡ false → IfSome told (λ t. seen t place ≡ seen_as.File status.length)
file_told None place dir shown status e h s d = tt
file_told (Some t) place dir shown status e h s d =
    let g : is_over false shown ≡ true = subst (λ (z : Bool). is_over z shown ≡ true) d h in
    sym e ∙ file_node shown (t place) status (over_node t place false shown e g) g s

-- ---- the action
whole_same : (n : ℕ) (b d : List ℕ) → n ≡ length b → length b ≡ length d → same_fronts n (Some b) (Some d) ≡ same_digest b d
whole_same n b d e f = ap (λ (z : List ℕ). same_digest z (take n d)) (take_all n b (omega arith)) ∙ ap (λ (z : List ℕ). same_digest b z) (take_all n d (omega arith))

current_same : (k c : Bool) (b d : List ℕ) → (nat_eq (length b) (length d) && k && (c || same_fronts (length b) (Some b) (Some d))) ≡ (nat_eq (length b) (length d) && k && (c || same_digest b d))
current_same k c b d = by (nat_eq (length b) (length d)) refl
  where
    by : (z : Bool) → nat_eq (length b) (length d) ≡ z → (z && k && (c || same_fronts (length b) (Some b) (Some d))) ≡ (z && k && (c || same_digest b d))
    by false e = refl
    by true e = ap (λ (z : Bool). true && k && (c || z)) (whole_same (length b) b d refl (eqb-true (length b) (length d) e))

file_action : (o : Settings) (rel from place : Names) (b d : List ℕ) (a c : Attributes) (s t : Tree) → bytes_of (s from) ≡ Some b → bytes_of (t place) ≡ Some d
    → action_on o (entry_of rel from (File b a)) (status_of (File d c)) place s t ≡ action_over o b a d c
file_action o rel from place b d a c s t e f =
    ap (λ (z : Option (List ℕ)). action_at o (entry_of rel from (File b a)) (status_of (File d c)) (same_fronts (length b) z (bytes_of (t place))) (same_fronts (length d) z (bytes_of (t place)))) e
    ∙ ap (λ (z : Option (List ℕ)). action_at o (entry_of rel from (File b a)) (status_of (File d c)) (same_fronts (length b) (Some b) z) (same_fronts (length d) (Some b) z)) f
    ∙ ap (λ (z : Bool). cond o.overwrite action.Replace (cond (not o.update) action.Skip (cond z action.Skip (cond (o.append && (nat_lt (length d) (length b) && same_fronts (length d) (Some b) (Some d))) (action.Extend (length d)) action.Replace))))
    (current_same (not o.keep.block_size || nat_eq a.block_size c.block_size) o.skip_crc b d)
    ∙ ap (λ (z : List ℕ). cond o.overwrite action.Replace (cond (not o.update) action.Skip (cond (is_current o b a d c) action.Skip (cond (o.append && (nat_lt (length d) (length b) && same_digest (take (length d) b) z)) (action.Extend (length d)) action.Replace))))
    (take_all (length d) d (omega arith))

-- ---- the decision
abbrev decision_with : Entry → Action → Option Attributes → Decision
decision_with entry act before = record { item = entry; action = act; before = before; out = false }

same_decision : (i j : Entry) (x y : Action) (m n : Option Attributes) → i ≡ j → x ≡ y → m ≡ n → decision_with i x m ≡ decision_with j y n
same_decision i j x y m n e f g = ap (λ (z : Entry). decision_with z x m) e ∙ ap (λ (z : Action). decision_with j z m) f ∙ ap (λ (z : Option Attributes). decision_with j y z) g

new_decided : (o : Settings) (entry : Entry) (node : Node) (old : Option Node) → old ≡ None → entry ≡ entry_of entry.rel entry.from node
    → decision_of entry (record { action = cond entry.dir action.Folder action.Replace; before = None }) ≡ decided o entry.rel (record { from = entry.from; node = node }) old
new_decided o entry (Dir a) old e is = same_decision entry _ _ action.Folder None (attrs_of old) is (ap (λ (z : Entry). cond z.dir action.Folder action.Replace) is) (sym (ap attrs_of e))
new_decided o entry (File b a) old e is = same_decision entry _ _ (action_of o (File b a) old) None (attrs_of old) is (ap (λ (z : Entry). cond z.dir action.Folder action.Replace) is ∙ sym (ap (action_of o (File b a)) e)) (sym (ap attrs_of e))

-- nothing that is seen as missing stands
missing_none : (t : Tree) (place : Names) (o : Option Node) (shown : Seen) → IsTree t → t place ≡ o → shown ≡ seen t place → is_missing shown ≡ true → o ≡ None
missing_none t place None shown v e s h = refl
missing_none t place (Some (Dir a)) shown v e s h = let f : is_missing seen_as.Dir ≡ true = subst (λ (z : Seen). is_missing z ≡ true) (s ∙ seen_from-there t [] place (Dir a) v e) h in absurd (cc)
missing_none t place (Some (File b a)) shown v e s h = let f : is_missing (seen_as.File (length b)) ≡ true = subst (λ (z : Seen). is_missing z ≡ true) (s ∙ seen_from-there t [] place (File b a) v e) h in absurd (cc)

pub new_told : (o : Settings) (entry : Entry) (place : Names) (source target : Option Tree) (shown : Seen) → IfSome target (λ t. shown ≡ seen t place) → is_missing shown ≡ true
    → BothTell source target (DecidesAs o entry place (record { action = cond entry.dir action.Folder action.Replace; before = None }))
new_told o entry place None target shown s h = tt
new_told o entry place (Some s) None shown e h = tt
new_told o entry place (Some s) (Some t) shown e h = λ v is. new_decided o entry is.node (t place) (missing_none t place (t place) shown v refl e h) is.is

cond_by : {A : Type 0} (b c : Bool) (x y : A) → b ≡ c → cond b x y ≡ cond c x y
cond_by b c x y e = ap (λ (z : Bool). cond z x y) e

status_eq : (n : Node) (status : Status) → IsStatusOf (Some n) status → status_of n ≡ status
status_eq n status h = cc

over_decided : (o : Settings) (entry : Entry) (place : Names) (s t : Tree) (node : Node) (old : Option Node) (status : Status) (act : Action)
    → t place ≡ old → IsStatusOf old status → status.dir ≡ entry.dir → s entry.from ≡ Some node → entry ≡ entry_of entry.rel entry.from node
    → act ≡ cond entry.dir action.Folder (action_on o entry status place s t)
    → decision_of entry (record { action = act; before = Some status.attrs }) ≡ decided o entry.rel (record { from = entry.from; node = node }) old
over_decided o entry place s t node None status act e st k f is h = cc
over_decided o entry place s t (Dir a) (Some (Dir c)) status act e st k f is h =
    same_decision entry (entry_of entry.rel entry.from (Dir a)) act action.Folder (Some status.attrs) (Some c) is (h ∙ cond_by entry.dir true action.Folder _ (ap (λ (z : Entry). z.dir) is)) (ap (λ (z : Status). Some z.attrs) (sym (status_eq (Dir c) status st)))
over_decided o entry place s t (Dir a) (Some (File d c)) status act e st k f is h =
    let u : false ≡ status.dir = ap (λ (z : Status). z.dir) (status_eq (File d c) status st) in let v : entry.dir ≡ true = ap (λ (z : Entry). z.dir) is in let w : false ≡ true = u ∙ k ∙ v in absurd (cc)
over_decided o entry place s t (File b a) (Some (Dir c)) status act e st k f is h =
    let u : true ≡ status.dir = ap (λ (z : Status). z.dir) (status_eq (Dir c) status st) in let v : entry.dir ≡ false = ap (λ (z : Entry). z.dir) is in let w : true ≡ false = u ∙ k ∙ v in absurd (cc)
over_decided o entry place s t (File b a) (Some (File d c)) status act e st k f is h =
    let q = status_eq (File d c) status st in
    same_decision entry (entry_of entry.rel entry.from (File b a)) act (action_over o b a d c) (Some status.attrs) (Some c) is
    (h ∙ cond_by entry.dir false action.Folder _ (ap (λ (z : Entry). z.dir) is)
    ∙ ap (λ (z : Entry). action_at o z status (fronts_at s entry.from t place z.length) (fronts_at s entry.from t place status.length)) is
    ∙ ap (λ (z : Status). action_on o (entry_of entry.rel entry.from (File b a)) z place s t) (sym q)
    ∙ file_action o entry.rel entry.from place b d a c s t (ap bytes_of f) (ap bytes_of e))
    (ap (λ (z : Status). Some z.attrs) (sym q))

pub over_told : (o : Settings) (entry : Entry) (place : Names) (status : Status) (act : Action) (source target : Option Tree) → status.dir ≡ entry.dir → IfSome target (λ t. IsStatusOf (t place) status)
    → BothTell source target (λ s t. act ≡ cond entry.dir action.Folder (action_on o entry status place s t))
    → BothTell source target (DecidesAs o entry place (record { action = act; before = Some status.attrs }))
over_told o entry place status act None target k st h = tt
over_told o entry place status act (Some s) None k st h = tt
over_told o entry place status act (Some s) (Some t) k st h = λ v shown. over_decided o entry place s t shown.node (t place) status act refl st k shown.stands shown.is h
