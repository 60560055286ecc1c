-- What a report with an entry more carries.
use Rattle.std.proofs.Common.{◌≡◌, inl, inr, List, [], ◌∷◌, ◌++◌, Bool, true, false, cond, ◌||◌, Option, Some, None, refl, ◌∙◌, ap, append-nil, arith}
use Rattle.std.proofs.lemmas.List.Elements.{filter_map-append}
use Rattle.std.specs.BTreeMap.{insert_entry}
use Rattle.std.specs.List.{cons_option, filter_map, list_any}
use Rattle.std.specs.Map.{lookup}
use Rattle.std.specs.Ordering.{is_eq, is_lt}
use Rattle.std.specs.declared.cmp.Ordering.{Ordering}
use Rattle.std.specs.declared.cmp.Ordering.TheVariants.{Equal, Greater, Less}
use Rattle.dc_path.specs.Order.{path_lt}
use Rattle.dc_path.specs.Paths.{Names, path_cmp, same_path}
use Rattle.dc_path.proofs.OrderLemmas.{path_lt-cmp}
use Rattle.dc_path.proofs.PathLemmas.{path_decides}
use Rattle.dc_report.specs.declared.entries.Entry.{Entry}
use Rattle.dc_report.specs.declared.entries.Entry.TheVariants.{Created, Deleted, Modified, Renamed}
use Rattle.dc_report.specs.Carries.{carries_in, carry_to}
use Rattle.dc_report.specs.Carrying.{Carry, Has, carries_of, carry_of, insert_by, old_lt, sort_by}
use Rattle.dc_report.specs.Reports.{takes}
use Rattle.dc_path.proofs.OrderLemmas.{path_lt-trans}
use Rattle.dc_path.proofs.PathOrder.{path_lt-connex, path_lt-irrefl}
use Rattle.dc_report.proofs.Sorting.{sort_last}

-- ---- the entries that carry
pushed : (es : List Entry) (e : Entry) → carries_of (es ++ e ∷ []) ≡ sort_by old_lt (filter_map carry_of es ++ filter_map carry_of (e ∷ []))
pushed es e = ap (sort_by old_lt) (filter_map-append carry_of es (e ∷ []))

-- an entry that carries nothing
pub carries_none : (es : List Entry) (e : Entry) → carry_of e ≡ None → carries_of (es ++ e ∷ []) ≡ carries_of es
carries_none es e h = pushed es e ∙ ap (λ (o : Option Carry). sort_by old_lt (filter_map carry_of es ++ cons_option o [])) h ∙ ap (sort_by old_lt) (append-nil (filter_map carry_of es))

taken_one : (p q : Names) (b : Bool) → (same_path p q || b) ≡ false → p ≡ q → ⊥
taken_one p q b n e = let t : same_path p q ≡ true = (path_decides p q).1 e in grind (arith, t)

other : (a b : Bool) → (a || b) ≡ false → b ≡ false
other true b h = absurd (cc)
other false b h = h

not_taken : (es : List Entry) (p : Names) (c : Carry) → list_any (takes p) es ≡ false → Has (filter_map carry_of es) c → p ≡ c.old → ⊥
not_taken [] p c n h e = h
not_taken (Deleted q ∷ es) p c n (inl i) e = taken_one p q (list_any (takes p) es) n (e ∙ ap (λ (d : Carry). d.old) i)
not_taken (Deleted q ∷ es) p c n (inr h) e = not_taken es p c (other (same_path p q) (list_any (takes p) es) n) h e
not_taken (Renamed a b ∷ es) p c n (inl i) e = taken_one p a (list_any (takes p) es) n (e ∙ ap (λ (d : Carry). d.old) i)
not_taken (Renamed a b ∷ es) p c n (inr h) e = not_taken es p c (other (same_path p a) (list_any (takes p) es) n) h e
not_taken (Created q ∷ es) p c n h e = not_taken es p c n h e
not_taken (Modified q ∷ es) p c n h e = not_taken es p c n h e

-- an entry that carries a path that no entry before carries
pub carries_one : (es : List Entry) (e : Entry) (p : Names) (q : Option Names) → carry_of e ≡ Some (carry_to p q) → list_any (takes p) es ≡ false → carries_of (es ++ e ∷ []) ≡ insert_by old_lt (carry_to p q) (carries_of es)
carries_one es e p q h n =
    pushed es e ∙ ap (λ (o : Option Carry). sort_by old_lt (filter_map carry_of es ++ cons_option o [])) h
    ∙ sort_last old_lt (λ a b c. path_lt-trans a.old b.old c.old) (λ a. path_lt-irrefl a.old) (filter_map carry_of es) (carry_to p q) (λ c k. path_lt-connex p c.old (not_taken es p c n k))

-- ---- a path more in the map
entry_at : (e : Names × Option Names) (es : List (Names × Option Names)) (p : Names) (q : Option Names) (o : Ordering) → path_cmp p e.0 ≡ o
    → (lookup (λ k. is_eq (path_cmp p k)) es ≡ None → carries_in (insert_entry path_cmp es p q) ≡ insert_by old_lt (carry_to p q) (carries_in es))
    → cond (is_eq (path_cmp p e.0)) (Some e.1) (lookup (λ k. is_eq (path_cmp p k)) es) ≡ None → carries_in (insert_entry path_cmp (e ∷ es) p q) ≡ insert_by old_lt (carry_to p q) (carries_in (e ∷ es))
entry_at e es p q Less i ih h = let l : path_lt p e.0 ≡ true = path_lt-cmp p e.0 ∙ ap is_lt i in rw (i, l) refl
entry_at e es p q Equal i ih h = let k : Some e.1 ≡ None = rw i at h in absurd (cc)
entry_at e es p q Greater i ih h =
    let l : path_lt p e.0 ≡ false = path_lt-cmp p e.0 ∙ ap is_lt i in
    let k : lookup (λ k. is_eq (path_cmp p k)) es ≡ None = rw i at h in
    rw (i, l) (ap (λ (cs : List Carry). carry_to e.0 e.1 ∷ cs) (ih k))

-- a path that the map had not
pub entry_more : (es : List (Names × Option Names)) (p : Names) (q : Option Names) → lookup (λ k. is_eq (path_cmp p k)) es ≡ None → carries_in (insert_entry path_cmp es p q) ≡ insert_by old_lt (carry_to p q) (carries_in es)
entry_more [] p q h = refl
entry_more (e ∷ es) p q h = entry_at e es p q (path_cmp p e.0) refl (entry_more es p q) h
