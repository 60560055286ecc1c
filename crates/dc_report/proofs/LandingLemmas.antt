-- The renamed items by new path: a map takes each in its place.
use Rattle.std.proofs.Common.{◌≡◌, ◌⊎◌, inl, inr, ⊎_elim, ℕ, true, false, cond, List, [], ◌∷◌, ◌++◌, length, Option, Some, None, refl, sym, ◌∙◌, ap, subst}
use Rattle.std.specs.BTreeMap.{insert_entry}
use Rattle.std.specs.Cmp.{IsTotalOrder}
use Rattle.std.specs.Cmp.Lexicographic.{lists_total, nat_list_cmp_total}
use Rattle.std.specs.List.{filter_map}
use Rattle.std.specs.Ordering.{match_ordering}
use Rattle.std.specs.declared.cmp.Ordering.{Ordering}
use Rattle.std.specs.declared.cmp.Ordering.TheVariants.{Less, Equal, Greater}
use Rattle.dc_path.specs.Order.{path_lt}
use Rattle.dc_path.specs.Paths.{Names, path_cmp}
use Rattle.dc_path.proofs.OrderLemmas.{path_lt-trans}
use Rattle.dc_report.specs.Apart.{IsReport}
use Rattle.dc_report.specs.Carrying.{Carry, Has, Place, add_item, carries_of, carry_of, insert_by, items_of, new_gt, old_lt, sort_by}
use Rattle.dc_report.specs.Landings.{NewsDiffer, ascending, label_in, landed, landings_of, old_in, sources_of}
use Rattle.dc_report.specs.declared.entries.Entry.{Entry}
use Rattle.dc_report.specs.declared.entries.Entry.TheVariants.{Created, Deleted, Modified, Renamed}
use Rattle.dc_report.proofs.HasLemmas.{has_either}
use Rattle.dc_path.proofs.PathOrder.{path_lt-connex, path_lt-irrefl, cmp_less, cmp_greater, path_lt-back}
use Rattle.dc_report.proofs.Sorting.{AreApart, IsSorted, sort_has, sort_sorted}

-- ---- the order of paths as it is tested
paths_total : IsTotalOrder path_cmp
paths_total = lists_total nat_list_cmp_total

-- ---- an entry more in a map
-- behind all
insert_last : {V : Type 0} (es : List (Names × V)) (k : Names) (v : V) → ((e : Names × V) → Has es e → path_lt e.0 k ≡ true) → insert_entry path_cmp es k v ≡ es ++ (k, v) ∷ []
insert_last [] k v h = refl
insert_last (e ∷ es) k v h = rw (cmp_greater k e.0 (h e (inl refl))) (ap (λ xs. e ∷ xs) (insert_last es k v (λ d i. h d (inr i))))

-- before the last
insert_at : {V : Type 0} (o : Ordering) (a b c d : List (Names × V)) (e : Names × V) → c ≡ d ++ e ∷ [] → match_ordering o (a ++ e ∷ []) (b ++ e ∷ []) c ≡ match_ordering o a b d ++ e ∷ []
insert_at Less a b c d e h = refl
insert_at Equal a b c d e h = refl
insert_at Greater a b c d e h = h

insert_before : {V : Type 0} (es : List (Names × V)) (e : Names × V) (k : Names) (v : V) → path_lt k e.0 ≡ true → insert_entry path_cmp (es ++ e ∷ []) k v ≡ insert_entry path_cmp es k v ++ e ∷ []
insert_before [] e k v h = rw (cmp_less k e.0 h) refl
insert_before (d ∷ es) e k v h =
    insert_at (path_cmp k d.0) ((k, v) ∷ d ∷ es) ((d.0, v) ∷ es) (d ∷ insert_entry path_cmp (es ++ e ∷ []) k v) (d ∷ insert_entry path_cmp es k v) e
    (ap (λ xs. d ∷ xs) (insert_before es e k v h))

pub has_ascending : {V : Type 0} (f : Place → V) (ns : List Place) (e : Names × V) → Has (ascending f ns) e → (n : Place) × Has ns n × (e.0 ≡ n.new)
has_ascending f [] e h = absurd h
has_ascending {V} f (n ∷ ns) e h =
    ⊎_elim (λ k. let i = has_ascending f ns e k in (i.0, inr i.1, i.2))
    (λ k. ⊎_elim (λ g. (n, inl refl, ap (λ (d : Names × V). d.0) g)) (λ g. absurd g) k)
    (has_either (ascending f ns) ((n.new, f n) ∷ []) e h)

-- an item takes its place among the new paths
pub insert_ascending : {V : Type 0} (f : Place → V) (n : Place) (ns : List Place) → IsSorted new_gt ns → ((m : Place) → Has ns m → (new_gt n m ≡ true) ⊎ (new_gt m n ≡ true)) → insert_entry path_cmp (ascending f ns) n.new (f n) ≡ ascending f (insert_by new_gt n ns)
insert_ascending f n [] s a = refl
insert_ascending {V} f n (m ∷ ns) s a = ⊎_elim last (before (insert_ascending f n ns s.1 (λ k i. a k (inr i)))) (a m (inl refl))
  where
    last : path_lt m.new n.new ≡ true → insert_entry path_cmp (ascending f (m ∷ ns)) n.new (f n) ≡ ascending f (cond (path_lt m.new n.new) (n ∷ m ∷ ns) (m ∷ insert_by new_gt n ns))
    last h =
        rw h (insert_last (ascending f (m ∷ ns)) n.new (f n) (λ e k.
        let i = has_ascending f (m ∷ ns) e k in
        let below : path_lt i.0.new n.new ≡ true =
        ⊎_elim (λ g. subst (λ (p : Place). path_lt p.new n.new ≡ true) (sym g) h) (λ g. path_lt-trans i.0.new m.new n.new (s.0 i.0 g) h) i.1 in
        subst (λ (p : Names). path_lt p n.new ≡ true) (sym i.2) below))

    before : insert_entry path_cmp (ascending f ns) n.new (f n) ≡ ascending f (insert_by new_gt n ns) → path_lt n.new m.new ≡ true → insert_entry path_cmp (ascending f (m ∷ ns)) n.new (f n) ≡ ascending f (cond (path_lt m.new n.new) (n ∷ m ∷ ns) (m ∷ insert_by new_gt n ns))
    before ih h =
        rw (path_lt-back n.new m.new h)
        (insert_before (ascending f ns) (m.new, f m) n.new (f n) h
        ∙ ap (λ (es : List (Names × V)). es ++ (m.new, f m) ∷ []) ih)

-- ---- the items of carries with different new paths
item_added : (o : Option Names) (old : Names) (l : ℕ) (ns : List Place) (n : Place) → Has (add_item o old l ns) n → (o ≡ Some n.new) ⊎ Has ns n
item_added None old l ns n h = inr h
item_added (Some b) old l ns n (inl e) = inl (ap (λ (m : Place). Some m.new) (sym e))
item_added (Some b) old l ns n (inr h) = inr h

pub item_from : (cs : List Carry) (n : Place) → Has (items_of cs) n → (c : Carry) × Has cs c × (c.new ≡ Some n.new)
item_from [] n h = absurd h
item_from (c ∷ cs) n h =
    ⊎_elim (λ e. (c, inl refl, e)) (λ k. let i = item_from cs n k in (i.0, inr i.1, i.2)) (item_added c.new c.old (length cs) (items_of cs) n h)

other_new : (c : Carry) (cs : List Carry) (b : Names) → NewsDiffer (c ∷ cs) → c.new ≡ Some b → (m : Place) → Has (items_of cs) m → (path_lt m.new b ≡ true) ⊎ (path_lt b m.new ≡ true)
other_new c cs b d e m h =
    let i = item_from cs m h in
    path_lt-connex m.new b (λ f. d.0 i.0 b i.1 e (i.2 ∙ ap (λ (p : Names). Some p) f))

items_apart_at : (c : Carry) (cs : List Carry) (o : Option Names) → c.new ≡ o → NewsDiffer (c ∷ cs) → AreApart new_gt (items_of cs) → AreApart new_gt (add_item o c.old (length cs) (items_of cs))
items_apart_at c cs None e d a = a
items_apart_at c cs (Some b) e d a = ((λ m h. other_new c cs b d e m h), a)

items_apart : (cs : List Carry) → NewsDiffer cs → AreApart new_gt (items_of cs)
items_apart [] d = tt
items_apart (c ∷ cs) d = items_apart_at c cs c.new refl d (items_apart cs d.1)

-- the new paths descend
pub items_sorted : (cs : List Carry) → NewsDiffer cs → IsSorted new_gt (sort_by new_gt (items_of cs))
items_sorted cs d = sort_sorted new_gt (items_of cs) (λ n m k h i. path_lt-trans k.new m.new n.new i h) (items_apart cs d)

landed_at : {V : Type 0} (f : Place → V) (v : V) (c : Carry) (cs : List Carry) (o : Option Names)
    → ((new : Names) → f (record { new = new; old = c.old; label = length cs }) ≡ v) → c.new ≡ o → NewsDiffer (c ∷ cs)
    → landed o v (ascending f (sort_by new_gt (items_of cs))) ≡ ascending f (sort_by new_gt (add_item o c.old (length cs) (items_of cs)))
landed_at f v c cs None w e d = refl
landed_at f v c cs (Some b) w e d =
    ap (insert_entry path_cmp (ascending f (sort_by new_gt (items_of cs))) b) (sym (w b))
    ∙ insert_ascending f (record { new = b; old = c.old; label = length cs }) (sort_by new_gt (items_of cs)) (items_sorted cs d.1)
    (λ m h. other_new c cs b d e m (sort_has new_gt (items_of cs) m h))

-- a carry more
pub landed_more : (c : Carry) (cs : List Carry) → NewsDiffer (c ∷ cs) → landed c.new (length cs) (landings_of cs) ≡ landings_of (c ∷ cs)
landed_more c cs d = landed_at label_in (length cs) c cs c.new (λ new. refl) refl d

pub sourced_more : (c : Carry) (cs : List Carry) → NewsDiffer (c ∷ cs) → landed c.new (Some c.old) (sources_of cs) ≡ sources_of (c ∷ cs)
sourced_more c cs d = landed_at old_in (Some c.old) c cs c.new (λ new. refl) refl d

-- the carries from one on
pub differ_behind : (cs ds : List Carry) → NewsDiffer (cs ++ ds) → NewsDiffer ds
differ_behind [] ds d = d
differ_behind (c ∷ cs) ds d = differ_behind cs ds d.1

-- ---- the carries of a report have different new paths
pub renamed_in : (R : List Entry) (c : Carry) (b : Names) → Has (filter_map carry_of R) c → c.new ≡ Some b → Has R (Renamed c.old b)
renamed_in [] c b h e = absurd h
renamed_in (Created p ∷ R) c b h e = inr (renamed_in R c b h e)
renamed_in (Modified p ∷ R) c b h e = inr (renamed_in R c b h e)
renamed_in (Deleted p ∷ R) c b (inl f) e = let n : c.new ≡ None = ap (λ (d : Carry). d.new) f in absurd (cc)
renamed_in (Deleted p ∷ R) c b (inr h) e = inr (renamed_in R c b h e)
renamed_in (Renamed p q ∷ R) c b (inl f) e =
    let o : c.old ≡ p = ap (λ (d : Carry). d.old) f in
    let n : c.new ≡ Some q = ap (λ (d : Carry). d.new) f in
    let m : b ≡ q = cc in
    inl (cc)
renamed_in (Renamed p q ∷ R) c b (inr h) e = inr (renamed_in R c b h e)

differ_at : (cs : List Carry) → IsSorted old_lt cs → ((c d : Carry) (b : Names) → Has cs c → Has cs d → c.new ≡ Some b → d.new ≡ Some b → c.old ≡ d.old) → NewsDiffer cs
differ_at [] s one = tt
differ_at (c ∷ cs) s one = (apart, differ_at cs s.1 (λ a d b h k. one a d b (inr h) (inr k)))
  where
    apart : (d : Carry) (b : Names) → Has cs d → c.new ≡ Some b → d.new ≡ Some b → ⊥
    apart d b h e f =
        let o : c.old ≡ d.old = one c d b (inl refl) (inr h) e f in
        let l = s.0 d h in
        let n : path_lt c.old d.old ≡ false = ap (λ (p : Names). path_lt c.old p) (sym o) ∙ path_lt-irrefl c.old in
        absurd (cc)

pub news_differ : (R : List Entry) → IsReport R → IsSorted old_lt (carries_of R) → NewsDiffer (carries_of R)
news_differ R is s =
    differ_at (carries_of R) s (λ c d b h k e f.
    is.news c.old d.old b (renamed_in R c b (sort_has old_lt (filter_map carry_of R) c h) e) (renamed_in R d b (sort_has old_lt (filter_map carry_of R) d k) f))
