-- From what roots list one after the other, put in order, to the listing or its refusal.
use Rattle.std.proofs.Common.{◌≡◌, ◌≤◌, List, length, Option, Some, None, IfSome, Result, Ok, Err, IfOk, IfErr, sym, ◌∙◌, subst}
use Rattle.dc_path.specs.Paths.{Names}
use Rattle.dc_path.specs.Unless.{GivesUnless}
use Rattle.dc_attrs.specs.Trees.{Tree, IsTree}
use Rattle.dc_listing.specs.Entries.{Entry}
use Rattle.dc_listing.specs.Listed.{Rules, all_listed, entries_at}
use Rattle.dc_listing.specs.Listing.{HasTwo, IsListing, IsTwiceIn, ListsAll}
use Rattle.dc_listing.specs.Walks.{max_items}
use Rattle.dc_listing.specs.declared.item.Root.{Root}
use Rattle.dc_listing.specs.declared.item.ListError.{ListError}
use Rattle.dc_listing.specs.declared.item.ListError.TheVariants as list_error
use Rattle.dc_listing.proofs.OrderedEntries.{are_two}

-- ---- the refusal of two at one path
pub twice_err : {A : Type 0} (result : Result A ListError) (entries : List Entry) (rel first second : Names) → GivesUnless list_error.Memory result (Err (list_error.Duplicate rel first second)) → HasTwo entries rel first second → IfErr result (IsTwiceIn entries)
twice_err (Ok x) entries rel first second g h = tt
twice_err (Err list_error.Memory) entries rel first second g h = tt
twice_err (Err (list_error.Duplicate a b c)) entries rel first second g h =
    let e : Err (list_error.Duplicate rel first second) ≡ Err (list_error.Duplicate a b c) = g (λ k. cc) in
    let i : rel ≡ a = cc in
    let j : first ≡ b = cc in
    let k : second ≡ c = cc in
    subst (λ (p : Names). HasTwo entries p b c) i (subst (λ (p : Names). HasTwo entries rel p c) j (subst (λ (p : Names). HasTwo entries rel first p) k h))
twice_err (Err list_error.TooMany) entries rel first second g h = let e : Err (list_error.Duplicate rel first second) ≡ Err list_error.TooMany = g (λ k. cc) in cc
twice_err (Err (list_error.TooLong p n)) entries rel first second g h = let e : Err (list_error.Duplicate rel first second) ≡ Err (list_error.TooLong p n) = g (λ k. cc) in cc
twice_err (Err (list_error.NoSource p)) entries rel first second g h = let e : Err (list_error.Duplicate rel first second) ≡ Err (list_error.NoSource p) = g (λ k. cc) in cc
twice_err (Err (list_error.Changed p)) entries rel first second g h = let e : Err (list_error.Duplicate rel first second) ≡ Err (list_error.Changed p) = g (λ k. cc) in cc
twice_err (Err list_error.Fault) entries rel first second g h = let e : Err (list_error.Duplicate rel first second) ≡ Err list_error.Fault = g (λ k. cc) in cc

-- ---- the listing
-- the same entries at each path
lists_same : (rules : Rules) (s : Tree) (roots : List Root) (base : Names) (old new : List Entry) → ListsAll rules s roots base old → ((q : Names) → entries_at new q ≡ entries_at old q) → ListsAll rules s roots base new
lists_same rules s roots base old new h e = record { are = λ q. e q ∙ h.are q; within = h.within }

listing_of : (result : Result (List Entry) ListError) (rules : Rules) (s : Tree) (roots : List Root) (base : Names) (entries : List Entry) → ListsAll rules s roots base entries → length entries ≤ max_items → IfOk result (λ distinct. distinct ≡ entries) → IfErr result (IsTwiceIn entries) → IsListing rules s roots base result
listing_of (Ok distinct) rules s roots base entries h n e t = subst (λ (es : List Entry). ListsAll rules s roots base es) (sym e) h
listing_of (Err list_error.Memory) rules s roots base entries h n e t = tt
listing_of (Err (list_error.Duplicate a b c)) rules s roots base entries h n e t = (are_two (all_listed rules s roots) entries a b c h.are t, entries, h, n)
listing_of (Err list_error.TooMany) rules s roots base entries h n e t = absurd t
listing_of (Err (list_error.TooLong p x)) rules s roots base entries h n e t = absurd t
listing_of (Err (list_error.NoSource p)) rules s roots base entries h n e t = absurd t
listing_of (Err (list_error.Changed p)) rules s roots base entries h n e t = absurd t
listing_of (Err list_error.Fault) rules s roots base entries h n e t = absurd t

pub told_listing : (result : Result (List Entry) ListError) (told : Option Tree) (rules : Rules) (roots : List Root) (base : Names) (walked sorted : List Entry) → IfSome told (λ s. IsTree s → ListsAll rules s roots base walked) → ((q : Names) → entries_at sorted q ≡ entries_at walked q) → length sorted ≤ max_items → IfOk result (λ distinct. distinct ≡ sorted) → IfErr result (IsTwiceIn sorted) → IfSome told (λ s. IsTree s → IsListing rules s roots base result)
told_listing result None rules roots base walked sorted h e n o t = tt
told_listing result (Some s) rules roots base walked sorted h e n o t = λ v. listing_of result rules s roots base sorted (lists_same rules s roots base walked sorted (h v) e) n o t
