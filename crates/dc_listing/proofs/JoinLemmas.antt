-- A path with names added one by one, and where it passes the limits.
use Rattle.std.proofs.Common.{◌≡◌, ◌≢◌, ℕ, ◌<◌, List, [], ◌∷◌, ◌++◌, length, take, drop, get_or, Bool, true, false, cond, Ok, Err, sym, ◌∙◌, ap, append_assoc, suc}
use Rattle.std.proofs.Math.Seq.{drop-cons}
use Rattle.std.proofs.lemmas.List.{take-append-drop}
use Rattle.std.specs.Option.{is_some}
use Rattle.dc_path.specs.Paths.{Names, fits, is_under}
use Rattle.dc_path.proofs.PathLemmas.{cut-append}
use Rattle.dc_listing.specs.Errors.{IfTooLong, Passes, stepped}
use Rattle.dc_listing.specs.Walks.{IsPastOn}
use Rattle.dc_listing.specs.declared.item.ListError.{ListError}
use Rattle.dc_listing.specs.declared.item.ListError.TheVariants as list_error

step_on : (path names : Names) (i : ℕ) (x : List ℕ) (joined : Names) → i < length names → x ≡ get_or names i x → joined ≡ path ++ take i names → path ++ names ≡ (joined ++ x ∷ []) ++ drop (suc i) names
step_on path names i x joined l e j =
    ap (λ (ns : Names). path ++ ns) (sym (take-append-drop i names))
    ∙ sym (append_assoc path (take i names) (drop i names))
    ∙ ap (λ (p : Names). p ++ drop i names) (sym j)
    ∙ ap (λ (ns : Names). joined ++ ns) (drop-cons names i x l ∙ ap (λ (y : List ℕ). y ∷ drop (suc i) names) (sym e))
    ∙ sym (append_assoc joined (x ∷ []) (drop (suc i) names))

step_front : (path names : Names) (i : ℕ) (x : List ℕ) (joined : Names) → i < length names → x ≡ get_or names i x → joined ≡ path ++ take i names → is_under (joined ++ x ∷ []) (path ++ names) ≡ true
step_front path names i x joined l e j = ap (is_under (joined ++ x ∷ [])) (step_on path names i x joined l e j) ∙ ap is_some (cut-append (joined ++ x ∷ []) (drop (suc i) names))

refused_as : (b : Bool) (child : Names) (d e : ListError) → cond b (Ok child) (Err d) ≡ Err e → d ≡ e
refused_as true child d e h = cc
refused_as false child d e h = cc

past_on : (joined whole : Names) (x : List ℕ) (e : ListError) → list_error.TooLong joined x ≡ e → IfTooLong e Passes → is_under (joined ++ x ∷ []) whole ≡ true → IsPastOn e whole
past_on joined whole x (list_error.NoSource path) h p f = cc
past_on joined whole x (list_error.Duplicate a b c) h p f = cc
past_on joined whole x list_error.TooMany h p f = cc
past_on joined whole x (list_error.TooLong parent name) h p f =
    let a : joined ≡ parent = cc in
    let b : x ≡ name = cc in
    record { front = ap (λ (q : Names). is_under (q ++ name ∷ []) whole) (sym a) ∙ ap (λ (y : List ℕ). is_under (joined ++ y ∷ []) whole) (sym b) ∙ f; passes = p }
past_on joined whole x (list_error.Changed path) h p f = cc
past_on joined whole x list_error.Fault h p f = cc
past_on joined whole x list_error.Memory h p f = tt

step_past : (joined whole : Names) (x : List ℕ) (e : ListError) → (e ≢ list_error.Memory → stepped joined x ≡ Err e) → IfTooLong e Passes → is_under (joined ++ x ∷ []) whole ≡ true → IsPastOn e whole
step_past joined whole x (list_error.NoSource path) k p f = past_on joined whole x _ (refused_as (fits (joined ++ x ∷ [])) _ _ _ (k (λ g. cc))) p f
step_past joined whole x (list_error.Duplicate a b c) k p f = past_on joined whole x _ (refused_as (fits (joined ++ x ∷ [])) _ _ _ (k (λ g. cc))) p f
step_past joined whole x list_error.TooMany k p f = past_on joined whole x _ (refused_as (fits (joined ++ x ∷ [])) _ _ _ (k (λ g. cc))) p f
step_past joined whole x (list_error.TooLong parent name) k p f = past_on joined whole x _ (refused_as (fits (joined ++ x ∷ [])) _ _ _ (k (λ g. cc))) p f
step_past joined whole x (list_error.Changed path) k p f = past_on joined whole x _ (refused_as (fits (joined ++ x ∷ [])) _ _ _ (k (λ g. cc))) p f
step_past joined whole x list_error.Fault k p f = past_on joined whole x _ (refused_as (fits (joined ++ x ∷ [])) _ _ _ (k (λ g. cc))) p f
step_past joined whole x list_error.Memory k p f = tt

pub join_past : (path names : Names) (i : ℕ) (x : List ℕ) (joined : Names) (e : ListError) → i < length names → x ≡ get_or names i x → joined ≡ path ++ take i names → IfTooLong e Passes → (e ≢ list_error.Memory → stepped joined x ≡ Err e) → IsPastOn e (path ++ names)
join_past path names i x joined e l n j p k = step_past joined (path ++ names) x e k p (step_front path names i x joined l n j)
