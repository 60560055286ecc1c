-- What digests tell of two files, and what a store denies that refuses to give one.
use Rattle.std.proofs.Common.{◌≡◌, inl, inr, ℕ, ◌≤◌, Bool, true, false, nat_eq, List, [], length, take, Option, Some, None, IfSome, refl, sym, ◌∙◌, ap, arith}
use Rattle.std.specs.Cmp.Lexicographic.{pointwise}
use Rattle.std.proofs.lemmas.Bool.{le-ltb}
use Rattle.md5.specs.Md5.{md5}
use Rattle.dc_path.specs.Paths.{Names}
use Rattle.dc_attrs.specs.Trees.{Node, Dir, File, Tree, seen, seen_node, bytes_of}
use Rattle.dc_attrs.specs.declared.shown.Seen.TheVariants as seen_as
use Rattle.dc_attrs.proofs.TreeLemmas.{seen_from-there}
use Rattle.dc_fs.specs.Answers.{refused_read, refused_if}
use Rattle.dc_fs.specs.Digests.{IsChecksum}
use Rattle.dc_fs.specs.declared.errors.ReadError.TheVariants as read_error
use Rattle.dc_fs.specs.Views.{BothTell}
use Rattle.dc_listing.specs.Entries.{Entry, entry_of}
use Rattle.dc_decide.specs.declared.errors.DecideError.{DecideError}
use Rattle.dc_decide.specs.declared.errors.DecideError.TheVariants as decide_error
use Rattle.dc_decide.specs.Errors.{IfChanged}
use Rattle.dc_decide.specs.Looking.{same_fronts, fronts_at, SourceDenies, IsDenied}

-- ---- digests
fronts_is : (n : ℕ) (x y : Option Node) (one other : List ℕ) → IsChecksum n x one → IsChecksum n y other → pointwise nat_eq one other ≡ same_fronts n (bytes_of x) (bytes_of y)
fronts_is n x y one other a b =
    ap (λ (z : List ℕ). pointwise nat_eq z other) a.2
    ∙ ap (λ (z : List ℕ). pointwise nat_eq (md5 (take n a.0)) z) b.2
    ∙ sym (ap (λ (z : Option (List ℕ)). same_fronts n z (bytes_of y)) a.1 ∙ ap (λ (z : Option (List ℕ)). same_fronts n (Some a.0) z) b.1)

pub fronts_told : (source target : Option Tree) (from place : Names) (n : ℕ) (one other : List ℕ) → IfSome source (λ s. IsChecksum n (s from) one) → IfSome target (λ t. IsChecksum n (t place) other)
    → BothTell source target (λ s t. pointwise nat_eq one other ≡ fronts_at s from t place n)
fronts_told None target from place n one other a b = tt
fronts_told (Some s) None from place n one other a b = tt
fronts_told (Some s) (Some t) from place n one other a b = fronts_is n (s from) (t place) one other a b

-- ---- denials
-- a file of at least so many bytes is read
pub reads : (n m : ℕ) → n ≤ m → refused_read n (seen_as.File m) ≡ None
reads n m h = ap (λ (b : Bool). refused_if b read_error.Short) (le-ltb m n h)

shown_reads : (entry : Entry) (n : ℕ) (node : Node) → entry.dir ≡ false → n ≤ entry.length → entry ≡ entry_of entry.rel entry.from node → refused_read n (seen_node (Some node)) ≡ None
shown_reads entry n (Dir a) d h is = let e : entry.dir ≡ true = ap (λ (z : Entry). z.dir) is in let f : true ≡ false = sym e ∙ d in absurd (cc)
shown_reads entry n (File b a) d h is = let e : entry.length ≡ length b = ap (λ (z : Entry). z.length) is in reads n (length b) (omega arith)

source_denies : (told : Option Tree) (entry : Entry) (n : ℕ) → entry.dir ≡ false → n ≤ entry.length → IfSome told (λ s. refused_read n (seen s entry.from) ≡ None → ⊥) → SourceDenies told entry
source_denies None entry n d h denied = tt
source_denies (Some s) entry n d h denied = λ v shown.
    denied (ap (refused_read n) (seen_from-there s [] entry.from shown.node v shown.stands) ∙ shown_reads entry n shown.node d h shown.is)

target_denies : (told : Option Tree) (place : Names) (n m : ℕ) → n ≤ m → IfSome told (λ t. seen t place ≡ seen_as.File m) → IfSome told (λ t. refused_read n (seen t place) ≡ None → ⊥) → told ≡ None
target_denies None place n m h seen_is denied = refl
target_denies (Some t) place n m h seen_is denied = absurd (denied (ap (refused_read n) seen_is ∙ reads n m h))

pub denied_source : (e : DecideError) (source target : Option Tree) (entry : Entry) (place : Names) (n : ℕ) → entry.dir ≡ false → n ≤ entry.length
    → IfChanged e (λ denied. denied ≡ entry.from) → IfChanged e (λ _. IfSome source (λ s. refused_read n (seen s entry.from) ≡ None → ⊥)) → IfChanged e (IsDenied source target entry place)
denied_source decide_error.Clash source target entry place n d h path denied = tt
denied_source decide_error.SourceFault source target entry place n d h path denied = tt
denied_source decide_error.TargetFault source target entry place n d h path denied = tt
denied_source (decide_error.Changed p) source target entry place n d h path denied = inl (path, source_denies source entry n d h denied)
denied_source decide_error.Memory source target entry place n d h path denied = tt

-- a target that tells its tree denied nothing
pub denied_target : (e : DecideError) (source target : Option Tree) (entry : Entry) (place : Names) → IfChanged e (λ denied. denied ≡ place) → IfChanged e (λ _. target ≡ None) → IfChanged e (IsDenied source target entry place)
denied_target decide_error.Clash source target entry place path denied = tt
denied_target decide_error.SourceFault source target entry place path denied = tt
denied_target decide_error.TargetFault source target entry place path denied = tt
denied_target (decide_error.Changed p) source target entry place path denied = inr (path, denied)
denied_target decide_error.Memory source target entry place path denied = tt

target_silent : (e : DecideError) (told : Option Tree) (place : Names) (n m : ℕ) → n ≤ m → IfSome told (λ t. seen t place ≡ seen_as.File m)
    → IfChanged e (λ _. IfSome told (λ t. refused_read n (seen t place) ≡ None → ⊥)) → IfChanged e (λ _. told ≡ None)
target_silent decide_error.Clash told place n m h shown denied = tt
target_silent decide_error.SourceFault told place n m h shown denied = tt
target_silent decide_error.TargetFault told place n m h shown denied = tt
target_silent (decide_error.Changed p) told place n m h shown denied = target_denies told place n m h shown denied
target_silent decide_error.Memory told place n m h shown denied = tt

pub denied_digest : (e : DecideError) (source target : Option Tree) (entry : Entry) (place : Names) (n m : ℕ) → n ≤ m → IfSome target (λ t. seen t place ≡ seen_as.File m)
    → IfChanged e (λ denied. denied ≡ place) → IfChanged e (λ _. IfSome target (λ t. refused_read n (seen t place) ≡ None → ⊥)) → IfChanged e (IsDenied source target entry place)
denied_digest e source target entry place n m h shown path denied = denied_target e source target entry place path (target_silent e target place n m h shown denied)
