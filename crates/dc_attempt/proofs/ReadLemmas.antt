-- What a read of a bufferful shows.
use Rattle.std.proofs.Common.{◌≡◌, ℕ, zero, suc, ◌+◌, ◌<◌, ◌≤◌, nat_le, nat_lt, Bool, true, false, if◌then◌else◌, List, [], ◌∷◌, length, take, drop, Option, Some, None, IfSome, refl, sym, ap, ◌∙◌, subst, arith}
use Rattle.std.specs.Option.{is_some, IsSomeAnd}
use Rattle.std.proofs.lemmas.Bool.Decides.{nat_tests}
use Rattle.dc_path.specs.Paths.{Names}
use Rattle.dc_attrs.specs.Trees.{Tree, bytes_of, seen}
use Rattle.dc_attrs.specs.declared.shown.Seen.{Seen}
use Rattle.dc_attrs.specs.declared.shown.Seen.TheVariants as seen_as
use Rattle.dc_attrs.proofs.TreeLemmas.{seen_from-File, file_at}
use Rattle.dc_fs.specs.Answers.{refused_read, refused_if}
use Rattle.dc_fs.specs.Looks.{IsRead}
use Rattle.dc_fs.specs.declared.errors.ReadError.{ReadError}
use Rattle.dc_fs.specs.declared.errors.ReadError.TheVariants as read_error
use Rattle.dc_attempt.specs.Ranges.{is_file, range_in, told_range, lies_in}

file_seen : (t : Tree) (p : Names) (n : ℕ) → seen t p ≡ seen_as.File n → (b : List ℕ) × (bytes_of (t p) ≡ Some b) × (length b ≡ n)
file_seen t p n h = let f = file_at (t p) n (seen_from-File t [] p n h) in (f.0, ap bytes_of f.2, f.3)

refused_short : (b : Bool) (e : ReadError) → refused_if b read_error.Short ≡ Some e → b ≡ true
refused_short true e h = refl
refused_short false e h = absurd (cc)

no_range : (t : Tree) (p : Names) (at count : ℕ) (s : Seen) → seen t p ≡ s → is_file s ≡ false → lies_in (Some t) p at count ≡ false
no_range t p at count s e f = ap (λ (b : Bool). is_some (if b then range_in (bytes_of (t p)) at count else None)) (ap is_file e ∙ f)

past_end : (t : Tree) (p : Names) (at count n : ℕ) → seen t p ≡ seen_as.File n → n < at → lies_in (Some t) p at count ≡ false
past_end t p at count n e h =
    let f = file_seen t p n e in
    let z : nat_le (at + count) (length f.0) ≡ false = (let l = f.2 in grind (arith, nat_tests)) in
    ap (λ (s : Seen). is_some (if is_file s then range_in (bytes_of (t p)) at count else None)) e
    ∙ (ap (λ (o : Option (List ℕ)). is_some (range_in o at count)) f.1
    ∙ ap (λ (b : Bool). is_some (if b then Some (take count (drop at f.0)) else None)) z)

refused_none : (t : Tree) (p : Names) (at count : ℕ) (e : ReadError) (s : Seen) → seen t p ≡ s → refused_read at s ≡ Some e → lies_in (Some t) p at count ≡ false
refused_none t p at count e seen_as.Missing q h = no_range t p at count seen_as.Missing q refl
refused_none t p at count e seen_as.NotDir q h = no_range t p at count seen_as.NotDir q refl
refused_none t p at count e seen_as.Dir q h = no_range t p at count seen_as.Dir q refl
refused_none t p at count e (seen_as.File n) q h = past_end t p at count n q (let b = refused_short (nat_lt n at) e h in grind (arith, nat_tests))

-- a read that is refused shows that the range does not lie in the file
pub part_changed : (told : Option Tree) (p : Names) (at count : ℕ) (e : ReadError) → IfSome told (λ t. refused_read at (seen t p) ≡ Some e) → lies_in told p at count ≡ false
part_changed None p at count e h = refl
part_changed (Some t) p at count e h = refused_none t p at count e (seen t p) refl h

not_short : (b : Bool) → refused_if b read_error.Short ≡ None → b ≡ false
not_short true h = absurd (cc)
not_short false h = refl

some_and : (o : Option (List ℕ)) (b : List ℕ) (at count : ℕ) (into : List ℕ) → o ≡ Some b → IsSomeAnd o (λ bytes. IsRead bytes at count into) → IsRead b at count into
some_and o b at count into e h = subst (λ (q : Option (List ℕ)). IsSomeAnd q (λ bytes. IsRead bytes at count into)) e h

whole : (n : ℕ) (xs : List ℕ) → length xs ≡ n → take n xs ≡ xs
whole zero [] e = refl
whole (suc n) [] e = refl
whole zero (x ∷ xs) e = absurd (omega arith)
whole (suc n) (x ∷ xs) e = ap (λ ys. x ∷ ys) (whole n xs (omega arith))

by_seen : (t : Tree) (p : Names) (at len count : ℕ) (into : List ℕ) (s : Seen) → seen t p ≡ s → length into ≡ len → len ≤ count → count ≤ length into → refused_read at s ≡ None → IsSomeAnd (bytes_of (t p)) (λ b. IsRead b at count into) → told_range (Some t) p at len ≡ Some into
by_seen t p at len count into seen_as.Missing q l low high h r = absurd (cc)
by_seen t p at len count into seen_as.NotDir q l low high h r = absurd (cc)
by_seen t p at len count into seen_as.Dir q l low high h r = absurd (cc)
by_seen t p at len count into (seen_as.File n) q l low high h r =
    let f = file_seen t p n q in
    let b = not_short (nat_lt n at) h in
    let inside : at ≤ n = grind (arith, nat_tests) in
    let read = some_and (bytes_of (t p)) f.0 at count into f.1 r in
    let same : count ≡ len = omega arith in
    let counted = read.counted in
    let fits : nat_le (at + len) (length f.0) ≡ true = (let m = f.2 in let u : at + len ≤ length f.0 = omega arith in grind (arith, nat_tests)) in
    let copied : take len (drop at f.0) ≡ into = ap (λ k. take k (drop at f.0)) (sym same) ∙ (sym read.copied ∙ (ap (λ k. take k into) same ∙ whole len into l)) in
    ap (λ (s : Seen). if is_file s then range_in (bytes_of (t p)) at len else None) q
    ∙ (ap (λ (o : Option (List ℕ)). range_in o at len) f.1
    ∙ (ap (λ (b : Bool). if b then Some (take len (drop at f.0)) else None) fits
    ∙ ap (λ (xs : List ℕ). Some xs) copied))

-- a read of a whole bufferful gives the range
pub part_read : (told : Option Tree) (p : Names) (at len count : ℕ) (into : List ℕ) → length into ≡ len → len ≤ count → count ≤ length into → IfSome told (λ t. refused_read at (seen t p) ≡ None) → IfSome told (λ t. IsSomeAnd (bytes_of (t p)) (λ b. IsRead b at count into)) → IfSome told (λ _. told_range told p at len ≡ Some into)
part_read None p at len count into l low high h r = tt
part_read (Some t) p at len count into l low high h r = by_seen t p at len count into (seen t p) refl l low high h r
