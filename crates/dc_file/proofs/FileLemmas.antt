-- What is seen of a file, and what is read of it.
use Rattle.std.proofs.Common.{◌≡◌, ℕ, ◌≤◌, Bool, true, false, nat_le, if◌then◌else◌, List, [], length, Option, Some, None, unwrap_or, IfSome, Ok, Err, refl, sym, ap, ◌∙◌, subst, arith}
use Rattle.std.specs.Option.{IsSomeAnd}
use Rattle.std.proofs.lemmas.Bool.Decides.{nat_tests}
use Rattle.std.proofs.lemmas.List.{take_all}
use Rattle.dc_path.specs.Paths.{Names}
use Rattle.dc_attrs.specs.Trees.{Tree, Node, seen, bytes_of}
use Rattle.dc_attrs.specs.declared.shown.Seen.{Seen}
use Rattle.dc_attrs.specs.declared.shown.Seen.TheVariants as seen_as
use Rattle.dc_attrs.proofs.TreeLemmas as tree
use Rattle.dc_fs.specs.Looks.{IsRead}
use Rattle.dc_file.specs.Files.{max_bytes, within_limit, file_by, file_at, FileAnswers, refused_length, RefusedLength, IsReadWhole}
use Rattle.dc_file.specs.declared.reading.FileError.{FileError}
use Rattle.dc_file.specs.declared.reading.FileError.TheVariants as file_error

-- what is read of a file that is seen is what stands there, of the length that was seen
record Stands (o : Option Node) (n : ℕ) : Type 0 where
  bytes : List ℕ
  are : bytes_of o ≡ Some bytes
  many : length bytes ≡ n

stands : (t : Tree) (p : Names) (n : ℕ) → seen t p ≡ seen_as.File n → Stands (t p) n
stands t p n h = let f = tree.file_at (t p) n (tree.seen_from-File t [] p n h) in record { bytes = f.0; are = ap bytes_of f.2; many = f.3 }

-- ---- a length that is refused
is_big : (b : Bool) (e : FileError) → (if b then None else Some file_error.TooBig) ≡ Some e → (b ≡ false) × (e ≡ file_error.TooBig)
is_big true e h = absurd (cc)
is_big false e h = (refl, cc)

no_file : (t : Tree) (p : Names) (s : Seen) (e : FileError) → seen t p ≡ s → file_by s (unwrap_or (bytes_of (t p)) []) ≡ Err file_error.NoFile → Some file_error.NoFile ≡ Some e → FileAnswers (Err e) (file_at t p)
no_file t p s e q h r =
    subst (λ (z : FileError). FileAnswers (Err z) (file_at t p)) (let k : file_error.NoFile ≡ e = cc in k)
    (ap (λ (z : Seen). file_by z (unwrap_or (bytes_of (t p)) [])) q ∙ h)

big_file : (t : Tree) (p : Names) (n : ℕ) (e : FileError) → seen t p ≡ seen_as.File n → refused_length (seen_as.File n) ≡ Some e → FileAnswers (Err e) (file_at t p)
big_file t p n e q h =
    let k = is_big (nat_le n max_bytes) e h in
    let f = stands t p n q in
    subst (λ (z : FileError). FileAnswers (Err z) (file_at t p)) (sym k.1)
    (ap (λ (z : Seen). file_by z (unwrap_or (bytes_of (t p)) [])) q
    ∙ ap (λ (z : Option (List ℕ)). within_limit (unwrap_or z [])) f.are
    ∙ ap (λ (z : ℕ). if nat_le z max_bytes then Ok f.bytes else Err file_error.TooBig) f.many
    ∙ ap (λ (z : Bool). if z then Ok f.bytes else Err file_error.TooBig) k.0)

refused_seen : (t : Tree) (p : Names) (s : Seen) (e : FileError) → seen t p ≡ s → refused_length s ≡ Some e → FileAnswers (Err e) (file_at t p)
refused_seen t p (seen_as.File n) e q h = big_file t p n e q h
refused_seen t p seen_as.Dir e q h = no_file t p seen_as.Dir e q refl h
refused_seen t p seen_as.Missing e q h = no_file t p seen_as.Missing e q refl h
refused_seen t p seen_as.NotDir e q h = no_file t p seen_as.NotDir e q refl h

pub refused_told : (told : Option Tree) (p : Names) (e : FileError) → IfSome told (λ t. RefusedLength (seen t p) e) → IfSome told (λ t. FileAnswers (Err e) (file_at t p))
refused_told None p e h = tt
refused_told (Some t) p file_error.NoFile h = refused_seen t p (seen t p) file_error.NoFile refl h
refused_told (Some t) p file_error.TooBig h = refused_seen t p (seen t p) file_error.TooBig refl h
refused_told (Some t) p file_error.Changed h = refused_seen t p (seen t p) file_error.Changed refl h
refused_told (Some t) p file_error.Fault h = tt
refused_told (Some t) p file_error.Memory h = tt

-- ---- a read
read_of : (o : Option (List ℕ)) (b : List ℕ) (count : ℕ) (into : List ℕ) → o ≡ Some b → IsSomeAnd o (λ bytes. IsRead bytes 0 count into) → IsRead b 0 count into
read_of o b count into e h = subst (λ (q : Option (List ℕ)). IsSomeAnd q (λ bytes. IsRead bytes 0 count into)) e h

pub whole_told : (told : Option Tree) (p : Names) (old into : List ℕ) (count : ℕ) → IfSome told (λ t. seen t p ≡ seen_as.File (length old)) → length into ≡ length old → count ≡ length into
    → IfSome told (λ t. IsSomeAnd (bytes_of (t p)) (λ bytes. IsRead bytes 0 count into)) → IfSome told (λ t. IsReadWhole (bytes_of (t p)) into)
whole_told None p old into count h l c r = tt
whole_told (Some t) p old into count h l c r =
    let f = stands t p (length old) h in
    let read = read_of (bytes_of (t p)) f.bytes count into f.are r in
    let many = f.many in
    let same : f.bytes ≡ into = sym (take_all count f.bytes (omega arith)) ∙ sym read.copied ∙ take_all count into (omega arith) in
    f.are ∙ ap (λ (z : List ℕ). Some z) same

-- a store that reads less than it showed tells nothing
pub short_silent : (told : Option Tree) (p : Names) (old into : List ℕ) (count : ℕ) → IfSome told (λ t. seen t p ≡ seen_as.File (length old)) → length into ≡ length old → (count ≡ length into → ⊥)
    → IfSome told (λ t. IsSomeAnd (bytes_of (t p)) (λ bytes. IsRead bytes 0 count into)) → told ≡ None
short_silent None p old into count h l c r = refl
short_silent (Some t) p old into count h l c r =
    let f = stands t p (length old) h in
    let read = read_of (bytes_of (t p)) f.bytes count into f.are r in
    let many = f.many in
    let counted = read.counted in
    absurd (c (omega arith))

pub silent : (told : Option Tree) (p : Names) (e : FileError) → told ≡ None → IfSome told (λ t. FileAnswers (Err e) (file_at t p))
silent told p e h = subst (λ (o : Option Tree). IfSome o (λ t. FileAnswers (Err e) (file_at t p))) (sym h) tt

pub file_told : (told : Option Tree) (p : Names) (n : ℕ) (bytes : List ℕ) → IfSome told (λ t. seen t p ≡ seen_as.File n) → length bytes ≤ max_bytes
    → IfSome told (λ t. IsReadWhole (bytes_of (t p)) bytes) → IfSome told (λ t. FileAnswers (Ok bytes) (file_at t p))
file_told None p n bytes h l r = tt
file_told (Some t) p n bytes h l r =
    let k : nat_le (length bytes) max_bytes ≡ true = grind (arith, nat_tests) in
    ap (λ (z : Seen). file_by z (unwrap_or (bytes_of (t p)) [])) h
    ∙ ap (λ (z : Option (List ℕ)). within_limit (unwrap_or z [])) r
    ∙ ap (λ (z : Bool). if z then Ok bytes else Err file_error.TooBig) k
