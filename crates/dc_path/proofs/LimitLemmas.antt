-- Which lists of names are within the limits of a path.
use Rattle.std.proofs.Common.{◌≡◌, ℕ, ◌≤◌, Bool, true, false, cond, ◌&&◌, nat_le, nat_lt, List, [], ◌∷◌, ◌++◌, length, Ok, Err, refl, sym, ◌∙◌, subst, arith, length-append, ltb-false, ◌==◌}
use Rattle.std.proofs.lemmas.Bool.Decides.{nat_tests}
use Rattle.std.specs.List.{list_all, prefix_len}
use Rattle.dc_path.specs.Names.{is_name}
use Rattle.dc_path.specs.Paths.{Names, IsPath, IsWithin, joined, max_names, max_bytes}
use Rattle.dc_path.specs.Reading.{within_limits, path_from, path_of, parts_of}
use Rattle.dc_path.proofs.Joins.{length-joined-append}
use Rattle.dc_path.specs.declared.path.PathError.TheVariants.{TooDeep, TooLong, BadName, Relative}
use Rattle.std.specs.Cmp.{first_so}
use Rattle.std.proofs.lemmas.List.Folds.{list_all-append}
use Rattle.std.proofs.lemmas.Grind.{common_steps}
use Rattle.std.proofs.lemmas.List.Sums.{prefix_len-le-length}

-- ---- what is within the limits is answered as it is
within_tests : (n m : ℕ) → n ≤ max_names → m ≤ max_bytes → (nat_lt max_names n ≡ false) × (nat_lt max_bytes m ≡ false)
within_tests n m h k = (grind (arith, nat_tests), grind (arith, nat_tests))

pub within_is : (p : Names) → IsWithin p → within_limits p ≡ Ok p
within_is p h = let t = within_tests (length p) (length (joined p)) h.few h.short in rw (t.0, t.1) refl

-- what is answered is what was asked about
within_at : (a b : Bool) (p q : Names) → cond a (Err TooDeep) (cond b (Err TooLong) (Ok p)) ≡ Ok q → p ≡ q
within_at true b p q e = absurd (cc)
within_at false true p q e = absurd (cc)
within_at false false p q e = cc

pub within_same : (p q : Names) → within_limits p ≡ Ok q → p ≡ q
within_same p q e = within_at (nat_lt max_names (length p)) (nat_lt max_bytes (length (joined p))) p q e

-- ---- paths and fronts
pub path_within : (p : Names) → IsPath p → IsWithin p
path_within p h = record { few = h.few; short = h.short }

-- a front of what is within the limits is
pub front_within : (p q : Names) → IsWithin (p ++ q) → IsWithin p
front_within p q h = record {
  few = let l = length-append p q in let k = h.few in omega arith;
  short = let l = length-joined-append p q in let k = h.short in omega arith;
}

pub front_is_path : (p q : Names) → IsPath (p ++ q) → IsPath p
front_is_path p q h = record {
  named = first_so (list_all is_name p) (list_all is_name q) (sym (list_all-append is_name p q) ∙ h.named);
  few = let l = length-append p q in let k = h.few in omega arith;
  short = let l = length-joined-append p q in let k = h.short in omega arith;
}

-- ---- what a text reads as is a path

prefix_all : (xs : Names) → length xs ≤ prefix_len is_name xs → list_all is_name xs ≡ true
prefix_all [] h = refl
prefix_all (x ∷ xs) h = let ih = prefix_all xs in grind (arith, common_steps, ih)

path_at : (names p : Names) (a b : Bool) → nat_lt max_names (length names) ≡ a → nat_lt max_bytes (length (joined names)) ≡ b → list_all is_name names ≡ true
    → cond a (Err TooDeep) (cond b (Err TooLong) (Ok names)) ≡ Ok p → IsPath p
path_at names p true b e f n h = absurd (cc)
path_at names p false true e f n h = absurd (cc)
path_at names p false false e f n h =
    let k : names ≡ p = cc in
    subst IsPath k (record { named = n; few = ltb-false max_names (length names) e; short = ltb-false max_bytes (length (joined names)) f })

path_of_at : (parts p : Names) (a : Bool) → (nat_lt (prefix_len is_name parts) (length parts) && nat_le (prefix_len is_name parts) max_names) ≡ a
    → cond a (Err (BadName (prefix_len is_name parts))) (within_limits parts) ≡ Ok p → IsPath p
path_of_at parts p true e h = absurd (cc)
path_of_at parts p false e h = path_at parts p (nat_lt max_names (length parts)) (nat_lt max_bytes (length (joined parts))) refl refl (prefix_all parts all) h
  where
    deep : (d : Bool) → nat_lt max_names (length parts) ≡ d → cond d (Err TooDeep) (cond (nat_lt max_bytes (length (joined parts))) (Err TooLong) (Ok parts)) ≡ Ok p → length parts ≤ max_names
    deep true f k = absurd (cc)
    deep false f k = ltb-false max_names (length parts) f

    all : length parts ≤ prefix_len is_name parts
    all = let few = deep (nat_lt max_names (length parts)) refl h in let l = prefix_len-le-length is_name parts in grind (arith, nat_tests)

slash_at : (b : ℕ) (text : List ℕ) (p : Names) (a : Bool) → cond a (path_of (parts_of (b ∷ text))) (Err Relative) ≡ Ok p → IsPath p
slash_at b text p true h = path_of_at (parts_of (b ∷ text)) p _ refl h
slash_at b text p false h = absurd (cc)

pub path_from_is : (text : List ℕ) (p : Names) → path_from text ≡ Ok p → IsPath p
path_from_is [] p h = absurd (cc)
path_from_is (b ∷ text) p h = slash_at b text p (b == 47) h
