-- The laws of paths.
use Rattle.std.proofs.Common.{◌≡◌, ℕ, true, false, cond, List, [], ◌∷◌, ◌++◌, length, refl, ap, ◌∙◌, arith, append-nil, Ok, Err, filter, le-ltb, eqb, rules}
use Rattle.std.specs.List.{list_all, slice_split, All}
use Rattle.std.specs.Cmp.{first_so, second_so}
use Rattle.std.specs.Cmp.Lexicographic.{lists_total, nat_list_cmp_total}
use Rattle.std.specs.FinMap.{nat_cmp-IsAntisymmetric, slice_cmp-IsAntisymmetric}
use Rattle.std.proofs.lemmas.List.Splits.{slice_split_none, slice_split_at}
use Rattle.std.proofs.lemmas.List.Elements.{All-nil, All-cons}
use Rattle.dc_path.specs.Names.{is_name, is_plain}
use Rattle.dc_path.specs.Paths.{joined, IsPath}
use Rattle.dc_path.proofs.PathLemmas.{append-cut, cut-append}
use Rattle.dc_path.proofs.OrderLemmas.{path_lt-cmp}
use Rattle.dc_path.specs.Reading.{path_of, is_filled}
use Rattle.dc_path.specs.Laws.{TextReadsBack, CutIsRest, PathsAreOrdered, LessIsOrder}
use Rattle.dc_path.proofs.Scanning.{path_of-all}
use Rattle.dc_path.specs.declared.path.PathError.TheVariants.{TooLong}

-- ---- order and cut
pub paths_are_ordered : PathsAreOrdered
paths_are_ordered = (lists_total nat_list_cmp_total, slice_cmp-IsAntisymmetric (slice_cmp-IsAntisymmetric nat_cmp-IsAntisymmetric))

pub cut_is_rest : CutIsRest
cut_is_rest front path rest = (append-cut front path rest, λ e. rw e (cut-append front rest))

pub less_is_order : LessIsOrder
less_is_order p q = path_lt-cmp p q

-- ---- a text of names splits into these names
plain_byte : (b : ℕ) → is_plain b ≡ true → eqb b 47 ≡ false
plain_byte b h = search rules

plain_All : (xs : List ℕ) → list_all is_plain xs ≡ true → All (λ b. eqb b 47 ≡ false) xs
plain_All [] h = All-nil (λ b. eqb b 47 ≡ false)
plain_All (x ∷ xs) h = All-cons (λ b. eqb b 47 ≡ false) x xs (plain_byte x (first_so (is_plain x) (list_all is_plain xs) h)) (plain_All xs (second_so (is_plain x) (list_all is_plain xs) h))

name_plain : (x : List ℕ) → is_name x ≡ true → list_all is_plain x ≡ true
unfolding is_name
name_plain x h = grind arith

name_filled : (x : List ℕ) → is_name x ≡ true → is_filled x ≡ true
unfolding is_name
name_filled x h = grind arith

-- the parts behind the first `/`
parts-joined : (x : List ℕ) (names : List (List ℕ)) → is_name x ≡ true → list_all is_name names ≡ true → slice_split (λ byte. eqb byte 47) (x ++ joined names) ≡ x ∷ names
parts-joined x [] h hs = ap (slice_split (λ byte. eqb byte 47)) (append-nil x) ∙ slice_split_none (λ byte. eqb byte 47) x (plain_All x (name_plain x h))
parts-joined x (y ∷ names) h hs =
    slice_split_at (λ byte. eqb byte 47) x 47 (y ++ joined names) (plain_All x (name_plain x h)) refl
    ∙ ap (λ r. x ∷ r) (parts-joined y names (first_so (is_name y) (list_all is_name names) hs) (second_so (is_name y) (list_all is_name names) hs))

-- each name has bytes, so no part is dropped
filter-named : (names : List (List ℕ)) → list_all is_name names ≡ true → filter is_filled names ≡ names
filter-named [] h = refl
filter-named (x ∷ names) h =
    rw (name_filled x (first_so (is_name x) (list_all is_name names) h)) (ap (λ r. x ∷ r) (filter-named names (second_so (is_name x) (list_all is_name names) h)))

-- the parts that are the names of a path are that path
path_of-named : (names : List (List ℕ)) → IsPath names → path_of names ≡ Ok names
path_of-named names p = path_of-all names p.named p.few ∙ ap (λ b. cond b (Err TooLong) (Ok names)) (le-ltb 4096 (length (joined names)) p.short)

pub text_reads_back : TextReadsBack
text_reads_back [] p = refl
text_reads_back (x ∷ names) p =
    let first : is_name x ≡ true = first_so (is_name x) (list_all is_name names) p.named in
    let others : list_all is_name names ≡ true = second_so (is_name x) (list_all is_name names) p.named in
    ap (λ parts. path_of (filter is_filled parts)) (parts-joined x names first others)
    ∙ ap path_of (filter-named (x ∷ names) p.named) ∙ path_of-named (x ∷ names) p

-- the laws that the contract states
pub ruleset laws = (text_reads_back, cut_is_rest, paths_are_ordered, less_is_order)
