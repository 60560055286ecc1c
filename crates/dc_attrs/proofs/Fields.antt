-- The fields of a line, and the extended attributes of a field.
use Rattle.std.proofs.Common.{◌≡◌, Bor, take, ℕ, zero, suc, ◌+◌, ◌*◌, ◌<◌, ◌≤◌, ◌^◌, ◌/◌, ◌%◌, ◌==◌, true, false, List, [], ◌∷◌, ◌++◌, length, map, get_or, codes, None, Result, Ok, Err, IfOk, IfErr, refl, sym, ap, ap₂, ◌∙◌, arith, append_assoc, append-nil, add-one, drop, ◌-◌}
use Rattle.std.specs.Char.{is_ascii_digit}
use Rattle.std.specs.Cmp.{first_so, second_so}
use Rattle.std.specs.Fmt.{decimal}
use Rattle.std.specs.List.{flat_map, list_all, slice_split, join_with_byte, position_or_len, before_first, after_first}
use Rattle.std.proofs.Math.Utf8.{encode}
use Rattle.std.proofs.lemmas.Str.{encode_ascii}
use Rattle.std.proofs.lemmas.Bool.Decides.{nat_tests}
use Rattle.std.proofs.lemmas.Fmt.{decimal_injective}
use Rattle.std.proofs.lemmas.List.{length-append, take_rest}
use Rattle.std.proofs.lemmas.List.Elements.{All-nil, All-cons, All-append}
use Rattle.std.proofs.lemmas.List.Splits.{slice_split_none, slice_split_at, slice_split_first, join_with_byte-slice_split}
use Rattle.std.proofs.Math.ListN.{length-map}
use Rattle.dc_path.specs.Paths.{Names, IsPath, text_of}
use Rattle.dc_path.specs.Reading.{path_from}
use Rattle.dc_path.proofs.LawProofs.{text_reads_back}
use Rattle.dc_path.proofs.LineLemmas.{none_passes}
use Rattle.dc_path.proofs.NumberLemmas.{decimal_digits}
use Rattle.dc_attrs.specs.Attributes.{Attributes}
use Rattle.dc_attrs.specs.Limits.{bad_field, checked, unless_bad}
use Rattle.dc_attrs.specs.declared.attributes.AttrsError.{AttrsError}
use Rattle.dc_attrs.specs.Lines.{escaped, octal, pair_of, pairs_of, fields_of, line_of, HasLine, IsNoLine, OneLineEach}
use Rattle.dc_attrs.specs.Spelling.{ReadsBack}
use Rattle.dc_attrs.specs.declared.lines.LineError.{LineError}
use Rattle.dc_attrs.specs.declared.lines.LineError.TheVariants.{Bad, Memory}
use Rattle.dc_attrs.specs.declared.attributes.Xattr.{Xattr}
use Rattle.dc_attrs.proofs.LimitLemmas.{most_replication, most_block_size, most_mode}
use Rattle.dc_attrs.proofs.Spelled.{Lacks, escaped_same, escaped_lacks_tab, escaped_lacks_comma, escaped_lacks_equals}

-- ---- numbers
digit_no_tab : (b : ℕ) → is_ascii_digit b ≡ true → (b == 9) ≡ false
digit_no_tab b h = grind (arith, nat_tests)

digits_lack : (x : List ℕ) → list_all is_ascii_digit x ≡ true → Lacks 9 x
digits_lack [] h = All-nil (λ b. (b == 9) ≡ false)
digits_lack (b ∷ x) h =
    All-cons (λ b. (b == 9) ≡ false) b x (digit_no_tab b (first_so (is_ascii_digit b) (list_all is_ascii_digit x) h)) (digits_lack x (second_so (is_ascii_digit b) (list_all is_ascii_digit x) h))

decimal_lacks : (n : ℕ) → n < 2 ^ 64 → Lacks 9 (decimal n)
decimal_lacks n h = digits_lack (decimal n) (decimal_digits n h)

shown_no_tab : (k : ℕ) → (48 + k == 9) ≡ false
shown_no_tab k = grind (arith, nat_tests)

four_lack : (a b c d : ℕ) → Lacks 9 ((48 + a) ∷ (48 + b) ∷ (48 + c) ∷ (48 + d) ∷ [])
four_lack a b c d =
    All-cons (λ e. (e == 9) ≡ false) (48 + a) ((48 + b) ∷ (48 + c) ∷ (48 + d) ∷ []) (shown_no_tab a)
    (All-cons (λ e. (e == 9) ≡ false) (48 + b) ((48 + c) ∷ (48 + d) ∷ []) (shown_no_tab b)
    (All-cons (λ e. (e == 9) ≡ false) (48 + c) ((48 + d) ∷ []) (shown_no_tab c) (All-cons (λ e. (e == 9) ≡ false) (48 + d) [] (shown_no_tab d) (All-nil (λ e. (e == 9) ≡ false)))))

octal_lacks : (m : ℕ) → Lacks 9 (octal m)
unfolding octal
octal_lacks m = four_lack (m / 512 % 8) (m / 64 % 8) (m / 8 % 8) (m % 8)

-- a mode is the sum of its digits
pub octal_sum : (m : ℕ) → m < 4096 → 512 * (m / 512 % 8) + 64 * (m / 64 % 8) + 8 * (m / 8 % 8) + m % 8 ≡ m
octal_sum m h = omega arith

pub octal_at : (m : ℕ) (field : List ℕ) → octal m ≡ field → (48 + m / 512 % 8 ≡ get_or field 0 0) × (48 + m / 64 % 8 ≡ get_or field 1 0) × (48 + m / 8 % 8 ≡ get_or field 2 0) × (48 + m % 8 ≡ get_or field 3 0) × (length field ≡ 4)
unfolding octal
octal_at m field e = (ap (λ (l : List ℕ). get_or l 0 0) e, ap (λ (l : List ℕ). get_or l 1 0) e, ap (λ (l : List ℕ). get_or l 2 0) e, ap (λ (l : List ℕ). get_or l 3 0) e, sym (ap (λ (l : List ℕ). length l) e))

one_digit : (a k : ℕ) → a ≡ 48 + k → k < 8 → encode a ≡ (48 + k) ∷ []
one_digit a k e s = ap encode e ∙ encode_ascii (48 + k) (omega arith)

pub octal_written : (m a b c d : ℕ) (start one two three four five : List ℕ) → one ≡ start ++ 9 ∷ [] → two ≡ one ++ encode a → three ≡ two ++ encode b → four ≡ three ++ encode c → five ≡ four ++ encode d
    → a ≡ 48 + m / 512 % 8 → b ≡ 48 + m / 64 % 8 → c ≡ 48 + m / 8 % 8 → d ≡ 48 + m % 8 → five ≡ start ++ 9 ∷ octal m
unfolding octal
octal_written m a b c d start one two three four five e f g h i ea eb ec ed =
    let joins = λ (x y : List ℕ). x ++ y in
    i ∙ ap₂ joins (h ∙ ap₂ joins (g ∙ ap₂ joins (f ∙ ap₂ joins e (one_digit a (m / 512 % 8) ea (omega arith))) (one_digit b (m / 64 % 8) eb (omega arith))) (one_digit c (m / 8 % 8) ec (omega arith))) (one_digit d (m % 8) ed (omega arith))
    ∙ simp append_assoc

-- the mode that four digits spell
pub octal_value : (m : ℕ) (field : List ℕ) (a b c d : ℕ) → m < 4096 → octal m ≡ field
    → (48 ≤ get_or field 0 0 → get_or field 0 0 < 56 → 48 + a ≡ get_or field 0 0) → (48 ≤ get_or field 1 0 → get_or field 1 0 < 56 → 48 + b ≡ get_or field 1 0)
    → (48 ≤ get_or field 2 0 → get_or field 2 0 < 56 → 48 + c ≡ get_or field 2 0) → (48 ≤ get_or field 3 0 → get_or field 3 0 < 56 → 48 + d ≡ get_or field 3 0)
    → a * 512 + b * 64 + c * 8 + d ≡ m
octal_value m field a b c d h e ka kb kc kd =
    let at = octal_at m field e in
    let sum = octal_sum m h in
    let ea : 48 + a ≡ get_or field 0 0 = ka (omega (arith, at.0)) (omega (arith, at.0)) in
    let eb : 48 + b ≡ get_or field 1 0 = kb (omega (arith, at.1)) (omega (arith, at.1)) in
    let ec : 48 + c ≡ get_or field 2 0 = kc (omega (arith, at.2)) (omega (arith, at.2)) in
    let ed : 48 + d ≡ get_or field 3 0 = kd (omega (arith, at.3)) (omega (arith, at.3)) in
    omega (arith, at.0, at.1, at.2, at.3, sum, ea, eb, ec, ed)

octal_shown : (m : ℕ) → (get_or (octal m) 0 0 ≡ 48 + m / 512 % 8) × (get_or (octal m) 1 0 ≡ 48 + m / 64 % 8) × (get_or (octal m) 2 0 ≡ 48 + m / 8 % 8) × (get_or (octal m) 3 0 ≡ 48 + m % 8)
unfolding octal
octal_shown m = (refl, refl, refl, refl)

octal_same : (m n : ℕ) → m < 4096 → n < 4096 → octal m ≡ octal n → m ≡ n
octal_same m n h k e =
    let a = octal_at m (octal n) e in
    let b = octal_shown n in
    let r = octal_sum m h in
    let s = octal_sum n k in
    omega (arith, a.0, a.1, a.2, a.3, b.0, b.1, b.2, b.3, r, s)

-- ---- parts that are joined
AllLack : ℕ → List (List ℕ) → Type 0
AllLack c [] = Unit {0}
AllLack c (x ∷ xs) = Lacks c x × AllLack c xs

itself : (c : ℕ) → (c == c) ≡ true
itself c = grind (arith, nat_tests)

split_join : (c : ℕ) (x : List ℕ) (xs : List (List ℕ)) → AllLack c (x ∷ xs) → slice_split (λ b. b == c) (join_with_byte c (x ∷ xs)) ≡ x ∷ xs
unfolding AllLack
split_join c x [] h = slice_split_none (λ b. b == c) x h.0
split_join c x (y ∷ xs) h = slice_split_at (λ b. b == c) x c (join_with_byte c (y ∷ xs)) h.0 (itself c) ∙ ap (λ (t : List (List ℕ)). x ∷ t) (split_join c y xs h.1)

-- ---- extended attributes
pair_lacks : (c : ℕ) (x : Xattr) → (61 == c) ≡ false → Lacks c (escaped x.name) → Lacks c (escaped x.value) → Lacks c (pair_of x)
pair_lacks c x e n v = All-append (λ b. (b == c) ≡ false) (escaped x.name) (61 ∷ escaped x.value) n (All-cons (λ b. (b == c) ≡ false) 61 (escaped x.value) e v)

pair_lacks_tab : (x : Xattr) → Lacks 9 (pair_of x)
pair_lacks_tab x = pair_lacks 9 x refl (escaped_lacks_tab x.name) (escaped_lacks_tab x.value)

pair_lacks_comma : (x : Xattr) → Lacks 44 (pair_of x)
pair_lacks_comma x = pair_lacks 44 x refl (escaped_lacks_comma x.name) (escaped_lacks_comma x.value)

pairs_lack_comma : (xs : List Xattr) → AllLack 44 (map pair_of xs)
unfolding AllLack
pairs_lack_comma [] = tt
pairs_lack_comma (x ∷ xs) = (pair_lacks_comma x, pairs_lack_comma xs)

pairs_lack_tab : (xs : List Xattr) → Lacks 9 (pairs_of xs)
pairs_lack_tab [] = All-nil (λ b. (b == 9) ≡ false)
pairs_lack_tab (x ∷ []) = pair_lacks_tab x
pairs_lack_tab (x ∷ y ∷ xs) =
    All-append (λ b. (b == 9) ≡ false) (pair_of x) (44 ∷ pairs_of (y ∷ xs)) (pair_lacks_tab x) (All-cons (λ b. (b == 9) ≡ false) 44 (pairs_of (y ∷ xs)) refl (pairs_lack_tab (y ∷ xs)))

pub pair_split : (x : Xattr) → slice_split (λ b. b == 61) (pair_of x) ≡ escaped x.name ∷ escaped x.value ∷ []
pair_split x =
    slice_split_at (λ b. b == 61) (escaped x.name) 61 (escaped x.value) (escaped_lacks_equals x.name) refl
    ∙ ap (λ (t : List (List ℕ)). escaped x.name ∷ t) (slice_split_none (λ b. b == 61) (escaped x.value) (escaped_lacks_equals x.value))

pub pair_made : (x y : Xattr) → x.name ≡ y.name → x.value ≡ y.value → x ≡ y
pair_made x y n v = ap₂ (λ (a b : List ℕ). let z : Xattr = record { name = a; value = b } in z) n v

pair_same : (x y : Xattr) → pair_of x ≡ pair_of y → x ≡ y
pair_same x y e =
    let f : escaped x.name ∷ escaped x.value ∷ [] ≡ escaped y.name ∷ escaped y.value ∷ [] = sym (pair_split x) ∙ ap (slice_split (λ b. b == 61)) e ∙ pair_split y in
    let n : escaped x.name ≡ escaped y.name = cc in
    let v : escaped x.value ≡ escaped y.value = cc in
    pair_made x y (escaped_same x.name y.name n) (escaped_same x.value y.value v)

maps_same : (xs ys : List Xattr) → map pair_of xs ≡ map pair_of ys → xs ≡ ys
maps_same [] [] e = refl
maps_same [] (y ∷ ys) e = absurd (cc)
maps_same (x ∷ xs) [] e = absurd (cc)
maps_same (x ∷ xs) (y ∷ ys) e =
    let h : pair_of x ≡ pair_of y = cc in
    let t : map pair_of xs ≡ map pair_of ys = cc in
    ap₂ (λ (z : Xattr) (zs : List Xattr). z ∷ zs) (pair_same x y h) (maps_same xs ys t)

pair_filled : (x : Xattr) → 1 ≤ length (pair_of x)
pair_filled x = omega (arith, length-append (escaped x.name) (61 ∷ escaped x.value))

pairs_filled : (x : Xattr) (xs : List Xattr) → 1 ≤ length (pairs_of (x ∷ xs))
pairs_filled x [] = pair_filled x
pairs_filled x (y ∷ xs) = omega (arith, pair_filled x, length-append (pair_of x) (44 ∷ pairs_of (y ∷ xs)))

pub pairs_split : (x : Xattr) (xs : List Xattr) → slice_split (λ b. b == 44) (pairs_of (x ∷ xs)) ≡ map pair_of (x ∷ xs)
pairs_split x xs = split_join 44 (pair_of x) (map pair_of xs) (pairs_lack_comma (x ∷ xs))

-- what stands before and behind the first `=`
module _ (x : Xattr) (part : List ℕ) (e : pair_of x ≡ part) where
  whole_pair : slice_split (λ b. b == 61) part ≡ escaped x.name ∷ escaped x.value ∷ []
  whole_pair = sym (ap (slice_split (λ b. b == 61)) e) ∙ pair_split x

  pub no_equals : position_or_len (λ b. b == 61) part ≡ length part → ⊥
  no_equals h =
      let one : part ∷ [] ≡ escaped x.name ∷ escaped x.value ∷ [] = sym (slice_split_none (λ b. b == 61) part (none_passes (λ b. b == 61) part (omega (arith, h)))) ∙ whole_pair in
      cc

  pub pair_cut : position_or_len (λ b. b == 61) part < length part → (escaped x.name ≡ before_first (λ b. b == 61) part) × (escaped x.value ≡ after_first (λ b. b == 61) part)
  pair_cut h =
      let both : before_first (λ b. b == 61) part ∷ slice_split (λ b. b == 61) (after_first (λ b. b == 61) part) ≡ escaped x.name ∷ escaped x.value ∷ [] =
      sym (slice_split_first (λ b. b == 61) part 0 h) ∙ whole_pair in
      let name : before_first (λ b. b == 61) part ≡ escaped x.name = cc in
      let rest : slice_split (λ b. b == 61) (after_first (λ b. b == 61) part) ≡ escaped x.value ∷ [] = cc in
      (sym name, sym (ap (join_with_byte 61) rest) ∙ join_with_byte-slice_split 61 (after_first (λ b. b == 61) part))

-- the extended attributes of a field
pub no_pairs : (xs : List Xattr) (field : List ℕ) → pairs_of xs ≡ field → length field ≡ 0 → [] ≡ xs
no_pairs [] field e h = refl
no_pairs (x ∷ xs) field e h = absurd (omega (arith, pairs_filled x xs, ap (λ (t : List ℕ). length t) e))

pub some_pairs : (xs : List Xattr) (field : List ℕ) → pairs_of xs ≡ field → 0 < length field → map pair_of xs ≡ slice_split (λ b. b == 44) field
some_pairs [] field e h = absurd (omega (arith, ap (λ (t : List ℕ). length t) e))
some_pairs (x ∷ xs) field e h = sym (pairs_split x xs) ∙ ap (slice_split (λ b. b == 44)) e

pairs_same : (xs ys : List Xattr) → pairs_of xs ≡ pairs_of ys → xs ≡ ys
pairs_same [] ys e = no_pairs ys [] (sym e) refl
pairs_same (x ∷ xs) [] e = absurd (omega (arith, pairs_filled x xs, ap (λ (t : List ℕ). length t) e))
pairs_same (x ∷ xs) (y ∷ ys) e = maps_same (x ∷ xs) (y ∷ ys) (sym (pairs_split x xs) ∙ ap (slice_split (λ b. b == 44)) e ∙ pairs_split y ys)

-- what the part at a place spells
pub pair_at : (ys : List Xattr) (parts : List (Bor (List ℕ))) (i : ℕ) (d : Bor (List ℕ)) → map pair_of ys ≡ map (λ part. part.now) parts → i < length parts
    → (y : Xattr) × (pair_of y ≡ (get_or parts i d).now) × (take (i + 1) ys ≡ take i ys ++ y ∷ [])
pair_at ys [] i d e h = absurd (omega arith)
pair_at [] (part ∷ parts) i d e h = absurd (cc)
pair_at (y ∷ ys) (part ∷ parts) zero d e h = let is : pair_of y ≡ part.now = cc in (y, is, refl)
pair_at (y ∷ ys) (part ∷ parts) (suc i) d e h =
    let rest : map pair_of ys ≡ map (λ part. part.now) parts = cc in
    let at = pair_at ys parts i d rest (omega arith) in
    (at.0, at.1, ap (λ (n : ℕ). take n (y ∷ ys)) (add-one (suc i)) ∙ ap (λ (zs : List Xattr). y ∷ zs) (ap (λ (n : ℕ). take n ys) (sym (add-one i)) ∙ at.2))

pub all_pairs : (ys : List Xattr) (parts : List (Bor (List ℕ))) → map pair_of ys ≡ map (λ part. part.now) parts → take (length parts) ys ≡ ys
all_pairs [] [] e = refl
all_pairs [] (part ∷ parts) e = absurd (cc)
all_pairs (y ∷ ys) [] e = absurd (cc)
all_pairs (y ∷ ys) (part ∷ parts) e =
    let rest : map pair_of ys ≡ map (λ part. part.now) parts = cc in
    ap (λ (zs : List Xattr). y ∷ zs) (all_pairs ys parts rest)

-- what follows from the part at a place
pub pair_by : {G : Type 0} (ys : List Xattr) (parts : List (Bor (List ℕ))) (i : ℕ) (d : Bor (List ℕ)) → map pair_of ys ≡ map (λ part. part.now) parts → i < length parts
    → ((y : Xattr) → pair_of y ≡ (get_or parts i d).now → take (i + 1) ys ≡ take i ys ++ y ∷ [] → G) → G
pair_by ys parts i d e h k = let at = pair_at ys parts i d e h in k at.0 at.1 at.2

-- the first one, and each other behind a comma
joined_pairs : (x : Xattr) (xs : List Xattr) → pairs_of (x ∷ xs) ≡ pair_of x ++ flat_map (λ y. 44 ∷ pair_of y) xs
joined_pairs x [] = sym (append-nil (pair_of x))
joined_pairs x (y ∷ xs) = ap (λ (t : List ℕ). pair_of x ++ 44 ∷ t) (joined_pairs y xs)

pub written_none : (xs : List Xattr) (line : List ℕ) → length xs < 1 → line ≡ line ++ pairs_of xs
written_none [] line h = sym (append-nil line)
written_none (x ∷ xs) line h = absurd (omega arith)

pub written_pairs : (xs : List Xattr) (first : Xattr) (line one all : List ℕ) → 1 ≤ length xs → first ≡ get_or xs 0 first
    → one ≡ line ++ pair_of first → all ≡ one ++ flat_map (λ x. 44 ∷ pair_of x) (take (length xs - 1) (drop 1 xs)) → all ≡ line ++ pairs_of xs
written_pairs [] first line one all h f o a = absurd (omega arith)
written_pairs (x ∷ xs) first line one all h f o a =
    a ∙ ap (λ (t : List Xattr). one ++ flat_map (λ x. 44 ∷ pair_of x) t) (take_rest (x ∷ xs) 1)
    ∙ ap (λ (t : List ℕ). t ++ flat_map (λ x. 44 ∷ pair_of x) xs) (o ∙ ap (λ (z : Xattr). line ++ pair_of z) f)
    ∙ append_assoc line (pair_of x) (flat_map (λ x. 44 ∷ pair_of x) xs)
    ∙ ap (λ (t : List ℕ). line ++ t) (sym (joined_pairs x xs))

-- ---- the whole line
module _ (p : Names) (a : Attributes) (h : HasLine p a) where
  pub small_replication : a.replication < 2 ^ 64
  small_replication = omega (arith, most_replication a h.within)

  pub small_block_size : a.block_size < 2 ^ 64
  small_block_size = omega (arith, most_block_size a h.within)

  pub small_mode : a.mode < 4096
  small_mode = omega (arith, most_mode a h.within)

  fields_lack : AllLack 9 (fields_of p a)
  unfolding AllLack
  fields_lack = (
    All-cons (λ b. (b == 9) ≡ false) 61 [] refl (All-nil (λ b. (b == 9) ≡ false)),
    (
      escaped_lacks_tab (text_of p),
      (
        decimal_lacks a.replication small_replication,
        (
          decimal_lacks a.block_size small_block_size,
          (
            escaped_lacks_tab a.user,
            (
              escaped_lacks_tab a.group,
              (
                octal_lacks a.mode,
                (
                  escaped_lacks_tab a.acl,
                  (pairs_lack_tab a.xattrs, (decimal_lacks a.mtime h.in_range, tt)),
                ),
              ),
            ),
          ),
        ),
      ),
    ),
  )

  pub fields_split : slice_split (λ b. b == 9) (line_of p a) ≡ fields_of p a
  unfolding line_of
  fields_split = split_join 9 (codes "=") _ fields_lack

attrs_made : (a b : Attributes) → a.replication ≡ b.replication → a.block_size ≡ b.block_size → a.user ≡ b.user → a.group ≡ b.group → a.mode ≡ b.mode → a.acl ≡ b.acl → a.xattrs ≡ b.xattrs → a.mtime ≡ b.mtime → a ≡ b
attrs_made a b r s u g m l x t =
    let made : record a { mtime = a.mtime } ≡ record b { mtime = b.mtime } = cc in made

path_same : (p q : Names) → IsPath p → IsPath q → text_of p ≡ text_of q → p ≡ q
path_same p q h k e = let f : Ok p ≡ Ok q = sym (text_reads_back p h) ∙ ap path_from e ∙ text_reads_back q k in cc

-- the fields say which path and which attributes they are of
pub fields_same : (p q : Names) (a b : Attributes) → HasLine p a → HasLine q b → fields_of p a ≡ fields_of q b → (p ≡ q) × (a ≡ b)
fields_same p q a b h k e = (
  path_same p q h.is_path k.is_path (escaped_same (text_of p) (text_of q) (ap (λ (fs : List (List ℕ)). get_or fs 1 []) e)),
  attrs_made a b
      (decimal_injective a.replication b.replication (small_replication p a h) (small_replication q b k) (ap (λ (fs : List (List ℕ)). get_or fs 2 []) e))
      (decimal_injective a.block_size b.block_size (small_block_size p a h) (small_block_size q b k) (ap (λ (fs : List (List ℕ)). get_or fs 3 []) e))
      (escaped_same a.user b.user (ap (λ (fs : List (List ℕ)). get_or fs 4 []) e))
      (escaped_same a.group b.group (ap (λ (fs : List (List ℕ)). get_or fs 5 []) e))
      (octal_same a.mode b.mode (small_mode p a h) (small_mode q b k) (ap (λ (fs : List (List ℕ)). get_or fs 6 []) e))
      (escaped_same a.acl b.acl (ap (λ (fs : List (List ℕ)). get_or fs 7 []) e))
      (pairs_same a.xattrs b.xattrs (ap (λ (fs : List (List ℕ)). get_or fs 8 []) e))
      (decimal_injective a.mtime b.mtime h.in_range k.in_range (ap (λ (fs : List (List ℕ)). get_or fs 9 []) e)),
)

pub one_line_each : OneLineEach
one_line_each p q a b h k e = fields_same p q a b h k (sym (fields_split p a h) ∙ ap (slice_split (λ c. c == 9)) e ∙ fields_split q b k)

-- the field at a place
pub field_at : (fields : List (Bor (List ℕ))) (texts : List (List ℕ)) (k : ℕ) (d : Bor (List ℕ)) → texts ≡ map (λ field. field.now) fields → k < length fields → get_or texts k [] ≡ (get_or fields k d).now
field_at [] texts k d e h = absurd (omega arith)
field_at (field ∷ fields) [] k d e h = absurd (cc)
field_at (field ∷ fields) (text ∷ texts) zero d e h = cc
field_at (field ∷ fields) (text ∷ texts) (suc k) d e h = let rest : texts ≡ map (λ field. field.now) fields = cc in field_at fields texts k d rest (omega arith)

pub field_count : (fields : List (Bor (List ℕ))) (p : Names) (a : Attributes) → fields_of p a ≡ map (λ field. field.now) fields → length fields ≡ 10
field_count fields p a e = sym (ap (λ (t : List (List ℕ)). length t) e ∙ length-map fields (λ field. field.now))

-- ---- the attributes that are made of the fields
module _ (made y : Attributes) (h : bad_field y ≡ None) (r : made.replication ≡ y.replication) (s : made.block_size ≡ y.block_size) (u : made.user ≡ y.user) (g : made.group ≡ y.group) (m : made.mode ≡ y.mode) (l : made.acl ≡ y.acl) (x : made.xattrs ≡ y.xattrs) (t : made.mtime ≡ y.mtime) where
  checked_is : checked made ≡ Ok y
  checked_is = ap checked (attrs_made made y r s u g m l x t) ∙ ap (unless_bad y) h

  pub made_ok : (a : Attributes) → Ok a ≡ checked made → a ≡ y
  made_ok a e = let is : Ok a ≡ Ok y = e ∙ checked_is in cc

  pub made_bad : (f : AttrsError) → Err f ≡ checked made → ⊥
  made_bad f e = let is : Err f ≡ Ok y = e ∙ checked_is in cc

-- ---- one field after another
pub line_written : (p : Names) (a : Attributes) (b0 b1 b2 b3 b4 b5 b6 b7 b8 b9 b10 b11 : List ℕ) → b0 ≡ [] → b1 ≡ b0 ++ codes "=" → b2 ≡ b1 ++ 9 ∷ escaped (text_of p) → b3 ≡ b2 ++ 9 ∷ decimal a.replication → b4 ≡ b3 ++ 9 ∷ decimal a.block_size
    → b5 ≡ b4 ++ 9 ∷ escaped a.user → b6 ≡ b5 ++ 9 ∷ escaped a.group → b7 ≡ b6 ++ 9 ∷ octal a.mode → b8 ≡ b7 ++ 9 ∷ escaped a.acl → b9 ≡ b8 ++ 9 ∷ [] → b10 ≡ b9 ++ pairs_of a.xattrs → b11 ≡ b10 ++ 9 ∷ decimal a.mtime
    → b11 ≡ line_of p a
unfolding line_of
line_written p a b0 b1 b2 b3 b4 b5 b6 b7 b8 b9 b10 b11 e0 e1 e2 e3 e4 e5 e6 e7 e8 e9 e10 e11 =
    let on = λ (t x y : List ℕ) (e : x ≡ y). ap (λ (z : List ℕ). z ++ t) e in
    e11 ∙ on (9 ∷ decimal a.mtime) b10 _ (e10 ∙ on (pairs_of a.xattrs) b9 _ (e9 ∙ on (9 ∷ []) b8 _ (e8 ∙ on (9 ∷ escaped a.acl) b7 _ (e7 ∙ on (9 ∷ octal a.mode) b6 _ (e6 ∙ on (9 ∷ escaped a.group) b5 _ (e5 ∙ on (9 ∷ escaped a.user) b4 _
    (e4 ∙ on (9 ∷ decimal a.block_size) b3 _ (e3 ∙ on (9 ∷ decimal a.replication) b2 _ (e2 ∙ on (9 ∷ escaped (text_of p)) b1 _ (e1 ∙ on (codes "=") b0 _ e0))))))))))
    ∙ simp append_assoc

-- what has another spelling is read back too
pub reads_weaker : {X : Type 0} (P Q : X → Type 0) (r : Result X LineError) → ((x : X) → Q x → P x) → ReadsBack P r → ReadsBack Q r
reads_weaker P Q (Ok x) k h = λ y q. h y (k y q)
reads_weaker P Q (Err e) k h = λ ne y q. h ne y (k y q)

-- ---- what is read of a written line
module _ (p : Names) (a : Attributes) (h : HasLine p a) (line : List ℕ) (w : line ≡ line_of p a) where
  same_by : (r : Result (Names × Attributes) LineError) → IfOk r (λ read. HasLine read.0 read.1) → IfOk r (λ read. line_of read.0 read.1 ≡ line) → IfOk r (λ read. (read.0 ≡ p) × (read.1 ≡ a))
  same_by (Ok read) k e = one_line_each read.0 p read.1 a k h (e ∙ w)
  same_by (Err f) k e = tt

  firsts : (r : Result (Names × Attributes) LineError) → IfOk r (λ read. (read.0 ≡ p) × (read.1 ≡ a)) → IfOk r (λ read. read.0 ≡ p)
  firsts (Ok read) k = k.0
  firsts (Err f) k = tt

  seconds : (r : Result (Names × Attributes) LineError) → IfOk r (λ read. (read.0 ≡ p) × (read.1 ≡ a)) → IfOk r (λ read. read.1 ≡ a)
  seconds (Ok read) k = k.1
  seconds (Err f) k = tt

  pub same_path_read : (r : Result (Names × Attributes) LineError) → IfOk r (λ read. HasLine read.0 read.1) → IfOk r (λ read. line_of read.0 read.1 ≡ line) → IfOk r (λ read. read.0 ≡ p)
  same_path_read r k e = firsts r (same_by r k e)

  pub same_attrs_read : (r : Result (Names × Attributes) LineError) → IfOk r (λ read. HasLine read.0 read.1) → IfOk r (λ read. line_of read.0 read.1 ≡ line) → IfOk r (λ read. read.1 ≡ a)
  same_attrs_read r k e = seconds r (same_by r k e)

  pub only_memory : (r : Result (Names × Attributes) LineError) → (r ≡ Err Bad → IsNoLine line) → IfErr r (λ e. e ≡ Memory)
  only_memory (Ok read) k = tt
  only_memory (Err Bad) k = absurd (k refl p a h (sym w))
  only_memory (Err Memory) k = refl
