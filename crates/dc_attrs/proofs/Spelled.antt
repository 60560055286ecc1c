-- Escaped texts: what is read of them, which bytes they lack, and that they are UTF-8 where what is read of them is.
use Rattle.std.proofs.Common.{◌≡◌, ◌≢◌, ℕ, ◌+◌, ◌<◌, ◌≤◌, ◌/◌, ◌%◌, Bool, true, false, cond, ◌==◌, List, [], ◌∷◌, ◌++◌, length, get_or, refl, sym, ap, subst, ◌∙◌, arith, append_assoc, append-nil, eqb-true, ltb, ltb-true, ltb-false}
use Rattle.std.specs.List.{All}
use Rattle.std.specs.Str.{IsUtf8}
use Rattle.std.specs.Fmt.{digit_glyph}
use Rattle.std.proofs.Math.Seq.{get_or-append_seam, take-append_seam, drop-append_seam}
use Rattle.std.proofs.Math.Utf8.{encode}
use Rattle.std.proofs.lemmas.Bool.Decides.{nat_tests}
use Rattle.std.proofs.lemmas.List.Concat.{flat_map-append}
use Rattle.std.proofs.lemmas.List.{length-append, nil_from_length}
use Rattle.std.proofs.lemmas.List.Elements.{All-nil, All-cons, All-head, All-tail, All-append, All-weaker}
use Rattle.std.proofs.lemmas.Str.{encode_ascii, IsUtf8-append, IsUtf8-from_ascii, IsUtf8-take, IsUtf8-drop, IsCharBoundary-before_ascii, IsCharBoundary-after_ascii}
use Rattle.std.proofs.lemmas.Str.Ascii.{IsAscii-from_all}
use Rattle.percent_encoding.specs.Percent.{percent_encode_byte, percent_decode}
use Rattle.percent_encoding.proofs.PercentLemmas.{IsEscapeByte, All-percent_encode_byte, percent_decode-nil, percent_decode_not_percent, percent_decode-percent_encode_byte}
use Rattle.dc_attrs.specs.Lines.{is_escaped, escape, escaped}

-- ---- one byte
pub escape-kept : (b : ℕ) → is_escaped b ≡ false → escape b ≡ b ∷ []
unfolding escape
escape-kept b h = ap (λ (e : Bool). cond e (percent_encode_byte b) (b ∷ [])) h

pub escape-coded : (b : ℕ) → is_escaped b ≡ true → escape b ≡ percent_encode_byte b
unfolding escape
escape-coded b h = ap (λ (e : Bool). cond e (percent_encode_byte b) (b ∷ [])) h

pub coded_small : (b : ℕ) → is_escaped b ≡ true → b < 128
unfolding is_escaped
coded_small b h = grind (arith, nat_tests)

pub kept_large : (b : ℕ) → 128 ≤ b → is_escaped b ≡ false
unfolding is_escaped
kept_large b h = grind (arith, nat_tests)

no_percent : (b : ℕ) → is_escaped b ≡ false → b ≢ 37
unfolding is_escaped
no_percent b h e = grind (arith, nat_tests)

-- ---- what is read of an escaped text
decoded_step : (b : ℕ) (x : List ℕ) (e : Bool) → is_escaped b ≡ e → percent_decode (escaped x) ≡ x → percent_decode (escape b ++ escaped x) ≡ b ∷ x
decoded_step b x true h ih =
    ap (λ (t : List ℕ). percent_decode (t ++ escaped x)) (escape-coded b h)
    ∙ percent_decode-percent_encode_byte b (escaped x) (let small = coded_small b h in omega (arith, small))
    ∙ ap (λ (t : List ℕ). b ∷ t) ih
decoded_step b x false h ih =
    ap (λ (t : List ℕ). percent_decode (t ++ escaped x)) (escape-kept b h)
    ∙ percent_decode_not_percent b (escaped x) (no_percent b h)
    ∙ ap (λ (t : List ℕ). b ∷ t) ih

pub decoded : (x : List ℕ) → percent_decode (escaped x) ≡ x
decoded [] = percent_decode-nil
decoded (b ∷ x) = decoded_step b x (is_escaped b) refl (decoded x)

pub escaped_same : (x y : List ℕ) → escaped x ≡ escaped y → x ≡ y
escaped_same x y e = sym (decoded x) ∙ ap percent_decode e ∙ decoded y

-- ---- bytes that an escaped text lacks
-- no byte is this one
abbrev pub Lacks : ℕ → List ℕ → Type 0
Lacks c x = All (λ b. (b == c) ≡ false) x

apart : (b c : ℕ) (e : Bool) → (b == c) ≡ e → is_escaped c ≡ true → is_escaped b ≡ false → e ≡ false
apart b c false h k l = refl
apart b c true h k l = let m : is_escaped b ≡ is_escaped c = ap is_escaped (eqb-true b c h) in absurd (cc)

module _ (c : ℕ) (coded : is_escaped c ≡ true) (other : (b : ℕ) → IsEscapeByte b → (b == c) ≡ false) where
  escape_lacks : (b : ℕ) (e : Bool) → is_escaped b ≡ e → Lacks c (escape b)
  escape_lacks b true h = subst (Lacks c) (sym (escape-coded b h)) (All-weaker IsEscapeByte (λ d. (d == c) ≡ false) other (percent_encode_byte b) (All-percent_encode_byte b))
  escape_lacks b false h = subst (Lacks c) (sym (escape-kept b h)) (All-cons (λ d. (d == c) ≡ false) b [] (apart b c (b == c) refl coded h) (All-nil (λ d. (d == c) ≡ false)))

  escaped_lack : (x : List ℕ) → Lacks c (escaped x)
  escaped_lack [] = All-nil (λ d. (d == c) ≡ false)
  escaped_lack (b ∷ x) = All-append (λ d. (d == c) ≡ false) (escape b) (escaped x) (escape_lacks b (is_escaped b) refl) (escaped_lack x)

coded_tab : is_escaped 9 ≡ true
unfolding is_escaped
coded_tab = refl

coded_comma : is_escaped 44 ≡ true
unfolding is_escaped
coded_comma = refl

coded_equals : is_escaped 61 ≡ true
unfolding is_escaped
coded_equals = refl

no_tab : (b : ℕ) → IsEscapeByte b → (b == 9) ≡ false
no_tab b h = grind (arith, nat_tests)

no_comma : (b : ℕ) → IsEscapeByte b → (b == 44) ≡ false
no_comma b h = grind (arith, nat_tests)

no_equals : (b : ℕ) → IsEscapeByte b → (b == 61) ≡ false
no_equals b h = grind (arith, nat_tests)

pub escaped_lacks_tab : (x : List ℕ) → Lacks 9 (escaped x)
escaped_lacks_tab = escaped_lack 9 coded_tab no_tab

pub escaped_lacks_comma : (x : List ℕ) → Lacks 44 (escaped x)
escaped_lacks_comma = escaped_lack 44 coded_comma no_comma

pub escaped_lacks_equals : (x : List ℕ) → Lacks 61 (escaped x)
escaped_lacks_equals = escaped_lack 61 coded_equals no_equals

-- ---- UTF-8
glyph_small : (d : ℕ) → d < 16 → digit_glyph true d < 128
glyph_small d h = grind (arith, nat_tests)

-- a text is cut before an ASCII byte, and behind three
cut_before : (front : List ℕ) (b : ℕ) (rest : List ℕ) → b < 128 → IsUtf8 (front ++ b ∷ rest) → IsUtf8 front × IsUtf8 (b ∷ rest)
cut_before front b rest s u =
    let bs = front ++ b ∷ rest in
    let inside : length front < length bs = omega (arith, length-append front (b ∷ rest)) in
    let small : get_or bs (length front) 0 < 128 = subst (λ (d : ℕ). d < 128) (sym (get_or-append_seam front b rest 0)) s in
    let edge = IsCharBoundary-before_ascii bs (length front) inside small in (
      subst IsUtf8 (take-append_seam front (b ∷ rest)) (IsUtf8-take bs (length front) u edge),
      subst IsUtf8 (drop-append_seam front (b ∷ rest)) (IsUtf8-drop bs (length front) u edge),
    )

cut_behind : (a b c : ℕ) (rest : List ℕ) → c < 128 → IsUtf8 (a ∷ b ∷ c ∷ rest) → IsUtf8 rest
cut_behind a b c rest s u = IsUtf8-drop (a ∷ b ∷ c ∷ rest) 3 u (IsCharBoundary-after_ascii (a ∷ b ∷ c ∷ rest) 2 u (omega arith) s)

coded_utf8 : (front : List ℕ) (b : ℕ) (rest : List ℕ) → IsUtf8 (front ++ (percent_encode_byte b ++ rest)) → IsUtf8 front × IsUtf8 rest
unfolding percent_encode_byte
coded_utf8 front b rest u =
    let parts = cut_before front 37 (digit_glyph true (b / 16 % 16) ∷ digit_glyph true (b % 16) ∷ rest) (omega arith) u in
    (parts.0, cut_behind 37 (digit_glyph true (b / 16 % 16)) (digit_glyph true (b % 16)) rest (glyph_small (b % 16) (omega arith)) parts.1)

utf8_step : (front : List ℕ) (b : ℕ) (x : List ℕ) (e : Bool) → is_escaped b ≡ e → ((f : List ℕ) → IsUtf8 (f ++ escaped x) → IsUtf8 (f ++ x))
    → IsUtf8 (front ++ (escape b ++ escaped x)) → IsUtf8 (front ++ b ∷ x)
utf8_step front b x true h ih u =
    let parts = coded_utf8 front b (escaped x) (subst (λ (t : List ℕ). IsUtf8 (front ++ (t ++ escaped x))) (escape-coded b h) u) in
    IsUtf8-append front (b ∷ x) parts.0 (IsUtf8-append (b ∷ []) x (IsUtf8-from_ascii (b ∷ []) (IsAscii-from_all (b ∷ []) (All-cons (λ d. d < 128) b [] (coded_small b h) (All-nil (λ d. d < 128))))) (ih [] parts.1))
utf8_step front b x false h ih u =
    subst IsUtf8 (append_assoc front (b ∷ []) x)
    (ih (front ++ b ∷ []) (subst IsUtf8 (sym (append_assoc front (b ∷ []) (escaped x))) (subst (λ (t : List ℕ). IsUtf8 (front ++ (t ++ escaped x))) (escape-kept b h) u)))

utf8_from : (x front : List ℕ) → IsUtf8 (front ++ escaped x) → IsUtf8 (front ++ x)
utf8_from [] front u = u
utf8_from (b ∷ x) front u = utf8_step front b x (is_escaped b) refl (utf8_from x) u

-- what is escaped as a text is one
pub utf8_read : (x : List ℕ) → IsUtf8 (escaped x) → IsUtf8 x
utf8_read x u = utf8_from x [] u

-- ---- a character
all_large : (x : List ℕ) → All (λ b. 128 ≤ b) x → escaped x ≡ x
all_large [] h = refl
all_large (b ∷ x) h =
    ap (λ (t : List ℕ). t ++ escaped x) (escape-kept b (kept_large b (All-head (λ b. 128 ≤ b) b x h)))
    ∙ ap (λ (t : List ℕ). b ∷ t) (all_large x (All-tail (λ b. 128 ≤ b) b x h))

two_large : (a b : ℕ) → 128 ≤ a → 128 ≤ b → All (λ d. 128 ≤ d) (a ∷ b ∷ [])
two_large a b h k = All-cons (λ d. 128 ≤ d) a (b ∷ []) h (All-cons (λ d. 128 ≤ d) b [] k (All-nil (λ d. 128 ≤ d)))

large_at : (a b c d e f g h i j : ℕ) (p q r : Bool) → (p ≡ true → ⊥) → 128 ≤ b → 128 ≤ c → 128 ≤ d → 128 ≤ e → 128 ≤ f → 128 ≤ g → 128 ≤ h → 128 ≤ i → 128 ≤ j
    → All (λ b. 128 ≤ b) (cond p (a ∷ []) (cond q (b ∷ c ∷ []) (cond r (d ∷ e ∷ f ∷ []) (g ∷ h ∷ i ∷ j ∷ []))))
large_at a b c d e f g h i j true q r ne kb kc kd ke kf kg kh ki kj = absurd (ne refl)
large_at a b c d e f g h i j false true r ne kb kc kd ke kf kg kh ki kj = two_large b c kb kc
large_at a b c d e f g h i j false false true ne kb kc kd ke kf kg kh ki kj = All-cons (λ d. 128 ≤ d) d (e ∷ f ∷ []) kd (two_large e f ke kf)
large_at a b c d e f g h i j false false false ne kb kc kd ke kf kg kh ki kj = All-cons (λ d. 128 ≤ d) g (h ∷ i ∷ j ∷ []) kg (All-cons (λ d. 128 ≤ d) h (i ∷ j ∷ []) kh (two_large i j ki kj))

large_bytes : (c : ℕ) → 128 ≤ c → All (λ b. 128 ≤ b) (encode c)
unfolding encode
large_bytes c h =
    large_at c (192 + c / 64) (128 + c % 64) (224 + c / 4096) (128 + c / 64 % 64) (128 + c % 64) (240 + c / 262144) (128 + c / 4096 % 64) (128 + c / 64 % 64) (128 + c % 64) (ltb c 128) (ltb c 2048) (ltb c 65536)
    (λ e. let k = ltb-true c 128 e in omega (arith, k)) (omega arith) (omega arith) (omega arith) (omega arith) (omega arith) (omega arith) (omega arith) (omega arith) (omega arith)

pub coded_character : (c : ℕ) → is_escaped c ≡ true → escaped (encode c) ≡ percent_encode_byte c
coded_character c h = ap escaped (encode_ascii c (coded_small c h)) ∙ append-nil (escape c) ∙ escape-coded c h

kept_by_size : (c : ℕ) (e : Bool) → ltb c 128 ≡ e → is_escaped c ≡ false → escaped (encode c) ≡ encode c
kept_by_size c true s h =
    let one : encode c ≡ c ∷ [] = encode_ascii c (ltb-true c 128 s) in
    ap escaped one ∙ append-nil (escape c) ∙ escape-kept c h ∙ sym one
kept_by_size c false s h = all_large (encode c) (large_bytes c (ltb-false c 128 s))

pub kept_character : (c : ℕ) → is_escaped c ≡ false → escaped (encode c) ≡ encode c
kept_character c h = kept_by_size c (ltb c 128) refl h

-- a text that begins with a character
pub escaped-append : (x y : List ℕ) → escaped (x ++ y) ≡ escaped x ++ escaped y
escaped-append x y = flat_map-append escape x y

-- ---- one character after another
pub all_written : (line rest whole : List ℕ) → length rest ≡ 0 → line ++ escaped rest ≡ whole → line ≡ whole
all_written line rest whole n h = sym (append-nil line) ∙ ap (λ (t : List ℕ). line ++ escaped t) (sym (nil_from_length rest n)) ∙ h

pub more_written : (line new rest left bytes whole : List ℕ) → new ≡ line ++ escaped bytes → rest ≡ bytes ++ left → line ++ escaped rest ≡ whole → new ++ escaped left ≡ whole
more_written line new rest left bytes whole n r h =
    ap (λ (t : List ℕ). t ++ escaped left) n ∙ append_assoc line (escaped bytes) (escaped left)
    ∙ ap (λ (t : List ℕ). line ++ t) (sym (escaped-append bytes left) ∙ ap escaped (sym r)) ∙ h
