-- The line feeds at the end of a text.
use Rattle.std.proofs.Common.{◌≡◌, ℕ, ◌+◌, ◌-◌, ◌<◌, ◌≤◌, ◌==◌, false, List, [], ◌∷◌, ◌++◌, length, take, get_or, refl, sym, ap, ◌∙◌, arith}
use Rattle.std.proofs.lemmas.List.{take_more}
use Rattle.dc_report.specs.Lines.{onto_unended, unended}

onto_push : (x : ℕ) (xs : List ℕ) (b : ℕ) → onto_unended x (xs ++ b ∷ []) ≡ x ∷ (xs ++ b ∷ [])
onto_push x [] b = refl
onto_push x (y ∷ xs) b = refl

pub unended-feed : (xs : List ℕ) → unended (xs ++ 10 ∷ []) ≡ unended xs
unended-feed [] = refl
unended-feed (b ∷ xs) = ap (onto_unended b) (unended-feed xs)

unended-other : (xs : List ℕ) (b : ℕ) → (b == 10) ≡ false → unended (xs ++ b ∷ []) ≡ xs ++ b ∷ []
unended-other [] b h = rw h refl
unended-other (x ∷ xs) b h = ap (onto_unended x) (unended-other xs b h) ∙ onto_push x xs b

front_is : (text : List ℕ) (e : ℕ) → 0 < e → e ≤ length text → take e text ≡ take (e - 1) text ++ get_or text (e - 1) 0 ∷ []
front_is text e p h = let k : e ≡ (e - 1) + 1 = omega arith in ap (λ (n : ℕ). take n text) k ∙ take_more text (e - 1) 0 (omega arith)

-- one line feed less
pub end_more : (text : List ℕ) (e : ℕ) → 0 < e → e ≤ length text → get_or text (e - 1) 0 ≡ 10 → unended (take e text) ≡ unended text → unended (take (e - 1) text) ≡ unended text
end_more text e p h b same = sym (ap unended (front_is text e p h ∙ ap (λ (c : ℕ). take (e - 1) text ++ c ∷ []) b) ∙ unended-feed (take (e - 1) text)) ∙ same

-- no line feed there
pub end_other : (text : List ℕ) (e : ℕ) → 0 < e → e ≤ length text → (get_or text (e - 1) 0 == 10) ≡ false → unended (take e text) ≡ unended text → take e text ≡ unended text
end_other text e p h b same = sym (ap unended (front_is text e p h) ∙ unended-other (take (e - 1) text) (get_or text (e - 1) 0) b ∙ sym (front_is text e p h)) ∙ same

-- nothing is left
pub end_none : (text : List ℕ) (e : ℕ) → e ≡ 0 → unended (take e text) ≡ unended text → take e text ≡ unended text
end_none text e z same = let k : take e text ≡ [] = ap (λ (n : ℕ). take n text) z in k ∙ sym (ap unended k) ∙ same
