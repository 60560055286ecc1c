-- Each kind of step keeps the rule.
use Rattle.std.proofs.Common.{◌≡◌, ◌≢◌, ℕ, zero, suc, Bool, true, false, true≢false, ◌||◌, ◌+◌, ◌%◌, ◌^◌, ◌<◌, ◌≤◌, List, [], ◌∷◌, ◌++◌, set, refl, sym, ap, ◌∙◌, subst, ⊎_elim, arith}
use Rattle.std.specs.Prelude.{slice_index}
use Rattle.std.proofs.lemmas.Bool.{cases_lt}
use mathlib.Core.Option.{some, some-ne-none, some-injective}
use lib.ListN.{get_elem?}
use Rattle.atomic_table.specs.Table.{State, Me, keeps, Allows, Splits, Joins, Seen, opening, step}
use Rattle.atomic_table.proofs.Lists.{at_set, at_snoc}
use Rattle.dc_pool.specs.declared.rule.View.{View}
use Rattle.dc_pool.specs.declared.rule.Made.{Made}
use Rattle.dc_pool.specs.Drawing.{view, weight, weight_below, past, past_count, Fits, IsKept, opened, ceiling, Drew, one_less, one_seat, joined, nobody}
use Rattle.dc_pool.proofs.Sums.{weight-append, total_set, total_snoc, total_le, total_alone, past_le, past_is, past_not, past_below, total_at, ceiling_le}

fits_set : (n : ℕ) (views : List View) (by : ℕ) (w : View) → Fits n w → ((j : ℕ) (u : View) → get_elem? views j ≡ some u → Fits n u) → (j : ℕ) (u : View) → get_elem? (set views by w) j ≡ some u → Fits n u
fits_set n views by w mine others j u e =
    ⊎_elim (λ (t : (j ≡ by) × (w ≡ u)). subst (Fits n) t.1 mine) (λ (t : (j ≢ by) × (get_elem? views j ≡ some u)). others j u t.1) (at_set views by j w u e)

pub begins : (k : Made) → IsKept k (opening (0 ∷ k.bundles ∷ []) [] (opened k))
begins k = record {
  next = 0;
  words = refl;
  once = λ h. refl;
  seats = omega arith;
  fits = one;
}
  where
    one : (by : ℕ) (v : View) → get_elem? (opened k ∷ []) by ≡ some v → Fits k.bundles v
    one zero v e = subst (Fits k.bundles) (some-injective _ _ e) record { ended = omega arith; idle = λ _. refl }
    one (suc by) v e = absurd (some-ne-none v (sym e))

-- how far the word has come
bounded : (k : Made) (s : State ℕ View) (r : IsKept k s) → r.next ≤ k.bundles + k.seats
bounded k s r =
    let most = total_le (λ v. weight (past k.bundles) v.drawn) (λ v. v.seats) s.views (λ by v at. (r.fits by v at).ended) in
    let all = r.once (past k.bundles) in
    let far = (past_below k.bundles r.next).0 in
    let made = r.seats in
    omega arith

pub draws : (k : Made) (slots id : ℕ) (me : Me ℕ View) → k.bundles + k.seats < 2 ^ 63 → past_count k.bundles me.0.drawn < me.0.seats
    → Allows (IsKept k) slots id me 0 (λ n. (n + 1) % 2 ^ 64) (Drew (step slots 0 1 0 mathlib.Core.Option.none) me)
draws k slots id me small room s r long at fits64 =
    let next = r.next in
    let w = view (me.0.drawn ++ next ∷ []) me.0.seats in
    let found : slice_index s.words 0 ≡ next = ap (λ ws. slice_index ws 0) r.words in
    let far = bounded k s r in
    let wraps : (next + 1) % 2 ^ 64 ≡ suc next = omega arith in (
      view (me.0.drawn ++ slice_index s.words 0 ∷ []) me.0.seats,
      keeps,
      tt,
      subst (λ (found : ℕ). IsKept k record { words = set s.words 0 ((found + 1) % 2 ^ 64); homes = s.homes; views = set s.views id (view (me.0.drawn ++ found ∷ []) me.0.seats) }) (sym found) record {
        next = suc next;
        words = ap (λ ws. set ws 0 ((next + 1) % 2 ^ 64)) r.words ∙ ap (λ (n : ℕ). n ∷ k.bundles ∷ []) wraps;
        once = λ h.
            let s' = total_set (λ v. weight h v.drawn) s.views id me.0 w at in
            let a = weight-append h me.0.drawn (next ∷ []) in
            let o = r.once h in
            omega arith;
        seats = (let s' = total_set (λ v. v.seats) s.views id me.0 w at in let o = r.seats in omega arith);
        fits = fits_set k.bundles s.views id w record {
          ended = (let a = weight-append (past k.bundles) me.0.drawn (next ∷ []) in let l = past_le k.bundles next in omega arith);
          idle = λ none. absurd (omega arith);
        } r.fits;
      },
      (
        refl,
        subst (λ (found : ℕ). ceiling me.0.drawn ≤ found) (sym found) (ceiling_le next me.0.drawn (
            let mine = total_at (λ v. weight (past next) v.drawn) s.views id me.0 at in
            let all = r.once (past next) in
            let none = (past_below next next).1 (omega arith) in
            omega arith)),
      ),
    )

pub splits : (k : Made) (id : ℕ) (v : View) → v.drawn ≡ [] → 2 ≤ v.seats → Splits (IsKept k) id v (one_less v) one_seat
splits k id v none two s r at = record {
  next = r.next;
  words = r.words;
  once = λ h.
      let a = total_set (λ v. weight h v.drawn) s.views id v (one_less v) at in
      let b = total_snoc (λ v. weight h v.drawn) (set s.views id (one_less v)) one_seat in
      let o = r.once h in
      omega arith;
  seats = (
      let a = total_set (λ v. v.seats) s.views id v (one_less v) at in
      let b = total_snoc (λ v. v.seats) (set s.views id (one_less v)) one_seat in
      let o = r.seats in
      omega arith);
  fits = λ j u e. ⊎_elim (λ old. fits_set k.bundles s.views id (one_less v) record { ended = (let z = ap (past_count k.bundles) none in omega arith); idle = λ _. none } r.fits j u old)
      (λ (same : one_seat ≡ u). subst (Fits k.bundles) same record { ended = omega arith; idle = λ _. refl })
      (at_snoc (set s.views id (one_less v)) one_seat u j e);
}

pub joins : (k : Made) (id : ℕ) (v : View) (other : ℕ) (w : View) → Joins (IsKept k) id v other w (joined v w) nobody
joins k id v other w s r at apart at' =
    let vs = set s.views id (joined v w) in
    let was : get_elem? s.views other ≡ some w = ⊎_elim (λ x. absurd (apart x.0)) (λ x. x.1) (at_set s.views id other (joined v w) w at') in
    let mine = r.fits id v at in
    let theirs = r.fits other w was in
    record {
      next = r.next;
      words = r.words;
      once = λ h.
          let a = total_set (λ v. weight h v.drawn) s.views id v (joined v w) at in
          let b = total_set (λ v. weight h v.drawn) vs other w nobody at' in
          let c = weight-append h v.drawn w.drawn in
          let o = r.once h in
          omega arith;
      seats = (
          let a = total_set (λ v. v.seats) s.views id v (joined v w) at in
          let b = total_set (λ v. v.seats) vs other w nobody at' in
          let o = r.seats in
          omega arith);
      fits = fits_set k.bundles vs other nobody record { ended = omega arith; idle = λ _. refl } (fits_set k.bundles s.views id (joined v w) record {
        ended = (let c = weight-append (past k.bundles) v.drawn w.drawn in let a = mine.ended in let b = theirs.ended in omega arith);
        idle = λ none. ap (λ xs. xs ++ w.drawn) (mine.idle (omega arith)) ∙ theirs.idle (omega arith);
      } r.fits);
    }

-- The seat that has all that were made has drawn each number below some bound, once. Where one of them is n or more, the bound is above n.
pub learns : (k : Made) (id : ℕ) (v : View) (s : State ℕ View) → Seen (IsKept k) id v s → v.seats ≡ k.seats
    → (next : ℕ) × (s.words ≡ next ∷ k.bundles ∷ []) × (0 < past_count k.bundles v.drawn → k.bundles < next) × ((h : ℕ → ℕ) → weight h v.drawn ≡ weight_below h next)
learns k id v s seen all =
    let r = seen.0 in
    let alone = λ (h : ℕ → ℕ). sym (total_alone (λ v. weight h v.drawn) (λ v. v.seats) s.views id v (λ by v at none. ap (weight h) ((r.fits by v at).idle none)) seen.1 (r.seats ∙ sym all)) ∙ r.once h in (
      r.next,
      r.words,
      (λ some_past. let a = alone (past k.bundles) in ⊎_elim (λ (l : k.bundles < r.next). l) (λ (g : r.next ≤ k.bundles). let none = (past_below k.bundles r.next).1 g in absurd (omega arith)) (cases_lt k.bundles r.next)),
      alone,
    )

-- a number below n that is drawn leaves the count of past ones as it was, and any other raises it
pub drew_early : (n found : ℕ) (xs : List ℕ) → found < n → past_count n (xs ++ found ∷ []) ≡ past_count n xs
drew_early n found xs h = let a = weight-append (past n) xs (found ∷ []) in let e = past_not n found h in omega arith

pub drew_late : (n found : ℕ) (xs : List ℕ) → n ≤ found → 0 < past_count n (xs ++ found ∷ [])
drew_late n found xs h = let a = weight-append (past n) xs (found ∷ []) in let e = past_is n found h in omega arith

pub joined_room : (n : ℕ) (a b : Bool) (v w : View) → (a ≡ false → past_count n v.drawn < v.seats) → (b ≡ false → past_count n w.drawn < w.seats) → (a || b) ≡ false → past_count n (v.drawn ++ w.drawn) < v.seats + w.seats
joined_room n true b v w f g e = absurd (true≢false e)
joined_room n false true v w f g e = absurd (true≢false e)
joined_room n false false v w f g e = let l = weight-append (past n) v.drawn w.drawn in let p = f refl in let q = g refl in omega arith

pub joined_over : (n : ℕ) (a b : Bool) (v w : View) → (a ≡ true → 0 < past_count n v.drawn) → (b ≡ true → 0 < past_count n w.drawn) → (a || b) ≡ true → 0 < past_count n (v.drawn ++ w.drawn)
joined_over n true b v w f g e = let l = weight-append (past n) v.drawn w.drawn in let p = f refl in omega arith
joined_over n false true v w f g e = let l = weight-append (past n) v.drawn w.drawn in let q = g refl in omega arith
joined_over n false false v w f g e = absurd (true≢false (sym e))
