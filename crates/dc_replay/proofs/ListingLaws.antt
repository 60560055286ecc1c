-- The tests of the listing tell whether what it looks for stands.
use Rattle.std.proofs.Common.{◌≡◌, ◌⊎◌, inl, inr, ⊎_elim, List, [], ◌∷◌, Bool, true, false, cond, Option, Some, None, map, refl, sym, ◌∙◌, ap, subst}
use Rattle.std.specs.Prelude.{is_some}
use Rattle.dc_attrs.specs.Trees.{Node, Tree}
use Rattle.dc_path.specs.Paths.{Names}
use Rattle.dc_report.specs.Carrying.{Has, carries_of, place}
use Rattle.dc_report.specs.declared.entries.Entry.{Entry}
use Rattle.dc_report.specs.declared.entries.Entry.TheVariants.{Created, Deleted, Modified, Renamed}
use Rattle.dc_report.proofs.HasLemmas.{has_map, map_has}
use Rattle.dc_replay.specs.Checking.{where_to}
use Rattle.dc_replay.specs.TestAnswers.{Answer, FalseAt, Holds, LongAt, Taken, first_answer, holds_if, is_long}
use Rattle.dc_replay.specs.ListingTests.{ListingIsTested, listed_answer, listing_answer, listing_test}
use Rattle.dc_attrs.specs.Trees.{IsThere}
use Rattle.dc_replay.specs.Truth.{IsListable}
use Rattle.dc_replay.proofs.LimitLaws.{then_cases}

-- ---- what one answer says of the path
-- it holds and something stands, or nothing does, or the path is too long
abbrev Says : Names → Tree → Names → Answer → Type 0
Says d N q Holds = IsThere N q
Says d N q Taken = ⊥
Says d N q (FalseAt p) = (p ≡ q) × (N p ≡ None)
Says d N q (LongAt p) = is_long d p ≡ true

node_says : (d : Names) (N : Tree) (q : Names) (o : Option Node) → N q ≡ o → Says d N q (holds_if (is_some o) q)
node_says d N q None e = (refl, e)
node_says d N q (Some x) e = (x, e)

path_says : (d : Names) (N : Tree) (q : Names) → Says d N q (listed_answer d N (Some q))
path_says d N q = by_long (is_long d q) refl
  where
    by_long : (b : Bool) → is_long d q ≡ b → Says d N q (cond b (LongAt q) (holds_if (is_some (N q)) q))
    by_long true e = e
    by_long false e = node_says d N q (N q) refl

said_of : (d : Names) (N : Tree) (q : Names) (o : Option Names) (a : Answer) → o ≡ Some q → listed_answer d N o ≡ a → Says d N q a
said_of d N q o a k e = subst (λ (u : Answer). Says d N q u) (ap (listed_answer d N) (sym k) ∙ e) (path_says d N q)

-- ---- the first answer is one of them
all_hold : (xs : List Answer) → first_answer xs ≡ Holds → (a : Answer) → Has xs a → a ≡ Holds
all_hold [] e a h = absurd h
all_hold (b ∷ xs) e a (inl k) = k ∙ ⊎_elim (λ f. f) (λ f. f.0) (then_cases b (first_answer xs) Holds e)
all_hold (Holds ∷ xs) e a (inr h) = all_hold xs e a h
all_hold (Taken ∷ xs) e a (inr h) = absurd (cc)
all_hold (FalseAt p ∷ xs) e a (inr h) = absurd (cc)
all_hold (LongAt p ∷ xs) e a (inr h) = absurd (cc)

first_has : (xs : List Answer) (a : Answer) → first_answer xs ≡ a → (a ≡ Holds) ⊎ Has xs a
first_has [] a e = inl (sym e)
first_has (b ∷ xs) a e = by_rest (first_has xs a) (then_cases b (first_answer xs) a e)
  where
    by_rest : (first_answer xs ≡ a → (a ≡ Holds) ⊎ Has xs a) → (b ≡ a) ⊎ ((b ≡ Holds) × (first_answer xs ≡ a)) → (a ≡ Holds) ⊎ Has (b ∷ xs) a
    by_rest ih (inl f) = inr (inl (sym f))
    by_rest ih (inr f) = ⊎_elim (λ h. inl h) (λ h. inr (inr h)) (ih f.1)

-- ---- the entries
-- the path that the listing looks for by an entry
abbrev Wants : List Entry → Entry → Names → Type 0
Wants R (Deleted p) q = ⊥
Wants R (Renamed a b) q = ⊥
Wants R (Modified []) q = ⊥
Wants R (Modified (x ∷ p)) q = where_to R (x ∷ p) ≡ Some q
Wants R (Created c) q = place (carries_of R) c ≡ Some q

-- what an entry answers, where it does not hold
test_says : (d : Names) (R : List Entry) (N : Tree) (e : Entry) (a : Answer) → (a ≡ Holds → ⊥) → listing_test d R N e ≡ a → (q : Names) × Wants R e q × Says d N q a
test_says d R N (Deleted p) a un e = absurd (un (sym e))
test_says d R N (Renamed b c) a un e = absurd (un (sym e))
test_says d R N (Modified []) a un e = absurd (un (sym e))
test_says d R N (Modified (x ∷ p)) a un e = by_path (where_to R (x ∷ p)) refl
  where
    by_path : (o : Option Names) → where_to R (x ∷ p) ≡ o → (q : Names) × (where_to R (x ∷ p) ≡ Some q) × Says d N q a
    by_path None k = absurd (un (sym e ∙ ap (listed_answer d N) k))
    by_path (Some q) k = (q, k, said_of d N q (where_to R (x ∷ p)) a k e)
test_says d R N (Created c) a un e = by_path (place (carries_of R) c) refl
  where
    by_path : (o : Option Names) → place (carries_of R) c ≡ o → (q : Names) × (place (carries_of R) c ≡ Some q) × Says d N q a
    by_path None k = absurd (un (sym e ∙ ap (listed_answer d N) k))
    by_path (Some q) k = (q, k, said_of d N q (place (carries_of R) c) a k e)

-- an answer of the listing that does not hold is that of an entry
one_says : (d : Names) (R : List Entry) (N : Tree) (a : Answer) → (a ≡ Holds → ⊥) → listing_answer d R N ≡ a → (e : Entry) × Has R e × ((q : Names) × Wants R e q × Says d N q a)
one_says d R N a un e = ⊎_elim (λ h. absurd (un h))
    (λ h. let k = map_has (listing_test d R N) R a h in (k.0, k.1, test_says d R N k.0 a un (sym k.2)))
    (first_has (map (listing_test d R N) R) a e)

stands : (R : List Entry) (N : Tree) (e : Entry) (q : Names) → IsListable R N → Has R e → Wants R e q → IsThere N q
stands R N (Deleted p) q l h w = absurd w
stands R N (Renamed a b) q l h w = absurd w
stands R N (Modified []) q l h w = absurd w
stands R N (Modified (x ∷ p)) q l h w = l.modified x p q h w
stands R N (Created c) q l h w = l.created c q h w

pub listing_is_tested : ListingIsTested
listing_is_tested d R N = record {
  holds = λ e. record {
    modified = λ x p q h m. said_of d N q (where_to R (x ∷ p)) Holds m (each e (Modified (x ∷ p)) h);
    created = λ c q h m. said_of d N q (place (carries_of R) c) Holds m (each e (Created c) h);
  };
  listable = λ p l e.
      let k = one_says d R N (FalseAt p) (λ f. cc) e in
      let s = stands R N k.0 k.2.0 l k.1 k.2.1 in
      let f : Some s.0 ≡ None = sym s.1 ∙ ap N (sym k.2.2.0) ∙ k.2.2.1 in cc;
  false_at = λ p e. (one_says d R N (FalseAt p) (λ f. cc) e).2.2.1;
  long_at = λ p e. (one_says d R N (LongAt p) (λ f. cc) e).2.2;
  not_taken = λ e. (one_says d R N Taken (λ f. cc) e).2.2;
}
  where
    each : listing_answer d R N ≡ Holds → (e : Entry) → Has R e → listing_test d R N e ≡ Holds
    each k e h = all_hold (map (listing_test d R N) R) k (listing_test d R N e) (has_map (listing_test d R N) R e h)
