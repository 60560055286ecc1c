-- What becomes of a sink of texts that are written one after the other.
use Rattle.std.proofs.Common.{◌≡◌, ℕ, suc, ◌+◌, ◌<◌, List, ◌∷◌, ◌++◌, length, get_or, take, drop, Option, Some, None, Result, Ok, Err, sym, ap, ◌∙◌, arith, refl, append_assoc, length-append, flat_map, subst, drop-cons}
use Rattle.std.proofs.Math.Seq.{take-append-add}
use Rattle.std.proofs.lemmas.Grind.{flat_map-append}
use Rattle.std.proofs.lemmas.List.{take-append-drop, take-append-le}
use Rattle.std.specs.Option.{option_map}
use Rattle.dc_fs.specs.Causes.{HasCause}
use Rattle.dc_fs.specs.Temporaries.{IsPast}
use Rattle.dc_fs.specs.declared.errors.SinkFault.{SinkFault}
use Rattle.dc_output.specs.Writes.{SinkView, Writes}

module _ (a b : List ℕ) (old mid : SinkView) where
  -- a sink that stops in the first text has stopped in both
  pub stops_writes : (r : Result (Unit {0}) SinkFault) → r ≡ Err (record {}) → Writes a old mid (Err (record {})) → Writes (a ++ b) old mid r
  stops_writes r is first = rw is (let h = first.stopped in record {
    taken = tt;
    stopped = record {
      count = h.count;
      front = omega (arith, h.front, length-append a b);
      taken = rw (take-append-le h.count a b h.front) h.taken;
      past = past old.limit old.bytes h.past;
    };
    limit = first.limit;
    cause = first.cause;
  })
    where
      past : (limit : Option ℕ) (bytes : Option (List ℕ)) → IsPast limit a bytes → IsPast limit (a ++ b) bytes
      past None bytes h = tt
      past (Some most) None h = tt
      past (Some most) (Some w) h = omega (arith, h, length-append a b)

  -- the first text was taken: what becomes of the second has become of both
  pub then_writes : (new : SinkView) (r : Result (Unit {0}) SinkFault) → Writes a old mid (Ok tt) → Writes b mid new r → Writes (a ++ b) old new r
  then_writes new (Ok x) first second = record {
    taken = second.taken ∙ ap (option_map (λ w. w ++ b)) first.taken ∙ both old.bytes;
    stopped = tt;
    limit = second.limit ∙ first.limit;
    cause = subst (λ n. HasCause {T = Unit {0}} {E = SinkFault} n new.faults (Ok x) (record {})) first.cause.still second.cause;
  }
    where
      both : (bytes : Option (List ℕ)) → option_map (λ w. w ++ b) (option_map (λ w. w ++ a) bytes) ≡ option_map (λ w. w ++ (a ++ b)) bytes
      both None = refl
      both (Some w) = ap Some (append_assoc w a b)
  then_writes new (Err e) first second = let h = second.stopped in record {
    taken = tt;
    stopped = record {
      count = length a + h.count;
      front = omega (arith, h.front, length-append a b);
      taken = h.taken ∙ ap (option_map (λ w. w ++ take h.count b)) first.taken ∙ front h.count old.bytes;
      past = past old.limit old.bytes (subst (λ o. IsPast old.limit b o) first.taken (subst (λ o. IsPast o b mid.bytes) first.limit h.past));
    };
    limit = second.limit ∙ first.limit;
    cause = subst (λ n. HasCause {T = Unit {0}} {E = SinkFault} n new.faults (Err e) (record {})) first.cause.still second.cause;
  }
    where
      front : (count : ℕ) (bytes : Option (List ℕ)) → option_map (λ w. w ++ take count b) (option_map (λ w. w ++ a) bytes) ≡ option_map (λ w. w ++ take (length a + count) (a ++ b)) bytes
      front count None = refl
      front count (Some w) = ap Some (append_assoc w a (take count b) ∙ ap (λ t. w ++ t) (sym (take-append-add a b count)))

      past : (limit : Option ℕ) (bytes : Option (List ℕ)) → IsPast limit b (option_map (λ w. w ++ a) bytes) → IsPast limit (a ++ b) bytes
      past None bytes h = tt
      past (Some most) None h = tt
      past (Some most) (Some w) h = omega (arith, h, length-append w a, length-append a b)

module _ {X : Type 0} (f : X → List ℕ) (xs : List X) (i : ℕ) (x : X) (within : i < length xs) (is : x ≡ get_or xs i x) (old mid new : SinkView) where
  -- a sink that took the texts of the items before a place, and stops in that of the item there, has stopped in those of all
  pub stops_at : (r : Result (Unit {0}) SinkFault) → r ≡ Err (record {}) → Writes (flat_map f (take i xs)) old mid (Ok tt) → Writes (f x) mid new (Err (record {})) → Writes (flat_map f xs) old new r
  stops_at r fails so_far next =
      let rest = flat_map f (drop (suc i) xs) in
      rw split (then_writes (flat_map f (take i xs)) (f x ++ rest) old mid new r so_far (stops_writes (f x) rest mid new r fails next))
    where
      split : flat_map f xs ≡ flat_map f (take i xs) ++ (f x ++ flat_map f (drop (suc i) xs))
      split =
          ap (flat_map f) (sym (take-append-drop i xs)) ∙ flat_map-append f (take i xs) (drop i xs)
          ∙ ap (λ t. flat_map f (take i xs) ++ flat_map f t) (drop-cons xs i x within ∙ ap (λ y. y ∷ drop (suc i) xs) (sym is))
