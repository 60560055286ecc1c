-- All moves together.
use Rattle.std.proofs.Common.{ℕ, ◌≡◌, inl, inr, List, [], ◌∷◌, ◌++◌, Bool, true, false, cond, Option, Some, None, refl, sym, ◌∙◌, ap, subst}
use Rattle.std.proofs.Math.Path.{fun_ext}
use Rattle.std.specs.List.{list_any}
use Rattle.dc_attrs.specs.Attributes.{default_dir}
use Rattle.dc_attrs.specs.Trees.{Dir, IsTree, Node, Tree}
use Rattle.dc_path.specs.Names.{same_name}
use Rattle.dc_path.specs.Paths.{Names, at_cut, cut, is_above}
use Rattle.dc_report.specs.Carrying.{Has, Place, Plan, is_made, moved, is_fresh}
use Rattle.dc_replay.specs.Arrivals.{Here, arrival, came, shifted, source}
use Rattle.dc_replay.specs.Checking.{IsOff}
use Rattle.dc_replay.specs.Steps.{AreAllowed, after, step}
use Rattle.dc_report.specs.Moves.{moves, placing, staging}
use Rattle.dc_report.specs.declared.entries.Move.TheVariants.{Clear, Make}
use Rattle.dc_replay.proofs.Staging.{after-append, allowed-append, staged, stage_start, staging_gives, staging_allowed}
use Rattle.dc_replay.proofs.Where.{arrived, arrived_came, IsSettled, moved_arrives}
use Rattle.dc_replay.proofs.Placing.{placed, IsPart, placing_gives}
use Rattle.dc_replay.proofs.Allowed.{Checked, agree_all, placing_allowed, none_or}
use Rattle.dc_path.proofs.PathLemmas.{same_name-refl, append-cut, same_path-refl, same_path-true, same_name-flip}
use Rattle.std.proofs.lemmas.Bool.{and_right}
use Rattle.dc_report.specs.Landings.{is_at}
use Rattle.dc_attrs.proofs.TreeChanges.{there_front}

same_option : (a b : Option Node) → ((x : Node) → a ≡ Some x → b ≡ Some x) → ((x : Node) → b ≡ Some x → a ≡ Some x) → a ≡ b
same_option None None f g = refl
same_option None (Some y) f g = g y refl
same_option (Some x) b f g = sym (f x refl)

pub leads_true : (o : Option Names) (q : Names) → is_at o q ≡ true → o ≡ Some q
leads_true None q h = absurd (cc)
leads_true (Some p) q h = ap (λ (u : Names). Some u) (same_path-true p q h)

pub none_cond : (b : Bool) → cond {A = Option Node} b None None ≡ None
none_cond true = refl
none_cond false = refl

pub cond_some : (b : Bool) (o : Option Node) (x : Node) → cond b o None ≡ Some x → (b ≡ true) × (o ≡ Some x)
cond_some true o x e = (refl, e)
cond_some false o x e = absurd (cc)

-- what stands outside of the stage is what was moved there
pub came_arrives : (P : Plan) (A : Tree) (q : Names) → IsSettled P.carries P.news A → arrived P.carries A P.news q ≡ came P A q
came_arrives P A q s = same_option (arrived P.carries A P.news q) (came P A q)
    (λ x e. let c = arrived_came P.carries A P.news q x s.sound e in
    rw (← c.from, c.goes, same_path-refl q) c.was)
    (λ x e. let k = cond_some (is_at (moved P.carries (source P.news q)) q) (A (source P.news q)) x e in
    moved_arrives P.carries P.news A (source P.news q) q x s k.1 (leads_true (moved P.carries (source P.news q)) q k.0))

none_made : (st : List ℕ) (r : Names) (ns : List Place) → ((n : Place) → Has ns n → IsOff st n.new) → list_any (λ n. is_above (st ∷ r) n.new) ns ≡ false
none_made st r [] off = refl
none_made st r (n ∷ ns) off = let k = off n (inl refl) in rw (k.path, k.other) (none_made st r ns (λ m h. off m (inr h)))

none_arrives : (st : List ℕ) (r : Names) (ns : List Place) → ((n : Place) → Has ns n → IsOff st n.new) → arrival ns (st ∷ r) ≡ Here
none_arrives st r [] off = refl
none_arrives st r (n ∷ ns) off =
    let k = off n (inl refl) in
    let f : same_name k.first st ≡ false = same_name-flip k.first st ∙ k.other in
    rw (k.path, f) (none_arrives st r ns (λ m h. off m (inr h)))

pub stage_empty : (st : List ℕ) (A : Tree) (r : Names) → IsTree A → A (st ∷ []) ≡ None → A (st ∷ r) ≡ None
stage_empty st A r v e = none_or (A (st ∷ r)) (λ x f. let t = there_front A (st ∷ []) r x v f in let g : Some t.0 ≡ None = sym t.1 ∙ e in cc)

module _ (st : List ℕ) (P : Plan) (A : Tree) (ok : Checked st P A) where
  whole : IsPart st P P.news
  whole = record { descending = ok.settled.descending; sound = ok.settled.sound; off = ok.news_off }

  start : step (Make (st ∷ [])) A ≡ staged st [] A
  start = stage_start st A (λ r. stage_empty st A r ok.settled.valid ok.stage)

  end_at : (q : Names) (o : Option Names) → cut (st ∷ []) q ≡ o → at_cut o (placed st P A P.news q) (λ r. None) ≡ shifted P A q
  end_at q None e = rw e (ap (cond (is_made P P.news q) (Some (Dir default_dir))) (came_arrives P A q ok.settled))
  end_at q (Some r) e =
      let s : q ≡ st ∷ r = append-cut (st ∷ []) q r e in
      rw (s, none_made st r P.news ok.news_off, and_right (is_fresh P (st ∷ r)) false refl, none_arrives st r P.news ok.news_off, stage_empty st A r ok.settled.valid ok.stage) (sym (none_cond (is_at (moved P.carries (st ∷ r)) (st ∷ r))))

  -- the moves in turn are one renaming
  pub moves_give : after (moves st P) A ≡ shifted P A
  moves_give =
      ap (after (staging st P.carries ++ (placing st P P.news ++ Clear (st ∷ []) ∷ []))) start
      ∙ after-append (staging st P.carries) (placing st P P.news ++ Clear (st ∷ []) ∷ []) (staged st [] A)
      ∙ ap (after (placing st P P.news ++ Clear (st ∷ []) ∷ [])) (staging_gives st P.carries A ok.olds_off)
      ∙ after-append (placing st P P.news) (Clear (st ∷ []) ∷ []) (staged st P.carries A)
      ∙ ap (λ (t : Tree). step (Clear (st ∷ [])) t) (placing_gives st P A P.news whole)
      ∙ fun_ext (λ q. end_at q (cut (st ∷ []) q) refl)

  -- and none is refused
  pub moves_allowed : AreAllowed A (moves st P)
  moves_allowed = (
    record { absent = ok.stage; parent = []; name = st; path = refl; dir = ok.settled.valid.root },
    subst (λ (t : Tree). AreAllowed t (staging st P.carries ++ (placing st P P.news ++ Clear (st ∷ []) ∷ []))) (sym start)
        (allowed-append (staging st P.carries) (placing st P P.news ++ Clear (st ∷ []) ∷ []) (staged st [] A)
        (staging_allowed st P.carries A ok.olds_off ok.olds ok.settled.ascending)
        (subst (λ (t : Tree). AreAllowed t (placing st P P.news ++ Clear (st ∷ []) ∷ [])) (sym (staging_gives st P.carries A ok.olds_off))
        (allowed-append (placing st P P.news) (Clear (st ∷ []) ∷ []) (staged st P.carries A)
        (placing_allowed st P A ok P.news (λ n h. h) whole (agree_all P.carries A P.news))
        (subst (λ (t : Tree). AreAllowed t (Clear (st ∷ []) ∷ [])) (sym (placing_gives st P A P.news whole))
        ((((Dir default_dir), rw (same_name-refl st) refl), refl), tt))))),
  )
