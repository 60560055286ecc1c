-- What refuses a plain copy: nothing before the listing, and after that only a limit.
use Rattle.std.proofs.Common.{◌≡◌, ◌⊎◌, inl, inr, ℕ, ◌<◌, ◌≤◌, true, false, List, [], ◌∷◌, ◌++◌, map, length, Some, Ok, Err, refl, sym, ap, ◌∙◌, subst, arith}
use Rattle.std.proofs.lemmas.List.{length-map}
use Rattle.dc_path.specs.Order.{is_ascending}
use Rattle.dc_path.specs.Paths.{Names, is_root}
use Rattle.dc_attrs.specs.Trees.{Tree, bare, seen, seen_from}
use Rattle.dc_attrs.specs.declared.shown.Seen.TheVariants as seen_as
use Rattle.dc_attrs.proofs.TreeLemmas.{seen_from-there}
use Rattle.dc_listing.specs.Entries.{Entry, rel_of}
use Rattle.dc_listing.specs.Listed.{AreListed, all_listed, rules_of}
use Rattle.dc_listing.specs.Listing.{ListsNot, StopsAt}
use Rattle.dc_listing.specs.Roots.{and_then, roots_of}
use Rattle.dc_listing.specs.Walks.{max_items}
use Rattle.dc_listing.specs.declared.item.ListError.{ListError}
use Rattle.dc_listing.specs.declared.item.ListError.TheVariants as list_error
use Rattle.dc_decide.specs.Deciding.{clashes}
use Rattle.dc_decide.specs.Plans.{Decisions}
use Rattle.dc_pieces.specs.Cutting.{plan_pieces}
use Rattle.dc_pieces.specs.Pieces.{most_pieces}
use Rattle.dc_plan.specs.Planning.{item_of}
use Rattle.dc_engine.specs.Inputs.{Held}
use Rattle.dc_engine.specs.Outcomes.{is_decided}
use Rattle.dc_engine.specs.Refusals.{refused_as}
use Rattle.dc_engine.specs.Running.{IsRefused}
use Rattle.dc_engine.specs.Settling.{EndsByClash, EndsByPieces, EndsByWalk, EndsPlanned}
use Rattle.dc_engine.specs.Surveys.{Asked, IsSurveyed, LacksListing, asked_of, before_listing, outcome_of_list, outcome_of_target}
use Rattle.dc_engine.specs.Targets.{base_in}
use Rattle.dc_engine.specs.declared.outcome.Outcome.{Outcome}
use Rattle.dc_engine.specs.declared.outcome.Outcome.TheVariants as outcome
use Rattle.dc_engine.specs.declared.outcome.TooManyOf.TheVariants as too_many
use Rattle.dc_plain.specs.Plain.{IsLimit, IsListable, IsPlain, asked_for, plain}
use Rattle.dc_plain.specs.Laws.{NothingRefuses, OnlyLimitsRefuse, PlainIsAllowed}
use Rattle.dc_plain.proofs.LimitLemmas.{few_entries, never_long, never_many, never_twice}
use Rattle.dc_plain.proofs.ListLemmas.{no_rules, root_of}
use Rattle.dc_plain.proofs.PieceLemmas.{few_pieces}

-- ---- what is seen
-- nothing, below the root of an empty tree
seen_below : (x : List ℕ) (rest : Names) → seen_from bare (x ∷ []) rest ≡ seen_as.Missing
seen_below x [] = refl
seen_below x (y ∷ rest) = refl

nothing_seen : (target rel : Names) → is_root target ≡ false → seen bare (target ++ rel) ≡ seen_as.Missing
nothing_seen [] rel e = absurd (cc)
nothing_seen (x ∷ target) rel e = seen_below x (target ++ rel)

missing : (target : Names) → is_root target ≡ false → seen bare target ≡ seen_as.Missing
missing [] e = absurd (cc)
missing (x ∷ target) e = seen_below x target

-- ---- what is asked for
abbrev held_as : List Names → Held
held_as sources = record { sources = sources; lines = [] }

-- ---- the limits
-- a plan of all that is listed has too many pieces
record HasManyPieces (s : Tree) (source : Names) : Type 0 where
  entries : List Entry
  are : AreListed (all_listed no_rules s (root_of source ∷ [])) entries
  ascending : is_ascending (map rel_of entries) ≡ true
  plan : Decisions
  items : map item_of plan.items ≡ entries
  many : most_pieces < length (plan_pieces 0 plan)

-- which limit is met, and where
abbrev Limits : Tree → Names → Names → Outcome → Type 0
Limits s source target e =
    ((e ≡ outcome.TooMany too_many.Items) × StopsAt list_error.TooMany no_rules s (root_of source ∷ []) target)
    ⊎ (((parent : Names) × (name : List ℕ) × (e ≡ outcome.TooLong parent name) × StopsAt (list_error.TooLong parent name) no_rules s (root_of source ∷ []) target)
    ⊎ ((e ≡ outcome.TooMany too_many.Pieces) × HasManyPieces s source))

module _ (s : Tree) (source target : Names) (p : IsPlain s source target) where
  dir_seen : seen s source ≡ seen_as.Dir
  dir_seen = seen_from-there s [] source _ p.tree p.dir.1

  -- ---- before the listing
  roots_are : roots_of (plain source target) (seen bare target) s (source ∷ []) ≡ Ok (root_of source ∷ [])
  roots_are = rw (missing target p.below, dir_seen) refl

  base_is : base_in (plain source target) s bare (seen bare target) (root_of source ∷ []) ≡ Ok target
  base_is = rw (missing target p.below, p.shown) refl

  pub allowed : before_listing (plain source target) s bare ≡ Ok (asked_for source target)
  allowed =
      ap (λ r. and_then (and_then (refused_as outcome_of_list r) (λ roots. and_then (refused_as outcome_of_target (base_in (plain source target) s bare (seen bare target) roots)) (λ base. Ok (record { roots = roots; base = base })))) (λ placed. Ok (asked_of (held_as (source ∷ [])) placed))) roots_are
      ∙ ap (λ b. and_then (and_then (refused_as outcome_of_target b) (λ base. Ok (record { roots = root_of source ∷ []; base = base }))) (λ placed. Ok (asked_of (held_as (source ∷ [])) placed))) base_is

  -- so this is what is listed
  pub asked_is : (asked : Asked) → before_listing (plain source target) s bare ≡ Ok asked → asked ≡ asked_for source target
  asked_is asked e = let both : Ok asked ≡ Ok (asked_for source target) = sym e ∙ allowed in cc

  pub survey_is : (entries : List Entry) → IsSurveyed (plain source target) s bare entries → AreListed (all_listed no_rules s (root_of source ∷ [])) entries
  survey_is entries surveyed = subst (λ (asked : Asked). AreListed (all_listed (rules_of asked.lines []) s asked.roots) entries) (asked_is surveyed.asked surveyed.allowed) surveyed.lists.are

  -- ---- what refuses
  -- of the listing
  by_list : (why : ListError) (e : Outcome) → ListsNot why no_rules s (root_of source ∷ []) target → e ≡ outcome_of_list why → is_decided e ≡ true → Limits s source target e
  by_list (list_error.NoSource path) e not named decided = absurd not
  by_list (list_error.Duplicate rel first second) e not named decided = absurd (never_twice s source target p rel first second not.0)
  by_list list_error.TooMany e not named decided = inl (named, not)
  by_list (list_error.TooLong parent name) e not named decided = inr (inl (parent, name, named, not))
  by_list (list_error.Changed path) e not named decided = let no : false ≡ true = sym (ap is_decided named) ∙ decided in absurd (cc)
  by_list list_error.Fault e not named decided = let no : false ≡ true = sym (ap is_decided named) ∙ decided in absurd (cc)
  by_list list_error.Memory e not named decided = let no : false ≡ true = sym (ap is_decided named) ∙ decided in absurd (cc)

  lacks : (e : Outcome) → LacksListing (plain source target) s bare e → is_decided e ≡ true → Limits s source target e
  lacks e l decided =
      by_list l.why e (subst (λ (asked : Asked). ListsNot l.why (rules_of asked.lines []) s asked.roots asked.base) (asked_is l.asked l.allowed) l.lacks) l.named decided

  -- nothing clashes
  never_clash : (entries : List Entry) (e : Outcome) → EndsByClash (plain source target) target entries (Some bare) e → ⊥
  never_clash entries e c =
      let item = c.first.item in
      let no : false ≡ true = sym (ap (clashes item.dir) (nothing_seen target item.rel p.below)) ∙ c.first.here in
      absurd (cc)

  by_plan : (entries : List Entry) (e : Outcome) → AreListed (all_listed no_rules s (root_of source ∷ [])) entries → is_ascending (map rel_of entries) ≡ true → (plan : Decisions) → map item_of plan.items ≡ entries
      → EndsByWalk (plain source target) (Some bare) plan e ⊎ EndsByPieces (plain source target) (Some bare) plan e → Limits s source target e
  by_plan entries e are ascending plan items (inl walk) = let no : false ≡ true = walk.stopped.asked in absurd (cc)
  by_plan entries e are ascending plan items (inr pieces) =
      inr (inr (pieces.named, record { entries = entries; are = are; ascending = ascending; plan = plan; items = items; many = pieces.many }))

  by_end : (entries : List Entry) (e : Outcome) → AreListed (all_listed no_rules s (root_of source ∷ [])) entries → is_ascending (map rel_of entries) ≡ true
      → EndsByClash (plain source target) target entries (Some bare) e ⊎ EndsPlanned (plain source target) target entries (Some s) (Some bare) e → Limits s source target e
  by_end entries e are ascending (inl clash) = absurd (never_clash entries e clash)
  by_end entries e are ascending (inr planned) = by_plan entries e are ascending planned.plan planned.planned.entries planned.ends

  -- only a limit does
  limits : (e : Outcome) → IsRefused (plain source target) s bare e → is_decided e ≡ true → Limits s source target e
  limits e (inl before) decided = let no : Ok (asked_for source target) ≡ Err e = sym allowed ∙ before in absurd (cc)
  limits e (inr (inl l)) decided = lacks e l decided
  limits e (inr (inr later)) decided = by_end later.entries e (survey_is later.entries later.surveyed) later.ascending later.ends

  -- which is one of three
  is_limit : (e : Outcome) → Limits s source target e → IsLimit e
  is_limit e (inl many) = inl many.0
  is_limit e (inr (inl long)) = inr (inr (long.0, long.1, long.2))
  is_limit e (inr (inr pieces)) = inr (inl pieces.0)

  pub only_limits : (e : Outcome) → IsRefused (plain source target) s bare e → is_decided e ≡ true → IsLimit e
  only_limits e refused decided = is_limit e (limits e refused decided)

  -- and none is met where what is copied is within the limits
  unmet : IsListable s source target → (e : Outcome) → Limits s source target e → ⊥
  unmet l e (inl many) = never_many s source target p l many.1
  unmet l e (inr (inl long)) = never_long s source target p l long.0 long.1 long.3
  unmet l e (inr (inr pieces)) =
      let h = pieces.1 in
      let few : length h.entries ≤ max_items = few_entries s source target p l h.entries h.are h.ascending in
      let as_many : length h.plan.items ≡ length h.entries = sym (length-map h.plan.items item_of) ∙ ap length h.items in
      let none_cut : length (plan_pieces 0 h.plan) ≤ length h.plan.items = few_pieces h.plan in
      let many : most_pieces < length (plan_pieces 0 h.plan) = h.many in
      omega (arith, few, as_many, none_cut, many)

  pub none_refuses : IsListable s source target → (e : Outcome) → IsRefused (plain source target) s bare e → is_decided e ≡ true → ⊥
  none_refuses l e refused decided = unmet l e (limits e refused decided)

-- ---- the laws
pub plain_is_allowed : PlainIsAllowed
plain_is_allowed s source target p = allowed s source target p

pub only_limits_refuse : OnlyLimitsRefuse
only_limits_refuse s source target e p refused decided = only_limits s source target p e refused decided

pub nothing_refuses : NothingRefuses
nothing_refuses s source target e p l refused decided = none_refuses s source target p l e refused decided
