-- What a small copy leaves, lands, counts and prints, and that nothing refuses it.
use Rattle.std.proofs.Common.{◌≡◌, ℕ, ◌+◌, ◌<◌, Bool, true, false, cond, ◌⊎◌, inl, inr, List, [], ◌∷◌, ◌++◌, length, codes, Option, Some, None, Result, Ok, IfOk, IsOkAnd, IfSome, refl, sym, ap, ◌∙◌, subst, arith}
use Rattle.std.specs.Char.{encode_utf8}
use Rattle.std.specs.Cmp.{second_so}
use Rattle.std.specs.Option.{is_some, option_map}
use Rattle.std.specs.Str.{is_utf8, chars}
use Rattle.std.proofs.lemmas.Fmt.{decimal_digit}
use Rattle.dc_path.specs.Found.{found, has_path}
use Rattle.dc_path.specs.Names.{is_name, same_name}
use Rattle.dc_path.specs.Paths.{Names, same_path, cut, at_cut, is_above, fits}
use Rattle.dc_path.specs.Reading.{path_from}
use Rattle.dc_path.proofs.Fronts.{is_above-nil}
use Rattle.dc_path.proofs.PathLemmas.{append-cut, same_path-true, same_path-not_below}
use Rattle.dc_attrs.specs.Attributes.{default_dir, default_file}
use Rattle.dc_attrs.specs.Trees.{Tree, Dir, File, IsTree, bare, is_dir_node}
use Rattle.dc_fs.specs.Causes.{steady_at, Rose}
use Rattle.dc_fs.specs.Rest.{Rest, nothing_kept}
use Rattle.dc_fs.specs.Temporaries.{WriteStops, IsPast}
use Rattle.dc_fs.specs.Views.{BothTrees, View}
use Rattle.dc_fs.specs.declared.target.Landed.{Landed}
use Rattle.dc_fs.proofs.ViewLemmas.{both_trees}
use Rattle.dc_options.specs.Reading.{options}
use Rattle.dc_options.specs.Settings.{Settings}
use Rattle.dc_options.specs.declared.errors.OptionError.{OptionError}
use Rattle.dc_engine.specs.Finishing.{ShowsEnd}
use Rattle.dc_engine.specs.Outcomes.{is_big_pattern}
use Rattle.dc_engine.specs.Running.{HasCopied, commits, without}
use Rattle.dc_engine.specs.declared.outcome.Counts.{Counts}
use Rattle.dc_engine.specs.declared.outcome.Outcome.{Outcome}
use Rattle.dc_engine.specs.declared.outcome.Outcome.TheVariants as outcome
use Rattle.dc_plain.specs.Laws.{CopiesAreWhole, CountsAreOne, LandingsAreOne, NothingRefuses, WordsArePlain}
use Rattle.dc_plain.specs.Left.{AreCountsOf, AreFolders, AreLandings, anew, landing_at, left, left_below}
use Rattle.dc_plain.specs.Plain.{IsListable, IsPlain, copied_from, plain}
use Rattle.dc_output.specs.Output.{lines, counter_lines, left_out, outcome_text}
use Rattle.dc_cli.specs.Verdict.{Settles}
use Rattle.dc_cli.proofs.PlainEnds.{plain_ends}
use Rattle.dc_client.specs.Small.{small, from_dir, to_dir, to_file, small_words, small_landed, small_counts, small_lines, memory_line}

-- ---- words and paths
pub reads_dir : path_from (codes "/s") ≡ Ok from_dir
unfolding is_name is_utf8 chars encode_utf8
reads_dir = refl

pub reads_file : path_from (codes "/s/a") ≡ Ok (codes "s" ∷ codes "a" ∷ [])
unfolding is_name is_utf8 chars encode_utf8
reads_file = refl

pub reads_place : path_from (codes "/d") ≡ Ok to_dir
unfolding is_name is_utf8 chars encode_utf8
reads_place = refl

pub reads_copy : path_from (codes "/d/a") ≡ Ok to_file
unfolding is_name is_utf8 chars encode_utf8
reads_copy = refl

pub ruleset reads = (reads_dir, reads_file, reads_copy)

-- the words ask for a plain copy
pub asked : (words : List (List ℕ)) → words ≡ small_words → WordsArePlain → options words ≡ Ok (plain from_dir to_dir)
asked words same law = ap options same ∙ law (codes "/s") (codes "/d") from_dir to_dir reads_dir reads_place

-- ---- one path is copied
abbrev a : List ℕ
a = codes "a"

abbrev copied : Tree
copied = copied_from (small (codes "s")) from_dir

small_plain : IsTree (small (codes "s")) → IsPlain (small (codes "s")) from_dir to_dir
small_plain tree = record { tree = tree; dir = (default_dir, refl); within = refl; below = refl; shown = refl }

one_by : (hidden is : Bool) → is_some (cond hidden None (cond is (Some (File (codes "hi") default_file)) None)) ≡ true → is ≡ true
one_by true is h = absurd (cc)
one_by false true h = refl
one_by false false h = absurd (cc)

one_copied : (rel : Names) → is_some (copied rel) ≡ true → rel ≡ a ∷ []
one_copied [] h = absurd (cc)
one_copied (x ∷ r) h = sym (same_path-true (a ∷ []) (x ∷ r) (one_by _ _ h))

-- it is within the limits
small_listable : IsListable (small (codes "s")) from_dir to_dir
small_listable = record {
  from = λ rel h. subst (λ (q : Names). fits (from_dir ++ q) ≡ true) (sym (one_copied rel h)) refl;
  to = λ rel h. subst (λ (q : Names). fits (to_dir ++ q) ≡ true) (sym (one_copied rel h)) refl;
  rels = (a ∷ []) ∷ [];
  all = λ rel h. subst (λ (q : Names). has_path ((a ∷ []) ∷ []) q ≡ true) (sym (one_copied rel h)) refl;
  few = omega arith;
}

-- ---- the tree that is left
left_none : (hidden : Bool) → option_map anew (cond hidden None None) ≡ None
left_none true = refl
left_none false = refl

abbrev LeftBelow : Names → Type 0
LeftBelow rel = left_below (small (codes "s")) from_dir rel ≡ small (codes "d") (codes "d" ∷ rel)

left_by : (x : List ℕ) (r : Names) (is : Bool) → same_path (a ∷ []) (x ∷ r) ≡ is → LeftBelow (x ∷ r)
left_by x r true h = subst LeftBelow (same_path-true (a ∷ []) (x ∷ r) h) refl
left_by x r false h = rw h (left_none _)

left_under : (rel : Names) → LeftBelow rel
left_under [] = refl
left_under (x ∷ r) = left_by x r _ refl

-- nothing is above the target but the root
above_none : (p : Names) (above : Bool) → is_above p to_dir ≡ above → cond above (Some (Dir default_dir)) None ≡ bare p
above_none [] above h = rw (sym h) refl
above_none (y ∷ q) true h = let up = second_so (same_name y (codes "d")) (is_above q []) h in let none = is_above-nil q in cc
above_none (y ∷ q) false h = refl

left_at : (p : Names) (o : Option Names) → cut to_dir p ≡ o → at_cut o (cond (is_above p to_dir) (Some (Dir default_dir)) None) (left_below (small (codes "s")) from_dir) ≡ small (codes "d") p
left_at p None h = rw (same_path-not_below to_dir [] p h, same_path-not_below to_dir (a ∷ []) p h) (above_none p _ refl)
left_at p (Some rel) h = rw (append-cut to_dir p rel h) (left_under rel)

small_left : left (small (codes "s")) from_dir to_dir ≡ small (codes "d")
small_left = λ i p. left_at p _ refl i

-- ---- what has landed
no_landing : (place : Names) (hidden : Bool) → None ≡ landing_at place (cond hidden None None)
no_landing place true = refl
no_landing place false = refl

abbrev LandsBelow : Names → Type 0
LandsBelow rel = found (λ (one : Landed). one.path) small_landed (codes "d" ∷ rel) ≡ landing_at (to_dir ++ rel) (copied rel)

lands_by : (x : List ℕ) (r : Names) (is : Bool) → same_path (a ∷ []) (x ∷ r) ≡ is → LandsBelow (x ∷ r)
lands_by x r true h = subst LandsBelow (same_path-true (a ∷ []) (x ∷ r) h) refl
lands_by x r false h = rw h (no_landing _ _)

lands_under : (rel : Names) → LandsBelow rel
lands_under [] = refl
lands_under (x ∷ r) = lands_by x r _ refl

lands_at : (p : Names) (o : Option Names) → cut to_dir p ≡ o → found (λ (one : Landed). one.path) small_landed p ≡ at_cut o None (λ rel. landing_at (to_dir ++ rel) (copied rel))
lands_at p None h = rw (same_path-not_below to_dir (a ∷ []) p h) refl
lands_at p (Some rel) h = rw (append-cut to_dir p rel h) (lands_under rel)

small_lands : AreLandings (small (codes "s")) from_dir to_dir small_landed
small_lands = record { ascending = refl; each = λ p. lands_at p _ refl }

-- ---- what is counted
no_folder : (hidden is : Bool) → false ≡ is_dir_node (cond hidden None (cond is (Some (File (codes "hi") default_file)) None))
no_folder true is = refl
no_folder false true = refl
no_folder false false = refl

not_folder : (rel : Names) → false ≡ is_dir_node (copied rel)
not_folder [] = refl
not_folder (x ∷ r) = no_folder _ _

small_folders : AreFolders (small (codes "s")) from_dir []
small_folders = record { ascending = refl; each = not_folder }

small_counted : AreCountsOf (small (codes "s")) from_dir to_dir small_counts
small_counted = record { landings = small_landed; land = small_lands; folders = []; made = small_folders; are = refl }

-- ---- the run
-- both stores tell their small trees
pub record TellSmall (source target : Option Tree) : Type 0 where
  pub from : source ≡ Some (small (codes "s"))
  pub to : target ≡ Some bare
  pub from_tree : IfSome source IsTree
  pub to_tree : IfSome target IsTree

from_is_tree : (source target : Option Tree) → TellSmall source target → IsTree (small (codes "s"))
from_is_tree source target told = subst (λ (o : Option Tree). IfSome o IsTree) told.from told.from_tree

of_told : (source target : Option Tree) (P : Tree → Tree → Type 0) → TellSmall source target → BothTrees source target P → P (small (codes "s")) bare
of_told source target P told h =
    both_trees P source target (small (codes "s")) bare told.from told.to (from_is_tree source target told) (subst (λ (o : Option Tree). IfSome o IsTree) told.to told.to_tree) h

-- it commits, or memory runs out
pub ends : (words : List (List ℕ)) (source target : Option Tree) (e : Outcome) (from from_now old new : View) → words ≡ small_words → TellSmall source target → WordsArePlain → NothingRefuses
    → IfOk (options words) (λ o. ShowsEnd o e from from_now old new) → (is_big_pattern e ≡ true → IfOk (options words) (λ o. is_some o.filters ≡ true)) → BothTrees source target (λ s t. Settles words s t e)
    → (e ≡ outcome.Committed) ⊎ (e ≡ outcome.Memory)
ends words source target e from from_now old new same told law refuses shows big h =
    plain_ends (small (codes "s")) from_dir to_dir words e from from_now old new refuses (asked words same law) (small_plain (from_is_tree source target told)) small_listable shows big
    (of_told source target (λ s t. Settles words s t e) told h)

-- tree, landings and counters of a run that commits
pub record IsSmall (counts : Counts) (new : View) : Type 0 where
  pub tree : new.tree ≡ Some (small (codes "d"))
  pub landed : new.rest.landed ≡ small_landed
  pub counted : counts ≡ small_counts

is_small : CopiesAreWhole → LandingsAreOne → CountsAreOne → (paths : List Names) (counts : Counts) (from from_now old new : View) → old.rest ≡ nothing_kept → IsTree (small (codes "s"))
    → HasCopied (plain from_dir to_dir) (small (codes "s")) bare paths counts from from_now old new → IsSmall counts new
is_small copies landings counters paths counts from from_now old new none tree h =
    let done = (copies (small (codes "s")) from_dir to_dir paths counts from from_now old new (small_plain tree) h).1 in
    record {
      tree = done.tree ∙ ap Some small_left;
      landed = done.landed ∙ ap (λ (rest : Rest). rest.landed ++ done.counted.landings) none ∙ landings (small (codes "s")) from_dir to_dir done.counted.landings small_landed done.counted.land small_lands;
      counted = counters (small (codes "s")) from_dir to_dir counts small_counts done.counted small_counted;
    }

pub leaves : (words : List (List ℕ)) (source target : Option Tree) (e : Outcome) (counts : Counts) (from from_now old new : View) → words ≡ small_words → TellSmall source target → WordsArePlain → CopiesAreWhole → LandingsAreOne → CountsAreOne
    → old.rest ≡ nothing_kept → (commits e ≡ true → IsOkAnd (options words) (λ o. BothTrees source target (λ s t. HasCopied o s t (without e) counts from from_now old new))) → e ≡ outcome.Committed → IsSmall counts new
leaves words source target e counts from from_now old new same told law copies landings counters none h is =
    let whole : BothTrees source target (λ s t. HasCopied (plain from_dir to_dir) s t (without e) counts from from_now old new) =
    subst (λ (r : Result Settings OptionError). IsOkAnd r (λ o. BothTrees source target (λ s t. HasCopied o s t (without e) counts from from_now old new))) (asked words same law) (h (ap commits is)) in
    is_small copies landings counters (without e) counts from from_now old new none (from_is_tree source target told)
    (of_told source target (λ s t. HasCopied (plain from_dir to_dir) s t (without e) counts from from_now old new) told whole)

-- ---- what is printed
committed_lines : lines outcome.Committed small_counts ≡ small_lines
unfolding counter_lines left_out outcome_text
committed_lines = rw (decimal_digit 0 (omega arith), decimal_digit 1 (omega arith), decimal_digit 2 (omega arith)) refl

memory_lines : (counts : Counts) → lines outcome.Memory counts ≡ memory_line
unfolding left_out outcome_text
memory_lines counts = refl

-- the lines of a run that ended in one of the two ways
pub output : (e : Outcome) (counts : Counts) (text : List ℕ) → lines e counts ≡ text → (old new : Option (List ℕ)) → old ≡ Some [] → new ≡ option_map (λ old. old ++ lines e counts) old → new ≡ Some text
output e counts text is old new none h = h ∙ ap (option_map (λ old. old ++ lines e counts)) none ∙ ap Some is

pub committed_output : (e : Outcome) (counts : Counts) → e ≡ outcome.Committed → counts ≡ small_counts → lines e counts ≡ small_lines
committed_output e counts is same = ap (λ e. lines e counts) is ∙ ap (lines outcome.Committed) same ∙ committed_lines

pub memory_output : (e : Outcome) (counts : Counts) → e ≡ outcome.Memory → lines e counts ≡ memory_line
memory_output e counts is = ap (λ e. lines e counts) is ∙ memory_lines counts

short_by : (e : Outcome) (counts : Counts) (text : List ℕ) → lines e counts ≡ text → length text < 1048576 → length (lines e counts) < 1048576
short_by e counts text is short = subst (λ text. length text < 1048576) (sym is) short

-- they are fewer bytes than the sink takes
pub short_output : (e : Outcome) (counts : Counts) → (e ≡ outcome.Committed) ⊎ (e ≡ outcome.Memory) → (e ≡ outcome.Committed → counts ≡ small_counts) → length (lines e counts) < 1048576
short_output e counts (inl is) h = let n : length small_lines ≡ 71 = refl in short_by e counts small_lines (committed_output e counts is (h is)) (omega (arith, n))
short_output e counts (inr is) h = let n : length memory_line ≡ 18 = refl in short_by e counts memory_line (memory_output e counts is) (omega (arith, n))

-- so it takes them all
pub all_printed : (printed : Bool) (limit : Option ℕ) (piece : List ℕ) (old new : Option (List ℕ)) → limit ≡ Some 1048576 → old ≡ Some [] → length piece < 1048576 → (printed ≡ false → WriteStops limit piece old new) → printed ≡ true
all_printed true limit piece old new most none short stops = refl
all_printed false limit piece old new most none short stops =
    let past : IsPast (Some 1048576) piece (Some []) = subst (λ old. IsPast (Some 1048576) piece old) none (subst (λ limit. IsPast limit piece old) most (stops refl).past) in
    let more : 1048576 < 0 + length piece = past in
    let none_left : ⊥ = omega arith in
    absurd none_left

-- ---- what is left besides
-- what is steady has not failed
pub not_failed : (steady : Bool) (faults : ℕ) → steady_at steady faults ≡ Some 0 → faults ≡ 0
not_failed true faults h = cc
not_failed false faults h = cc

not_rose : (before now : ℕ) → before ≡ 0 → now ≡ 0 → Rose before now → ⊥
not_rose before now b n rose = omega arith

no_scratch_by : (old new : Rest) (before now : ℕ) → old ≡ nothing_kept → before ≡ 0 → now ≡ 0 → (new ≡ old) ⊎ ((new.scratch ≡ 0) ⊎ Rose before now) → new.scratch ≡ 0
no_scratch_by old new before now none b n (inl same) = ap (λ rest. rest.scratch) (same ∙ none)
no_scratch_by old new before now none b n (inr (inl cleared)) = cleared
no_scratch_by old new before now none b n (inr (inr rose)) = absurd (not_rose before now b n rose)

-- no temporary is left, however the run ended
pub no_scratch : (words : List (List ℕ)) (e : Outcome) (from from_now old new : View) → words ≡ small_words → WordsArePlain → (e ≡ outcome.Committed) ⊎ (e ≡ outcome.Memory) → old.rest ≡ nothing_kept → old.faults ≡ 0 → new.faults ≡ 0
    → IfOk (options words) (λ o. ShowsEnd o e from from_now old new) → (commits e ≡ false → (new.rest ≡ old.rest) ⊎ ((new.rest.scratch ≡ 0) ⊎ Rose old.faults new.faults)) → new.rest.scratch ≡ 0
no_scratch words e from from_now old new same law (inl is) none b n shows left =
    let shown : ShowsEnd (plain from_dir to_dir) e from from_now old new = subst (λ (r : Result Settings OptionError). IfOk r (λ o. ShowsEnd o e from from_now old new)) (asked words same law) shows in
    shown.swept (ap commits is)
no_scratch words e from from_now old new same law (inr is) none b n shows left = no_scratch_by old.rest new.rest old.faults new.faults none b n (left (ap commits is))
