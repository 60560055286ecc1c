-- How a drill's run ends, and what it counts.
use Rattle.std.proofs.Common.{◌≡◌, ◌⊎◌, ◌≤◌, ◌∙◌, true, List, [], ◌∷◌, ℕ, Option, Some, IfSome, Result, Ok, IfOk, IsOkAnd, codes, ap, subst}
use Rattle.std.specs.Option.{is_some}
use Rattle.dc_attrs.specs.Trees.{Tree, IsTree, bare}
use Rattle.dc_fs.specs.Views.{BothTrees, View}
use Rattle.dc_options.specs.Reading.{options}
use Rattle.dc_options.specs.Settings.{Settings}
use Rattle.dc_options.specs.declared.errors.OptionError.{OptionError}
use Rattle.dc_engine.specs.Finishing.{ShowsEnd}
use Rattle.dc_engine.specs.Outcomes.{is_big_pattern}
use Rattle.dc_engine.specs.Running.{HasCopied, commits, without}
use Rattle.dc_engine.specs.declared.outcome.Counts.{Counts}
use Rattle.dc_engine.specs.declared.outcome.Outcome.{Outcome}
use Rattle.dc_engine.specs.declared.outcome.Outcome.TheVariants as outcome
use Rattle.dc_plain.specs.Laws.{CopiesAreWhole, NothingRefuses, WordsArePlain}
use Rattle.dc_plain.specs.Left.{AreCountsOf}
use Rattle.dc_plain.specs.Plain.{plain}
use Rattle.dc_cli.specs.Drills.{drill_source, drill_target, drill_tree}
use Rattle.dc_cli.specs.Verdict.{Settles}
use Rattle.dc_cli.proofs.DrillLemmas.{drill_asks}
use Rattle.dc_cli.proofs.DrillListing.{drill_listable, drill_plain}
use Rattle.dc_cli.proofs.PlainEnds.{plain_ends}

abbrev words_of : List (List ℕ)
words_of = codes "/src/.snapshot/s1" ∷ codes "/dst" ∷ []

asked : (words : List (List ℕ)) → words ≡ words_of → WordsArePlain → options words ≡ Ok (plain drill_source drill_target)
asked words w law = ap options w ∙ drill_asks law

is_tree_of : (told : Option Tree) (t : Tree) → told ≡ Some t → IfSome told IsTree → IsTree t
is_tree_of told t q h = subst (λ (o : Option Tree). IfSome o IsTree) q h

-- both trees are told
both : (source target : Option Tree) (s t : Tree) (P : Tree → Tree → Type 0) → source ≡ Some s → target ≡ Some t → IfSome source IsTree → IfSome target IsTree → BothTrees source target P → P s t
both source target s t P a b v w h =
    subst (λ (o : Option Tree). BothTrees (Some s) o P) b (subst (λ (o : Option Tree). BothTrees o target P) a h) (is_tree_of source s a v) (is_tree_of target t b w)

pub drill_ends : (seed count : ℕ) (words : List (List ℕ)) (source target : Option Tree) (e : Outcome) (a b c d : View) → count ≤ 200000 → words ≡ words_of → source ≡ Some (drill_tree seed count) → target ≡ Some bare →
    IfSome source IsTree → IfSome target IsTree → WordsArePlain → NothingRefuses → IfOk (options words) (λ o. ShowsEnd o e a b c d) → (is_big_pattern e ≡ true → IfOk (options words) (λ o. is_some o.filters ≡ true)) →
    BothTrees source target (λ s t. Settles words s t e) → (e ≡ outcome.Committed) ⊎ (e ≡ outcome.Memory)
drill_ends seed count words source target e a b c d few w p q v x law refuses shows big h =
    plain_ends (drill_tree seed count) drill_source drill_target words e a b c d refuses (asked words w law) (drill_plain seed count (is_tree_of source (drill_tree seed count) p v)) (drill_listable seed count few)
    shows big (both source target (drill_tree seed count) bare (λ s t. Settles words s t e) p q v x h)

pub drill_counts : (seed count : ℕ) (words : List (List ℕ)) (source target : Option Tree) (e : Outcome) (counts : Counts) (a b c d : View) → words ≡ words_of → source ≡ Some (drill_tree seed count) → target ≡ Some bare →
    IfSome source IsTree → IfSome target IsTree → WordsArePlain → CopiesAreWhole → (commits e ≡ true → IsOkAnd (options words) (λ o. BothTrees source target (λ s t. HasCopied o s t (without e) counts a b c d))) →
    e ≡ outcome.Committed → AreCountsOf (drill_tree seed count) drill_source drill_target counts
drill_counts seed count words source target e counts a b c d w p q v x law copies h ended =
    let told : IsOkAnd (options words) (λ o. BothTrees source target (λ s t. HasCopied o s t (without e) counts a b c d)) = h (ap commits ended) in
    let copied : BothTrees source target (λ s t. HasCopied (plain drill_source drill_target) s t (without e) counts a b c d) =
    subst (λ (r : Result Settings OptionError). IsOkAnd r (λ o. BothTrees source target (λ s t. HasCopied o s t (without e) counts a b c d))) (asked words w law) told in
    let whole = copies (drill_tree seed count) drill_source drill_target (without e) counts a b c d (drill_plain seed count (is_tree_of source (drill_tree seed count) p v))
    (both source target (drill_tree seed count) bare (λ s t. HasCopied (plain drill_source drill_target) s t (without e) counts a b c d) p q v x copied) in
    whole.1.counted
