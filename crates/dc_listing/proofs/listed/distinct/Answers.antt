use Rattle.std.proofs.Common.{◌≡◌, ◌∙◌, ◌+◌, ap, subst, sym, true, List, length, get_or}
use Rattle.std.proofs.lemmas.List.{get_or_default}
use Rattle.dc_path.specs.Paths.{same_path}
use Rattle.dc_listing.specs.Entries.{Entry}
use Rattle.dc_listing.specs.Listing.{IsTwiceAt, NoneTwiceBelow}
use Rattle.dc_listing.proofs.Distinct.{twice_err}
use Rattle.dc_listing.proofs.OrderedEntries.{ascends, has_two}
use Rattle.dc_listing.proofs.listed.distinct.Goals as goal

pub returns-in-Some-clause-twice : goal.returns-in-Some-clause-twice
returns-in-Some-clause-twice c =
    let items = c.args.items in
    let k = c.in-Some.at in
    let x = c.index-as_slice-at.result in
    let y = c.index-as_slice-at-in-Some.result in
    let here = subst (λ (es : List Entry). IsTwiceAt es k) c.as_slice.ensures c.in-Some.ensures.some in
    let first : x ≡ get_or items k x = c.index-as_slice-at.is ∙ ap (λ (es : List Entry). get_or es k x) c.as_slice-in-Some.ensures in
    let second : y ≡ get_or items (k + 1) y = c.index-as_slice-at-in-Some.is ∙ ap (λ (es : List Entry). get_or es (k + 1) y) c.as_slice-in-Some-2.ensures in
    let next : get_or items (k + 1) x ≡ y = get_or_default items (k + 1) x y here.inside ∙ sym second in
    let same : same_path x.rel y.rel ≡ true = ap (λ (e : Entry). same_path e.rel y.rel) first ∙ ap (λ (e : Entry). same_path (get_or items k x).rel e.rel) (sym next) ∙ here.same x in
    twice_err c.twice.result items x.rel x.from y.from c.twice.ensures (has_two items k x y c.requires here.first here.inside first second same)

pub returns-in-None-clause-ascending : goal.returns-in-None-clause-ascending
returns-in-None-clause-ascending c = ascends c.args.items c.requires (subst (λ (es : List Entry). NoneTwiceBelow es (length es)) c.as_slice.ensures c.in-None.ensures.none)
