-- The item's pieces stand between the two bounds.
use Rattle.std.proofs.Common.{◌≡◌, ◌+◌, ◌<◌, ◌≤◌, length, ap, sym, ◌∙◌, arith, rules}
use Rattle.std.specs.List.{AllWithin}
use Rattle.dc_pieces.specs.Parts.{numbers_of}
use Rattle.dc_pieces.specs.declared.piece.Piece.{Piece}
use Rattle.dc_pieces.proofs.PieceLemmas.{bounds_rise, numbers-bounds}
use Rattle.dc_pieces.proofs.piece.Pieces.numbers.Goals as goal

pub returns-clause-rises : goal.returns-clause-rises
returns-clause-rises c =
    let ps = c.as_slice-pieces.result.now in
    let item : c.from.result ≡ c.args.item = search rules in
    let other : c.from-2.result ≡ c.args.item = search rules in
    let below : AllWithin (λ (p : Piece). p.item < c.args.item) ps 0 c.first_from-start.result = λ k d a b. omega (arith, item, c.first_from-start.ensures.below k d a b) in
    let next : AllWithin (λ (p : Piece). c.args.item + 1 ≤ p.item) ps c.first_from-end.result (length ps) = λ k d a b. omega (arith, other, c.first_from-end.ensures.above k d a b) in
    bounds_rise c.args.item c.first_from-start.result c.first_from-end.result ps below next c.first_from-start.ensures.within

pub returns-clause-numbers : goal.returns-clause-numbers
returns-clause-numbers c =
    let ps = c.as_slice-pieces.result.now in
    let same : ps ≡ c.args.self.now = search rules in
    let item : c.from.result ≡ c.args.item = search rules in
    let other : c.from-2.result ≡ c.args.item = search rules in
    let below : AllWithin (λ (p : Piece). p.item < c.args.item) ps 0 c.first_from-start.result = λ k d a b. omega (arith, item, c.first_from-start.ensures.below k d a b) in
    let next : AllWithin (λ (p : Piece). c.args.item + 1 ≤ p.item) ps c.first_from-end.result (length ps) = λ k d a b. omega (arith, other, c.first_from-end.ensures.above k d a b) in
    let from : AllWithin (λ (p : Piece). c.args.item ≤ p.item) ps c.first_from-start.result (length ps) = λ k d a b. omega (arith, item, c.first_from-start.ensures.above k d a b) in
    let to : AllWithin (λ (p : Piece). p.item < c.args.item + 1) ps 0 c.first_from-end.result = λ k d a b. omega (arith, other, c.first_from-end.ensures.below k d a b) in
    let rises = bounds_rise c.args.item c.first_from-start.result c.first_from-end.result ps below next c.first_from-start.ensures.within in
    ap (λ xs. numbers_of xs c.args.item) (sym same)
    ∙ numbers-bounds c.args.item c.first_from-start.result c.first_from-end.result ps below next rises c.first_from-end.ensures.within from to
