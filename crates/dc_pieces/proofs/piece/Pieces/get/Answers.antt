-- Each piece ends within 64 bits.
use Rattle.std.proofs.Common.{◌≡◌, ◌+◌, ◌<◌, ◌^◌, true, IfSome, slice_get, subst, sym, rules}
use Rattle.std.specs.List.{list_all}
use Rattle.dc_pieces.specs.Pieces.{ends_within}
use Rattle.dc_pieces.proofs.PieceLemmas.{fits_at}
use Rattle.dc_pieces.proofs.piece.Pieces.get.Goals as goal

pub returns-clause-fits : goal.returns-clause-fits
returns-clause-fits c =
    let value : c.copied.result ≡ slice_get c.args.self.now c.args.number = search rules in
    let within : list_all ends_within c.args.self.now ≡ true = search rules in
    subst (λ found. IfSome found (λ piece. piece.from + piece.length < 2 ^ 64)) (sym value) (fits_at c.args.self.now c.args.number within)
