-- What is refused where something is to be moved onto a path at which nothing stands.
use Rattle.std.proofs.Common.{◌≡◌, ℕ, List, Option, Some, None, Bool, true, false, refl, sym, ◌∙◌, ap}
use Rattle.std.specs.Option.{is_some, option_or}
use Rattle.dc_path.specs.Paths.{front_of, cut, is_under}
use Rattle.dc_path.proofs.PathLemmas.{no_rest}
use Rattle.dc_attrs.specs.Trees.{Tree, Node, seen}
use Rattle.dc_attrs.specs.Refusals.{refused_onto, refused_in, refused_new, refused_into}
use Rattle.dc_attrs.specs.declared.refusals.TreeError.{TreeError}
use Rattle.dc_attrs.specs.declared.refusals.TreeError.TheVariants as tree_error

some_rest : (o : Option (List (List ℕ))) → is_some o ≡ true → (r : List (List ℕ)) × (o ≡ Some r)
some_rest None e = cc
some_rest (Some r) e = (r, refl)

pub apart_from : (d p : List (List ℕ)) (b : Bool) → b ≡ is_under d p → b ≡ false → cut d p ≡ None
apart_from d p b e f = no_rest (cut d p) (sym e ∙ f)

-- what stands against a new path
pub refused_yes : (t : Tree) (d p : List (List ℕ)) (b : Bool) → t p ≡ None → b ≡ is_under d p → b ≡ true → refused_onto t d p ≡ Some tree_error.IntoItself
refused_yes t d p b n e f =
    let r = some_rest (cut d p) (sym e ∙ f) in
    ap (λ (o : Option Node). refused_new o (option_or (refused_into (cut d p)) (refused_in (seen t (front_of p))))) n ∙ ap (λ (o : Option (List (List ℕ))). option_or (refused_into o) (refused_in (seen t (front_of p)))) r.1

pub refused_no : (t : Tree) (d p : List (List ℕ)) (b : Bool) (why : Option TreeError) → t p ≡ None → b ≡ is_under d p → b ≡ false → refused_in (seen t (front_of p)) ≡ why → refused_onto t d p ≡ why
refused_no t d p b why n e f w =
    ap (λ (o : Option Node). refused_new o (option_or (refused_into (cut d p)) (refused_in (seen t (front_of p))))) n ∙ ap (λ (o : Option (List (List ℕ))). option_or (refused_into o) (refused_in (seen t (front_of p)))) (apart_from d p b e f) ∙ w
