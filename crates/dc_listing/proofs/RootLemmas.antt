-- The roots of sources, one after the other.
use Rattle.std.proofs.Common.{◌≡◌, ℕ, List, ◌++◌, Bool, true, false, ◌||◌, Option, IfSome, Result, Ok, Err, refl, ◌∙◌, ap, cond, []}
use Rattle.dc_path.specs.Paths.{Names, is_root}
use Rattle.dc_path.proofs.PathLemmas.{same_path-refl}
use Rattle.dc_attrs.specs.Trees.{Tree}
use Rattle.dc_attrs.specs.declared.shown.Seen.{Seen}
use Rattle.dc_listing.specs.Roots.{Placing, is_put_on, last_of, prefix_of, is_at_prefix, roots_at}
use Rattle.dc_listing.specs.declared.item.Root.{Root}
use Rattle.dc_listing.specs.declared.item.ListError.{ListError}

-- the roots so far, before those of the sources that are left
abbrev pub after : List Root → Result (List Root) ListError → Result (List Root) ListError
after roots (Ok more) = Ok (roots ++ more)
after roots (Err e) = Err e

-- the roots of all sources are those so far and those of the rest
abbrev pub AreSoFar : Option Tree → Placing → Option (List ℕ) → List Names → List Names → List Root → Type 0
AreSoFar told p at all rest roots = IfSome told (λ s. roots_at p s at all ≡ after roots (roots_at p s at rest))

-- a prefix by the table is the root path or the last name
pub prefix_put : (p : Placing) (shown : Seen) (source : Names) → is_at_prefix source (prefix_of p shown source) ≡ true
prefix_put p shown source = by (is_put_on p shown)
  where
    or_true : (b : Bool) → (b || true) ≡ true
    or_true true = refl
    or_true false = refl

    by : (b : Bool) → is_at_prefix source (cond b [] (last_of source)) ≡ true
    by true = refl
    by false = ap (λ b. is_root (last_of source) || b) (same_path-refl (last_of source)) ∙ or_true (is_root (last_of source))
