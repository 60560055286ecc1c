-- The first prefix that the map has is the longest that is carried.
use Rattle.std.proofs.Common.{◌≡◌, None, Some, sym, ◌∙◌, ap}
use Rattle.std.specs.Map.{lookup}
use Rattle.std.specs.Ordering.{is_eq}
use Rattle.dc_path.specs.Paths.{path_cmp}
use Rattle.dc_report.specs.Carrying.{carrier}
use Rattle.dc_report.specs.Carries.{carries_in, hit_of}
use Rattle.dc_report.proofs.Carriers.{found_hit, hit_left, map_ascends, missed}
use Rattle.dc_report.proofs.carries.carrier.Goals as goal

pub loop-rest-init : goal.loop-rest-init
loop-rest-init c = record {
  left = ap (λ q. hit_of (carrier (carries_in c.args.carries.now.entries) q)) (sym c.in_ok-copy.ensures);
  ascends = map_ascends c.args.carries.now.entries c.len.ensures.ordered;
}

pub returns-in-Some-get : goal.returns-in-Some-get
returns-in-Some-get c =
    let es = c.args.carries.now.entries in
    let there : lookup (λ q. is_eq (path_cmp c.in-Some.front q)) es ≡ Some c.in-Some-get.new.now = sym c.in-Some-get.ensures.value in
    sym (c.loop-rest.invariant.left ∙ ap (hit_left es) c.in-Some.is ∙ found_hit es c.in-Some.front c.in-Some-get.new.now c.loop-rest.invariant.ascends there)

pub loop-rest-preserved : goal.loop-rest-preserved
loop-rest-preserved c =
    let es = c.args.carries.now.entries in
    let not_there : lookup (λ q. is_eq (path_cmp c.in-Some.front q)) es ≡ None = sym c.in_default-get.ensures.value in
    record {
      left = c.loop-rest.invariant.left ∙ ap (hit_left es) c.in-Some.is ∙ missed es c.in-Some.front not_there ∙ ap (hit_left es) (sym c.in_ok-rest.ensures);
      ascends = c.loop-rest.invariant.ascends;
    }
