use Rattle.std.proofs.Common.{◌≡◌, ◌≤◌, length, subst, sym, ap, arith}
use Rattle.dc_path.specs.Paths.{joined, Names}
use Rattle.dc_path.proofs.Joins.{joined_room}
use Rattle.dc_listing.proofs.walking.bytes_of.Goals as goal

pub overflow_add-bytes-in-loop-name : goal.overflow_add-bytes-in-loop-name
overflow_add-bytes-in-loop-name c =
    let names = c.names-name-items.result.now in
    let room = joined_room names c.loop-name.name-index c.name-item.result c.loop-name-test.true c.name-item.is in
    let here : names ≡ c.args.path.now = c.names-name-items.ensures in
    let short = subst (λ (p : Names). length (joined p) ≤ 4096) (sym here) c.len-count.ensures.path.short in
    omega (arith, room, c.loop-name.invariant, short, ap length c.as_str.ensures.value)
