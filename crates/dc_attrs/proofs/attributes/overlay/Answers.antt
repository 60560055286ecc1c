-- Each field comes from attributes that keep the limits.
use Rattle.std.proofs.Common.{◌∙◌}
use Rattle.dc_attrs.specs.contracts.attributes.Attrs.{the_view}
use Rattle.dc_attrs.proofs.LimitLemmas.{mixed-within}
use Rattle.dc_attrs.proofs.attributes.overlay.Goals as goal

pub invariant_of-result : goal.invariant_of-result
invariant_of-result c =
    mixed-within (the_view c.behind-keep-5.inside) (the_view c.behind-keep-6.inside) (the_view c.behind-keep.inside) (the_view c.behind-keep-2.inside) (the_view c.behind-keep-7.inside) (the_view c.behind-keep-3.inside) (the_view c.behind-keep-4.inside)
    c.in_ok-user.user c.in_ok-group.group c.in_ok-acl.acl c.in_ok-xattrs.xattrs c.behind-keep-8.inside.mtime
    c.behind-keep-5.invariant c.behind-keep-6.invariant c.behind-keep.invariant c.behind-keep-2.invariant c.behind-keep-7.invariant c.behind-keep-3.invariant c.behind-keep-4.invariant
    (c.in_ok-user.ensures ∙ c.as_str.ensures) (c.in_ok-group.ensures ∙ c.as_str-2.ensures) (c.in_ok-acl.ensures ∙ c.as_str-3.ensures) (c.in_ok-xattrs.ensures ∙ c.as_slice.ensures)
