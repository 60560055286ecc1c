-- Attributes within the limits: each limit as a fact, and attributes whose fields come from such attributes.
use Rattle.std.proofs.Common.{◌≡◌, ◌≤◌, ℕ, List, Bool, true, false, cond, not, Option, Some, None, length, nat_lt, refl, sym, ap, subst, ◌∙◌}
use Rattle.dc_attrs.specs.Attributes.{Attributes}
use Rattle.dc_attrs.specs.Limits.{bad_field, are_xattrs}
use Rattle.dc_attrs.specs.declared.attributes.Xattr.{Xattr}
use Rattle.dc_attrs.specs.declared.attributes.Field.{Field}
use Rattle.dc_attrs.specs.declared.attributes.Field.TheVariants as field
use Rattle.std.proofs.lemmas.Bool.{ltb-false, not-false}

-- the first of some tests that is true names the field
tests : Bool → Bool → Bool → Bool → Bool → Bool → Bool → Option Field
tests r b u g m a x =
    cond r (Some field.Replication) (cond b (Some field.BlockSize) (cond u (Some field.User) (cond g (Some field.Group) (cond m (Some field.Mode) (cond a (Some field.Acl) (cond x (Some field.Xattrs) None))))))

record AllFalse (r b u g m a x : Bool) : Type 0 where
  replication : r ≡ false
  block_size : b ≡ false
  user : u ≡ false
  group : g ≡ false
  mode : m ≡ false
  acl : a ≡ false
  xattrs : x ≡ false

all_false : (r b u g m a x : Bool) → tests r b u g m a x ≡ None → AllFalse r b u g m a x
unfolding tests
all_false true b u g m a x h = absurd (cc)
all_false false true u g m a x h = absurd (cc)
all_false false false true g m a x h = absurd (cc)
all_false false false false true m a x h = absurd (cc)
all_false false false false false true a x h = absurd (cc)
all_false false false false false false true x h = absurd (cc)
all_false false false false false false false true h = absurd (cc)
all_false false false false false false false false h = record { replication = refl; block_size = refl; user = refl; group = refl; mode = refl; acl = refl; xattrs = refl }

as_tests : (a : Attributes) → bad_field a ≡ tests (nat_lt 32767 a.replication) (nat_lt 1099511627776 a.block_size) (nat_lt 255 (length a.user)) (nat_lt 255 (length a.group)) (nat_lt 1023 a.mode) (nat_lt 4096 (length a.acl)) (not (are_xattrs a.xattrs))
unfolding bad_field tests
as_tests a = refl

within : (a : Attributes) → bad_field a ≡ None → AllFalse (nat_lt 32767 a.replication) (nat_lt 1099511627776 a.block_size) (nat_lt 255 (length a.user)) (nat_lt 255 (length a.group)) (nat_lt 1023 a.mode) (nat_lt 4096 (length a.acl)) (not (are_xattrs a.xattrs))
within a h = all_false _ _ _ _ _ _ _ (sym (as_tests a) ∙ h)

-- each limit, as a fact
pub most_replication : (a : Attributes) → bad_field a ≡ None → a.replication ≤ 32767
most_replication a h = ltb-false 32767 a.replication (within a h).replication

pub most_block_size : (a : Attributes) → bad_field a ≡ None → a.block_size ≤ 1099511627776
most_block_size a h = ltb-false 1099511627776 a.block_size (within a h).block_size

pub most_user : (a : Attributes) (text : List ℕ) → bad_field a ≡ None → text ≡ a.user → length text ≤ 255
most_user a text h e = subst (λ (t : List ℕ). length t ≤ 255) (sym e) (ltb-false 255 (length a.user) (within a h).user)

pub most_group : (a : Attributes) (text : List ℕ) → bad_field a ≡ None → text ≡ a.group → length text ≤ 255
most_group a text h e = subst (λ (t : List ℕ). length t ≤ 255) (sym e) (ltb-false 255 (length a.group) (within a h).group)

pub most_mode : (a : Attributes) → bad_field a ≡ None → a.mode ≤ 1023
most_mode a h = ltb-false 1023 a.mode (within a h).mode

pub most_acl : (a : Attributes) (text : List ℕ) → bad_field a ≡ None → text ≡ a.acl → length text ≤ 4096
most_acl a text h e = subst (λ (t : List ℕ). length t ≤ 4096) (sym e) (ltb-false 4096 (length a.acl) (within a h).acl)

pub xattrs_are : (a : Attributes) (xattrs : List Xattr) → bad_field a ≡ None → xattrs ≡ a.xattrs → are_xattrs xattrs ≡ true
xattrs_are a xattrs h e = ap are_xattrs e ∙ not-false (are_xattrs a.xattrs) (within a h).xattrs

none_of : (r b u g m a x : Bool) → AllFalse r b u g m a x → tests r b u g m a x ≡ None
unfolding tests
none_of true b u g m a x h = absurd (let k : true ≡ false = h.replication in cc)
none_of false true u g m a x h = absurd (let k : true ≡ false = h.block_size in cc)
none_of false false true g m a x h = absurd (let k : true ≡ false = h.user in cc)
none_of false false false true m a x h = absurd (let k : true ≡ false = h.group in cc)
none_of false false false false true a x h = absurd (let k : true ≡ false = h.mode in cc)
none_of false false false false false true x h = absurd (let k : true ≡ false = h.acl in cc)
none_of false false false false false false true h = absurd (let k : true ≡ false = h.xattrs in cc)
none_of false false false false false false false h = refl

-- each field within its limit, from whatever attributes it comes
pub mixed-within : (r b u g m a x : Attributes) (user group acl : List ℕ) (xattrs : List Xattr) (time : ℕ) → bad_field r ≡ None → bad_field b ≡ None → bad_field u ≡ None → bad_field g ≡ None → bad_field m ≡ None → bad_field a ≡ None → bad_field x ≡ None
    → user ≡ u.user → group ≡ g.group → acl ≡ a.acl → xattrs ≡ x.xattrs
    → bad_field (record { replication = r.replication; block_size = b.block_size; user = user; group = group; mode = m.mode; acl = acl; xattrs = xattrs; mtime = time }) ≡ None
mixed-within r b u g m a x user group acl xattrs time hr hb hu hg hm ha hx eu eg ea ex =
    as_tests (record { replication = r.replication; block_size = b.block_size; user = user; group = group; mode = m.mode; acl = acl; xattrs = xattrs; mtime = time })
    ∙ none_of _ _ _ _ _ _ _ (record { replication = (within r hr).replication; block_size = (within b hb).block_size; user = ap (λ t. nat_lt 255 (length t)) eu ∙ (within u hu).user; group = ap (λ t. nat_lt 255 (length t)) eg ∙ (within g hg).group; mode = (within m hm).mode; acl = ap (λ t. nat_lt 4096 (length t)) ea ∙ (within a ha).acl; xattrs = ap (λ t. not (are_xattrs t)) ex ∙ (within x hx).xattrs })
