-- Each field spells the value at its place.
use Rattle.std.proofs.Common.{◌≤◌, ◌<◌, ◌^◌, ℕ, ap₂, arith}
use Rattle.std.proofs.lemmas.Result.{err_from_is_err_and}
use Rattle.dc_path.specs.Paths.{Names}
use Rattle.dc_attrs.specs.Attributes.{Attributes}
use Rattle.dc_attrs.specs.Lines.{fields_of}
use Rattle.dc_attrs.proofs.LimitLemmas.{most_replication}
use Rattle.dc_attrs.proofs.Fields.{field_at, small_block_size, small_mode, made_ok, made_bad}
use Rattle.dc_attrs.proofs.lines.read_fields.Goals as goal

large : (n : ℕ) → n < 2 ^ 64 → n ≤ 18446744073709551615
large n h = omega arith

pub returns-in_err-replication : goal.returns-in_err-replication
returns-in_err-replication c =
    let p = err_from_is_err_and c.from_residual.result c.from_residual.ensures.1 in
    rw (p.1, p.2) (λ ne y h. c.in_err-replication.ensures.back ne y.1.replication (most_replication y.1 h.0.within, (field_at c.args.fields.now (fields_of y.0 y.1) 2 _ h.1 (omega arith))))

pub returns-in_err-block_size : goal.returns-in_err-block_size
returns-in_err-block_size c =
    let p = err_from_is_err_and c.from_residual-in_err-block_size.result c.from_residual-in_err-block_size.ensures.1 in
    rw (p.1, p.2) (λ ne y h. c.in_err-block_size.ensures.back ne y.1.block_size (large y.1.block_size (small_block_size y.0 y.1 h.0), (field_at c.args.fields.now (fields_of y.0 y.1) 3 _ h.1 (omega arith))))

pub returns-in_err-mode : goal.returns-in_err-mode
returns-in_err-mode c =
    let p = err_from_is_err_and c.from_residual-in_err-mode.result c.from_residual-in_err-mode.ensures.1 in
    rw (p.1, p.2) (λ ne y h. c.in_err-mode.ensures ne y.1.mode (small_mode y.0 y.1 h.0, (field_at c.args.fields.now (fields_of y.0 y.1) 6 _ h.1 (omega arith))))

pub returns-in_err-mtime : goal.returns-in_err-mtime
returns-in_err-mtime c =
    let p = err_from_is_err_and c.from_residual-in_err-mtime.result c.from_residual-in_err-mtime.ensures.1 in
    rw (p.1, p.2) (λ ne y h. c.in_err-mtime.ensures.back ne y.1.mtime (large y.1.mtime h.0.in_range, (field_at c.args.fields.now (fields_of y.0 y.1) 9 _ h.1 (omega arith))))

pub returns-in_err-path : goal.returns-in_err-path
returns-in_err-path c =
    let p = err_from_is_err_and c.from_residual-in_err-path.result c.from_residual-in_err-path.ensures.1 in
    rw (p.1, p.2) (λ ne y h. c.in_err-path.ensures ne y.0 (h.0.is_path, (field_at c.args.fields.now (fields_of y.0 y.1) 1 _ h.1 (omega arith))))

pub returns-in_err-user : goal.returns-in_err-user
returns-in_err-user c =
    let p = err_from_is_err_and c.from_residual-in_err-user.result c.from_residual-in_err-user.ensures.1 in
    rw (p.1, p.2) (λ ne y h. c.in_err-user.ensures ne y.1.user (field_at c.args.fields.now (fields_of y.0 y.1) 4 _ h.1 (omega arith)))

pub returns-in_err-group : goal.returns-in_err-group
returns-in_err-group c =
    let p = err_from_is_err_and c.from_residual-in_err-group.result c.from_residual-in_err-group.ensures.1 in
    rw (p.1, p.2) (λ ne y h. c.in_err-group.ensures ne y.1.group (field_at c.args.fields.now (fields_of y.0 y.1) 5 _ h.1 (omega arith)))

pub returns-in_err-acl : goal.returns-in_err-acl
returns-in_err-acl c =
    let p = err_from_is_err_and c.from_residual-in_err-acl.result c.from_residual-in_err-acl.ensures.1 in
    rw (p.1, p.2) (λ ne y h. c.in_err-acl.ensures ne y.1.acl (field_at c.args.fields.now (fields_of y.0 y.1) 7 _ h.1 (omega arith)))

pub returns-in_err-xattrs : goal.returns-in_err-xattrs
returns-in_err-xattrs c =
    let p = err_from_is_err_and c.from_residual-in_err-xattrs.result c.from_residual-in_err-xattrs.ensures.1 in
    rw (p.1, p.2) (λ ne y h. c.in_err-xattrs.ensures ne y.1.xattrs (field_at c.args.fields.now (fields_of y.0 y.1) 8 _ h.1 (omega arith)))

pub returns-in-Ok : goal.returns-in-Ok
returns-in-Ok c = λ y h.
    ap₂ (λ (p : Names) (a : Attributes). (p, a)) (c.in_ok-path.ensures y.0 (h.0.is_path, (field_at c.args.fields.now (fields_of y.0 y.1) 1 _ h.1 (omega arith))))
    (made_ok (record { replication = c.in_ok-replication.replication; block_size = c.in_ok-block_size.block_size; user = c.in_ok-user.user; group = c.in_ok-group.group; mode = c.in_ok-mode.mode; acl = c.in_ok-acl.acl; xattrs = c.in_ok-xattrs.xattrs; mtime = c.in_ok-mtime.mtime }) y.1 h.0.within
    (c.in_ok-replication.ensures.back y.1.replication (most_replication y.1 h.0.within, (field_at c.args.fields.now (fields_of y.0 y.1) 2 _ h.1 (omega arith))))
    (c.in_ok-block_size.ensures.back y.1.block_size (large y.1.block_size (small_block_size y.0 y.1 h.0), (field_at c.args.fields.now (fields_of y.0 y.1) 3 _ h.1 (omega arith))))
    (c.in_ok-user.ensures y.1.user (field_at c.args.fields.now (fields_of y.0 y.1) 4 _ h.1 (omega arith)))
    (c.in_ok-group.ensures y.1.group (field_at c.args.fields.now (fields_of y.0 y.1) 5 _ h.1 (omega arith)))
    (c.in_ok-mode.ensures y.1.mode (small_mode y.0 y.1 h.0, (field_at c.args.fields.now (fields_of y.0 y.1) 6 _ h.1 (omega arith))))
    (c.in_ok-acl.ensures y.1.acl (field_at c.args.fields.now (fields_of y.0 y.1) 7 _ h.1 (omega arith)))
    (c.in_ok-xattrs.ensures y.1.xattrs (field_at c.args.fields.now (fields_of y.0 y.1) 8 _ h.1 (omega arith)))
    (c.in_ok-mtime.ensures.back y.1.mtime (large y.1.mtime h.0.in_range, (field_at c.args.fields.now (fields_of y.0 y.1) 9 _ h.1 (omega arith))))
    c.in-Ok.attrs c.in-Ok.ensures)

pub returns-in-Err : goal.returns-in-Err
returns-in-Err c = λ _ y h.
    made_bad (record { replication = c.in_ok-replication.replication; block_size = c.in_ok-block_size.block_size; user = c.in_ok-user.user; group = c.in_ok-group.group; mode = c.in_ok-mode.mode; acl = c.in_ok-acl.acl; xattrs = c.in_ok-xattrs.xattrs; mtime = c.in_ok-mtime.mtime }) y.1 h.0.within
    (c.in_ok-replication.ensures.back y.1.replication (most_replication y.1 h.0.within, (field_at c.args.fields.now (fields_of y.0 y.1) 2 _ h.1 (omega arith))))
    (c.in_ok-block_size.ensures.back y.1.block_size (large y.1.block_size (small_block_size y.0 y.1 h.0), (field_at c.args.fields.now (fields_of y.0 y.1) 3 _ h.1 (omega arith))))
    (c.in_ok-user.ensures y.1.user (field_at c.args.fields.now (fields_of y.0 y.1) 4 _ h.1 (omega arith)))
    (c.in_ok-group.ensures y.1.group (field_at c.args.fields.now (fields_of y.0 y.1) 5 _ h.1 (omega arith)))
    (c.in_ok-mode.ensures y.1.mode (small_mode y.0 y.1 h.0, (field_at c.args.fields.now (fields_of y.0 y.1) 6 _ h.1 (omega arith))))
    (c.in_ok-acl.ensures y.1.acl (field_at c.args.fields.now (fields_of y.0 y.1) 7 _ h.1 (omega arith)))
    (c.in_ok-xattrs.ensures y.1.xattrs (field_at c.args.fields.now (fields_of y.0 y.1) 8 _ h.1 (omega arith)))
    (c.in_ok-mtime.ensures.back y.1.mtime (large y.1.mtime h.0.in_range, (field_at c.args.fields.now (fields_of y.0 y.1) 9 _ h.1 (omega arith))))
    c.in-Err.field-0 c.in-Err.ensures
