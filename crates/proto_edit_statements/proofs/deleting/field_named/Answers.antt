use Rattle.std.proofs.Common.{sym, ap, ◌∙◌}
use Rattle.proto_edit_statements.specs.Fields.{is_field}
use Rattle.proto_edit_statements.proofs.FieldNamed.{free_2, has_file, has_token, refused_1, refused_2, target_at}
use Rattle.proto_edit_statements.proofs.deleting.field_named.Goals as goal

pub returns-in_default-clause-err : goal.returns-in_default-clause-err
returns-in_default-clause-err c = refused_1 c.args.linked.now.files c.link-link.ensures.clean.reads c.link-link.ensures.clean.read c.args.linked.now.link c.link-link.ensures.clean.link c.args.name.now (rw c.link-link.ensures.link at c.in_default.ensures.none)

pub returns-then-not-is_field-clause-err : goal.returns-then-not-is_field-clause-err
returns-then-not-is_field-clause-err c =
    refused_2 c.args.linked.now.files c.link-link.ensures.clean.reads c.link-link.ensures.clean.read c.args.linked.now.link c.link-link.ensures.clean.link c.args.name.now c.in-Some.id.row (rw c.link-link.ensures.link at c.in-Some.ensures.some)
    (ap is_field (sym (rw c.link-link.ensures.link at c.kind_of.ensures)) ∙ sym c.if-not-is_field.ensures)

pub unreachable-requires : goal.unreachable-requires
unreachable-requires c =
    has_file c.args.linked.now.files c.link-link.ensures.clean.reads c.link-link.ensures.clean.read c.args.linked.now.link c.link-link.ensures.clean.link c.args.name.now c.in-Some.id.row (rw c.link-link.ensures.link at c.in-Some.ensures.some)
    (ap is_field (sym (rw c.link-link.ensures.link at c.kind_of.ensures)) ∙ sym c.if-not-is_field.ensures) (sym (rw c.link-link.ensures.link at c.file_of.ensures.exact) ∙ c.in_default-file_of.is)

pub unreachable-requires-in_default-token_of : goal.unreachable-requires-in_default-token_of
unreachable-requires-in_default-token_of c =
    has_token c.args.linked.now.files c.link-link.ensures.clean.reads c.link-link.ensures.clean.read c.args.linked.now.link c.link-link.ensures.clean.link c.args.name.now c.in-Some.id.row (rw c.link-link.ensures.link at c.in-Some.ensures.some)
    (ap is_field (sym (rw c.link-link.ensures.link at c.kind_of.ensures)) ∙ sym c.if-not-is_field.ensures) (sym (rw c.link-link.ensures.link at c.token_of.ensures) ∙ c.in_default-token_of.is)

pub returns-clause-field : goal.returns-clause-field
returns-clause-field c = λ reads are.
    target_at c.args.linked.now.files reads are c.args.linked.now.link c.link-link.ensures.clean.link c.args.name.now c.in-Some.id.row (rw c.link-link.ensures.link at c.in-Some.ensures.some)
    (ap is_field (sym (rw c.link-link.ensures.link at c.kind_of.ensures)) ∙ sym c.if-not-is_field.ensures) c.link-link.ensures.clean.clean c.in-Some-file_of.file c.in-Some-token_of.token
    (sym (rw c.link-link.ensures.link at c.file_of.ensures.exact) ∙ c.in-Some-file_of.is) (sym (rw c.link-link.ensures.link at c.token_of.ensures) ∙ c.in-Some-token_of.is)

pub returns-clause-free : goal.returns-clause-free
returns-clause-free c =
    free_2 c.args.linked.now.files c.link-link.ensures.clean.reads c.link-link.ensures.clean.read c.args.linked.now.link c.link-link.ensures.clean.link c.args.name.now c.in-Some.id.row (rw c.link-link.ensures.link at c.in-Some.ensures.some)
    (ap is_field (sym (rw c.link-link.ensures.link at c.kind_of.ensures)) ∙ sym c.if-not-is_field.ensures) c.link-link.ensures.clean.clean
