use Rattle.std.proofs.Common.{List, ◌++◌, map, take, subst, sym, arith, append-nil, take_all}
use Rattle.proto_ast.specs.Views.{field_of}
use Rattle.proto_ast.specs.declared.fields.FieldAt.{FieldAt}
use Rattle.proto_desc_extensions.specs.Common.{AreExtendedRows, Extending, extending}
use Rattle.proto_desc_extensions.proofs.ExtendedRows.{fields_turn}
use Rattle.proto_desc_extensions.proofs.extended_table.add_rows.Goals as goal

pub loop-field-init : goal.loop-field-init
loop-field-init c = λ es h. subst (λ (xs : List Extending). AreExtendedRows xs c.args.rows.now) (sym (append-nil es)) h

pub loop-field-preserved : goal.loop-field-preserved
loop-field-preserved c = λ es h.
    (let text = c.args.extended.name.now in
    let all = c.args.fields.now in
    let i = c.loop-field.field-index in
    subst (λ (xs : List Extending). AreExtendedRows xs c.add_row.new.rows) (fields_turn text all i c.field-item.result c.loop-field-test.true c.field-item.is es)
    (c.in_ok-add_row.ensures (es ++ map (extending text) (map field_of (take i all))) (c.loop-field.invariant es h)))

pub returns : goal.returns
returns c = λ es h.
    (let all = c.args.fields.now in
    let whole = take_all c.loop-field.field-index all (omega (arith, c.loop-field-test.false)) in
    subst (λ (fs : List FieldAt). AreExtendedRows (es ++ map (extending c.args.extended.name.now) (map field_of fs)) c.loop-field.rows) whole (c.loop-field.invariant es h))
