use Rattle.std.proofs.Common.{◌≡◌, ◌≤◌, List, min, ap, subst, ◌∙◌, arith}
use Rattle.std.proofs.lemmas.Result.{IfOk-weaker}
use Rattle.proto_text.specs.declared.kind.TokenKind.TheVariants.{Word}
use Rattle.proto_text.proofs.Common.{Edit, word_at}
use Rattle.proto_files.proofs.Common.{AreRead, ReadOf, read_at, file_at}
use Rattle.proto_ast.specs.Numbers.{past}
use Rattle.proto_edit_rules.specs.Statements.{splice}
use Rattle.proto_edit_rules.specs.DeleteField.{field_number_value, splice_of_deletion}
use Rattle.proto_edit_statements.specs.Common.{IsChangeOfDeletion, IsSpliced, last_replaced, text_by}
use Rattle.proto_edit_statements.proofs.FieldCases.{file_there}
use Rattle.proto_edit_statements.proofs.FieldThere.{deleted_is, field_at, in_order, is_field_at, is_named, min_past, number_told}
use Rattle.proto_edit_statements.proofs.TokenSpans.{spans_told}
use Rattle.proto_edit_statements.proofs.deleting.change_of_file.Goals as goal

pub overflow_cast-number : goal.overflow_cast-number
overflow_cast-number c =
    let files = c.args.files.now in
    let reads = c.are_read.ensures.0 in
    let are = c.are_read.ensures.1 in
    let name = c.args.name.now in
    let field = c.args.field in
    let place = c.args.place in
    let is = c.requires.field reads are in
    let found = c.requires.place reads are in
    let within = file_there files reads are name field is in
    let rest = (read_at reads field.file).tokens in
    let tokens = are.tokens field.file within in
    let f = field_at files reads are name field is place found in
    let lexemes = c.new-words.ensures.words rest tokens in
    let small = c.requires.small reads are f (is_field_at files reads are name field is place found) in
    let value = number_told files reads are name field is place found c.new-words.result lexemes c.get.result.now c.get.ensures in
    let number : c.number_of-number.result ≡ field_number_value files reads f = c.number_of-number.ensures ∙ ap (min past) value ∙ min_past (field_number_value files reads f) small in
    omega (arith, number, small)

pub text_of-requires-clause-within : goal.text_of-requires-clause-within
text_of-requires-clause-within c =
    let reads = c.are_read.ensures.0 in
    let are = c.are_read.ensures.1 in
    in_order c.args.files.now reads are c.args.name.now c.args.field (c.requires.field reads are) c.args.place (c.requires.place reads are)

pub span_of-span-requires-clause-within : goal.span_of-span-requires-clause-within
span_of-span-requires-clause-within c =
    let reads = c.are_read.ensures.0 in
    let are = c.are_read.ensures.1 in
    in_order c.args.files.now reads are c.args.name.now c.args.field (c.requires.field reads are) c.args.place (c.requires.place reads are)

pub splice_change-requires-clause-span : goal.splice_change-requires-clause-span
splice_change-requires-clause-span c =
    let files = c.args.files.now in
    let reads = c.are_read.ensures.0 in
    let are = c.are_read.ensures.1 in
    let name = c.args.name.now in
    let field = c.args.field in
    let place = c.args.place in
    let is = c.requires.field reads are in
    let within = file_there files reads are name field is in
    let order = in_order files reads are name field is place (c.requires.place reads are) in
    let rest = (read_at reads field.file).tokens in
    let told = c.span_of-span.ensures rest (are.tokens field.file within) in
    let low = order.0 in
    let high = order.1 in
    let le : place.first ≤ last_replaced place = omega (arith, low, high) in
    spans_told (file_at files field.file).bytes rest (are.tokens field.file within) place.first (last_replaced place) (record { kind = Word; span = record { start = 0; end = 0 } }) le (order.2 rest (are.tokens field.file within)) c.span_of-span.result told.0 told.1

pub returns : goal.returns
returns c =
    let files = c.args.files.now in
    let name = c.args.name.now in
    let field = c.args.field in
    let place = c.args.place in
    let bytes = (file_at files field.file).bytes in
    let e : Edit = splice bytes c.span_of-span.result.start c.span_of-span.result.end c.as_str-2.result.now in
    IfOk-weaker c.splice_change.result (IsSpliced (file_at files field.file) e) (λ o. (reads : List ReadOf) → AreRead files reads → IsChangeOfDeletion files reads name o)
    (λ o spliced reads are.
    (let is = c.requires.field reads are in
    let found = c.requires.place reads are in
    let within = file_there files reads are name field is in
    let rest = (read_at reads field.file).tokens in
    let tokens = are.tokens field.file within in
    let f = field_at files reads are name field is place found in
    let lexemes = c.new-words.ensures.words rest tokens in
    let small = c.requires.small reads are f (is_field_at files reads are name field is place found) in
    let value = number_told files reads are name field is place found c.new-words.result lexemes c.get.result.now c.get.ensures in
    let number : c.number_of-number.result ≡ field_number_value files reads f = c.number_of-number.ensures ∙ ap (min past) value ∙ min_past (field_number_value files reads f) small in
    let told = c.span_of-span.ensures rest tokens in
    let reserved = c.as_str.ensures.value ∙ c.in_ok-reservation.ensures in
    let text = c.as_str-2.ensures.value ∙ c.in_ok-text.ensures rest tokens ∙ ap (text_by bytes rest place) reserved in
    let word = c.get-2.ensures ∙ ap (λ z. word_at z field.token) lexemes in
    let same : e ≡ splice_of_deletion files reads f = deleted_is files reads are name field is place found c.span_of-span.result.start c.span_of-span.result.end c.as_str-2.result.now c.number_of-number.result c.get-2.result.now number word told.0 told.1 text in
    (f, is_named files reads are name field is place found, subst (λ (z : Edit). IsSpliced (file_at files field.file) z o) same spliced)))
    c.splice_change.ensures
