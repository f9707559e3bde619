use Rattle.std.proofs.Common.{Bool, List, ◌++◌, map, flat_map, refl, ap, ◌∙◌}
use Rattle.proto_base.proofs.Common.{map-append, all_listed, listed_turn}
use Rattle.proto_ast.specs.declared.fields.FieldAt.{FieldAt}
use Rattle.proto_ast.proofs.Common.{FieldOf, field_of}
use Rattle.proto_case.specs.Cases.{is_lower_snake}
use Rattle.proto_lint_rules.specs.declared.rule.Rule.TheVariants as rule
use Rattle.proto_names_rules.specs.Forest.{under}
use Rattle.proto_lint_names.proofs.Common.{Found, NamedToken, found_at, unless, unless_word, reading_of, word_in}
use Rattle.proto_lint_names.proofs.messages.add_each_field.Goals as goal

abbrev told : (NamedToken → Found) → (FieldOf → List NamedToken) → List FieldAt → List Found
told place part fields = map place (flat_map part (map field_of fields))

pub loop-field-preserved : goal.loop-field-preserved
loop-field-preserved c =
    let r = reading_of c.args.reading.now in
    let place = found_at r rule.FieldLowerSnakeCase in
    let part : FieldOf → List NamedToken = λ f. unless_word r is_lower_snake c.args.message.now f.name in
    let fields = c.args.fields.now in
    let name = c.field-item.result.name in
    let tells : Bool → List Found = λ passes. map place (unless passes name (under c.args.message.now (word_in r name))) in
    let added = c.in_ok-add_below_unless.ensures.added ∙ ap (λ (passes : Bool). c.loop-field.found ++ tells passes) (c.is_lower_snake-passes.ensures ∙ ap is_lower_snake c.text.ensures) in
    listed_turn (told place part) (λ f. map place (part (field_of f))) (λ f fs. map-append place (part (field_of f)) (flat_map part (map field_of fs))) fields c.loop-field.field-index c.field-item.result _
    c.loop-field.found c.add_below_unless.new.self (c.args.found.now ++ told place part fields)
    c.loop-field-test.true c.field-item.is added c.loop-field.invariant

pub returns : goal.returns
returns c =
    let r = reading_of c.args.reading.now in
    let place = found_at r rule.FieldLowerSnakeCase in
    let part : FieldOf → List NamedToken = λ f. unless_word r is_lower_snake c.args.message.now f.name in
    let fields = c.args.fields.now in
    all_listed (told place part) refl fields c.loop-field.field-index c.loop-field.found (c.args.found.now ++ told place part fields) c.loop-field-test.false c.loop-field.invariant
