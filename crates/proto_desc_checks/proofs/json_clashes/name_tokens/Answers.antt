use Rattle.proto_ast.specs.Views.{field_of}
use Rattle.proto_base.proofs.Turns.{listed_more, listed_all}
use Rattle.proto_desc_checks.proofs.json_clashes.name_tokens.Goals as goal

pub loop-field-preserved : goal.loop-field-preserved
loop-field-preserved c = listed_more (λ f. f.name) field_of c.args.fields.now c.loop-field.field-index c.field-item.result c.field-item.result c.loop-field.tokens.items _ c.loop-field-test.true c.field-item.is c.in_ok-push.ensures.items c.loop-field.invariant

pub returns : goal.returns
returns c = listed_all (λ f. f.name) field_of c.args.fields.now c.loop-field.field-index c.loop-field.tokens.items c.loop-field-test.false c.loop-field.invariant
