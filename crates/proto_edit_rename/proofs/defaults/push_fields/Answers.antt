use Rattle.std.proofs.Common.{map, flat_map, refl, arith}
use Rattle.proto_ast.proofs.Common.{text, field_of}
use Rattle.proto_edit_rename.specs.Defaults.{asked_defaults}
use Rattle.proto_base.proofs.Turns.{all_listed, given_turn}
use Rattle.proto_edit_rename.proofs.defaults.push_fields.Goals as goal

pub loop-field-preserved : goal.loop-field-preserved
loop-field-preserved c = given_turn (asked_defaults (text c.args.scene.now) c.args.asked.now) field_of c.args.fields.now c.loop-field.field-index c.field-item.result _ _ _ _ c.loop-field-test.true c.field-item.is c.in_ok-push_field.ensures c.loop-field.invariant

pub returns : goal.returns
returns c = all_listed (λ fs. flat_map (asked_defaults (text c.args.scene.now) c.args.asked.now) (map field_of fs)) refl c.args.fields.now c.loop-field.field-index _ _ (omega arith) c.loop-field.invariant
