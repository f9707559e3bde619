use Rattle.std.proofs.Common.{[], ◌∷◌, None, refl, arith}
use Rattle.proto_tree.specs.File.{trees, extension_tree}
use Rattle.proto_base.proofs.Turns.{all_listed, listed_turn}
use Rattle.proto_ast.specs.Parts.{fields_in, plain_field}
use Rattle.proto_ast.proofs.fields.extension_fields.Goals as goal

pub loop-extension-preserved : goal.loop-extension-preserved
loop-extension-preserved c = listed_turn (λ xs. fields_in (trees extension_tree xs)) (λ x. plain_field None x.field ∷ []) (λ x xs. refl) c.args.extensions.now c.loop-extension.extension-index c.extension-item.result c.extension-item.result _ _ _ c.loop-extension-test.true c.extension-item.is
    c.in_ok-push_field.ensures c.loop-extension.invariant

pub returns : goal.returns
returns c = all_listed (λ xs. fields_in (trees extension_tree xs)) refl c.args.extensions.now c.loop-extension.extension-index _ _ (omega arith) c.loop-extension.invariant
