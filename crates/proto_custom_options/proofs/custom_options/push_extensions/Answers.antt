use Rattle.std.proofs.Common.{[], codes, refl, arith}
use Rattle.proto_base.proofs.Turns.{listed_turn}
use Rattle.proto_tree.specs.File.{extension_tree, trees}
use Rattle.proto_custom_options.specs.CustomOptions.{customs_below, settings_customs}
use Rattle.proto_custom_options.proofs.CustomLists.{all_customs}
use Rattle.proto_custom_options.proofs.custom_options.push_extensions.Goals as goal

pub loop-extension-preserved : goal.loop-extension-preserved
loop-extension-preserved c = listed_turn (λ xs. customs_below [] (trees extension_tree xs)) (λ x. settings_customs (codes "FieldOptions") x.field.settings) (λ x xs. refl) c.args.extensions.now c.loop-extension.extension-index c.extension-item.result c.extension-item.result _ _ _ c.loop-extension-test.true c.extension-item.is
    c.in_ok-push_settings.ensures c.loop-extension.invariant

pub returns : goal.returns
returns c = all_customs [] extension_tree c.args.extensions.now c.loop-extension.extension-index _ _ (omega arith) c.loop-extension.invariant
