use Rattle.std.proofs.Common.{map, flat_map, refl, arith}
use Rattle.proto_base.proofs.Turns.{all_listed, given_turn}
use Rattle.proto_custom_options.specs.Views.{custom_of}
use Rattle.proto_text.specs.Texts.{word_at}
use Rattle.proto_option_files.specs.OptionFiles.{option_keys}
use Rattle.proto_option_files.proofs.option_keys.keys_of.Goals as goal

pub loop-option-preserved : goal.loop-option-preserved
loop-option-preserved c =
    given_turn (option_keys (word_at c.args.words.now)) custom_of c.args.options.now c.loop-option.option-index _ _ _ _ _ c.loop-option-test.true c.option-item.is c.in_ok-push_option.ensures c.loop-option.invariant

pub returns : goal.returns
returns c = all_listed (λ os. flat_map (option_keys (word_at c.args.words.now)) (map custom_of os)) refl c.args.options.now c.loop-option.option-index _ _ (omega arith) c.loop-option.invariant
