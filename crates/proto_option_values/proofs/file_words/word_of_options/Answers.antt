use Rattle.std.proofs.Common.{map, refl, ap, ◌∙◌, arith}
use Rattle.proto_custom_options.specs.CustomOptions.{CustomOf}
use Rattle.proto_custom_options.specs.Views.{custom_of}
use Rattle.proto_option_values.specs.Extensions.{is_leading}
use Rattle.proto_option_values.specs.FileWords.{option_word}
use Rattle.proto_option_values.specs.Words.{asks, least, lesser}
use Rattle.proto_option_values.proofs.Turns.{all_least, least_turn}
use Rattle.proto_option_values.proofs.file_words.word_of_options.Goals as goal

pub loop-option-preserved : goal.loop-option-preserved
loop-option-preserved c =
    let s = c.args.search.now in
    let token = λ (o : CustomOf). option_word (is_leading s.link.now s.leading.now c.args.file) (asks s.asked.now c.args.words.now) o.custom in
    least_turn (λ os. least token (map custom_of os)) (λ o. token (custom_of o)) (λ x xs. refl) c.args.options.now c.loop-option.option-index _ _ _ _ _ c.loop-option-test.true c.option-item.is
    (c.lesser-found.ensures ∙ ap (lesser c.loop-option.found) c.word_of_option.ensures) c.loop-option.invariant

pub returns : goal.returns
returns c =
    let s = c.args.search.now in
    let token = λ (o : CustomOf). option_word (is_leading s.link.now s.leading.now c.args.file) (asks s.asked.now c.args.words.now) o.custom in
    all_least (λ os. least token (map custom_of os)) refl c.args.options.now c.loop-option.option-index _ _ (omega arith) c.loop-option.invariant
