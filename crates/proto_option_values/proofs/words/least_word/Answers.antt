use Rattle.std.proofs.Common.{map, sym, ap, ◌∙◌}
use Rattle.proto_custom_options.specs.CustomOptions.{value_words}
use Rattle.proto_option_values.specs.Words.{asks, if_passes, least_word, lesser}
use Rattle.proto_option_values.proofs.Turns.{least_joined}
use Rattle.proto_option_values.proofs.words.least_word.Goals as goal

pub returns : goal.returns
returns c =
    let test = asks c.args.asked.now c.args.words.now in
    let path = map (λ b. b.item) c.args.custom.now.path in
    c.lesser.ensures
    ∙ ap (λ o. lesser o c.least_of_value-value.result) (c.least_of_path-path.ensures ∙ ap (λ bs. least_word test (map (λ b. b.item) bs)) c.as_slice.ensures)
    ∙ ap (lesser (least_word test path)) c.least_of_value-value.ensures
    ∙ sym (least_joined (if_passes test) path (value_words c.args.custom.now.value))
