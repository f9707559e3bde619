use Rattle.std.proofs.Common.{◌≡◌, map, drop}
use Rattle.proto_custom_options.specs.CustomOptions.{CustomOf}
use Rattle.proto_custom_options.specs.Views.{custom_of}
use Rattle.proto_option_values.specs.Extensions.{is_leading}
use Rattle.proto_option_values.specs.FileWords.{option_word}
use Rattle.proto_option_values.specs.Words.{asks, least, lesser}
use Rattle.proto_option_values.proofs.file_words.word_of_options.Given as goal

abbrev pub invariant-loop-option : goal.invariant-loop-option
invariant-loop-option l =
    let token = λ (c : CustomOf). option_word (is_leading l.search.link.now l.search.leading.now l.file) (asks l.search.asked.now l.words) c.custom in
    lesser l.found (least token (map custom_of (drop l.option-index l.options))) ≡ least token (map custom_of l.options)
