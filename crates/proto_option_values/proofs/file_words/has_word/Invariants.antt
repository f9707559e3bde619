use Rattle.std.proofs.Common.{◌≡◌, map, drop, is_some}
use Rattle.proto_base.proofs.Common.{list_any}
use Rattle.proto_custom_options.specs.CustomOptions.{CustomOf, custom_words}
use Rattle.proto_custom_options.specs.Views.{custom_of}
use Rattle.proto_option_values.specs.Words.{asks, least_word}
use Rattle.proto_option_values.proofs.file_words.has_word.Given as goal

abbrev pub invariant-loop-option : goal.invariant-loop-option
invariant-loop-option l =
    let has = λ (c : CustomOf). is_some (least_word (asks l.asked l.words) (custom_words c.custom)) in
    list_any has (map custom_of (drop l.option-index l.options)) ≡ list_any has (map custom_of l.options)
