use Rattle.std.proofs.Common.{◌≡◌, ◌++◌, map, flat_map, drop}
use Rattle.proto_custom_options.specs.Views.{custom_of}
use Rattle.proto_text.specs.Texts.{word_at}
use Rattle.proto_option_files.specs.OptionFiles.{option_keys}
use Rattle.proto_option_files.proofs.option_keys.keys_of.Given as goal

abbrev pub invariant-loop-option : goal.invariant-loop-option
invariant-loop-option l = l.keys.items ++ flat_map (option_keys (word_at l.words)) (map custom_of (drop l.option-index l.options)) ≡ flat_map (option_keys (word_at l.words)) (map custom_of l.options)
