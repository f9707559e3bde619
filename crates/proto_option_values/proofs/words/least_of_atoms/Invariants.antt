use Rattle.std.proofs.Common.{◌≡◌, flat_map, drop}
use Rattle.proto_custom_options.specs.CustomOptions.{atom_words}
use Rattle.proto_option_values.specs.Words.{asks, least_word, lesser}
use Rattle.proto_option_values.proofs.words.least_of_atoms.Given as goal

abbrev pub invariant-loop-atom : goal.invariant-loop-atom
invariant-loop-atom l = lesser l.found (least_word (asks l.asked l.words) (flat_map atom_words (drop l.atom-index l.atoms))) ≡ least_word (asks l.asked l.words) (flat_map atom_words l.atoms)
