use Rattle.std.proofs.Common.{◌≡◌, ◌++◌, flat_map, drop}
use Rattle.proto_custom_options.specs.CustomOptions.{atom_words}
use Rattle.proto_custom_options.proofs.option_words.push_atoms.Given as goal

abbrev pub invariant-loop-atom : goal.invariant-loop-atom
invariant-loop-atom l = l.found.items ++ flat_map atom_words (drop l.atom-index l.atoms) ≡ l.fn.found.items ++ flat_map atom_words l.atoms
