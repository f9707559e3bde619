use Rattle.std.proofs.Common.{flat_map, refl, arith}
use Rattle.proto_base.proofs.Turns.{all_listed, listed_turn}
use Rattle.proto_custom_options.specs.CustomOptions.{atom_words}
use Rattle.proto_custom_options.proofs.option_words.push_atoms.Goals as goal

pub loop-atom-preserved : goal.loop-atom-preserved
loop-atom-preserved c = listed_turn (flat_map atom_words) atom_words (λ x xs. refl) c.args.atoms.now c.loop-atom.atom-index _ _ _ _ _ c.loop-atom-test.true refl c.in_ok-push_atom.ensures c.loop-atom.invariant

pub returns : goal.returns
returns c = all_listed (flat_map atom_words) refl c.args.atoms.now c.loop-atom.atom-index _ _ (omega arith) c.loop-atom.invariant
