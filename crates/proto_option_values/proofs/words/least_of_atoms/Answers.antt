use Rattle.std.proofs.Common.{flat_map, refl, ap, ◌∙◌, arith}
use Rattle.proto_custom_options.specs.CustomOptions.{atom_words}
use Rattle.proto_option_values.specs.Words.{asks, if_passes, least_word, lesser}
use Rattle.proto_option_values.proofs.Turns.{all_least, least_joined, least_turn}
use Rattle.proto_option_values.proofs.words.least_of_atoms.Goals as goal

pub loop-atom-preserved : goal.loop-atom-preserved
loop-atom-preserved c =
    let test = asks c.args.asked.now c.args.words.now in
    least_turn (λ xs. least_word test (flat_map atom_words xs)) (λ x. least_word test (atom_words x)) (λ x xs. least_joined (if_passes test) (atom_words x) (flat_map atom_words xs)) c.args.atoms.now c.loop-atom.atom-index _ _ _ _ _ c.loop-atom-test.true refl
    (c.lesser-found.ensures ∙ ap (lesser c.loop-atom.found) c.least_of_atom.ensures) c.loop-atom.invariant

pub returns : goal.returns
returns c =
    let test = asks c.args.asked.now c.args.words.now in
    all_least (λ xs. least_word test (flat_map atom_words xs)) refl c.args.atoms.now c.loop-atom.atom-index _ _ (omega arith) c.loop-atom.invariant
