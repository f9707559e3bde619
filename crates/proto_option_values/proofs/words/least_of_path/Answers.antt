use Rattle.std.proofs.Common.{map, refl, ap, ◌∙◌, arith}
use Rattle.proto_option_values.specs.Words.{asks, if_passes, least_word, lesser}
use Rattle.proto_option_values.proofs.Turns.{all_least, least_turn}
use Rattle.proto_option_values.proofs.words.least_of_path.Goals as goal

pub loop-behind-preserved : goal.loop-behind-preserved
loop-behind-preserved c =
    let test = asks c.args.asked.now c.args.words.now in
    least_turn (λ bs. least_word test (map (λ b. b.item) bs)) (λ b. if_passes test b.item) (λ x xs. refl) c.args.path.now c.loop-behind.behind-index _ _ _ _ _ c.loop-behind-test.true refl
    (c.lesser-found.ensures ∙ ap (lesser c.loop-behind.found) c.least_of_one.ensures) c.loop-behind.invariant

pub returns : goal.returns
returns c =
    let test = asks c.args.asked.now c.args.words.now in
    all_least (λ bs. least_word test (map (λ b. b.item) bs)) refl c.args.path.now c.loop-behind.behind-index _ _ (omega arith) c.loop-behind.invariant
