use Rattle.std.proofs.Common.{◌++◌, refl, ap, ◌∙◌, drop, arith, option_to_list}
use Rattle.proto_tree.specs.References.{dotted}
use Rattle.proto_names.specs.Linking.{name_text}
use Rattle.proto_edit_rename.specs.StandingTokens.{counted, standing_tokens}
use Rattle.proto_base.proofs.Turns.{all_listed, both_turn}
use Rattle.proto_edit_rename.proofs.standing.standing_words.Goals as goal

pub loop-place-preserved : goal.loop-place-preserved
loop-place-preserved c =
    let l = c.args.link.now in
    let name = c.args.name.now in
    let less = c.loop-place-test.true in
    let same = c.requires in
    both_turn (standing_tokens l name) (λ u m. option_to_list (counted name (dotted u.reference.now.words) (name_text l m.row))) (λ u us m ms. refl) c.args.uses.now c.args.meant.now c.loop-place.place
    c.index-uses-place.result _ _ _ c.loop-place.found.items _ _ less (omega (arith, less, same)) c.index-uses-place.is refl (c.in_ok-push_some.ensures ∙ ap (λ o. c.loop-place.found.items ++ option_to_list o) c.standing_word-token.ensures) c.loop-place.invariant

pub returns : goal.returns
returns c =
    let l = c.args.link.now in
    let name = c.args.name.now in
    all_listed (λ us. standing_tokens l name us (drop c.loop-place.place c.args.meant.now)) refl c.args.uses.now c.loop-place.place _ _ c.loop-place-test.false c.loop-place.invariant
