use Rattle.std.proofs.Common.{◌∷◌, ◌++◌, List, ℕ, map, refl, string_bytes, sym, ap, ◌∙◌, flat_map}
use Rattle.proto_base.proofs.Turns.{all_listed, given_turn}
use Rattle.proto_names_outline.proofs.JoinedWords.{joined_words, word_behind}
use Rattle.proto_ast.specs.Scenes.{text}
use Rattle.proto_desc.proofs.head.joined_words.Goals as goal

pub loop-word-init : goal.loop-word-init
loop-word-init c =
    let words = map (text c.args.scene.now) c.args.rest.now in
    ap (λ (name : List ℕ). name ++ flat_map (λ w. 46 ∷ w) words) (c.in_ok-name.ensures.ok ∙ c.text.ensures) ∙ sym (joined_words (text c.args.scene.now c.args.first) words)

pub loop-word-preserved : goal.loop-word-preserved
loop-word-preserved c =
    given_turn (λ w. 46 ∷ w) (text c.args.scene.now) c.args.rest.now c.loop-word.word-index _ _ (string_bytes c.loop-word.name) _ _ c.loop-word-test.true refl
    (word_behind _ _ _ _ c.in_ok-push.ensures.bytes (c.in_ok-push_str.ensures.bytes ∙ ap (λ (word : List ℕ). string_bytes c.push.new.self ++ word) c.text-in-loop-word.ensures)) c.loop-word.invariant

pub returns : goal.returns
returns c = all_listed (λ ts. flat_map (λ w. 46 ∷ w) (map (text c.args.scene.now) ts)) refl c.args.rest.now c.loop-word.word-index _ _ c.loop-word-test.false c.loop-word.invariant
