use Rattle.std.proofs.Common.{◌∷◌, ◌++◌, List, ℕ, map, refl, string_bytes, sym, ap, ◌∙◌, flat_map}
use Rattle.proto_base.proofs.Turns.{all_listed, given_turn}
use Rattle.proto_names_outline.proofs.JoinedWords.{joined_words, word_behind}
use Rattle.proto_lint.proofs.heads.joined_behind.Goals as goal

pub loop-word-init : goal.loop-word-init
loop-word-init c =
    ap (λ (name : List ℕ). name ++ flat_map (λ w. 46 ∷ w) (map (λ w. w.now) c.args.rest.now)) c.in_ok-name.ensures.ok
    ∙ sym (joined_words c.args.first.now (map (λ w. w.now) c.args.rest.now))

pub loop-word-preserved : goal.loop-word-preserved
loop-word-preserved c =
    given_turn (λ w. 46 ∷ w) (λ w. w.now) c.args.rest.now c.loop-word.word-index _ _ (string_bytes c.loop-word.name) _ _ c.loop-word-test.true refl
    (word_behind _ _ _ _ c.in_ok-push.ensures.bytes c.in_ok-push_str.ensures.bytes) c.loop-word.invariant

pub returns : goal.returns
returns c = all_listed (λ ws. flat_map (λ w. 46 ∷ w) (map (λ w. w.now) ws)) refl c.args.rest.now c.loop-word.word-index _ _ c.loop-word-test.false c.loop-word.invariant
