use Rattle.std.proofs.Common.{ℕ, [], ◌∷◌, ◌++◌, map, refl, ap, ◌∙◌, arith}
use Rattle.proto_base.proofs.Turns.{all_listed, listed_turn}
use Rattle.proto_base.specs.Words.{word_key}
use Rattle.proto_text.specs.Texts.{word_at}
use Rattle.proto_option_files.proofs.option_keys.push_keys.Goals as goal

pub loop-token-preserved : goal.loop-token-preserved
loop-token-preserved c =
    let key : ℕ → ℕ = λ t. word_key (word_at c.args.words.now t) in
    listed_turn (map key) (λ t. key t ∷ []) (λ x xs. refl) c.args.tokens.now c.loop-token.token-index _ _ _ _ _ c.loop-token-test.true refl
    (c.in_ok-push.ensures.items ∙ ap (λ k. c.loop-token.keys.items ++ k ∷ []) (c.word_key.ensures ∙ ap word_key c.get.ensures)) c.loop-token.invariant

pub returns : goal.returns
returns c = all_listed (map (λ t. word_key (word_at c.args.words.now t))) refl c.args.tokens.now c.loop-token.token-index _ _ (omega arith) c.loop-token.invariant
