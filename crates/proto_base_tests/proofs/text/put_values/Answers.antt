use Rattle.std.proofs.Common.{sym, subst}
use Rattle.proto_text.proofs.Common.{AreTokens, text_token_is_string}
use Rattle.proto_base_tests.proofs.text.put_values.Goals as goal

pub string_value-requires : goal.string_value-requires
string_value-requires g c =
    let lexed = subst (AreTokens c.args.source.now) (sym c.deref-token-items.ensures.value) c.in_ok-lex.ensures.tokens in
    rw c.text-word.ensures (text_token_is_string c.args.source.now c.deref-token-items.result.now c.loop-token.token-index _ lexed c.loop-token-test.true c.in-Text.is)
