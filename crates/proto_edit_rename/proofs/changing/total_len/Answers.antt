use Rattle.std.proofs.Common.{arith}
use Rattle.proto_base.specs.Texts.{text_limit}
use Rattle.proto_text.specs.declared.kind.TokenKind.TheVariants as kind
use Rattle.proto_text.specs.declared.lexer.Token.{Token}
use Rattle.proto_edit_rename.proofs.TokensInOrder.{bytes_fit, bytes_step, one_ordered}
use Rattle.proto_edit_rename.proofs.changing.total_len.Goals as goal

abbrev none : Token
none = record { kind = kind.Word; span = record { start = 0; end = 0 } }

pub overflow_sub-total : goal.overflow_sub-total
overflow_sub-total c = let o = one_ordered 0 text_limit c.loop-token.token-index c.args.tokens.now none c.loop-token-test.true c.requires in omega (arith, o)

pub overflow_add-total : goal.overflow_add-total
overflow_add-total c =
    let step = bytes_step c.args.tokens.now c.loop-token.token-index none c.loop-token-test.true in
    let all = bytes_fit 0 text_limit c.args.tokens.now c.requires in
    let so_far = c.loop-token.invariant in
    omega (arith, step, all, so_far)
