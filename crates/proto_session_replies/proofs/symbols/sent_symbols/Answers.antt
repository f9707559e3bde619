use Rattle.std.proofs.Common.{arith}
use Rattle.proto_session_replies.specs.Symbols.{IsSentSymbol}
use Rattle.proto_session_replies.proofs.RepliedLists.{zipped_all, zipped_turn}
use Rattle.proto_session_replies.proofs.symbols.sent_symbols.Goals as goal

pub loop-symbol-preserved : goal.loop-symbol-preserved
loop-symbol-preserved c = λ reads are there.
    zipped_turn (IsSentSymbol c.args.files.now reads) c.args.all.now c.loop-symbol.sent.items c.push.new.self.items c.loop-symbol.symbol-index _ c.in_ok-sent_symbol.field-0 c.loop-symbol-test.true (c.loop-symbol.invariant reads are there) (c.in_ok-sent_symbol.ensures reads are (there c.loop-symbol.symbol-index _ c.loop-symbol-test.true)) c.in_ok-push.ensures.items

pub returns : goal.returns
returns c = λ reads are there.
    zipped_all (IsSentSymbol c.args.files.now reads) c.args.all.now c.loop-symbol.sent.items c.loop-symbol.symbol-index (omega (arith, c.loop-symbol-test.false)) (c.loop-symbol.invariant reads are there)
