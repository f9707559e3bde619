use Rattle.std.proofs.Common.{◌≡◌, List, take}
use Rattle.std.specs.List.{AllZip}
use Rattle.std.specs.Prelude.{All}
use Rattle.proto_files.proofs.Common.{AreRead, ReadOf}
use Rattle.proto_session_replies.specs.Symbols.{IsSentSymbol}
use Rattle.proto_session_replies.proofs.symbols.sent_symbols.Given as goal

abbrev pub invariant-loop-symbol : goal.invariant-loop-symbol
invariant-loop-symbol l = (reads : List ReadOf) → AreRead l.files reads → All (λ s. s.location.file ≡ 0) l.all → AllZip (IsSentSymbol l.files reads) (take l.symbol-index l.all) l.sent.items
