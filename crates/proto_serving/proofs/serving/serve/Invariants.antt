use Rattle.std.proofs.Common.{◌≡◌, List, Some, length}
use Rattle.std.specs.Io.KnownBytes.{Appends}
use Rattle.proto_base.specs.Texts.{Text}
use Rattle.proto_serving.specs.Serving.{Ran, Turn, replies_text}
use Rattle.proto_serving.proofs.serving.serve.Given as goal

abbrev pub invariant-loop-turn : goal.invariant-loop-turn
invariant-loop-turn g l = (bytes : Text) → g.R.Read.remaining l.initial.reader ≡ Some bytes
    → (turns : List Turn) × (replies : List (List Text)) × (rest : Text) × Ran g.M.Machine.steps g.M.Machine.done l.cap bytes l.initial.machine l.machine turns replies rest
    × (g.R.Read.remaining l.reader ≡ Some rest) × Appends (g.W.Write.contents l.initial.writer) (g.W.Write.contents l.writer) (replies_text replies)
    × (length turns ≡ l._turn)
