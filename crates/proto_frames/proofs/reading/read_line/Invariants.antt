use Rattle.std.proofs.Common.{◌≡◌, ◌-◌, Some}
use Rattle.proto_base.specs.Texts.{Text}
use Rattle.proto_frames.specs.Frames.{line_at, line_limit, with_prefix}
use Rattle.proto_frames.proofs.reading.read_line.Given as goal

abbrev pub invariant-loop-at : goal.invariant-loop-at
invariant-loop-at g l = (bytes : Text) → g.R.Read.remaining l.initial.reader ≡ Some bytes
    → (rest : Text) × (g.R.Read.remaining l.reader ≡ Some rest) × (with_prefix l.line.items (line_at (line_limit - l._at) rest) ≡ line_at line_limit bytes)
