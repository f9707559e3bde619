use Rattle.std.proofs.Common.{◌≡◌, ◌-◌, Some, None}
use Rattle.proto_base.specs.Texts.{Text}
use Rattle.proto_frames.specs.Frames.{header_at, lines_limit}
use Rattle.proto_frames.proofs.reading.read_header.Given as goal

abbrev pub invariant-loop-at : goal.invariant-loop-at
invariant-loop-at g l = (bytes : Text) → g.R.Read.remaining l.initial.reader ≡ Some bytes
    → (rest : Text) × (g.R.Read.remaining l.reader ≡ Some rest) × (header_at (lines_limit - l._at) l.len rest ≡ header_at lines_limit None bytes)
