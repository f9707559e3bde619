use Rattle.std.proofs.Common.{◌≡◌, ◌-◌, ◌≤◌, ◌++◌, Some, vec_len}
use Rattle.proto_base.specs.Texts.{Text}
use Rattle.proto_frames.proofs.reading.read_content.Given as goal

abbrev pub invariant-loop-buffer : goal.invariant-loop-buffer
invariant-loop-buffer g l = record {
  within : vec_len l.content ≤ l.len;
  so_far : (bytes : Text) → g.R.Read.remaining l.initial.reader ≡ Some bytes
      → (rest : Text) × (g.R.Read.remaining l.reader ≡ Some rest) × (bytes ≡ l.content.items ++ rest);
}

abbrev pub decreases-loop-buffer : goal.decreases-loop-buffer
decreases-loop-buffer g l = l.len - vec_len l.content
