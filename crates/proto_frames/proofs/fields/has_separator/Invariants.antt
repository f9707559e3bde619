use Rattle.std.proofs.Common.{◌≡◌, false, drop}
use Rattle.proto_frames.specs.Frames.{has_separator}
use Rattle.proto_frames.proofs.fields.has_separator.Given as goal

abbrev pub invariant-loop-byte : goal.invariant-loop-byte
invariant-loop-byte l = has_separator l.follows_colon (drop l.byte-index l.text) ≡ has_separator false l.text
