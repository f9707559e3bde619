use Rattle.std.proofs.Common.{◌≡◌, ◌<◌, ◌^◌, drop}
use Rattle.proto_frames.specs.Frames.{number_from}
use Rattle.proto_frames.proofs.fields.number.Given as goal

abbrev pub invariant-loop-digit : goal.invariant-loop-digit
invariant-loop-digit l = record {
  rest : number_from l.value (drop l.digit-index l.digits) ≡ number_from 0 l.digits;
  small : l.value < 10 ^ l.digit-index;
}
