use Rattle.std.proofs.Common.{◌≡◌, drop, false}
use Rattle.proto_case.specs.Camel.{camel_from}
use Rattle.proto_case.specs.Digest.{digest_from}
use Rattle.proto_case.proofs.digest.camel_digest.Given as goal

abbrev pub invariant-loop-byte : goal.invariant-loop-byte
invariant-loop-byte l = digest_from l.digest (camel_from l.up (drop l.byte-index l.bytes)) ≡ digest_from 0 (camel_from false l.bytes)
