use Rattle.std.proofs.Common.{◌≡◌, ◌∷◌, drop, if◌then◌else◌}
use Rattle.proto_case.specs.Cases.{are_apart}
use Rattle.proto_case.proofs.cases.are_apart.Given as goal

abbrev pub invariant-loop-byte : goal.invariant-loop-byte
invariant-loop-byte l = are_apart l.bytes ≡ are_apart (if l.is_behind then 95 ∷ drop l.byte-index l.bytes else drop l.byte-index l.bytes)
