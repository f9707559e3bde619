use Rattle.std.proofs.Common.{◌≡◌, ◌++◌, IsUtf8, false, length, string_bytes}
use Rattle.proto_case.specs.Camel.{camel_from}
use Rattle.proto_case.proofs.camel_case.camel_from.Given as goal

abbrev pub invariant-loop-before : goal.invariant-loop-before
invariant-loop-before l = record {
  made : string_bytes l.name ++ camel_from false l.rest ≡ camel_from l.is_up l.word;
  utf8 : IsUtf8 l.rest;
}

abbrev pub decreases-loop-before : goal.decreases-loop-before
decreases-loop-before l = length l.rest
