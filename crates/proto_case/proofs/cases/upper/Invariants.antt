use Rattle.std.proofs.Common.{◌≡◌, ◌++◌, string_bytes}
use Rattle.std.specs.Str.Iter.{chars_rest}
use Rattle.proto_case.specs.Cases.{upper, upper_behind}
use Rattle.proto_case.proofs.cases.upper.Given as goal

abbrev pub invariant-loop-c : goal.invariant-loop-c
invariant-loop-c l = string_bytes l.words ++ upper_behind l.before (chars_rest l.chars) ≡ upper l.name
