use Rattle.std.proofs.Common.{◌≡◌, take, min}
use Rattle.proto_ast.specs.Numbers.{past}
use Rattle.proto_text.specs.Strings.{number_in}
use Rattle.proto_ast.proofs.numbers.number_in.Given as goal

abbrev pub invariant-loop-digit : goal.invariant-loop-digit
invariant-loop-digit l = l.number ≡ min past (number_in l.base 0 (take l.digit-index l.digits))
