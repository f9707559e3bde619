use Rattle.std.proofs.Common.{rules}
use Rattle.proto_desc_numbers.proofs.numbers.is_within.Goals as goal

pub returns-then-least-number : goal.returns-then-least-number
returns-then-least-number c = search rules
