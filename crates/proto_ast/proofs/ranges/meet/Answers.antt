use Rattle.std.proofs.Common.{rules}
use Rattle.proto_ast.proofs.ranges.meet.Goals as goal

pub returns-then-a-b : goal.returns-then-a-b
returns-then-a-b c = search rules

pub returns-else-a-b : goal.returns-else-a-b
returns-else-a-b c = search rules
