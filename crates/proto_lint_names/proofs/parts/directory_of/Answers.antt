use Rattle.std.proofs.Common.{arith, rules}
use Rattle.proto_lint_names.proofs.LastSplit.{split_once}
use Rattle.proto_lint_names.proofs.parts.directory_of.Goals as goal

pub returns-in-Some : goal.returns-in-Some
returns-in-Some c =
    let split = split_once 47 c.args.path.now _ c.rsplit_once.ensures.cases (omega arith) in
    rw (← split) (grind rules)

pub returns-in-None : goal.returns-in-None
returns-in-None c =
    let split = split_once 47 c.args.path.now _ c.rsplit_once.ensures.cases (omega arith) in
    rw (← split) (grind rules)
