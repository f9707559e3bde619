use Rattle.std.proofs.Common.{sym}
use Rattle.proto_ast.proofs.SortedNames.{found_is_one, missed_is_none}
use Rattle.proto_ast.proofs.value_names.is_among.Goals as goal

pub returns-in-Ok : goal.returns-in-Ok
returns-in-Ok c =
    let facts = c.binary_search.ensures in
    sym (found_is_one (λ s. s.now) c.args.name.now c.args.sorted.now c.in-Ok.field-0 (rw c.in-Ok.is at facts.bound) (rw c.in-Ok.is at facts.position))

pub returns-in-Err : goal.returns-in-Err
returns-in-Err c =
    let facts = c.binary_search.ensures in
    sym (missed_is_none (λ s. s.now) c.args.name.now c.args.sorted.now c.in-Err.field-0 c.requires (rw c.in-Err.is at facts.position))
