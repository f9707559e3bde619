use Rattle.proto_tree.specs.File.{trees, item_tree}
use Rattle.proto_tree.proofs.Faults.{one_tree, stuck_place, stuck_no_tree}
use Rattle.proto_tree.proofs.files.file.Goals as goal

pub returns-in-Ok-clause-only : goal.returns-in-Ok-clause-only
returns-in-Ok-clause-only c = λ t h. one_tree t (trees item_tree c.in-Ok.items.items) c.args.tokens.now h c.in-Ok.ensures

pub returns-in-Err-Syntax-clause-fault : goal.returns-in-Err-Syntax-clause-fault
returns-in-Err-Syntax-clause-fault c =
    let stuck = rw c.in-Err-Syntax.field-0-is at c.in-Err-Syntax.ensures in
    (c.in_default.ensures, stuck_no_tree c.args.tokens.now c.in-Err-Syntax.left stuck, stuck_place c.args.tokens.now c.in-Err-Syntax.left stuck)
