use Rattle.std.proofs.Common.{false, Bool, List, [], get_or, sym, ◌∙◌, ap}
use Rattle.proto_base.proofs.Common.{get_or_default, get_or_past}
use Rattle.proto_names_faults.proofs.import_cycles.is_marked_at.Goals as goal

pub returns-in-Some : goal.returns-in-Some
returns-in-Some c =
    let look = c.in-Some.ensures.lookup in
    c.contains.ensures
    ∙ ap (λ (own : List Bool). get_or own c.args.file false) (look.1 ∙ get_or_default c.args.marks.now c.args.from c.in-Some.own.now [] look.3.0)

pub returns-in-None : goal.returns-in-None
returns-in-None c =
    let look = c.in-None.ensures.lookup in
    sym (ap (λ (own : List Bool). get_or own c.args.file false) (get_or_past c.args.marks.now c.args.from [] look.3))
