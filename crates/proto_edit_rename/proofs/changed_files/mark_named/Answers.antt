use Rattle.std.proofs.Common.{ap, ◌∙◌, length}
use Rattle.proto_edit_rename.proofs.ChangedMarks.{named_there, next_stays, references_as_many}
use Rattle.proto_edit_rename.proofs.changed_files.mark_named.Goals as goal

pub returns-in-Some-clause-as_many : goal.returns-in-Some-clause-as_many
returns-in-Some-clause-as_many c = ap length c.mark_references.ensures ∙ references_as_many c.args.changed.now c.references.result.now

pub returns-in-Some-clause-kept : goal.returns-in-Some-clause-kept
returns-in-Some-clause-kept c = next_stays c.args.changed.now _ c.references.result.now c.mark_references.ensures

pub returns-in-Some-clause-users : goal.returns-in-Some-clause-users
returns-in-Some-clause-users c = λ row said.
    named_there c.args.link.now c.args.changed.now _ c.references.result.now c.in-Some.id.row row (c.in-Some.ensures.once c.in-Some.id.row row c.args.name.now c.in-Some.ensures.some said) c.references.ensures.exact c.mark_references.ensures

pub returns-in-None-clause-users : goal.returns-in-None-clause-users
returns-in-None-clause-users c = λ row said. absurd (c.in-None.ensures.none row said)
