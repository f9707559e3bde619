use Rattle.std.proofs.Common.{length, ◌∙◌, ap}
use Rattle.std.proofs.lemmas.Result.{IfOk-weaker}
use Rattle.proto_names_faults.proofs.FileFaults.{linked_by}
use Rattle.proto_names_faults.proofs.references.flaws_by_names.Goals as goal

pub flaws_of_uses-requires-clause-listings : goal.flaws_of_uses-requires-clause-listings
flaws_of_uses-requires-clause-listings c = c.requires.listings

pub flaws_of_uses-requires-clause-seen : goal.flaws_of_uses-requires-clause-seen
flaws_of_uses-requires-clause-seen c = ap length c.deref.ensures.value ∙ c.in_ok-seen.ensures.len

pub flaws_of_uses-requires-clause-rows : goal.flaws_of_uses-requires-clause-rows
flaws_of_uses-requires-clause-rows c = c.requires.rows

pub returns : goal.returns
returns c = IfOk-weaker c.flaws_of_uses.result _ _
    (λ ws h reads are rows.
    h reads are (linked_by c.args.files.now reads c.args.names.now.table c.in_ok-seen.seen.items c.deref.result.now c.args.names.now.rows.items c.deref.ensures.value (c.in_ok-seen.ensures.marks reads are) rows))
    c.flaws_of_uses.ensures
