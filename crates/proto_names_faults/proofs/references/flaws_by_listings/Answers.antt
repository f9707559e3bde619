use Rattle.std.proofs.lemmas.Result.{IfOk-weaker}
use Rattle.proto_names_faults.proofs.references.flaws_by_listings.Goals as goal

pub names_of_files-requires : goal.names_of_files-requires
names_of_files-requires c = c.requires

pub flaws_by_names-requires-clause-listings : goal.flaws_by_names-requires-clause-listings
flaws_by_names-requires-clause-listings c = c.requires

pub flaws_by_names-requires-clause-rows : goal.flaws_by_names-requires-clause-rows
flaws_by_names-requires-clause-rows c = c.in_ok-names.ensures.rows

pub returns : goal.returns
returns c = IfOk-weaker c.flaws_by_names.result _ _ (λ ws h reads are. h reads are (c.in_ok-names.ensures.names reads are)) c.flaws_by_names.ensures
