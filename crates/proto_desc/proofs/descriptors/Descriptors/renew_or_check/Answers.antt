use Rattle.proto_desc.proofs.descriptors.Descriptors.renew_or_check.Goals as goal

pub returns-in_ok-self-in-Err-NeedsRebuild-clause-descriptors : goal.returns-in_ok-self-in-Err-NeedsRebuild-clause-descriptors
returns-in_ok-self-in-Err-NeedsRebuild-clause-descriptors c = record {
  described = rw c.files.ensures.files at c.in_ok-self-in-Err-NeedsRebuild.ensures.descriptors;
  kept = rw c.files.ensures.files at c.in_ok-self-in-Err-NeedsRebuild.ensures.kept;
}
