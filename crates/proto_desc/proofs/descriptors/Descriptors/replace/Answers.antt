use Rattle.proto_desc.proofs.Renewed.{was_made}
use Rattle.proto_desc.proofs.descriptors.Descriptors.replace.Goals as goal

pub renew_or_check-requires-clause-were : goal.renew_or_check-requires-clause-were
renew_or_check-requires-clause-were c =
    rw c.new-clean.ensures.files (was_made c.args.files.now c.args.places.now c.args.self.now c.requires.were)
