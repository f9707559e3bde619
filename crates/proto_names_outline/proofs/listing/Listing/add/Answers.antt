use Rattle.std.proofs.Common.{refl, arith}
use Rattle.proto_names_outline.proofs.Growing.{adds_entry}
use Rattle.proto_names_outline.proofs.listing.Listing.add.Goals as goal

pub returns-clause-adds : goal.returns-clause-adds
returns-clause-adds c = adds_entry c.args.entry c.in_ok-push.ensures.items refl (omega arith) c.requires.token
