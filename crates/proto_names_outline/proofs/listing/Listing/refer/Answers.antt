use Rattle.std.proofs.Common.{refl, arith}
use Rattle.proto_names_outline.proofs.Growing.{adds_use}
use Rattle.proto_names_outline.proofs.listing.Listing.refer.Goals as goal

pub returns : goal.returns
returns c = adds_use (record { scope = c.args.scope; wants = c.args.wants; reference = c.args.reference }) refl c.in_ok-push.ensures.items (omega arith)
