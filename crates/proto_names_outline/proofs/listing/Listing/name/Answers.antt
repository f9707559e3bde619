use Rattle.proto_names_outline.proofs.Growing.{token_last}
use Rattle.proto_names_outline.specs.Listing.{path_at, read}
use Rattle.proto_names_outline.proofs.listing.Listing.name.Goals as goal

pub add-requires : goal.add-requires
add-requires c = record { within = c.requires; token = token_last (path_at (read c.args.self.now.declared.items) c.args.above) c.args.token }
