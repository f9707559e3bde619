use Rattle.std.proofs.Common.{rules}
use Rattle.proto_names_imports.proofs.first_places.place_of.Goals as goal

pub returns : goal.returns
returns c = search rules
