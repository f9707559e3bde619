use Rattle.std.proofs.Common.{◌≡◌, ◌++◌, map, drop}
use Rattle.proto_names_outline.specs.Listing.{wanted_of}
use Rattle.proto_desc_build.specs.Described.{weak_places}
use Rattle.proto_desc.proofs.head.weak_dependencies.Given as goal

abbrev pub invariant-loop-place : goal.invariant-loop-place
invariant-loop-place l = l.places.items ++ weak_places l.place (map wanted_of (drop l.place l.imports)) ≡ weak_places 0 (map wanted_of l.imports)
