use Rattle.std.proofs.Common.{◌≡◌, List, map, take}
use Rattle.proto_files.proofs.Common.{AreRead, ReadOf, file_at}
use Rattle.protoref_output.specs.Locations.{location_of, reference_location}
use Rattle.protoref_output.specs.Places.{IsCursorIn}
use Rattle.protoref_output.proofs.locations.locations_of_references.Given as goal

abbrev pub invariant-loop-reference : goal.invariant-loop-reference
invariant-loop-reference l = record {
  located : (reads : List ReadOf) → AreRead l.files reads → map location_of l.found.items ≡ map (reference_location l.files reads) (take l.reference-index l.references);
  there : IsCursorIn (file_at l.files l.spot.file).bytes l.spot.cursor;
}
