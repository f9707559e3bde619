use Rattle.std.proofs.Common.{◌≡◌, ◌++◌, List, map, take}
use Rattle.proto_files.proofs.Common.{AreRead, ReadOf}
use Rattle.proto_names_rules.specs.Grown.{at}
use Rattle.proto_positions.specs.Positions.{IsCursorIn}
use Rattle.proto_answers.proofs.LocationLists.{Located}
use Rattle.proto_answers.proofs.references.add_locations.Given as goal

abbrev pub invariant-loop-token : goal.invariant-loop-token
invariant-loop-token l = record {
  cursor : IsCursorIn l.encoding l.text l.cursor;
  made : (reads : List ReadOf) → AreRead l.files reads → l.all.items ≡ l.fn.all.items ++ Located l.encoding l.files reads l.left_out (map (at l.file) (take l.token-index l.token-items));
}
