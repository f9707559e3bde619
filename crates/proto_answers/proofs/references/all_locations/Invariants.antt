use Rattle.std.proofs.Common.{◌≡◌, List, take}
use Rattle.proto_files.proofs.Common.{AreRead, ReadOf}
use Rattle.proto_answers.specs.Common.{all_tokens}
use Rattle.proto_answers.proofs.LocationLists.{Located}
use Rattle.proto_answers.proofs.references.all_locations.Given as goal

abbrev pub invariant-loop-occurrences : goal.invariant-loop-occurrences
invariant-loop-occurrences l = (reads : List ReadOf) → AreRead l.files reads → l.all.items ≡ Located l.encoding l.files reads l.left_out (all_tokens (take l.occurrences-index l.found))
