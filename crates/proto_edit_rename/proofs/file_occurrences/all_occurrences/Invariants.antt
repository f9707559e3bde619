use Rattle.proto_edit_rename.specs.Occurrences.{AreOccurrencesOf}
use Rattle.proto_edit_rename.proofs.file_occurrences.all_occurrences.Given as goal

abbrev pub invariant-loop-file : goal.invariant-loop-file
invariant-loop-file l = AreOccurrencesOf l.scope.files l.scope.target l.file l.all.items
