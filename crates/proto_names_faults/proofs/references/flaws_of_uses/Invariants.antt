use Rattle.std.proofs.Common.{List}
use Rattle.proto_files.specs.FilesRead.{AreRead, ReadOf}
use Rattle.proto_names.specs.FileReferences.{AreLinked}
use Rattle.proto_names_faults.specs.Common.{AreFlawsOf, IsFaultBefore}
use Rattle.proto_names_faults.proofs.references.flaws_of_uses.Given as goal

abbrev pub invariant-loop-file : goal.invariant-loop-file
invariant-loop-file l = (reads : List ReadOf) → AreRead l.files reads → AreLinked l.names.table l.seen l.names.rows.items l.files reads → AreFlawsOf (IsFaultBefore l.files reads l.file) l.found.items
