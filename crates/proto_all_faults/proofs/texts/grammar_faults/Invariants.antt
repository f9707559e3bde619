use Rattle.std.proofs.Common.{map, take}
use Rattle.proto_files.specs.Faults.{fault_at}
use Rattle.proto_files.specs.GivenFiles.{files_of_as}
use Rattle.proto_files.specs.ReadFaults.{GrammarFaults}
use Rattle.proto_all_faults.specs.Steps.{AreFound}
use Rattle.proto_all_faults.proofs.texts.grammar_faults.Given as goal

abbrev pub invariant-loop-file : goal.invariant-loop-file
invariant-loop-file l = AreFound (GrammarFaults (files_of_as l.profile (take l.file-index l.given))) (map fault_at l.found.items)
