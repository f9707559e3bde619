use Rattle.std.proofs.Common.{map, take}
use Rattle.protoref_test_cases.specs.RowsHold.{UndosLead, undo_of}
use Rattle.protoref_test_cases.proofs.edited.expect_undos.Given as goal

abbrev pub invariant-loop-undo : goal.invariant-loop-undo
invariant-loop-undo l = UndosLead l.entries l.initial.workspace (map undo_of (take l.undo-index l.undos)) l.workspace
