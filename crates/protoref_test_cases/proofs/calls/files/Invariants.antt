use Rattle.std.proofs.Common.{◌≡◌, map, take}
use Rattle.protoref_test_cases.specs.Rows.{row_file}
use Rattle.proto_files.specs.GivenFiles.{file_of}
use Rattle.protoref_test_cases.proofs.calls.files.Given as goal

abbrev pub invariant-loop-text : goal.invariant-loop-text
invariant-loop-text l = map file_of l.files.items ≡ map (λ t. row_file t.0.now t.1.now) (take l.text-index l.texts)
