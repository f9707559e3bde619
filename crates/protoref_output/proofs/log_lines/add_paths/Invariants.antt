use Rattle.std.proofs.Common.{◌≡◌, ◌++◌, map, take, string_bytes}
use Rattle.proto_edit_entries.specs.Entries.{change_of}
use Rattle.protoref_output.proofs.LogSteps.{behind}
use Rattle.protoref_output.proofs.log_lines.add_paths.Given as goal

abbrev pub invariant-loop-change : goal.invariant-loop-change
invariant-loop-change l = string_bytes l.text ≡ string_bytes l.initial.text ++ behind (map change_of (take l.change-index l.rest))
