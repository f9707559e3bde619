use Rattle.std.proofs.Common.{◌≡◌, map, take, string_bytes}
use Rattle.proto_journal.proofs.Gathered.{names_of}
use Rattle.proto_journal.proofs.gathering.empty_files.Given as goal

abbrev pub invariant-loop-path : goal.invariant-loop-path
invariant-loop-path l = names_of l.files.items ≡ map string_bytes (take l.path-index l.paths)
