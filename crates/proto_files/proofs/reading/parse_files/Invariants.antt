use Rattle.std.proofs.Common.{◌≡◌, All}
use Rattle.proto_files.specs.Common.{IsReadFile, lexed_files, read_files}
use Rattle.proto_files.proofs.reading.parse_files.Given as goal

abbrev pub invariant-loop-file : goal.invariant-loop-file
invariant-loop-file l = (read_files l.read.items ≡ lexed_files l.yielded) × All IsReadFile l.read.items
