use Rattle.std.proofs.Common.{◌≡◌, All, take}
use Rattle.proto_files.specs.Common.{IsReadFile, read_files}
use Rattle.proto_files.proofs.copying.copy_files.Given as goal

abbrev pub invariant-loop-file : goal.invariant-loop-file
invariant-loop-file l = (read_files l.copies.items ≡ read_files (take l.file-index l.files)) × All IsReadFile l.copies.items
