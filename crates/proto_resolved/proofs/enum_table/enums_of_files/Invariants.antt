use Rattle.std.proofs.Common.{take}
use Rattle.proto_resolved.specs.Common.{IsEnumTableOfListed}
use Rattle.proto_resolved.proofs.enum_table.enums_of_files.Given as goal

abbrev pub invariant-loop-file : goal.invariant-loop-file
invariant-loop-file l = IsEnumTableOfListed l.files (take l.file-index l.listed) (record { files = l.table })
