use Rattle.std.proofs.Common.{◌≡◌, List, drop}
use Rattle.proto_files.proofs.Common.{AreRead, ReadOf}
use Rattle.proto_desc_extensions.specs.Common.{some_has_extend}
use Rattle.proto_desc_extensions.proofs.extends.some_has_extend.Given as goal

abbrev pub invariant-loop-file : goal.invariant-loop-file
invariant-loop-file l = (reads : List ReadOf) → AreRead l.files reads → some_has_extend reads ≡ some_has_extend (drop l.file reads)
