use Rattle.std.proofs.Common.{take}
use Rattle.proto_desc.specs.Renewing.{AreMade}
use Rattle.proto_desc.proofs.renewing.check_affected.Given as goal

abbrev pub invariant-loop-file : goal.invariant-loop-file
invariant-loop-file l = AreMade l.linked.files (take l.file-index l.affected) l.all.items
