use Rattle.std.proofs.Common.{◌≡◌, length, take}
use Rattle.proto_lint.specs.ImportTables.{MarksMeant}
use Rattle.proto_lint.proofs.uses.meant_files.Given as goal

abbrev pub invariant-loop-meant : goal.invariant-loop-meant
invariant-loop-meant l = record {
  len : length l.used ≡ l.fn.count;
  meant : MarksMeant l.link (take l.meant-index l.meant-items) l.fn.count l.used;
}
