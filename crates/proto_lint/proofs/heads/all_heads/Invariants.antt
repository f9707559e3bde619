use Rattle.std.proofs.Common.{◌≡◌, List, length, take}
use Rattle.proto_files.specs.FilesRead.{ReadOf, AreRead}
use Rattle.proto_lint.specs.Heads.{heads}
use Rattle.proto_lint.proofs.heads.all_heads.Given as goal

abbrev pub invariant-loop-file : goal.invariant-loop-file
invariant-loop-file l = record {
  len : length l.all.items ≡ l.file;
  heads : (reads : List ReadOf) → AreRead l.files reads → l.all.items ≡ take l.file (heads l.files reads);
}
