use Rattle.std.proofs.Common.{◌≡◌, List, length, Some}
use Rattle.proto_files.specs.FilesRead.{AreRead, Each, ReadOf}
use Rattle.proto_ast.specs.Numbers.{past}
use Rattle.proto_desc_extensions.specs.Common.{AreRowsOfFiles, workspace_flaws}
use Rattle.proto_desc_extensions.proofs.options.with_options.Given as goal

abbrev pub invariant-loop-file : goal.invariant-loop-file
invariant-loop-file l = record {
  rows : AreRowsOfFiles l.linked.files l.rows;
  len : length l.found.items ≡ l.file;
  each : (reads : List ReadOf) → AreRead l.linked.files reads → Each (λ k flaws. flaws.items ≡ workspace_flaws (Some past) l.linked.files reads k) l.found.items;
}
