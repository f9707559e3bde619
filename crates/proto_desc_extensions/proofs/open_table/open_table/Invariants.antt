use Rattle.std.proofs.Common.{◌≡◌, List, length, Some}
use Rattle.proto_files.proofs.Common.{AreRead, Each, ReadOf, read_at}
use Rattle.proto_ast.proofs.Common.{blocks_in, past}
use Rattle.proto_resolved.specs.SceneOf.{scene_of}
use Rattle.proto_desc_extensions.specs.Common.{AreRowsOf}
use Rattle.proto_desc_extensions.proofs.open_table.open_table.Given as goal

abbrev pub invariant-loop-file : goal.invariant-loop-file
invariant-loop-file l = record {
  len : length l.table.items ≡ l.file;
  each : (reads : List ReadOf) → AreRead l.files reads → Each (λ k rows. AreRowsOf (scene_of (Some past) l.files reads k) (blocks_in (read_at reads k).tree) rows) l.table.items;
}
