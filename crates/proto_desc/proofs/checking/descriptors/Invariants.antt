use Rattle.std.proofs.Common.{◌≡◌, List, length, None}
use Rattle.proto_files.proofs.Common.{file_at, Each, ReadOf, AreRead, read_at}
use Rattle.proto_desc_build.specs.Described.{file_described}
use Rattle.proto_resolved.specs.SceneOf.{scene_of}
use Rattle.proto_descriptors.specs.Views.{file_desc}
use Rattle.proto_desc.proofs.checking.descriptors.Given as goal

abbrev pub invariant-loop-file : goal.invariant-loop-file
invariant-loop-file l = record {
  len : length l.descriptors.items ≡ l.file;
  each : (reads : List ReadOf) → AreRead l.linked.files reads → Each (λ k d. file_desc d ≡ file_described (scene_of None l.linked.files reads k) (file_at l.linked.files k).path (read_at reads k).tree) l.descriptors.items;
}
