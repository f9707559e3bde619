use Rattle.std.proofs.Common.{◌≡◌, length}
use Rattle.proto_files.specs.FilesRead.{Each}
use Rattle.proto_resolved.specs.Scenes.{IsSceneOf}
use Rattle.proto_resolved.proofs.scenes.scenes.Given as goal

abbrev pub invariant-loop-file : goal.invariant-loop-file
invariant-loop-file l = record {
  len : length l.scenes.items ≡ l.file;
  each : Each (λ k s. IsSceneOf l.linked.files k s) l.scenes.items;
}
