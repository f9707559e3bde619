use Rattle.std.proofs.Common.{length, [], ◌∷◌, length-append, ap, arith}
use Rattle.proto_files.proofs.FilesAreRead.{each_pushed}
use Rattle.proto_resolved.specs.Scenes.{IsSceneOf}
use Rattle.proto_resolved.proofs.MeantEnums.{all_meant}
use Rattle.proto_resolved.proofs.scenes.scenes.Goals as goal

pub scene-requires-clause-table : goal.scene-requires-clause-table
scene-requires-clause-table c = all_meant c.args.linked.now.files c.args.linked.now.link c.loop-file.file c.args.table.now c.requires

pub loop-file-preserved : goal.loop-file-preserved
loop-file-preserved c = record {
  len = omega (arith, ap length c.in_ok-push.ensures.items, length-append c.loop-file.scenes.items (c.in_ok-scene.field-0 ∷ []), c.loop-file.invariant.len);
  each = each_pushed (IsSceneOf c.args.linked.now.files) c.loop-file.scenes.items c.push.new.self.items c.in_ok-scene.field-0 c.loop-file.file c.in_ok-push.ensures.items c.loop-file.invariant.len c.loop-file.invariant.each c.in_ok-scene.ensures;
}
