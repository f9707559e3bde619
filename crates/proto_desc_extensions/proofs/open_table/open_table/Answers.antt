use Rattle.std.proofs.Common.{◌<◌, [], ◌∷◌, length, length-append, Some, sym, ap, subst, arith}
use Rattle.proto_tree.specs.File.{tree_of_file}
use Rattle.proto_files.proofs.Common.{each_pushed, read_at}
use Rattle.proto_ast.proofs.Common.{blocks_in, past}
use Rattle.proto_resolved.specs.SceneOf.{scene_of}
use Rattle.proto_resolved.specs.Scenes.{IsSceneOf}
use Rattle.proto_desc_extensions.specs.Common.{AreRowsOf}
use Rattle.proto_desc_extensions.proofs.OpenRows.{is_open_table, rows_read}
use Rattle.proto_desc_extensions.proofs.open_table.open_table.Goals as goal

pub loop-file-preserved : goal.loop-file-preserved
loop-file-preserved c =
    let files = c.args.files.now in
    let file = c.loop-file.file in
    let l : file < length files = omega (arith, c.loop-file-test.true, c.len-file-end.ensures.len) in
    let scene = c.index-scenes-file.result in
    let tree = tree_of_file c.tree.result.now in
    let is = subst (IsSceneOf files file) (sym c.index-scenes-file.is) (c.requires.each file scene (omega (arith, l, c.requires.len))) in
    let rows = c.in_ok-rows_of.field-0 in
    record {
      len = omega (arith, ap length c.in_ok-push.ensures.items, length-append c.loop-file.table.items (rows ∷ []), c.loop-file.invariant.len);
      each = λ reads are.
          each_pushed (λ k m. AreRowsOf (scene_of (Some past) files reads k) (blocks_in (read_at reads k).tree) m) c.loop-file.table.items c.push.new.self.items rows file c.in_ok-push.ensures.items c.loop-file.invariant.len (c.loop-file.invariant.each reads are)
          (rows_read files file l scene is tree c.tree.ensures reads are rows c.in_ok-rows_of.ensures);
    }

pub returns : goal.returns
returns c = is_open_table c.args.files.now c.loop-file.table.items (omega (arith, c.loop-file.invariant.len, c.loop-file-test.false, c.len-file-end.ensures.len, c.loop-file.auto.file-end)) c.loop-file.invariant.each
