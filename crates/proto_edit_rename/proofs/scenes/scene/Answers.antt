use Rattle.std.proofs.Common.{ap}
use Rattle.proto_tree.specs.File.{tree_of_file}
use Rattle.proto_ast.specs.Scenes.{Scene}
use Rattle.proto_edit_rename.proofs.OneScene.{is_read_as}
use Rattle.proto_edit_rename.proofs.scenes.scene.Goals as goal

pub returns : goal.returns
returns c = λ reads are.
    is_read_as c.args.files.now c.args.file c.requires c.new-words.result c.new-words.ensures.words (tree_of_file c.tree.result.now) c.tree.ensures reads are
    c.is_proto3-is_proto3.result c.is_proto3-is_proto3.ensures c.new-2.result (ap (λ (s : Scene). s.lexemes) c.new-2.ensures) (ap (λ (s : Scene). s.is_proto3) c.new-2.ensures)
