use Rattle.std.proofs.Common.{◌∙◌}
use Rattle.proto_tree.specs.File.{tree_of_file}
use Rattle.proto_resolved.proofs.ReadScenes.{proto3_is}
use Rattle.proto_resolved.proofs.enum_table.is_proto3_file.Goals as goal

pub returns : goal.returns
returns c = λ reads are. c.is_proto3.ensures ∙ proto3_is c.args.files.now c.args.file c.requires c.new.result c.new.ensures.words (tree_of_file c.tree.result.now) c.tree.ensures reads are
